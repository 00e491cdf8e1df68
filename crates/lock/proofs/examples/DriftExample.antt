-- The supposition of 2.3 can be met: HistoryExample.antt's history, in which client 1's clock is as fast as may be, a tick ahead of every 10,000, and client 0's as slow as may
-- be, has true moments, and both clients hold; and the longer one, after which both are idle, has them too. By computing, over every pair of its events. Assumes nothing.
use Rattle.std.specs.Prelude.{refl, Bool, true, false, List, [], ◌∷◌, ℕ, zero, suc, ◌*◌, ◌-◌, ◌≤◌, ◌<◌, T, eqb, leb, get_or}
use Rattle.std.proofs.Common.{sym, subst, arith, leb→le}
use Rattle.base.specs.rules.Choice.{choose}
use Rattle.base.specs.laws.ChoiceLaws.{choose_eq}
use Rattle.base.specs.laws.Every.{both, both_l, both_r}
use Rattle.lock.specs.rules.Table.{Call, request, step, release, cancel}
use Rattle.lock.specs.rules.History.{Event, events, At, StepAt, Steady, TrueMoments, Holds}
use Rattle.lock.proofs.examples.HistoryExample.{settings, fresh, holding, returned, events_holding, events_returned, computed, both_hold}

-- the moments of the calls; those of requests and releases do not matter
abbrev pub moments : List ℕ
moments =
    0 ∷ 0 ∷ 0 ∷ 0 ∷ 0 ∷ 0 ∷ 10000 ∷ 10000 ∷ 10000 ∷ 10000 ∷ 10000 ∷ 10000 ∷ 30002 ∷ 30002 ∷ 0
    ∷ 0 ∷ 30003 ∷ 30003 ∷ 0 ∷ 40000 ∷ 40000 ∷ 40000 ∷ []

abbrev pub moment : ℕ → ℕ
moment i = get_or moments i 0

-- ---- the supposition as a test of two calls, at the moments m and n; these are accepted steps, or nothing is asked

unfoldable steady_test : (t u m n : ℕ) → Bool
steady_test t u m n = both (leb (9999 * (n - m)) (10000 * (u - t))) (leb (10000 * (u - t)) (10001 * (n - m)))

unfoldable pair_test : (m n : ℕ) → Call → Call → Bool
pair_test m n (step c t) (step d u) = both (leb m n) (choose (eqb c d) (steady_test t u m n) true)
pair_test m n (step c t) (request d l r) = true
pair_test m n (step c t) (release d) = true
pair_test m n (step c t) (cancel d) = true
pair_test m n (request c l r) k = true
pair_test m n (release c) k = true
pair_test m n (cancel c) k = true

-- one call against all after it, and every call
unfoldable later_test : ℕ → Call → List Event → List ℕ → Bool
later_test m k [] ns = true
later_test m k (e ∷ es) [] = false
later_test m k (e ∷ es) (n ∷ ns) = both (pair_test m n k e.made) (later_test m k es ns)

unfoldable every_test : List Event → List ℕ → Bool
every_test [] ms = true
every_test (e ∷ es) [] = false
every_test (e ∷ es) (m ∷ ms) = both (later_test m e.made es ms) (every_test es ms)

-- ---- what a test that passes shows

abbrev moment_in : List ℕ → ℕ → ℕ
moment_in ms i = get_or ms i 0

later_shows : (P : (m n t u : ℕ) → Type 0) (c d m t : ℕ) → ((n u : ℕ) → T (pair_test m n (step c t) (step d u)) → P m n t u) → (es : List Event) (ms : List ℕ)
    → T (later_test m (step c t) es ms) → (j u : ℕ) → StepAt es j d u → P m (moment_in ms j) t u
unfolding At later_test
later_shows P c d m t f [] ms x j u a = absurd a
later_shows P c d m t f (e ∷ es) [] x j u a = absurd x
later_shows P c d m t f (e ∷ es) (n ∷ ns) x zero u a = f n u (subst (λ (k : Call). T (pair_test m n (step c t) k)) a.1 (both_l _ _ x))
later_shows P c d m t f (e ∷ es) (n ∷ ns) x (suc j) u a = later_shows P c d m t f es ns (both_r _ _ x) j u a

every_shows : (P : (m n t u : ℕ) → Type 0) (c d : ℕ) → ((m n t u : ℕ) → T (pair_test m n (step c t) (step d u)) → P m n t u) → (es : List Event) (ms : List ℕ)
    → T (every_test es ms) → (i j t u : ℕ) → i < j → StepAt es i c t → StepAt es j d u → P (moment_in ms i) (moment_in ms j) t u
unfolding At every_test
every_shows P c d f [] ms x i j t u b a z = absurd a
every_shows P c d f (e ∷ es) [] x i j t u b a z = absurd x
every_shows P c d f (e ∷ es) (m ∷ ms) x i zero t u b a z = absurd (omega arith)
every_shows P c d f (e ∷ es) (m ∷ ms) x zero (suc j) t u b a z =
    later_shows P c d m t (λ n u'. f m n t u') es ms (subst (λ (k : Call). T (later_test m k es ms)) a.1 (both_l _ _ x)) j u z
every_shows P c d f (e ∷ es) (m ∷ ms) x (suc i) (suc j) t u b a z = every_shows P c d f es ms (both_r _ _ x) i j t u (omega arith) a z

steady_shows : (c : ℕ) (m n t u : ℕ) → T (pair_test m n (step c t) (step c u)) → Steady t u m n
unfolding pair_test steady_test
steady_shows c m n t u x =
    let y : T (steady_test t u m n) = subst T (choose_eq c c (steady_test t u m n) true refl) (both_r (leb m n) _ x) in
    (leb→le _ _ (both_l _ _ y), leb→le _ _ (both_r _ _ y))

order_shows : (c d m n t u : ℕ) → T (pair_test m n (step c t) (step d u)) → m ≤ n
unfolding pair_test
order_shows c d m n t u x = leb→le m n (both_l _ _ x)

passes : T (every_test events_holding moments) × T (every_test events_returned moments)
unfolding every_test later_test pair_test steady_test both choose
passes = (tt, tt)

true_moments : (h : List Event) → T (every_test h moments) → TrueMoments h moment
true_moments h p = record {
  never_back = λ i j c d t u. every_shows (λ m n _ _. m ≤ n) c d (order_shows c d) h moments p i j t u;
  steady = λ i j c t u. every_shows (λ m n x y. Steady x y m n) c c (steady_shows c) h moments p i j t u;
}

pub both_hold_in_time : TrueMoments (events settings fresh holding) moment × Holds (events settings fresh holding) 0 0 256 × Holds (events settings fresh holding) 1 300 310
both_hold_in_time = (subst (λ h. TrueMoments h moment) (sym computed.1) (true_moments events_holding passes.0), both_hold.1, both_hold.2)

pub both_return_in_time : TrueMoments (events settings fresh returned) moment
both_return_in_time = subst (λ h. TrueMoments h moment) (sym computed.2) (true_moments events_returned passes.1)
