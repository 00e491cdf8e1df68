-- What the examples of histories say of a list of events: what was seen of a call, and that no accepted call of the list is of some kind. Assumes nothing.
use Rattle.std.specs.Prelude.{◌≡◌, Bool, true, false, not, List, [], ◌∷◌, ℕ, zero, suc, T, eqb, drop}
use Rattle.std.proofs.Common.{subst, inl, inr, T_not}
use Rattle.std.proofs.Math.Dec.{eqb_refl}
use Rattle.base.specs.laws.Every.{both, both_l, both_r}
use Rattle.lock.specs.rules.Table.{Call, request, step, release, cancel}
use Rattle.lock.specs.rules.History.{Event, Some, RequestOf, ReleaseOf, Accepted}

-- the call, its number and the phase after
abbrev pub seen : Call → ℕ → ℕ → Event
seen k n p = record { made = k; number = n; phase = p }

-- ---- no accepted call of the list passes a test

unfoldable pub is_request : ℕ → Call → Bool
is_request c (request d l r) = eqb d c
is_request c (step d t) = false
is_request c (release d) = false
is_request c (cancel d) = false

unfoldable pub is_release : ℕ → Call → Bool
is_release c (request d l r) = false
is_release c (step d t) = false
is_release c (release d) = eqb d c
is_release c (cancel d) = false

same : (m n : ℕ) → m ≡ n → T (eqb m n)
same m n e = subst (λ (k : ℕ). T (eqb m k)) e (eqb_refl m)

pub is_request_lem : (c : ℕ) (k : Call) → RequestOf c k → T (is_request c k)
unfolding RequestOf is_request
is_request_lem c (request d l r) e = same d c e
is_request_lem c (step d t) e = absurd e
is_request_lem c (release d) e = absurd e
is_request_lem c (cancel d) e = absurd e

pub is_release_lem : (c : ℕ) (k : Call) → ReleaseOf c k → T (is_release c k)
unfolding ReleaseOf is_release
is_release_lem c (request d l r) e = absurd e
is_release_lem c (step d t) e = absurd e
is_release_lem c (release d) e = same d c e
is_release_lem c (cancel d) e = absurd e

unfoldable pub none_of : (Call → Bool) → List Event → Bool
none_of f [] = true
none_of f (e ∷ es) = both (not (both (f e.made) (eqb e.number 0))) (none_of f es)

both_true : (a b : Bool) → T a → T b → T (both a b)
unfolding both
both_true true b s t = t
both_true false b s t = absurd s

pub none : (K : Call → Type 0) (f : Call → Bool) → ((k : Call) → K k → T (f k)) → (es : List Event) → T (none_of f es) → Some (Accepted K) es → ⊥
unfolding none_of Some
none K f g [] t x = x
none K f g (e ∷ es) t (inl x) =
    T_not (both (f e.made) (eqb e.number 0)) (both_l _ _ t) (both_true (f e.made) (eqb e.number 0) (g e.made x.1) (same e.number 0 x.0))
none K f g (e ∷ es) t (inr x) = none K f g es (both_r _ _ t) x

-- some event behind the first n
pub later : (P : Event → Type 0) (n : ℕ) (es : List Event) → Some P (drop n es) → Some P es
unfolding Some
later P zero es x = x
later P (suc n) [] x = x
later P (suc n) (e ∷ es) x = inr (later P n es x)
