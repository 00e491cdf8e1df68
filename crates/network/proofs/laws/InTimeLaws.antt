-- The moments of the calls that an act makes; and the law that every list in flight will be completed by the clock that its run reads. Assumes nothing.
use Rattle.std.specs.Prelude.{◌≡◌, refl, ℕ, zero, suc, length, get_or}
use Rattle.std.proofs.Common.{sym}
use Rattle.std.proofs.Math.Path.{subst}
use mathlib.Core.List.{List, [], ◌∷◌, ◌++◌, map}
use Rattle.base.specs.rules.Choice.{choose}
use Rattle.base.specs.laws.ChoiceLaws.{on_choose, by_lt}
use Rattle.base.specs.laws.Sum.{on_set}
use Rattle.lock.specs.declared.Client.{Client}
use Rattle.lock.specs.declared.Settings.{Settings}
use Rattle.lock.specs.rules.Records.{idle_client}
use Rattle.lock.specs.rules.Table.{Call, client_of}
use Rattle.runs.specs.rules.Ahead.{ahead_of}
use Rattle.network.specs.rules.Clocks.{claims, completing, ClocksRead}
use Rattle.network.specs.rules.Network.{Flight, free, flying, Run, Network, run_at, client_on, with_run, started, Act, own, post, carry, complete, same_list, asks, posts, between, carries, completes, act, calls_of}
use Rattle.network.proofs.laws.ReadOnce.{Moments}
use Rattle.network.proofs.laws.Shown.{set_past}

-- ---- the moments of the calls of an act

-- of a list: the clock is read before it, or after it if it claims
abbrev pub reading_of : Client → (before after : ℕ) → ℕ
reading_of c m n = choose (claims c.«record») n m

unfoldable pub moments_by : Network → (c at : ℕ) → Flight → Moments
moments_by net c at free = record { touch = at; reading = at }
moments_by net c at (flying u m n os found) = record { touch = at; reading = reading_of (client_on net c) m n }

unfoldable pub moments_of : Network → Act → Moments
moments_of net (own k at) = record { touch = at; reading = at }
moments_of net (post c room t u m n) = record { touch = 0; reading = 0 }
moments_of net (carry c at) = moments_by net c at (run_at net c).flight
moments_of net (complete c) = record { touch = 0; reading = 0 }

unfoldable pub moments_in : Settings → Network → List Act → List Moments
moments_in s net [] = []
moments_in s net (a ∷ later) = map (λ (k : Call). moments_of net a) (calls_of s net a) ++ moments_in s (act s net a) later

-- ---- a list in flight will be completed by the clock that its run reads

unfoldable pub ReadFlight : Settings → (ℕ → ℕ → ℕ) → (c : ℕ) → Client → Flight → Type 0
ReadFlight s clocks c x free = Unit
ReadFlight s clocks c x (flying u m n os found) = u ≡ completing s x.«record» (clocks c m) (clocks c n)

-- so it is with all runs
abbrev pub AllRead : Settings → (ℕ → ℕ → ℕ) → Network → Type 0
AllRead s clocks net = (d : ℕ) → ReadFlight s clocks d (client_on net d) (run_at net d).flight

starts_free : (cs : List Client) (d : ℕ) → (run_at (started (record { words = []; clients = cs })) d).flight ≡ free
unfolding run_at
starts_free [] d = refl
starts_free (c ∷ cs) zero = refl
starts_free (c ∷ cs) (suc d) = starts_free cs d

pub started_read : (s : Settings) (clocks : ℕ → ℕ → ℕ) (words : List ℕ) (cs : List Client) → AllRead s clocks (started (record { words = words; clients = cs }))
unfolding run_at ReadFlight
started_read s clocks words cs d =
    subst (λ (f : Flight). ReadFlight s clocks d (client_on (started (record { words = words; clients = cs })) d) f) (sym (starts_free cs d)) tt

module _ (s : Settings) (clocks : ℕ → ℕ → ℕ) (net : Network) where
  abbrev After : Network → Type 0
  After = AllRead s clocks

  module _ (all : AllRead s clocks net) where
    with_read : (words : List ℕ) (c : ℕ) (x : Client) (f : Flight) → ReadFlight s clocks c x f → After (with_run net words c x f)
    unfolding run_at
    with_read words c x f v d =
        let nobody : Run = record { client = idle_client; flight = free } in
        by_lt c (length net.runs)
        (λ below. on_set (λ (y : Run). ReadFlight s clocks d y.client y.flight) net.runs c d (record { client = x; flight = f }) nobody below
        (λ e. subst (λ (k : ℕ). ReadFlight s clocks k x f) (sym e) v) (λ _. all d))
        (λ past. subst (λ (l : List Run). ReadFlight s clocks d (get_or l d nobody).client (get_or l d nobody).flight) (sym (set_past net.runs c _ past)) (all d))

    own_read : (k : Call) (f : Flight) → After (asks s net k f)
    unfolding asks ReadFlight
    own_read k free = with_read net.words (client_of k) _ free tt
    own_read k (flying u m n os found) = all

    post_read : (c room t u m n : ℕ) (f : Flight) → u ≡ completing s (client_on net c).«record» (clocks c m) (clocks c n) → After (posts s net c room t u m n f)
    unfolding posts ReadFlight
    post_read c room t u m n free v = on_choose After (same_list (ahead_of s (client_on net c) t) (ahead_of s (client_on net c) u)) _ _ (λ _. with_read net.words c (client_on net c) (flying u m n _ []) v) (λ _. all)
    post_read c room t u m n (flying v p q os found) w = all

    carry_read : (c at : ℕ) (f : Flight) → ReadFlight s clocks c (client_on net c) f → After (carries s net c at f)
    unfolding carries ReadFlight
    carry_read c at free v = all
    carry_read c at (flying u m n [] found) v = all
    carry_read c at (flying u m n (o ∷ os) found) v = on_choose After (between m at n) _ _ (λ _. with_read _ c (client_on net c) (flying u m n os _) v) (λ _. all)

    complete_read : (c : ℕ) (f : Flight) → After (completes s net c f)
    unfolding completes ReadFlight
    complete_read c free = all
    complete_read c (flying u m n [] found) = with_read net.words c _ free tt
    complete_read c (flying u m n (o ∷ os) found) = all

    pub act_read : (a : Act) → ClocksRead s clocks net a → After (act s net a)
    unfolding act ClocksRead
    act_read (own k at) v = own_read k _
    act_read (post c room t u m n) v = post_read c room t u m n _ v.1
    act_read (carry c at) v = carry_read c at _ (all c)
    act_read (complete c) v = complete_read c _
