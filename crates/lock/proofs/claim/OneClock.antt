-- One clock for all: where the clocks of a history's accepted steps never go back, whoever makes them, they are true moments themselves. So single holding holds of every such
-- history, as document 01 has it, with nothing supposed of the clock's pace. Assumes nothing.
use Rattle.std.specs.Prelude.{◌≡◌, List, [], ◌∷◌, ℕ, zero, suc, ◌≤◌, ◌<◌}
use Rattle.std.proofs.Common.{ap, arith}
use Rattle.lock.specs.declared.Settings.{Settings}
use Rattle.lock.specs.rules.Table.{State, Call, request, step, release, cancel, opening}
use Rattle.lock.specs.rules.History.{Event, events, At, StepAt, TrueMoments, SingleHolding}
use Rattle.lock.proofs.claim.Demand3.{demand_3}

-- no accepted step has a clock before that of an accepted step before it, of whatever client
abbrev pub OneClock : List Event → Type 0
OneClock h = (i j c d t u : ℕ) → i < j → StepAt h i c t → StepAt h j d u → t ≤ u

-- the clock of the step at place i; 0 where no step is
unfoldable pub clock_of : Call → ℕ
clock_of (request c l r) = 0
clock_of (step c t) = t
clock_of (release c) = 0
clock_of (cancel c) = 0

unfoldable pub clock_in : List Event → ℕ → ℕ
clock_in [] i = 0
clock_in (e ∷ es) zero = clock_of e.made
clock_in (e ∷ es) (suc i) = clock_in es i

clock_in_lem : (h : List Event) (i c t : ℕ) → StepAt h i c t → clock_in h i ≡ t
unfolding At clock_in clock_of
clock_in_lem [] i c t a = absurd a
clock_in_lem (e ∷ es) zero c t a = ap clock_of a.1
clock_in_lem (e ∷ es) (suc i) c t a = clock_in_lem es i c t a

pub one_clock : (h : List Event) → OneClock h → TrueMoments h (clock_in h)
one_clock h v = record {
  never_back = λ i j c d t u b x y. omega (arith, clock_in_lem h i c t x, clock_in_lem h j d u y, v i j c d t u b x y);
  steady = λ i j c t u b x y.
      let e = clock_in_lem h i c t x in
      let f = clock_in_lem h j c u y in
      (omega (arith, e, f), omega (arith, e, f));
}

pub one_clock_holding : (s : Settings) (lent : State) → (opening s lent).number ≡ 0 → (ks : List Call) → OneClock (events s (opening s lent).state ks)
    → SingleHolding (events s (opening s lent).state ks)
one_clock_holding s lent e ks v = (demand_3 s lent e ks).0 (clock_in (events s (opening s lent).state ks)) (one_clock (events s (opening s lent).state ks) v)
