-- Laws of the call: what it needs to know of a window's pieces, and its ways out. Assumes nothing.
use Rattle.std.specs.Prelude.{◌≡◌, true, false, ℕ, ◌<◌, eqb, get_or}
use Rattle.std.proofs.Math.Path.{sym, ap, subst}
use Rattle.std.proofs.Common.{◌∙◌, arith}
use mathlib.Core.List.{List, []}
use Rattle.std.proofs.Math.ListN.{length}
use Rattle.base.specs.rules.Choice.{choose}
use Rattle.tree.specs.rules.Tree.{Node}
use Rattle.cover.specs.rules.Answer.{window_outside}
use Rattle.lock.specs.rules.Records.{cover_of, pieces}
use Rattle.lock.specs.rules.Calls.{first_cause, levels_or_distance_outside, requested}
use Rattle.lock.specs.rules.StepCount.{alone_with, step_count, step_count_tests, step_count_answer}
use Rattle.lock.proofs.laws.CallLaws.{NoneTrue, cause_hit, cause_skip, none_true}
use Rattle.lock.specs.laws.PieceSteps.{cover_steps, pieces_steps}
use Rattle.lock.proofs.laws.Pieces.{count_two, piece_first, piece_second}
use Rattle.lock.proofs.laws.Ready.{ready}
use Rattle.lock.proofs.claim.StepsToHeld.{fresh_settled, fresh_readable, step_count_lem}

-- ---- the pieces of a window are nodes, and their steps are its step count

module _ (h m l r : ℕ) (inside : levels_or_distance_outside h m ≡ false) (window : window_outside h l r ≡ false) where
  abbrev cover : List ℕ
  cover = cover_of (alone_with h m) l r

  pub window_steps : Node h (get_or cover 0 0) × ((get_or cover 1 0 ≡ 0 → ⊥) → Node h (get_or cover 1 0)) × (pieces_steps h m (get_or cover 0 0) (get_or cover 1 0) ≡ step_count h m l r)
  unfolding requested pieces_steps pieces
  window_steps =
      let q = requested (alone_with h m) l r in
      let readable = fresh_readable h m l r inside window in
      let v = ready (alone_with h m) q readable.0 (fresh_settled h m l r inside window) readable.1 readable.2 in (
        subst (Node h) (piece_first q) (v.active.meets 0 (omega (arith, v.active.exists))).node,
        λ f. let b : 1 < length (pieces q) = omega (arith, count_two q f) in subst (Node h) (piece_second q b) (v.active.meets 1 b).node,
        ap (cover_steps h m) v.active.cover ∙ sym (step_count_lem h m l r inside window),
      )

-- ---- the ways out of the call

module _ (h m l r : ℕ) where
  -- the answer by its number
  answer_of : (n : ℕ) → first_cause (step_count_tests h m l r) ≡ n
      → step_count_answer h m l r ≡ choose (eqb n 0) (record { number = 0; steps = step_count h m l r }) (record { number = n; steps = 0 })
  unfolding step_count_answer
  answer_of n e = ap (λ (k : ℕ). choose (eqb k 0) (record { number = 0; steps = step_count h m l r }) (record { number = k; steps = 0 })) e

  pub counts_refused : levels_or_distance_outside h m ≡ true → record { number = 1; steps = 0 } ≡ step_count_answer h m l r
  unfolding step_count_tests choose
  counts_refused e = sym (answer_of 1 (cause_hit (levels_or_distance_outside h m) 1 _ e))

  module _ (e : levels_or_distance_outside h m ≡ false) where
    pub counts_outside : window_outside h l r ≡ true → record { number = 7; steps = 0 } ≡ step_count_answer h m l r
    unfolding step_count_tests choose
    counts_outside f = sym (answer_of 7 (cause_skip (levels_or_distance_outside h m) 1 _ e ∙ cause_hit (window_outside h l r) 7 [] f))

    pub counts_accepted : window_outside h l r ≡ false → (k : ℕ) → k ≡ step_count h m l r → record { number = 0; steps = k } ≡ step_count_answer h m l r
    unfolding step_count_tests NoneTrue choose
    counts_accepted f k q = ap (λ (x : ℕ). record { number = 0; steps = x }) q ∙ sym (answer_of 0 (none_true (step_count_tests h m l r) (e, (f, tt))))
