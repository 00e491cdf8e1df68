-- Laws: a record on its way to held has made all the steps that its pieces need where it is held, and fewer before. Assumes nothing.
use Rattle.std.specs.Prelude.{◌≡◌, ◌≢◌}
use Rattle.std.proofs.Common.{sym, ◌∙◌, inl, inr}
use Rattle.std.proofs.Math.Path.{ap}
use Prim.Native.Nat.{ℕ, suc, ◌+◌, ◌<◌}
use native.Mathlib.Omega.{arith}
use Rattle.std.proofs.Math.ListN.{length}
use Rattle.base.specs.laws.Sum.{sum_to, to_more, to_places}
use Rattle.lock.specs.declared.Record.{Record}
use Rattle.lock.specs.declared.Settings.{Settings}
use Rattle.lock.specs.rules.Records.{Phase, phase_of, pieces, piece_at}
use Rattle.lock.proofs.laws.Phases.{at_held, on_phase}
use Rattle.lock.specs.laws.PieceSteps.{piece_steps, cover_steps}
use Rattle.lock.proofs.laws.Progress.{made_in, steps_at, made, all_steps, Going, claim_is, either, made_at}
use Rattle.lock.proofs.laws.Ready.{Ready}

-- the steps of all pieces, as a sum over their list
pub all_cover : (s : Settings) (r : Record) → all_steps s r ≡ cover_steps s.levels s.distance (pieces r)
unfolding all_steps piece_at
all_cover s r = to_places (piece_steps s.levels s.distance) (pieces r) 0

pub all_same : (s : Settings) (r q : Record) → pieces q ≡ pieces r → all_steps s q ≡ all_steps s r
all_same s r q e = all_cover s q ∙ ap (cover_steps s.levels s.distance) e ∙ sym (all_cover s r)

module _ (s : Settings) (r : Record) (last : ℕ) (v : Ready s r last) where
  pub held_made : r.phase ≡ 9 → made s r ≡ all_steps s r
  unfolding all_steps sum_to made_in
  held_made e =
      let whole : length (pieces r) ≡ suc r.current = omega (arith, v.whole e, v.active.exists) in
      let all : sum_to (length (pieces r)) (steps_at s r) ≡ sum_to (suc r.current) (steps_at s r) = ap (λ (k : ℕ). sum_to k (steps_at s r)) whole in
      let now : made s r ≡ sum_to r.current (steps_at s r) + steps_at s r r.current = made_at s r _ (at_held r.phase e) in
      omega arith

  -- the current piece has made fewer steps than it needs
  behind : Going r → r.phase ≢ 9 → made_in s r (phase_of r.phase) < steps_at s r r.current
  unfolding made_in
  behind way d =
      on_phase r.phase (λ (p : Phase). made_in s r p < steps_at s r r.current)
      (λ e. absurd (omega (arith, way.some)))
      (λ e. either s r (λ a b _. omega arith) (λ a b. omega arith))
      (λ e. either s r (λ a b l. absurd (v.inner (inr (inl e)) l)) (λ a b. omega arith))
      (λ e. let c = v.active.climbing (inl e) in either s r (λ a b _. omega arith) (λ a b. omega arith))
      (λ e. absurd (way.unblocked e))
      (λ e. either s r (λ a b _. omega arith) (λ a b. omega arith))
      (λ e. let c = v.active.notifying e in either s r (λ a b _. omega arith) (λ a b. omega arith))
      (λ e. let c = claim_is s r in either s r (λ a b l. absurd (v.inner (inr (inr (inl e))) l)) (λ a b. omega arith))
      (λ e. let c = claim_is s r in let k = v.active.checking e in either s r (λ a b l. absurd (v.inner (inr (inr (inr e))) l)) (λ a b. omega arith))
      (λ e. absurd (d e))
      (λ e. absurd (omega (arith, way.most)))
      (λ b. absurd (omega (arith, way.most)))

  pub unheld_made : Going r → r.phase ≢ 9 → made s r < all_steps s r
  unfolding made all_steps sum_to
  unheld_made way d = omega (arith, behind way d, to_more (steps_at s r) (suc r.current) (length (pieces r)) v.active.exists)
