-- Laws of the step's match on the phase: what its arms meet. Assumes nothing.
use Rattle.std.specs.Prelude.{◌≡◌, refl, Bool, true, false, ℕ, ◌-◌, get_or}
use Rattle.std.proofs.Common.{sym, ◌∙◌}
use Rattle.std.proofs.Math.Path.{ap}
use Rattle.base.specs.rules.Choice.{choose}
use Rattle.base.specs.laws.ChoiceLaws.{choose_eq, choose_ne}
use Rattle.word.specs.rules.Word.{Swap, add_occ, take_bits}
use Rattle.tree.specs.rules.Lists.{notify_list}
use Rattle.lock.specs.declared.Record.{Record}
use Rattle.lock.specs.declared.Settings.{Settings}
use Rattle.lock.specs.rules.Records.{returning, phase_of, current_piece, given_piece, is_leaf}
use Rattle.lock.specs.rules.Steps.{touched_in, bits_claimed, occ_claimed, wanted}
use Rattle.lock.specs.laws.Rows.{moved_in, leaves, claim_piece}
use Rattle.lock.proofs.laws.Phases.{on_phase}

module _ (s : Settings) (r : Record) where
  -- a phase that touches nothing
  pub touched_none : (r.phase ≡ 1 → ⊥) → (r.phase ≡ 2 → ⊥) → (r.phase ≡ 3 → ⊥) → (r.phase ≡ 4 → ⊥) → (r.phase ≡ 5 → ⊥)
      → (r.phase ≡ 6 → ⊥) → (r.phase ≡ 8 → ⊥) → (r.phase ≡ 10 → ⊥) → touched_in s r (phase_of r.phase) ≡ 0
  unfolding touched_in
  touched_none d1 d2 d3 d4 d5 d6 d8 d10 =
      on_phase r.phase (λ p. touched_in s r p ≡ 0) (λ _. refl) (λ e. absurd (d1 e)) (λ e. absurd (d2 e)) (λ e. absurd (d3 e)) (λ e. absurd (d4 e))
      (λ e. absurd (d5 e)) (λ e. absurd (d6 e)) (λ _. refl) (λ e. absurd (d8 e)) (λ _. refl) (λ e. absurd (d10 e)) (λ _. refl)

  pub moved_none : (w t : ℕ) → (r.phase ≡ 1 → ⊥) → (r.phase ≡ 2 → ⊥) → (r.phase ≡ 3 → ⊥) → (r.phase ≡ 4 → ⊥) → (r.phase ≡ 5 → ⊥)
      → (r.phase ≡ 6 → ⊥) → (r.phase ≡ 7 → ⊥) → (r.phase ≡ 8 → ⊥) → (r.phase ≡ 10 → ⊥) → moved_in s r w t (phase_of r.phase) ≡ leaves w r
  unfolding moved_in
  moved_none w t d1 d2 d3 d4 d5 d6 d7 d8 d10 =
      on_phase r.phase (λ p. moved_in s r w t p ≡ leaves w r) (λ _. refl) (λ e. absurd (d1 e)) (λ e. absurd (d2 e)) (λ e. absurd (d3 e)) (λ e. absurd (d4 e))
      (λ e. absurd (d5 e)) (λ e. absurd (d6 e)) (λ e. absurd (d7 e)) (λ e. absurd (d8 e)) (λ _. refl) (λ e. absurd (d10 e)) (λ _. refl)

  -- 10 returning: the own word, or a notice
  pub touched_own : r.place ≡ 0 → touched_in s r returning ≡ given_piece r
  unfolding touched_in
  touched_own e = choose_eq r.place 0 _ _ e

  pub touched_notice : (r.place ≡ 0 → ⊥) → touched_in s r returning ≡ get_or (notify_list s.distance (given_piece r)) (r.place - 1) 0
  unfolding touched_in
  touched_notice d = choose_ne r.place 0 _ _ d

  -- 5 claim
  pub claim_leaf : (w t : ℕ) (x : Swap) → x ≡ take_bits (wanted s r (current_piece r)) w → is_leaf s (current_piece r) ≡ true
      → claim_piece s r w t ≡ leaves x.word (bits_claimed r x.done)
  unfolding claim_piece choose
  claim_leaf w t x e f =
      ap (λ (b : Bool). choose b (leaves (take_bits (wanted s r (current_piece r)) w).word (bits_claimed r (take_bits (wanted s r (current_piece r)) w).done)) (leaves (add_occ 1 w) (occ_claimed r t))) f
      ∙ ap (λ (y : Swap). leaves y.word (bits_claimed r y.done)) (sym e)

  pub claim_inner : (w t : ℕ) → is_leaf s (current_piece r) ≡ false → claim_piece s r w t ≡ leaves (add_occ 1 w) (occ_claimed r t)
  unfolding claim_piece choose
  claim_inner w t f =
      ap (λ (b : Bool). choose b (leaves (take_bits (wanted s r (current_piece r)) w).word (bits_claimed r (take_bits (wanted s r (current_piece r)) w).done)) (leaves (add_occ 1 w) (occ_claimed r t))) f
