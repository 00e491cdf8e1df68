-- Law: no state of a history has a returning leaf that finds a wanted bit clear. The bits of a leaf that is still to be given back are the record's own, and so they are set; so no step is refused by 9.
-- Assumes nothing.
use Rattle.std.specs.Prelude.{◌≡◌, true, ℕ, ◌+◌, ◌-◌, ◌%◌, ◌^◌, ◌<◌, ◌≤◌, eqb, length}
use Rattle.std.proofs.Math.Path.{refl, ap, subst}
use Rattle.std.proofs.Common.{sym, ◌∙◌, arith}
use Rattle.base.specs.laws.ChoiceLaws.{on_choose, by_eq}
use Rattle.base.specs.laws.TestLaws.{by_test}
use Rattle.base.specs.laws.Sum.{sum_by, sum_at}
use Rattle.word.specs.rules.Word.{bit, give_bits}
use Rattle.word.proofs.laws.Bits.{bit_lt}
use Rattle.word.proofs.laws.Leaf.{wanted_exactly, wanted_lt}
use Rattle.word.proofs.laws.Swap.{give_done}
use Rattle.tree.specs.rules.Tree.{leaf, left, level, size, units, holder, climb, Node}
use Rattle.tree.proofs.laws.Range.{holds_holder, right_in}
use Rattle.lock.specs.declared.Record.{Record}
use Rattle.lock.specs.declared.Settings.{Settings}
use Rattle.lock.specs.rules.Records.{Phase, returning, phase_of, given_piece, is_leaf, grip_of, word_at}
use Rattle.lock.specs.rules.Steps.{Moved, touched_in, touched, out_of_patience, moved, wanted}
use Rattle.lock.specs.rules.Table.{State, record_at}
use Rattle.lock.proofs.laws.MoveLaws.{touched_own}
use Rattle.lock.proofs.laws.Phases.{on_phase}
use Rattle.lock.proofs.laws.PatienceLaws.{own_touched_lem}
use Rattle.lock.proofs.laws.ReturnLaws.{bits_returned_lem, own_leaf, own_inner, own_notice, leaf_level}
use Rattle.lock.specs.laws.Rows.{claim_piece, return_inner, give_back, moved_in}
use Rattle.lock.proofs.laws.Rows.{moved_row, moved_impatient}
use Rattle.lock.proofs.claim.Fit.{fit_ready, ready_apart}
use Rattle.lock.proofs.claim.InnerWords.{nobody}
use Rattle.lock.proofs.claim.Invariant.{Invariant}
use Rattle.lock.proofs.claim.LeafWords.{in_window_lem}
use Rattle.lock.proofs.claim.Owned.{owns_unit, reaches_yes}
use Rattle.lock.proofs.claim.Parts.{record_in, parts_of, record_at_lem, records_count}
use Rattle.lock.proofs.claim.Returning.{grips, leaf_grip}

-- unit b of a leaf
leaf_of : (h n b : ℕ) → 1 ≤ h → Node h n → level n ≡ h → b < 64 → (leaf h (left h n + b) ≡ n) × (left h n + b < units h) × ((left h n + b) % 64 ≡ b)
unfolding size holder climb left
leaf_of h n b some v e l =
    let z : h - level n ≡ 0 = omega arith in
    let k : 4 ^ (h - level n) ≡ 1 = ap (λ (x : ℕ). 4 ^ x) z in
    let at = holds_holder h n v (left h n + b) (record { low = omega arith; high = omega arith }) in
    (ap (λ (x : ℕ). climb x (leaf h (left h n + b))) (sym z) ∙ ap (λ (x : ℕ). climb (h - x) (leaf h (left h n + b))) refl ∙ at, omega (arith, right_in h n v some), omega arith)

module _ (s : Settings) (st : State) (inv : Invariant s (parts_of st)) (c : ℕ) (client : c < length st.clients) (t : ℕ) where
  abbrev r : Record
  r = record_in (parts_of st) c

  abbrev found : Phase → ℕ
  found p = word_at st.words (touched_in s r p)

  -- all wanted bits of a leaf that is to be given back are set
  all_set : r.phase ≡ 10 → r.place ≡ 0 → level (given_piece r) ≡ s.levels → (give_bits (wanted s r (given_piece r)) (word_at st.words (given_piece r))).done ≡ true
  all_set e z l =
      let n = given_piece r in
      let w = word_at st.words n in
      let rs = (parts_of st).records in
      let last = (parts_of st).clock c in
      let rd = fit_ready s r last (inv.fit c) inv.settled (λ q. omega arith) in
      let node = (ready_apart s r last rd).node r.giving (omega (arith, rd.active.giving_begun, rd.active.exists)) in
      let owned = grips s rs r last last (omega arith) inv.settled rd (inv.fit c) w e z 3 (leaf_grip s rs r last last (omega arith) inv.settled rd (inv.fit c) w e l) in
      (give_done (wanted s r n) w (wanted_lt (left s.levels n) r.left r.right)).1
      (λ b small one.
      let u = left s.levels n + b in
      let at = leaf_of s.levels n b (omega (arith, inv.settled.levels_some)) node l small in
      let in_part = (wanted_exactly (left s.levels n) r.left r.right b small).0 one in
      let own : owns_unit s u r ≡ 1 = owned.units_before u at.0 ∙ in_window_lem r u _ in_part.0 in_part.1 ∙ reaches_yes 3 3 (omega arith) in
      let kept = subst (λ (x : ℕ). bit (u % 64) (word_at st.words x) ≡ sum_by (owns_unit s u) rs) at.0 (inv.bits u at.1) in
      omega (arith, own, ap (λ (i : ℕ). bit i w) at.2, kept, sum_at (owns_unit s u) rs c nobody (rw (records_count st.clients) client), bit_lt b w))

  -- so the work of every phase is accepted
  row_accepted : (moved_in s r (found (phase_of r.phase)) t (phase_of r.phase)).number ≡ 0
  unfolding moved_in claim_piece return_inner
  row_accepted =
      on_phase r.phase (λ p. (moved_in s r (found p) t p).number ≡ 0)
      (λ _. refl) (λ _. refl) (λ _. refl) (λ _. refl) (λ _. refl) (λ _. on_choose (λ (m : Moved). m.number ≡ 0) (is_leaf s _) _ _ (λ _. refl) (λ _. refl)) (λ _. refl) (λ _. refl) (λ _. refl) (λ _. refl)
      (λ e. given e) (λ _. refl)
    where
      given : r.phase ≡ 10 → (give_back s r (found returning)).number ≡ 0
      given e =
          by_eq r.place 0
          (λ z. subst (λ (y : ℕ). (give_back s r (word_at st.words y)).number ≡ 0) (sym (touched_own s r z))
          (by_test (is_leaf s (given_piece r))
          (λ l. ap (λ (m : Moved). m.number) (own_leaf s r _ z l ∙ bits_returned_lem s r _ _ refl (all_set e z (leaf_level s (given_piece r) l))))
          (λ l. ap (λ (m : Moved). m.number) (own_inner s r _ z l) ∙ on_choose (λ (m : Moved). m.number ≡ 0) (eqb (grip_of r r.giving) 3) _ _ (λ _. refl)
          (λ _. on_choose (λ (m : Moved). m.number ≡ 0) (eqb (grip_of r r.giving) 2) _ _ (λ _. refl) (λ _. refl)))))
          (λ d. ap (λ (m : Moved). m.number) (own_notice s r _ d))

  pub step_accepted : (moved s (record_at st c) (word_at st.words (touched s (record_at st c) t)) t).number ≡ 0
  step_accepted =
      subst (λ (x : Record). (moved s x (word_at st.words (touched s x t)) t).number ≡ 0) (record_at_lem st c)
      (by_test (out_of_patience s r t)
      (λ e. ap (λ (m : Moved). m.number) (moved_impatient s r _ t e))
      (λ e. ap (λ (m : Moved). m.number) (moved_row s r _ t e) ∙ ap (λ (n : ℕ). (moved_in s r (word_at st.words n) t (phase_of r.phase)).number) (own_touched_lem s r t e) ∙ row_accepted))
