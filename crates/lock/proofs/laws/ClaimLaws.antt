-- Law: a step of a claim or a notice after which the piece is still claimed and not checked. It keeps t1, and it goes to the wait only from the root's claim, or from a last notice that is in time. Assumes nothing.
use Rattle.std.specs.Prelude.{◌≡◌, ◌⊎◌, ℕ, suc, ◌+◌, ◌≤◌, ◌<◌, eqb, ltb, length}
use Rattle.std.proofs.Math.Path.{refl, subst}
use Rattle.std.proofs.Common.{sym, ⊎_elim, arith}
use Rattle.std.proofs.Math.Logic.{inl, inr}
use Rattle.std.proofs.Math.Dec.{eqb→eq}
use Rattle.base.specs.laws.ChoiceLaws.{on_choose}
use Rattle.base.specs.laws.TestLaws.{test_false}
use Rattle.tree.specs.rules.Lists.{notify_list}
use Rattle.word.specs.rules.Word.{take_bits}
use Rattle.lock.specs.declared.Record.{Record}
use Rattle.lock.specs.declared.Settings.{Settings}
use Rattle.lock.specs.rules.Records.{Phase, current_piece, is_leaf, is_root, pieces, piece_at, to_phase, with_notices}
use Rattle.lock.specs.rules.Steps.{Moved, wanted, start_phase, begin, first_noted, taken, bits_claimed, occ_claimed, late, all_notified, notice_given, moved}
use Rattle.lock.proofs.laws.LateLaws.{not_late}
use Rattle.lock.proofs.laws.Phases.{at_claim, at_notify}
use Rattle.lock.specs.laws.Rows.{claim_piece, moved_in}
use Rattle.lock.proofs.laws.Rows.{on_moved}

module _ (s : Settings) (r : Record) (now : ℕ) where
  -- of the record q after the step
  abbrev pub ClaimOn : Record → Type 0
  ClaimOn q =
      6 ≤ q.phase → q.phase ≤ 7
      → (q.t1 ≡ r.t1) × (q.phase ≡ 7 → ((r.phase ≡ 5) × (current_piece r ≡ 1)) ⊎ ((r.phase ≡ 6) × (now < r.t1 + s.wait)))

  claimed_on : (w : ℕ) → r.phase ≡ 5 → ClaimOn (claim_piece s r w now).next
  unfolding claim_piece bits_claimed occ_claimed
  claimed_on w e =
      on_choose (λ (m : Moved). ClaimOn m.next) (is_leaf s (current_piece r)) _ _
      (λ _. on_choose ClaimOn (take_bits (wanted s r (current_piece r)) w).done _ _ (λ _ _ _. (refl, λ f. absurd (omega (arith, f)))) (λ _ a _. absurd (omega (arith, a))))
      (λ _ _ _. (
        refl,
        on_choose (λ (p : ℕ). p ≡ 7 → ((r.phase ≡ 5) × (current_piece r ≡ 1)) ⊎ ((r.phase ≡ 6) × (now < r.t1 + s.wait))) (is_root (current_piece r)) 7 6
            (λ t _. inl (e, eqb→eq (current_piece r) 1 t)) (λ _ f. absurd (omega (arith, f))),
      ))

  begun_off : (q : Record) (i : ℕ) → ClaimOn (begin s q i)
  unfolding begin start_phase
  begun_off q i = on_choose (λ (p : ℕ). 6 ≤ p → p ≤ 7 → (0 ≡ r.t1) × (p ≡ 7 → ((r.phase ≡ 5) × (current_piece r ≡ 1)) ⊎ ((r.phase ≡ 6) × (now < r.t1 + s.wait)))) (is_leaf s (piece_at q i)) 3 1
      (λ _ a _. absurd (omega (arith, a))) (λ _ a _. absurd (omega (arith, a)))

  notified_on : r.phase ≡ 6 → ClaimOn (notice_given s r now)
  unfolding notice_given all_notified taken first_noted
  notified_on e =
      let p = with_notices (suc r.place) r in
      on_choose ClaimOn (ltb (suc r.place) (length (notify_list s.distance (current_piece r)))) _ _ (λ _ _ _. (refl, λ f. absurd (omega (arith, f, e))))
      (λ _. on_choose ClaimOn (late s p now) _ _ (λ _ _ b. absurd (omega (arith, b)))
      (λ t. on_choose ClaimOn (is_leaf s (current_piece p)) _ _
      (λ _. on_choose ClaimOn (ltb (suc p.current) (length (pieces p))) _ _ (λ _. begun_off _ (suc p.current)) (λ _. on_choose (λ (q : Record). ClaimOn (to_phase 9 q)) (eqb p.current 0) _ _ (λ _ _ b. absurd (omega (arith, b))) (λ _ _ b. absurd (omega (arith, b)))))
      (λ _ _ _. (refl, λ _. inr (e, omega (arith, not_late s p now (test_false (late s p now) t)))))))

  pub claim_on : (w : ℕ) → (r.phase ≡ 5) ⊎ (r.phase ≡ 6) → ClaimOn (moved s r w now).next
  unfolding moved_in
  claim_on w o =
      on_moved s r w (λ (m : Moved). ClaimOn m.next) now (λ a b. absurd (omega (arith, a, b)))
      (⊎_elim (λ e. subst (λ (p : Phase). ClaimOn (moved_in s r w now p).next) (sym (at_claim r.phase e)) (claimed_on w e))
      (λ e. subst (λ (p : Phase). ClaimOn (moved_in s r w now p).next) (sym (at_notify r.phase e)) (notified_on e)) o)
