-- Laws: what an accepted call knows of its client's record, which is readable: grip, notices, pieces and place by phase. Assumes nothing.
use Rattle.std.specs.Prelude.{◌≡◌, ◌≢◌, ◌⊎◌, ◌&&◌, ◌||◌, ℕ, suc, ◌≤◌, ◌<◌, length}
use Rattle.std.proofs.Math.Path.{sym, ap}
use Rattle.std.proofs.Common.{ap₂, subst, ◌∙◌, arith}
use Rattle.std.proofs.Math.Logic.{inl, inr, ⊎_elim}
use Rattle.std.proofs.Math.Bool.{false, not}
use borrow.Author.Tests.{ltb-false, eqb-false, lt-ltb, eq-eqb, ne_eqb}
use Rattle.std.proofs.Math.Dec.{T, eqb, ltb}
use Rattle.base.specs.rules.Choice.{choose}
use Rattle.base.specs.laws.ChoiceLaws.{choose_eq, choose_ne, by_lt, by_eq}
use Rattle.base.specs.laws.TestLaws.{both_false, second_false, second_of}
use Rattle.tree.specs.rules.Tree.{level}
use Rattle.tree.specs.rules.Lists.{notify_list}
use Rattle.lock.specs.declared.Record.{Record}
use Rattle.lock.specs.declared.Settings.{Settings}
use Rattle.lock.specs.rules.Records.{Phase, phase_of, pieces, current_piece, is_leaf, grip_of}
use Rattle.lock.proofs.laws.Phases.{at_ticket, at_turn, at_climb, at_blocked, at_claim, at_notify, at_wait, at_check, at_returning}
use Rattle.lock.specs.rules.Unreadable.{nonzero, differ, number_too_large, notices_wrong, phase_elsewhere, held_early, outcome_wrong, lacks_grip, grip_lacking, giving_wrong, out_of_patience_first, taken_first, unreadable}
use Rattle.lock.specs.laws.Active.{Settled, NoEarlyTime, Active}
use Rattle.lock.proofs.laws.ReadableLaws.{same_number, grip_taken}
use Rattle.lock.proofs.laws.ActiveLaws.{Passed, passed, active}

pub record Ready (s : Settings) (r : Record) (last : ℕ) : Type 0 where
  pub active : Active s r last
  pub some : 1 ≤ r.phase
  pub grip_ticket : r.phase ≡ 1 → r.grip ≡ 0
  pub grip_turn : r.phase ≡ 2 → r.grip ≡ 1
  pub grip_leaf : 3 ≤ r.phase → r.phase ≤ 5 → level (current_piece r) ≡ s.levels → r.grip ≡ 0
  pub grip_inner : 3 ≤ r.phase → r.phase ≤ 5 → level (current_piece r) ≢ s.levels → r.grip ≡ 2
  pub claimed : 6 ≤ r.phase → r.phase ≤ 9 → r.grip ≡ 3
  pub grip_most : r.phase ≡ 10 → r.grip ≤ 3
  pub grip_leaf_returning : r.phase ≡ 10 → level (current_piece r) ≡ s.levels → (r.grip ≡ 0) ⊎ (r.grip ≡ 3)
  pub inner : (r.phase ≡ 1) ⊎ ((r.phase ≡ 2) ⊎ ((r.phase ≡ 7) ⊎ (r.phase ≡ 8))) → level (current_piece r) ≢ s.levels
  pub below : (r.phase ≡ 3) ⊎ ((r.phase ≡ 4) ⊎ (r.phase ≡ 6)) → current_piece r ≢ 1
  pub no_notices : r.grip < 3 → r.notices ≡ 0
  pub notices_place : r.phase ≡ 6 → r.notices ≡ r.place
  pub whole : r.phase ≡ 9 → length (pieces r) ≤ suc r.current
  pub outcome_most : r.outcome ≤ 4
  pub no_outcome : r.phase ≢ 10 → r.outcome ≡ 0
  pub outcome_some : r.phase ≡ 10 → r.outcome ≢ 0
  pub no_giving : r.phase ≢ 10 → r.giving ≡ 0
  pub giving_gripped : r.phase ≡ 10 → grip_of r r.giving ≢ 0
  pub later_piece : r.phase ≡ 10 → r.outcome ≡ 4 → r.current ≢ 0
  pub no_early_time : NoEarlyTime r

module _ (s : Settings) (r : Record) (last : ℕ) (k : Passed s r last) where
  lacks : (p : Phase) → phase_of r.phase ≡ p → grip_lacking s r p ≡ false
  lacks p e = ap (grip_lacking s r) (sym e) ∙ k.grip

  elsewhere : (p : Phase) → phase_of r.phase ≡ p → phase_elsewhere s r p ≡ false
  elsewhere p e = ap (phase_elsewhere s r) (sym e) ∙ k.phase

  not_leaf : is_leaf s (current_piece r) ≡ false → level (current_piece r) ≢ s.levels
  unfolding is_leaf
  not_leaf e = eqb-false (level (current_piece r)) s.levels e

  climbing_grip : r.grip ≡ choose (is_leaf s (current_piece r)) 0 2
      → ((level (current_piece r) ≡ s.levels → r.grip ≡ 0) × (level (current_piece r) ≢ s.levels → r.grip ≡ 2))
  unfolding is_leaf
  climbing_grip e = (λ f. e ∙ choose_eq (level (current_piece r)) s.levels 0 2 f, λ d. e ∙ choose_ne (level (current_piece r)) s.levels 0 2 d)

  climbing : 3 ≤ r.phase → r.phase ≤ 5 → ((level (current_piece r) ≡ s.levels → r.grip ≡ 0) × (level (current_piece r) ≢ s.levels → r.grip ≡ 2))
  unfolding lacks_grip
  climbing a b =
      by_eq r.phase 3 (λ e. climbing_grip (same_number r.grip _ (lacks _ (at_climb r.phase e)))) (λ d.
      by_eq r.phase 4 (λ e. climbing_grip (same_number r.grip _ (lacks _ (at_blocked r.phase e)))) (λ f.
      climbing_grip (same_number r.grip _ (lacks _ (at_claim r.phase (omega arith))))))

  leaf_returning : r.phase ≡ 10 → level (current_piece r) ≡ s.levels → (r.grip ≡ 0) ⊎ (r.grip ≡ 3)
  unfolding lacks_grip is_leaf
  leaf_returning e f =
      let both : (differ r.grip 0 && differ r.grip 3) ≡ false = sym (choose_eq (level (current_piece r)) s.levels _ (ltb 3 r.grip) f) ∙ lacks _ (at_returning r.phase e) in
      by_eq r.grip 0 inl (λ d. inr (same_number r.grip 3 (second_of (differ r.grip 0) _ (ap not (ne_eqb r.grip 0 d)) both)))

  most_returning : r.phase ≡ 10 → r.grip ≤ 3
  unfolding lacks_grip is_leaf
  most_returning e =
      by_eq (level (current_piece r)) s.levels
      (λ f. ⊎_elim (λ z. omega arith) (λ z. omega arith) (leaf_returning e f))
      (λ d. ltb-false 3 r.grip (sym (choose_ne (level (current_piece r)) s.levels _ (ltb 3 r.grip) d) ∙ lacks _ (at_returning r.phase e)))

  notice_tests : ((nonzero r.notices && ltb r.grip 3) ≡ false) × ((eqb r.phase 6 && differ r.notices r.place) ≡ false)
  unfolding notices_wrong
  notice_tests =
      let both = both_false _ (eqb r.phase 6 && differ r.notices r.place) k.notices in
      ((both_false (ltb (length (notify_list s.distance (current_piece r))) r.notices) (nonzero r.notices && ltb r.grip 3) both.0).1, both.1)

  giving_test : choose (eqb r.phase 10) (eqb (grip_of r r.giving) 0) (nonzero r.giving) ≡ false
  unfolding giving_wrong
  giving_test = (both_false (ltb r.current r.giving) _ k.giving).1

  patient : r.phase ≡ 10 → r.outcome ≡ 4 → r.current ≢ 0
  unfolding out_of_patience_first
  patient e o = eqb-false r.current 0 (second_of (eqb r.phase 10 && eqb r.outcome 4) _ (λ i. eq-eqb r.phase 10 e i && eq-eqb r.outcome 4 o i) k.impatient)

  early : NoEarlyTime r
  unfolding taken_first
  early e d g =
      let other : (eqb r.phase 10 && eqb r.outcome 1) ≡ false = by_eq r.phase 10
      (λ t. second_false (eqb r.phase 10) _ (ne_eqb r.outcome 1 (g t))) (λ t. ap (λ b. b && eqb r.outcome 1) (ne_eqb r.phase 10 t)) in
      by_lt 0 r.taken
      (λ l. let kept = second_of (nonzero r.taken && eqb r.current 0) _ (λ i. lt-ltb 0 r.taken l i && eq-eqb r.current 0 e i) k.first_time in
      absurd (subst T (sym (ap₂ (λ x y. not (x || y)) (ne_eqb r.phase 9 d) other) ∙ kept) tt))
      (λ l. omega arith)

  ready_passed : r.phase ≢ 0 → Active s r last → Ready s r last
  unfolding number_too_large phase_elsewhere held_early outcome_wrong lacks_grip
  ready_passed z a = record {
    active = a;
    some = omega arith;
    grip_ticket = λ e. same_number r.grip 0 (lacks _ (at_ticket r.phase e));
    grip_turn = λ e. same_number r.grip 1 (lacks _ (at_turn r.phase e));
    grip_leaf = λ x y f. (climbing x y).0 f;
    grip_inner = λ x y d. (climbing x y).1 d;
    claimed = λ x y. same_number r.grip 3 (grip_taken (is_leaf s (current_piece r)) r.grip r.phase x (omega arith) ∙ k.grip);
    grip_most = most_returning;
    grip_leaf_returning = leaf_returning;
    inner = λ o. not_leaf (⊎_elim (λ e. elsewhere _ (at_ticket r.phase e)) (λ o. ⊎_elim (λ e. elsewhere _ (at_turn r.phase e))
        (λ o. ⊎_elim (λ e. elsewhere _ (at_wait r.phase e)) (λ e. elsewhere _ (at_check r.phase e)) o) o) o);
    below = λ o. eqb-false (current_piece r) 1 (⊎_elim (λ e. elsewhere _ (at_climb r.phase e)) (λ o. ⊎_elim (λ e. elsewhere _ (at_blocked r.phase e))
        (λ e. elsewhere _ (at_notify r.phase e)) o) o);
    no_notices = λ b. by_lt 0 r.notices
        (λ l. absurd (omega (arith, ltb-false r.grip 3 (second_of (nonzero r.notices) (ltb r.grip 3) (lt-ltb 0 r.notices l) notice_tests.0))))
        (λ l. omega arith);
    notices_place = λ e. same_number r.notices r.place (second_of (eqb r.phase 6) _ (eq-eqb r.phase 6 e) notice_tests.1);
    whole = λ e. ltb-false (suc r.current) (length (pieces r)) (second_of (eqb r.phase 9) _ (eq-eqb r.phase 9 e) k.held);
    outcome_most = ltb-false 4 r.outcome (both_false (ltb 10 r.phase) (ltb 4 r.outcome) k.numbers).1;
    no_outcome = λ d. omega (arith, ltb-false 0 r.outcome (sym (choose_ne r.phase 10 (eqb r.outcome 0) _ d) ∙ k.outcome));
    outcome_some = λ e. eqb-false r.outcome 0 (sym (choose_eq r.phase 10 _ (nonzero r.outcome) e) ∙ k.outcome);
    no_giving = λ d. omega (arith, ltb-false 0 r.giving (sym (choose_ne r.phase 10 (eqb (grip_of r r.giving) 0) _ d) ∙ giving_test));
    giving_gripped = λ e. eqb-false (grip_of r r.giving) 0 (sym (choose_eq r.phase 10 _ (nonzero r.giving) e) ∙ giving_test);
    later_piece = patient;
    no_early_time = early;
  }

pub ready : (s : Settings) (r : Record) (last : ℕ) → Settled s → unreadable s r last ≡ false → r.phase ≢ 0 → Ready s r last
ready s r last v u d = ready_passed s r last (passed s r last u d) d (active s r last v u d)

-- ---- the grip in any phase

module _ (s : Settings) (r : Record) (last : ℕ) (v : Ready s r last) where
  abbrev n : ℕ
  n = current_piece r

  asking_inner : r.phase < 3 → level n ≢ s.levels
  asking_inner b = v.inner (by_eq r.phase 1 inl (λ d. inr (inl (omega (arith, v.some)))))

  pub any_grip_leaf : level n ≡ s.levels → (r.grip ≡ 0) ⊎ (r.grip ≡ 3)
  any_grip_leaf e =
      by_lt r.phase 3 (λ b. absurd (asking_inner b e)) (λ b.
      by_lt r.phase 6 (λ c. inl (v.grip_leaf b (omega arith) e)) (λ c.
      by_lt r.phase 10 (λ d. inr (v.claimed c (omega arith))) (λ d. v.grip_leaf_returning (omega (arith, v.active.phase_most)) e)))

  pub any_grip_most : r.grip ≤ 3
  any_grip_most =
      by_eq (level n) s.levels (λ e. ⊎_elim (λ z. omega arith) (λ z. omega arith) (any_grip_leaf e)) (λ d.
      by_lt r.phase 3
      (λ b. by_eq r.phase 1 (λ e. omega (arith, v.grip_ticket e)) (λ f. omega (arith, v.some, v.grip_turn (omega (arith, v.some)))))
      (λ b. by_lt r.phase 6 (λ c. omega (arith, v.grip_inner b (omega arith) d))
      (λ c. by_lt r.phase 10 (λ f. omega (arith, v.claimed c (omega arith))) (λ f. v.grip_most (omega (arith, v.active.phase_most))))))
