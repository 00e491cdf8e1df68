-- Laws: each step of a record on its way to held that nothing hinders, by its word or by its clock, is one step further, phase by phase. Assumes nothing.
use Rattle.std.specs.Prelude.{◌≡◌, ◌≢◌, true, eqb}
use Rattle.std.proofs.Math.Path.{refl, sym, ap, subst}
use Rattle.std.proofs.Common.{◌∙◌, inl, inr, eq-eqb, ne_eqb}
use Rattle.std.proofs.Math.Bool.{false}
use mathlib.Core.List.{List}
use Prim.Native.Nat.{ℕ, suc, ◌+◌, ◌-◌, ◌≤◌}
use native.Mathlib.Omega.{arith}
use Rattle.std.proofs.Math.ListN.{length, get_or}
use Rattle.base.specs.laws.ChoiceLaws.{on_choose, choose_eq, choose_lt, choose_ge, by_lt, by_eq}
use Rattle.base.specs.laws.Sum.{sum_to, to_same}
use Rattle.word.specs.rules.Word.{occ, tcnt, dcnt, dmax, take_bits}
use Rattle.tree.specs.rules.Tree.{level}
use Rattle.tree.specs.rules.Lists.{ancestors, notify_list, check_list}
use Rattle.tree.proofs.laws.Level.{level_root}
use Rattle.tree.proofs.laws.Ancestors.{ancestors_count}
use Rattle.tree.proofs.laws.Code.{bounded, count_none}
use Rattle.tree.proofs.laws.Notify.{notify_count_lem}
use Rattle.lock.specs.declared.Record.{Record}
use Rattle.lock.specs.declared.Settings.{Settings}
use Rattle.lock.specs.rules.Records.{Phase, phase_of, pieces, piece_at, current_piece, is_leaf, to_phase, with_grip, with_place, with_notices, with_t1, with_t0, with_taken}
use Rattle.lock.specs.rules.Steps.{Moved, begin, first_noted, taken, ticket_taken, turn_awaited, go_up, climbed, notice_given, waited, late, check_passed, wanted}
use Rattle.lock.specs.laws.Rows.{claim_piece, moved_in}
use Rattle.lock.specs.rules.StepCount.{OnTime}
use Rattle.lock.specs.laws.Active.{Settled}
use Rattle.lock.proofs.laws.Phases.{at_ticket, at_turn, at_climb, at_claim, at_notify, at_wait, at_check, at_held, on_phase}
use Rattle.lock.specs.laws.PieceSteps.{claim_steps}
use Rattle.lock.proofs.laws.Progress.{made_in, steps_at, steps_before, made, Going, Free, Advanced, going_at, same_steps, claim_is, leaf_before, inner_before, leaf_all, inner_all, further, begin_phase, start_made}
use Rattle.lock.proofs.laws.Ready.{Ready}
use Rattle.lock.proofs.laws.StepLaws.{turn_root, turn_other, climb_clear, bits_won, occ_root, occ_other, notified_leaf, notified_inner, wait_over}
use Rattle.lock.proofs.laws.MoveLaws.{claim_leaf, claim_inner}

-- ---- the last step of a piece: the next begins, or the window is held

module _ (s : Settings) (r : Record) (t : ℕ) (made_all : suc (made_in s r (phase_of r.phase)) ≡ steps_at s r r.current) where
  -- of a record that has r's pieces
  over_next : (x : Record) → pieces x ≡ pieces r → (i : ℕ) → i ≡ suc r.current → Advanced s r (begin s x i)
  unfolding begin made sum_to pieces
  over_next x p i c =
      let q = begin s x i in
      let v = start_made s q refl (begin_phase s x i) in
      let sums : sum_to i (steps_at s q) ≡ sum_to (suc r.current) (steps_at s r) = ap (λ (k : ℕ). sum_to k (steps_at s q)) c ∙ to_same _ _ (suc r.current) (λ k _. same_steps s r q p k) in
      record { pieces_same = p; going = v.0; one_more = omega (arith, v.1) }

  over_held : (x : Record) → pieces x ≡ pieces r → x.current ≡ r.current → Advanced s r (to_phase 9 x)
  unfolding made_in pieces
  over_held x p c =
      let q = to_phase 9 x in
      further s r q p c (going_at q 9 refl (omega arith) (omega arith) (λ z. omega arith))
      (ap (made_in s q) (at_held 9 refl) ∙ ap (steps_at s q) c ∙ same_steps s r q p r.current ∙ sym made_all)

  pub taken_on : (x : Record) → pieces x ≡ pieces r → x.current ≡ r.current → Advanced s r (taken s x t)
  unfolding taken first_noted pieces
  taken_on x p c =
      on_choose (Advanced s r) _ _ _
      (λ _. on_choose (λ (y : Record). Advanced s r (begin s y (suc x.current))) (eqb x.current 0) (with_taken t x) x (λ _. over_next (with_taken t x) p _ (ap suc c)) (λ _. over_next x p _ (ap suc c)))
      (λ _. on_choose (λ (y : Record). Advanced s r (to_phase 9 y)) (eqb x.current 0) (with_taken t x) x (λ _. over_held (with_taken t x) p c) (λ _. over_held x p c))

-- ---- phase by phase

module _ (s : Settings) (r : Record) (last : ℕ) (g : Settled s) (v : Ready s r last) where
  abbrev n : ℕ
  n = current_piece r

  abbrev climbs : ℕ
  climbs = length (ancestors n)

  abbrev notices : ℕ
  notices = length (notify_list s.distance n)

  abbrev checks : ℕ
  checks = length (check_list s.levels s.distance n)

  -- the root has no ancestors to climb to or to notify
  root_level : n ≡ 1 → level n ≡ 1
  root_level e = level_root n (omega arith)

  root_climbs : n ≡ 1 → climbs ≡ 0
  root_climbs e = omega (arith, ancestors_count n, root_level e)

  root_notices : n ≡ 1 → notices ≡ 0
  root_notices e =
      notify_count_lem s.distance n (bounded s.distance n g.distance_some g.distance_most (record { some = omega arith; inside = omega (arith, root_level e) }))
      ∙ count_none s.distance (level n) (omega (arith, root_level e))

  -- one step further in the same piece
  onward : (q : Record) (p x : ℕ) → pieces q ≡ pieces r → q.current ≡ r.current → q.phase ≡ p → 1 ≤ p → p ≤ 9 → p ≢ 4
      → made_in s r (phase_of r.phase) ≡ x → made_in s q (phase_of q.phase) ≡ suc x → Advanced s r q
  onward q p x a c e some most free was now = further s r q a c (going_at q p e some most free) (now ∙ ap suc (sym was))

  -- 1
  ticket_on : (w : ℕ) → r.phase ≡ 1 → Advanced s r (ticket_taken r w)
  unfolding ticket_taken made_in pieces
  ticket_on w e =
      onward (ticket_taken r w) 2 0 refl refl refl (omega arith) (omega arith) (λ z. omega arith) (ap (made_in s r) (at_ticket r.phase e)) (ap (made_in s (ticket_taken r w)) (at_turn 2 refl))

  -- 2
  turn_on : (w : ℕ) → r.phase ≡ 2 → tcnt w ≡ r.ticket → Advanced s r (turn_awaited r w)
  unfolding made_in pieces piece_at
  turn_on w e k =
      let was : made_in s r (phase_of r.phase) ≡ 1 = ap (made_in s r) (at_turn r.phase e) in
      let before = inner_before s r (v.inner (inr (inl e))) in
      by_eq n 1
      (λ f. let q = to_phase 5 (with_grip 2 r) in
      let now : made_in s q (phase_of q.phase) ≡ steps_before s n + climbs = ap (made_in s q) (at_claim 5 refl) in
      subst (Advanced s r) (sym (turn_root r w k f)) (onward q 5 1 refl refl refl (omega arith) (omega arith) (λ z. omega arith) was (now ∙ (let z = root_climbs f in omega arith))))
      (λ d. let q = to_phase 3 (with_grip 2 r) in
      let now : made_in s q (phase_of q.phase) ≡ steps_before s n + 0 = ap (made_in s q) (at_climb 3 refl) in
      subst (Advanced s r) (sym (turn_other r w k d)) (onward q 3 1 refl refl refl (omega arith) (omega arith) (λ z. omega arith) was (now ∙ omega arith)))

  same_current : (q : Record) → pieces q ≡ pieces r → q.current ≡ r.current → current_piece q ≡ n
  unfolding piece_at
  same_current q a c = ap (λ (l : List ℕ). get_or l q.current 0) a ∙ ap (λ (k : ℕ). get_or (pieces r) k 0) c

  -- 3, whether or not the ancestor is the parent, at which t1 is noted
  up_on : (x : Record) → pieces x ≡ pieces r → x.current ≡ r.current → x.place ≡ r.place → x.phase ≡ 3 → r.phase ≡ 3 → Advanced s r (go_up x)
  unfolding go_up made_in pieces
  up_on x a c d f e =
      let was : made_in s r (phase_of r.phase) ≡ steps_before s n + r.place = ap (made_in s r) (at_climb r.phase e) in
      by_lt (suc x.place) (length (ancestors (current_piece x)))
      (λ l. let q = with_place (suc x.place) x in
      let same = same_current q a c in
      let now : made_in s q (phase_of q.phase) ≡ steps_before s (current_piece q) + suc x.place = ap (made_in s q) (at_climb q.phase f) in
      subst (Advanced s r) (sym (choose_lt (suc x.place) _ _ _ l))
      (onward q 3 _ a c f (omega arith) (omega arith) (λ z. omega arith) was (now ∙ ap (λ (k : ℕ). steps_before s k + suc x.place) same ∙ omega arith)))
      (λ l. let q = to_phase 5 x in
      let same = same_current q a c in
      let now : made_in s q (phase_of q.phase) ≡ steps_before s (current_piece q) + length (ancestors (current_piece q)) = ap (made_in s q) (at_claim 5 refl) in
      let long : length (ancestors (current_piece x)) ≡ climbs = ap (λ (k : ℕ). length (ancestors k)) (same_current x a c) in
      subst (Advanced s r) (sym (choose_ge (suc x.place) _ _ _ l))
      (onward q 5 _ a c refl (omega arith) (omega arith) (λ z. omega arith) was (now ∙ ap (λ (k : ℕ). steps_before s k + length (ancestors k)) same ∙ omega (arith, v.active.climbing (inl e)))))

  climb_on : (w t : ℕ) → r.phase ≡ 3 → occ w ≢ 1 → Advanced s r (climbed r w t)
  unfolding pieces
  climb_on w t e free =
      subst (Advanced s r) (sym (climb_clear r w t free))
      (on_choose (λ (x : Record). Advanced s r (go_up x)) (eqb r.place 0) (with_t1 t r) r (λ _. up_on (with_t1 t r) refl refl refl e e) (λ _. up_on r refl refl refl e e))

  -- 5
  claim_on : (w t : ℕ) → r.phase ≡ 5 → (level n ≡ s.levels → (take_bits (wanted s r n) w).done ≡ true) → Advanced s r (claim_piece s r w t).next
  unfolding made_in pieces piece_at is_leaf
  claim_on w t e free =
      let was : made_in s r (phase_of r.phase) ≡ steps_before s n + climbs = ap (made_in s r) (at_claim r.phase e) in
      let six : (q : Record) → pieces q ≡ pieces r → q.current ≡ r.current → q.phase ≡ 6 → made_in s q (phase_of q.phase) ≡ steps_before s n + climbs + 1 + 0 → Advanced s r q
      = λ q a c f now. onward q 6 _ a c f (omega arith) (omega arith) (λ z. omega arith) was (now ∙ omega arith) in
      by_eq (level n) s.levels
      (λ f. let q = to_phase 6 (with_grip 3 r) in
      subst (Advanced s r) (sym (ap (λ (x : Moved). x.next) (claim_leaf s r w t _ refl (eq-eqb (level n) s.levels f)) ∙ bits_won r _ (free f)))
      (six q refl refl refl (ap (made_in s q) (at_notify 6 refl))))
      (λ d. subst (Advanced s r) (sym (ap (λ (x : Moved). x.next) (claim_inner s r w t (ne_eqb (level n) s.levels d))))
      (by_eq n 1
      (λ f. let q = to_phase 7 (with_t0 t (with_grip 3 r)) in
      let now : made_in s q (phase_of q.phase) ≡ steps_before s n + claim_steps s.distance n = ap (made_in s q) (at_wait 7 refl) in
      subst (Advanced s r) (sym (occ_root r t f)) (onward q 7 _ refl refl refl (omega arith) (omega arith) (λ z. omega arith) was (now ∙ (let z = root_notices f in omega (arith, claim_is s r)))))
      (λ f. let q = to_phase 6 (with_t0 t (with_grip 3 r)) in
      subst (Advanced s r) (sym (occ_other r t f)) (six q refl refl refl (ap (made_in s q) (at_notify 6 refl))))))

  -- 6, with the notices counted
  notify_on : (t : ℕ) → r.phase ≡ 6 → (suc r.place ≡ notices → late s r t ≡ false) → Advanced s r (notice_given s r t)
  unfolding notice_given made_in pieces piece_at late is_leaf
  notify_on t e in_time =
      let was : made_in s r (phase_of r.phase) ≡ steps_before s n + climbs + 1 + r.place = ap (made_in s r) (at_notify r.phase e) in
      let within = v.active.notifying e in
      by_lt (suc r.place) notices
      (λ l. let q = with_place (suc r.place) (with_notices (suc r.place) r) in
      let now : made_in s q (phase_of q.phase) ≡ steps_before s n + climbs + 1 + suc r.place = ap (made_in s q) (at_notify q.phase e) in
      subst (Advanced s r) (sym (choose_lt (suc r.place) _ _ _ l)) (onward q 6 _ refl refl e (omega arith) (omega arith) (λ z. omega arith) was (now ∙ omega arith)))
      (λ l. let x = with_notices (suc r.place) r in
      let all : suc r.place ≡ notices = omega arith in
      let late_no : late s x t ≡ false = in_time all in
      subst (Advanced s r) (sym (choose_ge (suc r.place) _ _ _ l))
      (by_eq (level n) s.levels
      (λ f. subst (Advanced s r) (sym (notified_leaf s x t late_no (eq-eqb (level n) s.levels f)))
      (taken_on s r t (omega (arith, leaf_all s r f, leaf_before s r f)) x refl refl))
      (λ d. let q = to_phase 7 x in
      let now : made_in s q (phase_of q.phase) ≡ steps_before s n + claim_steps s.distance n = ap (made_in s q) (at_wait 7 refl) in
      subst (Advanced s r) (sym (notified_inner s x t late_no (ne_eqb (level n) s.levels d)))
      (onward q 7 _ refl refl refl (omega arith) (omega arith) (λ z. omega arith) was (now ∙ omega (arith, claim_is s r))))))

  -- 7
  wait_on : (t : ℕ) → r.phase ≡ 7 → s.wait ≤ t - r.t0 → Advanced s r (waited s r t)
  unfolding made_in pieces piece_at
  wait_on t e over =
      let was : made_in s r (phase_of r.phase) ≡ steps_before s n + claim_steps s.distance n = ap (made_in s r) (at_wait r.phase e) in
      let q = to_phase 8 r in
      let now : made_in s q (phase_of q.phase) ≡ steps_before s n + claim_steps s.distance n + 1 + 0 = ap (made_in s q) (at_check 8 refl) in
      subst (Advanced s r) (sym (wait_over s r t over)) (onward q 8 _ refl refl refl (omega arith) (omega arith) (λ z. omega arith) was (now ∙ omega arith))

  -- 8
  check_on : (w t : ℕ) → r.phase ≡ 8 → dcnt w ≡ dmax w → Advanced s r (check_passed s r w t)
  unfolding check_passed made_in pieces piece_at
  check_on w t e free =
      let was : made_in s r (phase_of r.phase) ≡ steps_before s n + claim_steps s.distance n + 1 + r.place = ap (made_in s r) (at_check r.phase e) in
      let inner = v.inner (inr (inr (inr e))) in
      subst (Advanced s r) (sym (choose_eq (dcnt w) (dmax w) _ r free))
      (by_lt (suc r.place) checks
      (λ l. let q = with_place (suc r.place) r in
      let now : made_in s q (phase_of q.phase) ≡ steps_before s n + claim_steps s.distance n + 1 + suc r.place = ap (made_in s q) (at_check q.phase e) in
      subst (Advanced s r) (sym (choose_lt (suc r.place) _ _ _ l)) (onward q 8 _ refl refl e (omega arith) (omega arith) (λ z. omega arith) was (now ∙ omega arith)))
      (λ l. subst (Advanced s r) (sym (choose_ge (suc r.place) _ _ _ l))
      (taken_on s r t (omega (arith, inner_all s r inner, inner_before s r inner, claim_is s r, v.active.checking e)) r refl refl)))

  -- ---- any phase on the way

  pub step_on : (w t : ℕ) → Going r → r.phase ≢ 9 → Free s r w → OnTime s r t → Advanced s r (moved_in s r w t (phase_of r.phase)).next
  unfolding moved_in
  step_on w t way unheld free time =
      on_phase r.phase (λ (p : Phase). Advanced s r (moved_in s r w t p).next)
      (λ e. absurd (omega (arith, way.some)))
      (λ e. ticket_on w e)
      (λ e. turn_on w e (free.turn_come e))
      (λ e. climb_on w t e (free.unclaimed e))
      (λ e. absurd (way.unblocked e))
      (λ e. claim_on w t e (free.bits_clear e))
      (λ e. notify_on t e (time.not_late e))
      (λ e. wait_on t e (time.waited e))
      (λ e. check_on w t e (free.answered e))
      (λ e. absurd (unheld e))
      (λ e. absurd (omega (arith, way.most)))
      (λ b. absurd (omega (arith, way.most)))
