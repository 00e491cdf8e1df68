-- Laws of the next record of each phase, one for each way through its rule, as the code meets them. Assumes nothing.
use Rattle.std.specs.Prelude.{◌≡◌, List, [], ◌∷◌, Bool, not, ℕ, suc, ◌+◌, ◌-◌, ◌≤◌, ◌<◌, min, eqb, length, get_or}
use Rattle.std.proofs.Math.Path.{refl, ap, subst}
use Rattle.std.proofs.Common.{sym, ◌∙◌, arith}
use Rattle.std.proofs.Math.Bool.{true, false}
use Rattle.std.proofs.Math.Dec.{T}
use Rattle.base.specs.rules.Choice.{choose}
use Rattle.base.specs.laws.ChoiceLaws.{on_choose, choose_yes, choose_no, choose_eq, choose_ne, choose_lt, choose_ge, choose_le, choose_gt}
use Rattle.word.specs.rules.Word.{occ, tcnt, dcnt, dmax}
use Rattle.tree.specs.rules.Tree.{climb, level, Node}
use Rattle.tree.proofs.laws.Level.{climb_level, level_pos, level_root, level_root_only}
use Rattle.tree.proofs.laws.Ancestors.{ancestors_count, ancestors_place}
use Rattle.tree.specs.rules.Lists.{notify_list, check_list}
use Rattle.tree.proofs.laws.Check.{check_count, check_count_lem}
use Rattle.tree.proofs.laws.Closed.{first_small}
use Rattle.lock.specs.declared.Record.{Record}
use Rattle.lock.specs.declared.Settings.{Settings}
use Rattle.lock.specs.rules.Records.{pieces, piece_at, current_piece, is_leaf, change, to_phase, to_blocked, with_grip, with_place, with_notices, with_t1, with_t0, sent_back}
use Rattle.lock.specs.rules.Steps.{start_phase, begin, first_noted, taken, turn_awaited, go_up, climbed, unblocked, bits_claimed, occ_claimed, late, all_notified, notice_given, waited, check_passed}
use Rattle.lock.specs.laws.Placed.{Pieced}
use Rattle.lock.specs.laws.StepLaws.{Read}

-- the pieces of a record are not changed by a step
pub pieced_kept : (r q : Record) → Pieced r → q.current ≡ r.current → q.first ≡ r.first → q.second ≡ r.second → Pieced q
unfolding pieces piece_at
pieced_kept r q v c a b =
    let same : pieces q ≡ pieces r = λ i. choose (eqb (b i) 0) (a i ∷ []) (a i ∷ b i ∷ []) in
    record {
      exists = subst (λ (l : List ℕ). q.current < length l) (sym same) (omega (arith, v.exists, c));
      nodes = λ i. subst (λ (l : List ℕ). i < length l → Node 12 (get_or l i 0)) (sym same) (v.nodes i);
    }

plus_one : (n : ℕ) → n + 1 ≡ suc n
plus_one n = omega arith

module _ (r : Record) where
  -- ---- 2 turn

  pub turn_stays : (w : ℕ) → (tcnt w ≡ r.ticket → ⊥) → turn_awaited r w ≡ r
  unfolding turn_awaited
  turn_stays w d = choose_ne (tcnt w) r.ticket _ r d

  turn_comes : (w : ℕ) → tcnt w ≡ r.ticket → turn_awaited r w ≡ to_phase (choose (eqb (current_piece r) 1) 5 3) (with_grip 2 r)
  unfolding turn_awaited
  turn_comes w e = choose_eq (tcnt w) r.ticket _ r e

  pub turn_root : (w : ℕ) → tcnt w ≡ r.ticket → current_piece r ≡ 1 → turn_awaited r w ≡ to_phase 5 (with_grip 2 r)
  turn_root w e f = turn_comes w e ∙ ap (λ (p : ℕ). to_phase p (with_grip 2 r)) (choose_eq (current_piece r) 1 5 3 f)

  pub turn_other : (w : ℕ) → tcnt w ≡ r.ticket → (current_piece r ≡ 1 → ⊥) → turn_awaited r w ≡ to_phase 3 (with_grip 2 r)
  turn_other w e d = turn_comes w e ∙ ap (λ (p : ℕ). to_phase p (with_grip 2 r)) (choose_ne (current_piece r) 1 5 3 d)

  -- ---- 3 climb and 4 blocked

  module _ {n : ℕ} (v : Read n r) where
    read_level : (1 ≤ n) × (level n ≡ level (current_piece r) - suc r.place)
    read_level =
        let p = current_piece r in
        let node = v.pieced.nodes r.current v.pieced.exists in
        let b : suc r.place < level p = omega (arith, v.within, ancestors_count p) in
        let e : climb (suc r.place) p ≡ n = sym (v.node ∙ ancestors_place p r.place (omega arith)) in
        subst (λ (x : ℕ). (1 ≤ x) × (level x ≡ level p - suc r.place)) e (climb_level (suc r.place) p node.some b)

    pub up_more : (n ≡ 1 → ⊥) → go_up r ≡ with_place (r.place + 1) r
    unfolding go_up
    up_more d =
        let l = read_level in
        let other : level n ≡ 1 → ⊥ = λ e. d (level_root_only n l.0 e) in
        choose_lt (suc r.place) _ _ _ (omega (arith, ancestors_count (current_piece r), level_pos n)) ∙ ap (λ (p : ℕ). with_place p r) (sym (plus_one r.place))

    pub up_last : n ≡ 1 → go_up r ≡ to_phase 5 r
    unfolding go_up
    up_last e = choose_ge (suc r.place) _ _ _ (omega (arith, ancestors_count (current_piece r), read_level, level_root n (omega arith)))

    pub up_small : r.place + 1 < 12
    up_small = let node = v.pieced.nodes r.current v.pieced.exists in omega (arith, v.within, ancestors_count (current_piece r), node.inside)

    -- noting t1 changes neither piece nor place
    pub noted_parent : (t : ℕ) (x : Record) → x ≡ choose (eqb r.place 0) (with_t1 t r) r → Read n x
    unfolding pieces piece_at
    noted_parent t x e =
        subst (Read n) (sym e)
        (on_choose (Read n) (eqb r.place 0) (with_t1 t r) r
        (λ _. record { pieced = pieced_kept r (with_t1 t r) v.pieced refl refl refl; within = v.within; node = v.node }) (λ _. v))

  pub climb_set : (w t : ℕ) → occ w ≡ 1 → climbed r w t ≡ to_blocked r
  unfolding climbed
  climb_set w t e = choose_eq (occ w) 1 _ _ e

  pub climb_clear : (w t : ℕ) → (occ w ≡ 1 → ⊥) → climbed r w t ≡ go_up (choose (eqb r.place 0) (with_t1 t r) r)
  unfolding climbed
  climb_clear w t d = choose_ne (occ w) 1 _ _ d

  pub unblocked_now : (w : ℕ) → occ w ≡ 0 → unblocked r w ≡ to_phase 3 r
  unfolding unblocked
  unblocked_now w e = choose_eq (occ w) 0 _ r e

  pub unblocked_not : (w : ℕ) → (occ w ≡ 0 → ⊥) → unblocked r w ≡ r
  unfolding unblocked
  unblocked_not w d = choose_ne (occ w) 0 _ r d

  -- ---- 5 claim

  pub bits_won : (b : Bool) → b ≡ true → bits_claimed r b ≡ to_phase 6 (with_grip 3 r)
  unfolding bits_claimed choose
  bits_won b e = ap (bits_claimed r) e

  pub bits_lost : (b : Bool) → b ≡ false → bits_claimed r b ≡ to_phase 3 r
  unfolding bits_claimed choose
  bits_lost b e = ap (bits_claimed r) e

  pub occ_root : (t : ℕ) → current_piece r ≡ 1 → occ_claimed r t ≡ to_phase 7 (with_t0 t (with_grip 3 r))
  unfolding occ_claimed
  occ_root t e = ap (λ (p : ℕ). to_phase p (with_t0 t (with_grip 3 r))) (choose_eq (current_piece r) 1 7 6 e)

  pub occ_other : (t : ℕ) → (current_piece r ≡ 1 → ⊥) → occ_claimed r t ≡ to_phase 6 (with_t0 t (with_grip 3 r))
  unfolding occ_claimed
  occ_other t d = ap (λ (p : ℕ). to_phase p (with_t0 t (with_grip 3 r))) (choose_ne (current_piece r) 1 7 6 d)

-- ---- beginning and taking a piece

module _ (s : Settings) where
  pub start_leaf : (n : ℕ) → is_leaf s n ≡ true → start_phase s n ≡ 3
  unfolding start_phase choose
  start_leaf n e = ap (λ (b : Bool). choose b 3 1) e

  pub start_inner : (n : ℕ) → is_leaf s n ≡ false → start_phase s n ≡ 1
  unfolding start_phase choose
  start_inner n e = ap (λ (b : Bool). choose b 3 1) e

  module _ (r : Record) where
    pub begin_is : (i p : ℕ) → p ≡ start_phase s (piece_at r i) → change r p r.outcome i r.giving 0 0 0 0 0 0 r.taken ≡ begin s r i
    unfolding begin
    begin_is i p e = ap (λ (x : ℕ). change r x r.outcome i r.giving 0 0 0 0 0 0 r.taken) e

    pub taken_more : (t : ℕ) → r.current + 1 < length (pieces r) → taken s r t ≡ begin s (first_noted r t) (r.current + 1)
    unfolding taken
    taken_more t b = choose_lt (suc r.current) _ _ _ (omega arith) ∙ ap (λ (i : ℕ). begin s (first_noted r t) i) (sym (plus_one r.current))

    pub taken_last : (t : ℕ) → length (pieces r) ≤ r.current + 1 → taken s r t ≡ to_phase 9 (first_noted r t)
    unfolding taken
    taken_last t b = choose_ge (suc r.current) _ _ _ (omega arith)

    -- ---- 6 notify

    pub notified_late : (t : ℕ) → late s r t ≡ true → all_notified s r t ≡ sent_back 2 r
    unfolding all_notified
    notified_late t e = choose_yes (late s r t) _ _ (subst T (sym e) tt)

    -- in time
    notified_by : (t : ℕ) → late s r t ≡ false → (leaf : Bool) → is_leaf s (current_piece r) ≡ leaf → all_notified s r t ≡ choose leaf (taken s r t) (to_phase 7 r)
    unfolding all_notified
    notified_by t e leaf f = choose_no (late s r t) _ _ (subst (λ (x : Bool). T (not x)) (sym e) tt) ∙ ap (λ (x : Bool). choose x (taken s r t) (to_phase 7 r)) f

    pub notified_leaf : (t : ℕ) → late s r t ≡ false → is_leaf s (current_piece r) ≡ true → all_notified s r t ≡ taken s r t
    unfolding choose
    notified_leaf t e f = notified_by t e true f

    pub notified_inner : (t : ℕ) → late s r t ≡ false → is_leaf s (current_piece r) ≡ false → all_notified s r t ≡ to_phase 7 r
    unfolding choose
    notified_inner t e f = notified_by t e false f

    pub notice_more : (t : ℕ) → r.place + 1 < length (notify_list s.distance (current_piece r))
        → notice_given s r t ≡ with_place (r.place + 1) (with_notices (r.place + 1) r)
    unfolding notice_given
    notice_more t b = choose_lt (suc r.place) _ _ _ (omega arith) ∙ ap (λ (p : ℕ). with_place p (with_notices p r)) (sym (plus_one r.place))

    pub notice_last : (t : ℕ) → length (notify_list s.distance (current_piece r)) ≤ r.place + 1
        → notice_given s r t ≡ all_notified s (with_notices (r.place + 1) r) t
    unfolding notice_given
    notice_last t b = choose_ge (suc r.place) _ _ _ (omega arith) ∙ ap (λ (p : ℕ). all_notified s (with_notices p r) t) (sym (plus_one r.place))

    -- ---- 7 wait and 8 check

    pub wait_over : (t : ℕ) → s.wait ≤ t - r.t0 → waited s r t ≡ to_phase 8 r
    unfolding waited
    wait_over t b = choose_le s.wait (t - r.t0) _ r b

    pub wait_on : (t : ℕ) → t - r.t0 < s.wait → waited s r t ≡ r
    unfolding waited
    wait_on t b = choose_gt s.wait (t - r.t0) _ r b

    pub check_stays : (w t : ℕ) → (dcnt w ≡ dmax w → ⊥) → check_passed s r w t ≡ r
    unfolding check_passed
    check_stays w t d = choose_ne (dcnt w) (dmax w) _ r d

    pub check_more : (w t : ℕ) → dcnt w ≡ dmax w → r.place + 1 < length (check_list s.levels s.distance (current_piece r))
        → check_passed s r w t ≡ with_place (r.place + 1) r
    unfolding check_passed
    check_more w t e b =
        choose_eq (dcnt w) (dmax w) _ r e ∙ choose_lt (suc r.place) _ _ _ (omega arith) ∙ ap (λ (p : ℕ). with_place p r) (sym (plus_one r.place))

    pub check_last : (w t : ℕ) → dcnt w ≡ dmax w → length (check_list s.levels s.distance (current_piece r)) ≤ r.place + 1
        → check_passed s r w t ≡ taken s r t
    unfolding check_passed
    check_last w t e b = choose_eq (dcnt w) (dmax w) _ r e ∙ choose_ge (suc r.place) _ _ _ (omega arith)

-- a check list is short
pub check_small : (h m n : ℕ) → h ≤ 12 → 1 ≤ m → length (check_list h m n) < 5592406
unfolding check_count
check_small h m n b c = omega (arith, check_count_lem h m n, first_small (suc (min m (h - level n))) (omega arith) (omega arith))
