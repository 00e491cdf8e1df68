-- Laws: the steps of phases 1 to 5 owe nothing to the invariant. Assumes nothing.
use Rattle.std.specs.Prelude.{◌≡◌, ◌≢◌, ◌⊎◌, List, eqb, ltb, get_or}
use Rattle.std.proofs.Math.Path.{refl, sym, ap}
use Rattle.std.proofs.Common.{◌∙◌, ne_eqb}
use Rattle.std.proofs.Math.Logic.{inl, inr, ⊎_elim}
use Prim.Native.Nat.{ℕ, suc, ◌-◌, ◌≤◌, ◌<◌}
use native.Mathlib.Omega.{arith}
use Rattle.std.proofs.Math.Dec.{eqb→eq, ltb→lt, nltb→le}
use Rattle.std.proofs.Math.ListN.{length}
use Rattle.base.specs.rules.Choice.{choose}
use Rattle.base.specs.laws.ChoiceLaws.{on_choose, by_eq, neqb→ne}
use Rattle.word.specs.rules.Word.{occ, tcnt, tmax, add_tmax}
use Rattle.word.proofs.laws.Fields.{field_lt}
use Rattle.tree.specs.rules.Tree.{climb, level, Node}
use Rattle.tree.specs.rules.Lists.{ancestors}
use Rattle.tree.proofs.laws.Level.{climb_level, level_root}
use Rattle.tree.proofs.laws.Ancestors.{ancestors_count, ancestors_place}
use Rattle.lock.specs.declared.Record.{Record}
use Rattle.lock.specs.declared.Settings.{Settings}
use Rattle.lock.specs.rules.Records.{pieces, piece_at, current_piece, is_root, to_phase, to_blocked, with_grip, with_ticket, with_place, with_t1}
use Rattle.lock.specs.rules.Steps.{ticket_taken, turn_awaited, go_up, climbed, unblocked}
use Rattle.lock.specs.laws.Active.{Settled}
use Rattle.lock.proofs.laws.ActiveLaws.{below_root}
use Rattle.lock.proofs.laws.Ready.{Ready}
use Rattle.lock.proofs.laws.WhenReadable.{readable_turn, readable_climbing, readable_claim}
use Rattle.lock.proofs.claim.Owned.{owns}
use Rattle.lock.proofs.claim.Fit.{Fit, ready_apart, fit_readable}
use Rattle.lock.proofs.claim.Effect.{drew, turned}
use Rattle.lock.proofs.claim.InnerWords.{nobody}
use Rattle.lock.proofs.claim.Stage.{passing, passing_climb, passing_claim, passing_none}
use Rattle.lock.proofs.claim.Forward.{kin, onward_unreturned, forward_grips, drawn_else}
use Rattle.lock.proofs.claim.Onward.{untaken, asked_kin, asked_same, onward_low}
use Rattle.lock.proofs.claim.Keeps.{Keeps, keeps_stay, keeps_quiet}

module _ (s : Settings) (rs : List Record) (r : Record) (last now : ℕ) (later : last ≤ now) (g : Settled s) (rd : Ready s r last) (v : Fit s r last) (w : ℕ) where
  abbrev n : ℕ
  n = current_piece r

  current_node : Node s.levels n
  current_node = (ready_apart s r last rd).node r.current rd.active.exists

  -- in 3 to 5 the record goes on with the grip that it has: to climb or wait at an ancestor, or to claim
  pub climbing_fit : 3 ≤ r.phase → r.phase ≤ 5 → (p place t : ℕ) → t ≤ now → ((3 ≤ p) × (p ≤ 4) × (place < length (ancestors n))) ⊎ ((p ≡ 5) × (place ≡ 0))
      → Fit s (with_place place (to_phase p (with_t1 t r))) now
  unfolding piece_at pieces
  climbing_fit a b p place t c o =
      let q = with_place place (to_phase p (with_t1 t r)) in
      let ahead : r.phase ≢ 10 = λ f. omega arith in
      let every = asked_kin s r q last now rd (kin r q refl refl refl refl) rd.active.exists rd.active.ticket_most c (omega (arith, rd.active.t0_past))
      (omega (arith, rd.active.taken_past)) (untaken s r q last now rd (omega arith) refl refl) in
      let none = rd.no_notices (by_eq (level n) s.levels (λ f. omega (arith, rd.grip_leaf a b f)) (λ d. omega (arith, rd.grip_inner a b d))) in
      ⊎_elim
      (λ z. fit_readable s q now (readable_climbing s q now g every (rd.no_outcome ahead) (rd.no_giving ahead) (rd.grip_leaf a b) (rd.grip_inner a b) none z.0 z.1 z.2) (λ x. omega (arith, z.1)))
      (λ z. fit_readable s q now (readable_claim s q now g every (rd.no_outcome ahead) (rd.no_giving ahead) (rd.grip_leaf a b) (rd.grip_inner a b) none z.0 z.1) (λ x. omega (arith, z.0)))
      o

  -- ---- 1 ticket

  pub ticket_keeps : r.phase ≡ 1 → Keeps s rs r n w (add_tmax 1 w) (ticket_taken r w) now
  unfolding ticket_taken piece_at pieces
  ticket_keeps e =
      let q = to_phase 2 (with_grip 1 (with_ticket (tmax w) r)) in
      let k = kin r q refl refl refl refl in
      let ahead : r.phase ≢ 10 = λ f. omega arith in
      let un = onward_unreturned s r ahead in
      let unq = onward_unreturned s q (λ f. omega arith) in
      record {
        node = λ _. current_node;
        effect = drew (rd.inner (inl e))
            (forward_grips s r q k refl un unq (ready_apart s r last rd) rd.active.exists 0 1 (rd.grip_ticket e) refl refl
            (λ m d o t. absurd (drawn_else s r q k refl un unq (ready_apart s r last rd) rd.active.exists m d o t))) refl refl;
        fits = fit_readable s q now
            (readable_turn s q now g
            (asked_kin s r q last now rd k rd.active.exists (omega (arith, field_lt 32 15 w)) (omega (arith, rd.active.t1_past)) (omega (arith, rd.active.t0_past))
            (omega (arith, rd.active.taken_past)) (untaken s r q last now rd (omega arith) refl refl))
            (rd.no_outcome ahead) (rd.no_giving ahead) refl refl (rd.inner (inl e)) refl (rd.no_notices (omega (arith, rd.grip_ticket e)))) (λ x. omega arith);
        time = onward_low s rs nobody r now q k refl ahead (λ f. omega arith) (omega arith) (inl (passing_none q (λ f. omega arith) (λ f. omega arith) (λ f. omega arith)));
      }

  -- ---- 2 turn

  turn_to : r.phase ≡ 2 → tcnt w ≡ r.ticket → (p : ℕ) → ((p ≡ 3) × (n ≢ 1)) ⊎ ((p ≡ 5) × (n ≡ 1)) → Keeps s rs r n w w (to_phase p (with_grip 2 r)) now
  unfolding piece_at pieces
  turn_to e f p o =
      let q = to_phase p (with_grip 2 r) in
      let k = kin r q refl refl refl refl in
      let b : p ≤ 5 = ⊎_elim (λ z. omega (arith, z.0)) (λ z. omega (arith, z.0)) o in
      let ahead : r.phase ≢ 10 = λ z. omega arith in
      let aheadq : p ≢ 10 = λ z. omega arith in
      let every = asked_same s r q last now rd k later refl refl refl refl refl (untaken s r q last now rd (omega arith) refl refl) in
      let none = rd.no_notices (omega (arith, rd.grip_turn e)) in
      record {
        node = λ _. current_node;
        effect = turned (rd.inner (inr (inl e)))
            (forward_grips s r q k refl (onward_unreturned s r ahead) (onward_unreturned s q aheadq) (ready_apart s r last rd) rd.active.exists 1 2 (rd.grip_turn e) refl refl (λ _ _ _ _. refl)) f refl;
        fits = fit_readable s q now (⊎_elim
            (λ z. readable_climbing s q now g every (rd.no_outcome ahead) (rd.no_giving ahead) (λ l. absurd (rd.inner (inr (inl e)) l)) (λ _. refl) none (omega (arith, z.0)) (omega (arith, z.0))
            (omega (arith, ancestors_count n, below_root n current_node.some (ne_eqb n 1 z.1))))
            (λ z. readable_claim s q now g every (rd.no_outcome ahead) (rd.no_giving ahead) (λ l. absurd (rd.inner (inr (inl e)) l)) (λ _. refl) none z.0 refl) o) (λ x. omega arith);
        time = onward_low s rs nobody r now q k refl ahead aheadq b
            (inl (⊎_elim (λ z. passing_climb q z.0) (λ z. passing_claim q z.0 ∙ (let one = level_root n (omega (arith, z.1)) in let y : level n - 1 ≡ 0 = omega arith in y)) o));
      }

  pub turn_keeps : r.phase ≡ 2 → Keeps s rs r n w w (turn_awaited r w) now
  unfolding turn_awaited
  turn_keeps e =
      on_choose (λ q. Keeps s rs r n w w q now) (eqb (tcnt w) r.ticket) (to_phase (choose (is_root n) 5 3) (with_grip 2 r)) r
      (λ t. on_choose (λ (p : ℕ). Keeps s rs r n w w (to_phase p (with_grip 2 r)) now) (is_root n) 5 3
      (λ y. turn_to e (eqb→eq (tcnt w) r.ticket t) 5 (inr (refl, eqb→eq n 1 y)))
      (λ y. turn_to e (eqb→eq (tcnt w) r.ticket t) 3 (inl (refl, neqb→ne n 1 y))))
      (λ t. keeps_stay s rs r n w last now later v (λ _. current_node))

  -- ---- 3 climb and 4 blocked: node x is the ancestor at the record's place

  abbrev x : ℕ
  x = get_or (ancestors n) r.place 0

  module _ (b : r.place < length (ancestors n)) where
    deep : r.place < level n - 1
    deep = omega (arith, ancestors_count n)

    pub ancestor_is : x ≡ climb (suc r.place) n
    ancestor_is = ancestors_place n r.place deep

    pub ancestor_node : Node s.levels x × (level x ≢ s.levels)
    ancestor_node =
        let c = climb_level (suc r.place) n current_node.some (omega (arith, deep)) in
        let l = ap level ancestor_is in
        (record { some = omega (arith, ancestor_is, c.0); inside = omega (arith, c.1, current_node.inside) }, λ e. omega (arith, c.1, current_node.inside))

    -- back to the parent, or to wait at this ancestor
    back_to : 3 ≤ r.phase → r.phase ≤ 4 → (p place : ℕ) → 3 ≤ p → p ≤ 4 → place < length (ancestors n) → (p ≡ 3 → place ≡ 0) → Keeps s rs r x w w (with_place place (to_phase p r)) now
    back_to y z p place c d l f =
        let q = with_place place (to_phase p r) in
        let k = kin r q refl refl refl refl in
        let ahead : r.phase ≢ 10 = λ o. omega arith in
        let aheadq : p ≢ 10 = λ o. omega arith in
        keeps_quiet s rs r q x w now (λ _. ancestor_node.0) k refl ahead (onward_unreturned s q aheadq) refl refl refl
        (climbing_fit y (omega arith) p place r.t1 (omega (arith, rd.active.t1_past)) (inl (c, d, l)))
        (onward_low s rs nobody r now q k refl ahead aheadq (omega arith)
        (inl (by_eq p 3 (λ o. passing_climb q o ∙ f o) (λ o. passing_none q o (λ i. omega arith) (λ i. omega arith)))))

    pub blocked_keeps : r.phase ≡ 4 → Keeps s rs r x w w (unblocked r w) now
    unfolding unblocked
    blocked_keeps e =
        on_choose (λ q. Keeps s rs r x w w q now) (eqb (occ w) 0) (to_phase 3 r) r
        (λ _. back_to (omega arith) (omega arith) 3 0 (omega arith) (omega arith) (omega arith) (λ _. refl))
        (λ _. keeps_stay s rs r x w last now later v (λ _. ancestor_node.0))

    -- one ancestor more is clear: t is t1, or the clock, noted at the parent
    module _ (e : r.phase ≡ 3) (none : (d : ℕ) → owns s 3 x (get_or rs d nobody) ≡ 0) (t : ℕ) (m : ((r.place ≢ 0) × (t ≡ r.t1)) ⊎ ((r.place ≡ 0) × (t ≡ now))) where
      up_to : (p place : ℕ) → ((p ≡ 3) × (place ≡ suc r.place) × (place < length (ancestors n))) ⊎ ((p ≡ 5) × (place ≡ 0) × (level n - 1 ≡ suc r.place))
          → Keeps s rs r x w w (with_place place (to_phase p (with_t1 t r))) now
      unfolding piece_at pieces
      up_to p place o =
          let q = with_place place (to_phase p (with_t1 t r)) in
          let k = kin r q refl refl refl refl in
          let y : p ≤ 5 = ⊎_elim (λ z. omega (arith, z.0)) (λ z. omega (arith, z.0)) o in
          let aheadq : p ≢ 10 = λ z. omega arith in
          let ahead : r.phase ≢ 10 = λ z. omega arith in
          let was = passing_climb r e in
          let more : passing q ≡ suc (passing r) = ⊎_elim (λ z. passing_climb q z.0 ∙ z.1 ∙ ap suc (sym was)) (λ z. passing_claim q z.0 ∙ z.2 ∙ ap suc (sym was)) o in
          let noted : t ≤ now = ⊎_elim (λ z. omega (arith, z.1, rd.active.t1_past)) (λ z. omega (arith, z.1)) m in
          keeps_quiet s rs r q x w now (λ _. ancestor_node.0) k refl ahead (onward_unreturned s q aheadq) refl refl refl
          (climbing_fit (omega arith) (omega arith) p place t noted (⊎_elim (λ z. inl (omega (arith, z.0), omega (arith, z.0), z.2)) (λ z. inr (z.0, z.1)) o))
          (onward_low s rs nobody r now q k refl ahead aheadq y
          (inr (inr (more, ⊎_elim (λ z. inl ((λ o. z.0 (sym was ∙ o)), z.1)) (λ z. inr (was ∙ z.0, e, z.1)) m, λ d. ap (λ (a : ℕ). owns s 3 a (get_or rs d nobody)) (ap (λ (a : ℕ). climb (suc a) n) was ∙ sym ancestor_is) ∙ none d))))

      goes_up : Keeps s rs r x w w (go_up (with_t1 t r)) now
      unfolding go_up piece_at pieces
      goes_up =
          let count = length (ancestors n) in
          on_choose (λ q. Keeps s rs r x w w q now) (ltb (suc r.place) count) (with_place (suc r.place) (with_t1 t r)) (to_phase 5 (with_t1 t r))
          (λ y. up_to r.phase (suc r.place) (inl (e, refl, ltb→lt (suc r.place) count y)))
          (λ y. up_to 5 0 (inr (refl, refl, omega (arith, nltb→le (suc r.place) count y, ancestors_count n, deep))))

    module _ (e : r.phase ≡ 3) (none : (d : ℕ) → owns s 3 x (get_or rs d nobody) ≡ 0) where
      climbs : Keeps s rs r x w w (go_up (choose (eqb r.place 0) (with_t1 now r) r)) now
      climbs =
          on_choose (λ p. Keeps s rs r x w w (go_up p) now) (eqb r.place 0) (with_t1 now r) r
          (λ y. goes_up e none now (inr (eqb→eq r.place 0 y, refl)))
          (λ y. goes_up e none r.t1 (inl (neqb→ne r.place 0 y, refl)))

    pub climb_keeps : r.phase ≡ 3 → ((occ w ≡ 1 → ⊥) → (d : ℕ) → owns s 3 x (get_or rs d nobody) ≡ 0) → Keeps s rs r x w w (climbed r w now) now
    unfolding climbed
    climb_keeps e none =
        on_choose (λ q. Keeps s rs r x w w q now) (eqb (occ w) 1) (to_blocked r) (go_up (choose (eqb r.place 0) (with_t1 now r) r))
        (λ _. back_to (omega arith) (omega arith) 4 r.place (omega arith) (omega arith) b (λ f. absurd (omega arith)))
        (λ y. climbs e (none (neqb→ne (occ w) 1 y)))
