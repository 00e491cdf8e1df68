-- Laws: where all other clients are idle the words hold what one client's record owns, and so nothing hinders it on its way to held. Assumes nothing.
use Rattle.std.specs.Prelude.{◌≡◌, refl, ◌≢◌, true, leb, ltb}
use Rattle.std.proofs.Math.Path.{sym, ap, subst}
use Rattle.std.proofs.Common.{◌∙◌, inl, inr}
use Prim.Native.Nat.{ℕ, suc, ◌+◌, ◌-◌, ◌≤◌, ◌<◌}
use native.Mathlib.Omega.{arith}
use Rattle.std.proofs.Math.ListN.{length, get_or}
use Rattle.base.specs.laws.ChoiceLaws.{on_choose, choose_ne}
use Rattle.base.specs.laws.Sum.{sum_by, sum_only, to_zero}
use Rattle.base.specs.laws.Tickets.{standing_drawn}
use Rattle.word.specs.rules.Word.{occ, tcnt, dcnt, dmax, take_bits}
use Rattle.word.proofs.laws.Fields.{field_lt}
use Rattle.word.proofs.laws.Leaf.{wanted_lt}
use Rattle.word.proofs.laws.Swap.{take_done}
use Rattle.tree.specs.rules.Tree.{climb, left, level, Above, Holds, Node}
use Rattle.tree.specs.rules.Lists.{ancestor, ancestors, notify_list, check_list}
use Rattle.tree.proofs.laws.Climb.{climb_add, left_pos}
use Rattle.tree.proofs.laws.Level.{climb_level}
use Rattle.tree.proofs.laws.Ancestors.{ancestors_count, ancestors_place}
use Rattle.tree.specs.laws.Notify.{notify_level}
use Rattle.tree.proofs.laws.Notify.{notify_count, notify_node, notify_count_lem, notify_place, notify_node_lem, notify_higher}
use Rattle.tree.proofs.laws.Check.{Checked, check_count, check_count_lem, check_place_lem, check_node, check_is}
use Rattle.tree.proofs.laws.Within.{within_above}
use Rattle.lock.specs.declared.Record.{Record}
use Rattle.lock.specs.declared.Settings.{Settings}
use Rattle.lock.specs.rules.Records.{Phase, phase_of, pieces, piece_at, current_piece, word_at}
use Rattle.lock.specs.rules.Steps.{touched_in, wanted}
use Rattle.lock.proofs.laws.ActiveLaws.{in_at}
use Rattle.lock.proofs.laws.Phases.{at_turn, at_climb, at_claim, at_check}
use Rattle.lock.proofs.laws.Pieces.{grip_current}
use Rattle.lock.proofs.laws.Progress.{Going, Free}
use Rattle.lock.proofs.laws.Ready.{Ready}
use Rattle.lock.proofs.claim.Owned.{reaches, owns, owns_unit, outstanding, owns_notice, noticed, reaches_yes, reaches_no, returned, returned_none, gripped_kept}
use Rattle.lock.proofs.claim.Fit.{covers, owns_here, bounded_piece, ready_apart, ready_noticed}
use Rattle.lock.proofs.claim.Forward.{Empty, empty_owns, empty_unit, empty_notice, fit_empty}
use Rattle.lock.proofs.claim.InnerWords.{nobody, ticket_of}
use Rattle.lock.proofs.claim.Invariant.{Invariant, leaf_bit}
use Rattle.lock.proofs.claim.Parts.{Parts, record_in}

-- ---- the pieces of one window are beside each other: none is above another

module _ (s : Settings) (r : Record) (last : ℕ) (v : Ready s r last) where
  pieces_beside : (i j : ℕ) → i < length (pieces r) → j < length (pieces r) → Above (piece_at r i) (piece_at r j) → ⊥
  unfolding piece_at
  pieces_beside i j a b above =
      let m = v.active.meets j b in
      let w = within_above s.levels (piece_at r j) (piece_at r i) m.node above in
      let high : Holds s.levels (piece_at r i) m.unit = record { low = omega (arith, w.from, m.holds.low); high = omega (arith, w.to, m.holds.high) } in
      let same = (covers s r v.active.window v.active.cover).disjoint (piece_at r i) (piece_at r j) m.unit (in_at (pieces r) i a) (in_at (pieces r) j b) high m.holds in
      omega (arith, above.higher, ap level same)

-- ---- a client alone

module _ (s : Settings) (st : Parts) (inv : Invariant s st) (c : ℕ) (client : c < length st.records) (others : (d : ℕ) → d ≢ c → (record_in st d).phase ≡ 0) where
  abbrev h : ℕ
  h = s.levels

  abbrev m : ℕ
  m = s.distance

  abbrev r : Record
  r = record_in st c

  abbrev n : ℕ
  n = current_piece r

  -- what all own is what it owns
  only : (f : Record → ℕ) → ((q : Record) → Empty s q → f q ≡ 0) → sum_by f st.records ≡ f r
  only f none = sum_only f st.records c nobody client (λ d e. none _ (fit_empty s (record_in st d) (st.clock d) (inv.fit d) (others d e)))

  module _ (v : Ready s r (st.clock c)) (way : Going r) where
    exists : r.current < length (pieces r)
    exists = v.active.exists

    node : Node h n
    node = (v.active.meets r.current exists).node

    own_here : (k : ℕ) → owns s k n r ≡ reaches k r.grip
    own_here k =
        owns_here s r (ready_apart s r (st.clock c) v) n r.current k exists refl
        ∙ ap (reaches k) (gripped_kept s r r.current (returned_none s r r.current (λ e. omega (arith, way.most))) ∙ grip_current r r.current refl)

    -- 2: its ticket is the only one that is out
    turn_come : r.phase ≡ 2 → tcnt (word_at st.words n) ≡ r.ticket
    turn_come e =
        let w = word_at st.words n in
        let own = owns s 1 n in
        let first = owns s 2 n in
        let k = (inv.inner n node (v.inner (inr (inl e)))).tickets in
        let grip = v.grip_turn e in
        let one : own r ≡ 1 = own_here 1 ∙ reaches_yes 1 r.grip (omega arith) in
        let none : first r ≡ 0 = own_here 2 ∙ reaches_no 2 r.grip (omega arith) in
        let sum = only own (λ q z. empty_owns s q z 1 n (omega arith)) in
        let stands = standing_drawn own first ticket_of nobody (tcnt w) r (λ z. omega arith) in
        omega (arith, k.small_c, k.small c one, k.within c one)

    -- 3: nobody has Occ of an ancestor, since none of its pieces is above another
    unclaimed : r.phase ≡ 3 → occ (word_at st.words (get_or (ancestors n) r.place 0)) ≢ 1
    unfolding owns
    unclaimed e z =
        let b = v.active.climbing (inl e) in
        let deep : suc r.place < level n = omega (arith, ancestors_count n) in
        let a = get_or (ancestors n) r.place 0 in
        let is : a ≡ climb (suc r.place) n = ancestors_place n r.place (omega (arith, ancestors_count n)) in
        let up = climb_level (suc r.place) n node.some deep in
        let high : level a ≡ level n - suc r.place = ap level is ∙ up.1 in
        let above : Above a n = record {
          higher = omega arith;
          meets = ap (λ (k : ℕ). climb k n) (let q : level n - level a ≡ suc r.place = omega arith in q) ∙ sym is;
        } in
        let inner = inv.inner a (record { some = omega (arith, is, up.0); inside = omega (arith, node.inside) }) (λ q. omega (arith, node.inside)) in
        let none : owns s 3 a r ≡ 0 = to_zero _ (length (pieces r)) (λ i l.
        choose_ne (piece_at r i) a _ 0 (λ q. pieces_beside s r (st.clock c) v i r.current l exists (subst (λ (x : ℕ). Above x n) (sym q) above))) in
        omega (arith, inner.occ_is, only (owns s 3 a) (λ q y. empty_owns s q y 3 a (omega arith)))

    -- 5: nobody has a bit of its leaf
    bits_clear : r.phase ≡ 5 → level n ≡ h → (take_bits (wanted s r n) (word_at st.words n)).done ≡ true
    unfolding owns_unit
    bits_clear e l =
        let none : owns s 3 n r ≡ 0 = own_here 3 ∙ reaches_no 3 r.grip (omega (arith, v.grip_leaf (omega arith) (omega arith) l)) in
        (take_done (wanted s r n) (word_at st.words n) (wanted_lt (left h n) r.left r.right)).1 (λ b few _.
        let at = leaf_bit s st inv n node l b few in
        let own : owns_unit s at.0 r ≡ 0 = on_choose (λ (x : ℕ). x ≡ 0) (leb r.left at.0) _ 0
        (λ _. on_choose (λ (x : ℕ). x ≡ 0) (ltb at.0 r.right) _ 0 (λ _. ap (λ (x : ℕ). owns s 3 x r) at.1 ∙ none) (λ _. refl)) (λ _. refl) in
        at.2 ∙ only (owns_unit s at.0) (λ q y. empty_unit s q y at.0) ∙ own)

    -- 8: nobody has a notice at a node that it checks, since its pieces notify only what is above them
    unnotified : (x : ℕ) → Node h x → level n ≤ level x → climb (level x - level n) x ≡ n → owns_notice s x r ≡ 0
    unfolding owns_notice outstanding ancestor
    unnotified x y low meets =
        to_zero _ (length (pieces r)) (λ i l. to_zero _ (noticed s r i) (λ j k.
        on_choose (λ (z : ℕ). z ≡ 0) (leb (returned s r i) (suc j)) _ 0 (λ _. choose_ne (get_or (notify_list m (piece_at r i)) j 0) x 1 0 (other i l j k)) (λ _. refl)))
      where
        other : (i : ℕ) → i < length (pieces r) → (j : ℕ) → j < noticed s r i → get_or (notify_list m (piece_at r i)) j 0 ≢ x
        other i l j k e =
            let p = piece_at r i in
            let bounded = bounded_piece s r (ready_apart s r (st.clock c) v) inv.settled (ready_noticed s r (st.clock c) v) i l in
            let few : j < length (notify_list m p) = omega (arith, ready_noticed s r (st.clock c) v i l) in
            let listed : j < notify_count m (level p) = omega (arith, notify_count_lem m p bounded) in
            let is : notify_node m p j ≡ x = sym (notify_place m p bounded j listed) ∙ e in
            let up = notify_node_lem m p bounded j listed (v.active.meets i l).node.some in
            let high = notify_higher m (level p) j bounded listed in
            let at : level x ≡ notify_level m (level p) j = ap level (sym is) ∙ up.1 in
            let path : climb (level x - level n + (level p - notify_level m (level p) j)) p ≡ n = climb_add (level x - level n) (level p - notify_level m (level p) j) p ∙ ap (climb (level x - level n)) is ∙ meets in
            pieces_beside s r (st.clock c) v r.current i exists l
            (record { higher = omega arith; meets = ap (λ (q : ℕ). climb q p) (let q : level p - level n ≡ level x - level n + (level p - notify_level m (level p) j) = omega arith in q) ∙ path })

    answered : r.phase ≡ 8 → dcnt (word_at st.words (get_or (check_list h m n) r.place 0)) ≡ dmax (word_at st.words (get_or (check_list h m n) r.place 0))
    unfolding ancestor check_node
    answered e =
        let x = get_or (check_list h m n) r.place 0 in
        let listed : r.place < check_count h m n = omega (arith, v.active.checking e, check_count_lem h m n) in
        let is : x ≡ check_node n r.place = check_place_lem h m n r.place listed in
        let k = subst (Checked h m n) (sym is) (check_is n node.some h m inv.settled.distance_some r.place listed) in
        let y : Node h x = record { some = omega (arith, is, left_pos (level (suc r.place) - 1) n node.some); inside = omega (arith, k.inner) } in
        let w = word_at st.words x in
        omega (arith, (inv.inner x y (λ q. omega (arith, k.inner))).notices, field_lt 16 16 w, only (owns_notice s x) (λ q z. empty_notice s q z x), unnotified x y k.low k.meets)

    pub free : Free s r (word_at st.words (touched_in s r (phase_of r.phase)))
    unfolding touched_in
    free =
        let at : (p : Phase) → phase_of r.phase ≡ p → word_at st.words (touched_in s r p) ≡ word_at st.words (touched_in s r (phase_of r.phase))
        = λ p e. ap (λ (x : Phase). word_at st.words (touched_in s r x)) (sym e) in
        record {
          turn_come = λ e. subst (λ (w : ℕ). tcnt w ≡ r.ticket) (at _ (at_turn r.phase e)) (turn_come e);
          unclaimed = λ e. subst (λ (w : ℕ). occ w ≢ 1) (at _ (at_climb r.phase e)) (unclaimed e);
          bits_clear = λ e l. subst (λ (w : ℕ). (take_bits (wanted s r n) w).done ≡ true) (at _ (at_claim r.phase e)) (bits_clear e l);
          answered = λ e. subst (λ (w : ℕ). dcnt w ≡ dmax w) (at _ (at_check r.phase e)) (answered e);
        }
