-- Laws: the steps of phases 7 and 8 owe nothing to the invariant. Assumes nothing.
use Rattle.std.specs.Prelude.{◌≡◌, ◌≢◌, ◌⊎◌, List, ℕ, suc, ◌-◌, ◌≤◌, ◌<◌, eqb, leb, ltb, get_or}
use Rattle.std.proofs.Math.Path.{refl, ap}
use Rattle.std.proofs.Common.{sym, subst, ◌∙◌, eqb→eq, leb→le, ltb→lt}
use Rattle.std.proofs.Math.Logic.{inl, inr}
use native.Mathlib.Omega.{arith}
use Rattle.std.proofs.Math.Dec.{nltb→le}
use Rattle.std.proofs.Math.ListN.{length}
use Rattle.base.specs.rules.Choice.{choose}
use Rattle.base.specs.laws.ChoiceLaws.{on_choose, by_lt, by_eq}
use Rattle.word.specs.rules.Word.{dcnt, dmax}
use Rattle.tree.specs.rules.Tree.{level, Node}
use Rattle.tree.specs.rules.Lists.{check_list}
use Rattle.tree.proofs.laws.Climb.{left_pos}
use Rattle.tree.proofs.laws.Check.{check_count, check_node, check_count_lem, check_place_lem, check_is}
use Rattle.lock.specs.declared.Record.{Record}
use Rattle.lock.specs.declared.Settings.{Settings}
use Rattle.lock.specs.rules.Records.{pieces, piece_at, current_piece, to_phase, with_place, with_taken}
use Rattle.lock.specs.rules.Steps.{taken, waited, check_passed}
use Rattle.lock.specs.laws.Active.{Settled}
use Rattle.lock.proofs.laws.ActiveLaws.{checked}
use Rattle.lock.proofs.laws.Ready.{Ready}
use Rattle.lock.proofs.laws.WhenReadable.{readable_check}
use Rattle.lock.proofs.claim.Owned.{owns_notice}
use Rattle.lock.proofs.claim.Fit.{Fit, ready_apart}
use Rattle.lock.proofs.claim.Effect.{quiet}
use Rattle.lock.proofs.claim.InnerWords.{nobody}
use Rattle.lock.proofs.claim.Stage.{checked_to, stage_current, passing_none, checked_some, checked_all}
use Rattle.lock.proofs.claim.Forward.{kin, onward_unreturned}
use Rattle.lock.proofs.claim.Onward.{untaken, asked_same, onward}
use Rattle.lock.proofs.claim.Keeps.{Keeps, keeps_stay, keeps_quiet}
use Rattle.lock.proofs.claim.Taking.{taken_keeps}

module _ (s : Settings) (rs : List Record) (r : Record) (last now : ℕ) (later : last ≤ now) (g : Settled s) (rd : Ready s r last) (v : Fit s r last) (w : ℕ) where
  abbrev n : ℕ
  n = current_piece r

  -- r at this place in 8
  to_check : (place : ℕ) → 7 ≤ r.phase → r.phase ≤ 8 → place < length (check_list s.levels s.distance n) → Fit s (with_place place (to_phase 8 r)) now
  unfolding pieces piece_at
  to_check place a b l =
      let q = with_place place (to_phase 8 r) in
      let ahead : r.phase ≢ 10 = λ f. omega arith in
      record {
        readable = readable_check s q now g (asked_same s r q last now rd (kin r q refl refl refl refl) later refl refl refl refl refl (untaken s r q last now rd (omega arith) refl refl)) (rd.no_outcome ahead) (rd.no_giving ahead)
            (rd.claimed (omega arith) (omega arith)) rd.active.noticed refl (rd.inner (inr (inr (by_eq r.phase 7 inl (λ d. inr (omega arith)))))) l;
        all_noticed = λ _ _. v.all_noticed (omega arith) (omega arith);
      }

  -- ---- 7 wait

  over : r.phase ≡ 7 → s.wait ≤ now - r.t0 → Keeps s rs r 0 w w (to_phase 8 r) now
  unfolding pieces piece_at
  over e b =
      let q = to_phase 8 r in
      let k = kin r q refl refl refl refl in
      let ahead : r.phase ≢ 10 = λ f. omega arith in
      let aheadq : q.phase ≢ 10 = λ f. omega arith in
      let at = stage_current q r.current refl in
      let inner = rd.inner (inr (inr (inl e))) in
      let some_below_lem : level n < s.levels = omega (arith, ((ready_apart s r last rd).node r.current rd.active.exists).inside) in
      keeps_quiet s rs r q 0 w now (λ d. absurd (d refl)) k refl ahead (onward_unreturned s q aheadq) refl refl refl
      (to_check 0 (omega arith) (omega arith) (checked s.levels s.distance n g.distance_some some_below_lem))
      (onward s rs nobody r now q k refl ahead aheadq (λ _ a. absurd (omega arith)) (λ _ _. inr (inl (e, b)))
      (λ l a. absurd (omega (arith, checked_some s q r.current at))) (inl (passing_none q (λ f. omega arith) (λ f. omega arith) (λ f. omega arith))) (λ _ _. inl (omega arith, omega arith)))

  pub wait_keeps : r.phase ≡ 7 → Keeps s rs r 0 w w (waited s r now) now
  unfolding waited
  wait_keeps e =
      on_choose (λ q. Keeps s rs r 0 w w q now) (leb s.wait (now - r.t0)) (to_phase 8 r) r
      (λ t. over e (leb→le s.wait (now - r.t0) t)) (λ _. keeps_stay s rs r 0 w last now later v (λ d. absurd (d refl)))

  -- ---- 8 check

  module _ (e : r.phase ≡ 8) where
    abbrev h : ℕ
    h = s.levels

    abbrev m : ℕ
    m = s.distance

    abbrev x : ℕ
    x = get_or (check_list h m n) r.place 0

    listed : r.place < check_count h m n
    listed = omega (arith, rd.active.checking e, check_count_lem h m n)

    checked_is : x ≡ check_node n r.place
    checked_is = check_place_lem h m n r.place listed

    -- the checked node is an inner node of the tree
    pub checked_node : Node h x × (level x ≢ h)
    unfolding check_node
    checked_node =
        let node = (ready_apart s r last rd).node r.current rd.active.exists in
        let c = check_is n node.some h m g.distance_some r.place listed in
        let l = ap level checked_is in
        (record { some = omega (arith, checked_is, left_pos (level (suc r.place) - 1) n node.some); inside = omega (arith, c.inner) }, λ f. omega (arith, c.inner))

    ahead : r.phase ≢ 10
    ahead f = omega arith

    at_r : checked_to s r r.current ≡ r.place
    at_r = checked_some s r r.current (stage_current r r.current refl ∙ e)

    module _ (none : (d : ℕ) → owns_notice s x (get_or rs d nobody) ≡ 0) where
      -- one node more is checked
      one_more : (l : ℕ) → l < suc r.place
          → (l < checked_to s r r.current) ⊎ (((d : ℕ) → owns_notice s (check_node n l) (get_or rs d nobody) ≡ 0) ⊎ (level n ≡ h))
      one_more l b =
          by_lt l r.place (λ a. inl (omega (arith, at_r)))
          (λ a. let f : check_node n l ≡ x = ap (check_node n) (let i : l ≡ r.place = omega arith in i) ∙ sym checked_is in
          inr (inl (λ d. ap (λ (y : ℕ). owns_notice s y (get_or rs d nobody)) f ∙ none d)))

      more_keeps : suc r.place < length (check_list h m n) → Keeps s rs r x w w (with_place (suc r.place) r) now
      unfolding pieces piece_at
      more_keeps b =
          let q = with_place (suc r.place) r in
          let k = kin r q refl refl refl refl in
          let at = checked_some s q r.current (stage_current q r.current refl ∙ e) in
          keeps_quiet s rs r q x w now (λ _. checked_node.0) k refl ahead (onward_unreturned s q ahead) refl refl refl
          (subst (λ (p : ℕ). Fit s (with_place (suc r.place) (to_phase p r)) now) (sym e) (to_check (suc r.place) (omega arith) (omega arith) b))
          (onward s rs nobody r now q k refl ahead ahead (λ _ a. absurd (omega arith)) (λ a b. inl (a, b)) (λ l b. one_more l (omega arith))
          (inl (passing_none q (λ f. omega arith) (λ f. omega arith) (λ f. omega arith))) (λ a b. inl (a, b)))

      last_keeps : check_count h m n ≤ suc r.place → Keeps s rs r x w w (taken s r now) now
      unfolding pieces piece_at
      last_keeps b =
          taken_keeps s rs r r.notices last now later g rd ahead (rd.claimed (omega arith) (omega arith)) (v.all_noticed (omega arith) (omega arith))
          x w w (λ _. checked_node.0) (λ p y. quiet refl y)
          (λ t. let q = to_phase 9 (with_taken t r) in
          let at = checked_all s q r.current (stage_current q r.current refl) in
          onward s rs nobody r now q (kin r q refl refl refl refl) refl ahead (λ f. omega arith) (λ _ a. absurd (omega arith)) (λ _ _. inl (omega arith, omega arith)) (λ l c. one_more l (omega arith))
          (inl (passing_none q (λ f. omega arith) (λ f. omega arith) (λ f. omega arith))) (λ _ _. inl (omega arith, omega arith)))

    pub check_keeps : (dcnt w ≡ dmax w → (d : ℕ) → owns_notice s x (get_or rs d nobody) ≡ 0) → Keeps s rs r x w w (check_passed s r w now) now
    unfolding check_passed
    check_keeps none =
        let count = length (check_list h m n) in
        on_choose (λ q. Keeps s rs r x w w q now) (eqb (dcnt w) (dmax w)) (choose (ltb (suc r.place) count) (with_place (suc r.place) r) (taken s r now)) r
        (λ t. let clear = none (eqb→eq (dcnt w) (dmax w) t) in
        on_choose (λ q. Keeps s rs r x w w q now) (ltb (suc r.place) count) (with_place (suc r.place) r) (taken s r now)
        (λ y. more_keeps clear (ltb→lt (suc r.place) count y))
        (λ y. last_keeps clear (omega (arith, nltb→le (suc r.place) count y, check_count_lem h m n))))
        (λ _. keeps_stay s rs r x w last now later v (λ _. checked_node.0))
