-- Laws: the step of phase 5 owes nothing to the invariant. Assumes nothing.
use Rattle.std.specs.Prelude.{◌≡◌, ◌≢◌, ◌⊎◌, true, false, List, ℕ, ◌≤◌, ◌<◌, length}
use Rattle.std.proofs.Math.Path.{refl, subst}
use Rattle.std.proofs.Common.{sym, ne_eqb}
use Rattle.std.proofs.Math.Logic.{inl, inr, ⊎_elim}
use native.Mathlib.Omega.{arith}
use Rattle.std.proofs.Math.Dec.{eqb→eq}
use Rattle.base.specs.laws.ChoiceLaws.{on_choose, neqb→ne}
use Rattle.base.specs.laws.TestLaws.{test_true, test_false}
use Rattle.word.specs.rules.Word.{add_occ, take_bits}
use Rattle.word.proofs.laws.Leaf.{wanted_lt}
use Rattle.word.proofs.laws.Swap.{take_failed}
use Rattle.tree.specs.rules.Tree.{left, level, Node}
use Rattle.tree.specs.rules.Lists.{notify_list}
use Rattle.tree.proofs.laws.Level.{level_root}
use Rattle.tree.proofs.laws.Ancestors.{ancestors_count}
use Rattle.tree.proofs.laws.Notify.{notify_count_lem}
use Rattle.tree.proofs.laws.Code.{bounded, count_none}
use Rattle.lock.specs.declared.Record.{Record}
use Rattle.lock.specs.declared.Settings.{Settings}
use Rattle.lock.specs.rules.Records.{pieces, piece_at, current_piece, is_leaf, is_root, to_phase, with_grip, with_t0}
use Rattle.lock.specs.rules.Steps.{Moved, bits_claimed, occ_claimed, wanted}
use Rattle.lock.specs.laws.Rows.{leaves, claim_piece}
use Rattle.lock.specs.laws.Active.{Settled}
use Rattle.lock.proofs.laws.Placed.{widen}
use Rattle.lock.proofs.laws.ActiveLaws.{below_root, notified}
use Rattle.lock.proofs.laws.Ready.{Ready}
use Rattle.lock.proofs.laws.WhenReadable.{readable_notify, readable_wait}
use Rattle.lock.proofs.claim.Fit.{Fit, ready_apart, fit_readable}
use Rattle.lock.proofs.claim.Effect.{claimed, took}
use Rattle.lock.proofs.claim.InnerWords.{nobody}
use Rattle.lock.proofs.claim.Stage.{stage_current, passing_climb, passing_claim, passing_notify, passing_none, checked_none}
use Rattle.lock.proofs.claim.Forward.{kin, onward_unreturned, forward_grips}
use Rattle.lock.proofs.claim.Onward.{untaken, asked_kin, asked_same, onward, onward_low}
use Rattle.lock.proofs.claim.Keeps.{Keeps, keeps_quiet}
use Rattle.lock.proofs.claim.Climbing.{climbing_fit}

module _ (s : Settings) (rs : List Record) (r : Record) (last now : ℕ) (later : last ≤ now) (g : Settled s) (rd : Ready s r last) (v : Fit s r last) (w : ℕ) (e : r.phase ≡ 5) where
  abbrev n : ℕ
  n = current_piece r

  current_node : Node s.levels n
  current_node = (ready_apart s r last rd).node r.current rd.active.exists

  ahead : r.phase ≢ 10
  ahead f = omega arith

  -- below the root some ancestor is notified
  notified_some : 2 ≤ level n → 0 < length (notify_list s.distance n)
  notified_some b = notified s.distance n g.distance_some g.distance_most (widen s.levels n g.levels_most current_node) b

  -- ---- "leaf: swap the wanted bits from all 0 to all 1; success to 6, failure to 3 at the parent"

  module _ (leaf : level n ≡ s.levels) where
    won : (take_bits (wanted s r n) w).done ≡ true → Keeps s rs r n w (take_bits (wanted s r n) w).word (to_phase 6 (with_grip 3 r)) now
    unfolding piece_at pieces
    won done =
        let q = to_phase 6 (with_grip 3 r) in
        let k = kin r q refl refl refl refl in
        let aheadq : q.phase ≢ 10 = λ f. omega arith in
        let at = stage_current q r.current refl in
        record {
          node = λ _. current_node;
          effect = took leaf
              (forward_grips s r q k refl (onward_unreturned s r ahead) (onward_unreturned s q aheadq) (ready_apart s r last rd) rd.active.exists 0 3 (rd.grip_leaf (omega arith) (omega arith) leaf) refl refl (λ _ _ _ _. refl))
              done refl;
          fits = fit_readable s q now
              (readable_notify s q now g (asked_same s r q last now rd k later refl refl refl refl refl (untaken s r q last now rd (omega arith) refl refl)) (rd.no_outcome ahead) (rd.no_giving ahead) refl refl (notified_some (omega (arith, g.levels_some)))
              (rd.no_notices (omega (arith, rd.grip_leaf (omega arith) (omega arith) leaf)))) (λ x. omega arith);
          time = onward s rs nobody r now q k refl ahead aheadq (λ _ _. inr (inr leaf)) (λ x _. absurd (omega arith))
              (λ l x. absurd (omega (arith, checked_none s q r.current (λ f. omega arith) (λ f. omega arith))))
              (inr (inl (omega (arith, passing_notify q refl, passing_claim r e), refl))) (λ x _. absurd (omega arith));
        }

    lost : (take_bits (wanted s r n) w).done ≡ false → Keeps s rs r n w (take_bits (wanted s r n) w).word (to_phase 3 r) now
    unfolding piece_at pieces
    lost failed =
        let q = to_phase 3 r in
        let k = kin r q refl refl refl refl in
        let aheadq : q.phase ≢ 10 = λ f. omega arith in
        let same = take_failed (wanted s r n) w (wanted_lt (left s.levels n) r.left r.right) failed in
        subst (λ (v : ℕ). Keeps s rs r n w v q now) (sym same)
        (keeps_quiet s rs r q n w now (λ _. current_node) k refl ahead (onward_unreturned s q aheadq) refl refl refl
        (climbing_fit s rs r last now later g rd v w (omega arith) (omega arith) 3 0 r.t1 (omega (arith, rd.active.t1_past)) (inl (omega arith, omega arith, omega (arith, ancestors_count n, g.levels_some))))
        (onward_low s rs nobody r now q k refl ahead aheadq (omega arith) (inl (passing_climb q refl))))

  -- ---- "Inner: Occ + 1, note t0, to 6 (root: to 7)"

  inner_to : level n ≢ s.levels → (p : ℕ) → ((p ≡ 6) × (n ≢ 1)) ⊎ ((p ≡ 7) × (n ≡ 1)) → Keeps s rs r n w (add_occ 1 w) (to_phase p (with_t0 now (with_grip 3 r))) now
  unfolding piece_at pieces
  inner_to inner p o =
      let q = to_phase p (with_t0 now (with_grip 3 r)) in
      let k = kin r q refl refl refl refl in
      let b : (6 ≤ p) × (p ≤ 7) = ⊎_elim (λ z. (omega (arith, z.0), omega (arith, z.0))) (λ z. (omega (arith, z.0), omega (arith, z.0))) o in
      let aheadq : p ≢ 10 = λ f. omega (arith, b.1) in
      let grip = rd.grip_inner (omega arith) (omega arith) inner in
      let root : 7 ≤ p → n ≡ 1 = λ x. ⊎_elim (λ z. absurd (omega (arith, z.0))) (λ z. z.1) o in
      let none = rd.no_notices (omega arith) in
      let every = asked_kin s r q last now rd k rd.active.exists rd.active.ticket_most (omega (arith, rd.active.t1_past)) (omega arith)
      (omega (arith, rd.active.taken_past)) (untaken s r q last now rd (omega arith) refl refl) in
      let at = stage_current q r.current refl in
      record {
        node = λ _. current_node;
        effect = claimed inner
            (forward_grips s r q k refl (onward_unreturned s r ahead) (onward_unreturned s q aheadq) (ready_apart s r last rd) rd.active.exists 2 3 grip refl refl (λ _ _ _ _. refl)) refl;
        fits = ⊎_elim
            (λ z. fit_readable s q now (readable_notify s q now g every (rd.no_outcome ahead) (rd.no_giving ahead) refl z.0
            (notified_some (below_root n current_node.some (ne_eqb n 1 z.1))) none) (λ x. omega (arith, z.0)))
            (λ z. record {
              readable = readable_wait s q now g every (rd.no_outcome ahead) (rd.no_giving ahead) refl rd.active.noticed z.0 inner refl;
              all_noticed = λ _ _. omega (
                arith,
                none,
                notify_count_lem s.distance n (bounded s.distance n g.distance_some g.distance_most (widen s.levels n g.levels_most current_node)),
                count_none s.distance (level n) (omega (arith, level_root n (omega (arith, z.1)))),
              );
            }) o;
        time = onward s rs nobody r now q k refl ahead aheadq (λ _ _. inr (inl (e, refl))) (λ x _. absurd (omega (arith, b.1)))
            (λ l x. absurd (omega (arith, checked_none s q r.current (λ f. omega (arith, b.1)) (λ f. omega (arith, b.1)))))
            (⊎_elim (λ z. inr (inl (omega (arith, passing_notify q z.0, passing_claim r e), refl))) (λ z. inl (passing_none q (λ f. omega (arith, z.0)) (λ f. omega (arith, z.0)) (λ f. omega (arith, z.0)))) o)
            (λ x _. inr (inr (root x)));
      }

  pub claim_keeps : Keeps s rs r n w (claim_piece s r w now).word (claim_piece s r w now).next now
  unfolding claim_piece bits_claimed occ_claimed is_leaf
  claim_keeps =
      let bits = wanted s r n in
      let swap = take_bits bits w in
      on_choose (λ (m : Moved). Keeps s rs r n w m.word m.next now) (is_leaf s n) (leaves swap.word (bits_claimed r swap.done)) (leaves (add_occ 1 w) (occ_claimed r now))
      (λ t. let leaf = eqb→eq (level n) s.levels t in
      on_choose (λ q. Keeps s rs r n w swap.word q now) swap.done (to_phase 6 (with_grip 3 r)) (to_phase 3 r)
      (λ d. won leaf (test_true swap.done d)) (λ d. lost leaf (test_false swap.done d)))
      (λ t. let inner = neqb→ne (level n) s.levels t in
      on_choose (λ (p : ℕ). Keeps s rs r n w (add_occ 1 w) (to_phase p (with_t0 now (with_grip 3 r))) now) (is_root n) 7 6
      (λ y. inner_to inner 7 (inr (refl, eqb→eq n 1 y))) (λ y. inner_to inner 6 (inl (refl, neqb→ne n 1 y))))
