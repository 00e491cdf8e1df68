-- Laws: the step of phase 6 owes nothing to the invariant. Assumes nothing.
use Rattle.std.specs.Prelude.{◌≡◌, ◌≢◌, List, ℕ, suc, ◌≤◌, ◌<◌, ltb, length, get_or}
use Rattle.std.proofs.Math.Path.{refl}
use Rattle.std.proofs.Common.{sym, ap, ◌∙◌, eqb→eq, ltb→lt, nltb→le}
use Rattle.std.proofs.Math.Logic.{inl, inr}
use native.Mathlib.Omega.{arith}
use Rattle.base.specs.laws.ChoiceLaws.{on_choose, neqb→ne}
use Rattle.base.specs.laws.TestLaws.{test_false}
use Rattle.word.specs.rules.Word.{add_dmax}
use Rattle.tree.specs.rules.Tree.{level, Node}
use Rattle.tree.specs.rules.Lists.{notify_list}
use Rattle.tree.proofs.laws.Level.{level_pos}
use Rattle.lock.specs.declared.Record.{Record}
use Rattle.lock.specs.declared.Settings.{Settings}
use Rattle.lock.specs.rules.Records.{pieces, piece_at, current_piece, is_leaf, grip_of, to_phase, with_place, with_notices, with_taken, sent_back}
use Rattle.lock.specs.rules.Steps.{taken, late, all_notified, notice_given}
use Rattle.lock.specs.laws.Active.{Settled}
use Rattle.lock.proofs.laws.LateLaws.{InTime, not_late}
use Rattle.lock.proofs.laws.Pieces.{first_gripped}
use Rattle.lock.proofs.laws.Ready.{Ready, any_grip_leaf, any_grip_most}
use Rattle.lock.proofs.laws.WhenReadable.{readable_notify, readable_wait, readable_returning}
use Rattle.lock.proofs.claim.Fit.{ready_apart, fit_readable}
use Rattle.lock.proofs.claim.Effect.{Same, Effect, notified, notices_then}
use Rattle.lock.proofs.claim.InnerWords.{nobody}
use Rattle.lock.proofs.claim.Stage.{passing, stage_current, passing_notify, passing_none, checked_none}
use Rattle.lock.proofs.claim.Forward.{Kin, kin, onward_unreturned, entering_unreturned, forward_same, forward_notices, forward_notified}
use Rattle.lock.proofs.claim.Onward.{untaken, asked_same, onward, unclaimed_returning, timely_none}
use Rattle.lock.proofs.claim.Keeps.{Keeps, notified_inner}
use Rattle.lock.proofs.claim.Taking.{taken_keeps}

module _ (s : Settings) (rs : List Record) (r : Record) (last now : ℕ) (later : last ≤ now) (g : Settled s) (rd : Ready s r last) (w : ℕ) (e : r.phase ≡ 6) where
  abbrev n : ℕ
  n = current_piece r

  abbrev m : ℕ
  m = s.distance

  abbrev x : ℕ
  x = get_or (notify_list m n) r.place 0

  listed : r.place < length (notify_list m n)
  listed = rd.active.notifying e

  notified_node : Node s.levels x × (level x ≢ s.levels)
  notified_node = notified_inner s g n ((ready_apart s r last rd).node r.current rd.active.exists) r.place listed

  ahead : r.phase ≢ 10
  ahead f = omega arith

  grip : r.grip ≡ 3
  grip = rd.claimed (omega arith) (omega arith)

  -- r with one notice more
  abbrev p : Record
  p = with_notices (suc r.place) r

  kin_p : Kin r p
  kin_p = kin r p refl refl refl refl

  given : (q : Record) → Same s p q → Effect s r q x w (add_dmax 1 w)
  given q y =
      let un = onward_unreturned s r ahead in
      let unp = onward_unreturned s p ahead in
      let more : suc r.place ≡ suc r.notices = ap suc (sym (rd.notices_place e)) in
      let at : get_or (notify_list m n) r.notices 0 ≡ x = ap (λ (i : ℕ). get_or (notify_list m n) i 0) (rd.notices_place e) in
      notified notified_node.1
      (notices_then s r p q y x (forward_notices s r p kin_p refl un unp (ready_apart s r last rd) rd.active.exists refl more refl x at))
      (y.notices x notified_node.0.some ∙ forward_notified s r p kin_p refl un unp (ready_apart s r last rd) rd.active.exists refl more refl x at) refl

  -- ---- not the last

  more_keeps : suc r.place < length (notify_list m n) → Keeps s rs r x w (add_dmax 1 w) (with_place (suc r.place) p) now
  unfolding pieces piece_at
  more_keeps b =
      let q = with_place (suc r.place) p in
      let k = kin r q refl refl refl refl in
      let at = stage_current q r.current refl in
      record {
        node = λ _. notified_node.0;
        effect = given q (forward_same s p q (record { pieces_same = refl; left_same = refl; right_same = refl }) refl (onward_unreturned s p ahead) (onward_unreturned s q ahead) refl refl refl);
        fits = fit_readable s q now (readable_notify s q now g (asked_same s r q last now rd k later refl refl refl refl refl (untaken s r q last now rd (omega arith) refl refl)) (rd.no_outcome ahead) (rd.no_giving ahead) grip e b refl) (λ a. omega arith);
        time = onward s rs nobody r now q k refl ahead ahead (λ a b. inl (a, b, refl)) (λ a _. absurd (omega arith))
            (λ l a. absurd (omega (arith, checked_none s q r.current (λ f. omega arith) (λ f. omega arith))))
            (inr (inl (omega (arith, passing_notify q e, passing_notify r e), refl))) (λ a _. absurd (omega arith));
      }

  -- ---- the last

  module _ (b : length (notify_list m n) ≤ suc r.place) where
    whole : suc r.place ≡ length (notify_list m n)
    whole = omega (arith, listed)

    -- late, which "gives outcome 2 and 10": so with each outcome o from 1 to 3
    late_keeps : (o : ℕ) → o ≢ 0 → o < 4 → Keeps s rs r x w (add_dmax 1 w) (sent_back o p) now
    unfolding pieces piece_at
    late_keeps o some few =
        let q = sent_back o p in
        let k = kin r q refl refl refl refl in
        record {
          node = λ _. notified_node.0;
          effect = given q (forward_same s p q (record { pieces_same = refl; left_same = refl; right_same = refl }) refl (onward_unreturned s p ahead)
              (entering_unreturned s q refl (rd.no_giving ahead) refl) refl refl refl);
          fits = fit_readable s q now
              (readable_returning s q now g (asked_same s r q last now rd k later refl refl refl refl refl (untaken s r q last now rd (omega arith) refl refl)) (any_grip_most s r last rd) (any_grip_leaf s r last rd) refl some (omega arith) (λ z. absurd (omega arith)) (omega arith) (omega (arith, whole))
              (λ a. absurd (omega (arith, grip))) rd.active.giving_begun (λ z. first_gripped q (λ y. omega (arith, grip)) (ap (grip_of q) (sym (rd.no_giving ahead)) ∙ z))) (λ a. omega arith);
          time = timely_none s rs nobody r now q (unclaimed_returning q refl);
        }

    module _ (in_time : InTime s.wait r.t1 now) where
      -- all ancestors were passed
      all_passed : level n ≤ suc (passing r)
      all_passed = omega (arith, passing_notify r e, level_pos n)

      -- "else inner to 7"
      inner_keeps : level n ≢ s.levels → Keeps s rs r x w (add_dmax 1 w) (to_phase 7 p) now
      unfolding pieces piece_at
      inner_keeps inner =
          let q = to_phase 7 p in
          let k = kin r q refl refl refl refl in
          let at = stage_current q r.current refl in
          record {
            node = λ _. notified_node.0;
            effect = given q (forward_same s p q (record { pieces_same = refl; left_same = refl; right_same = refl }) refl (onward_unreturned s p ahead) (onward_unreturned s q (λ f. omega arith)) refl refl refl);
            fits = record {
              readable = readable_wait s q now g (asked_same s r q last now rd k later refl refl refl refl refl (untaken s r q last now rd (omega arith) refl refl)) (rd.no_outcome ahead) (rd.no_giving ahead) grip (omega (arith, whole)) refl inner refl;
              all_noticed = λ _ _. whole;
            };
            time = onward s rs nobody r now q k refl ahead (λ f. omega arith) (λ _ _. inl (omega arith, omega arith, refl)) (λ a _. absurd (omega arith))
                (λ l a. absurd (omega (arith, checked_none s q r.current (λ f. omega arith) (λ f. omega arith))))
                (inl (passing_none q (λ f. omega arith) (λ f. omega arith) (λ f. omega arith))) (λ _ _. inr (inl (all_passed, e, in_time)));
          }

      -- "a leaf is taken"
      leaf_keeps : level n ≡ s.levels → Keeps s rs r x w (add_dmax 1 w) (taken s p now) now
      unfolding pieces piece_at
      leaf_keeps leaf =
          taken_keeps s rs r (suc r.place) last now later g rd ahead grip whole x w (add_dmax 1 w) (λ _. notified_node.0) given
          (λ t. let q = to_phase 9 (with_taken t p) in
          onward s rs nobody r now q (kin r q refl refl refl refl) refl ahead (λ f. omega arith) (λ _ a. absurd (omega arith)) (λ _ _. inr (inr leaf)) (λ l _. inr (inr leaf))
          (inl (passing_none q (λ f. omega arith) (λ f. omega arith) (λ f. omega arith))) (λ _ _. inr (inl (all_passed, e, in_time))))

    last_keeps : Keeps s rs r x w (add_dmax 1 w) (all_notified s p now) now
    unfolding all_notified is_leaf pieces piece_at
    last_keeps =
        on_choose (λ q. Keeps s rs r x w (add_dmax 1 w) q now) (late s p now) _ _
        (λ _. late_keeps _ (λ z. omega arith) (omega arith))
        (λ t. let in_time = not_late s p now (test_false (late s p now) t) in
        on_choose (λ q. Keeps s rs r x w (add_dmax 1 w) q now) (is_leaf s n) (taken s p now) (to_phase 7 p)
        (λ y. leaf_keeps in_time (eqb→eq (level n) s.levels y)) (λ y. inner_keeps in_time (neqb→ne (level n) s.levels y)))

  pub notify_keeps : Keeps s rs r x w (add_dmax 1 w) (notice_given s r now) now
  unfolding notice_given
  notify_keeps =
      on_choose (λ q. Keeps s rs r x w (add_dmax 1 w) q now) (ltb (suc r.place) (length (notify_list m n))) (with_place (suc r.place) p) (all_notified s p now)
      (λ t. more_keeps (ltb→lt (suc r.place) (length (notify_list m n)) t)) (λ t. last_keeps (nltb→le (suc r.place) (length (notify_list m n)) t))
