-- Laws: the step of phase 10 owes nothing to the invariant. Assumes nothing.
use Rattle.std.specs.Prelude.{◌≡◌, ◌≢◌, ◌⊎◌, true, false, List, eqb, ltb, length, get_or}
use Rattle.std.proofs.Math.Path.{refl, subst}
use Rattle.std.proofs.Common.{sym, ap, ◌∙◌, ⊎_elim, arith, eq-eqb, ne_eqb, eqb→eq, ltb→lt}
use Prim.Native.Nat.{ℕ, suc, ◌-◌, ◌≤◌, ◌<◌}
use Rattle.base.specs.laws.ChoiceLaws.{on_choose, by_lt, by_eq, neqb→ne}
use Rattle.base.specs.laws.TestLaws.{test_true}
use Rattle.word.specs.rules.Word.{tcnt, add_tcnt, add_dcnt, give_bits, return_occ}
use Rattle.tree.specs.rules.Tree.{level, Node}
use Rattle.tree.specs.rules.Lists.{notify_list}
use Rattle.lock.specs.declared.Record.{Record}
use Rattle.lock.specs.declared.Settings.{Settings}
use Rattle.lock.specs.rules.Records.{returning, pieces, piece_at, current_piece, given_piece, is_leaf, grip_of, notices_of, with_giving, with_grip, with_place, idle_with}
use Rattle.lock.specs.rules.Steps.{Moved, touched_in, word_returned, piece_returned, turn_returned, wanted}
use Rattle.lock.specs.laws.Rows.{leaves, return_bits, return_inner, give_back}
use Rattle.lock.specs.laws.Active.{Settled}
use Rattle.lock.proofs.laws.Placed.{placed, given_notices}
use Rattle.lock.proofs.laws.Pieces.{grip_before, grip_current, grip_after}
use Rattle.lock.proofs.laws.MoveLaws.{touched_own, touched_notice}
use Rattle.lock.proofs.laws.ReturnLaws.{own_leaf, own_inner, own_notice, inner_occ, inner_turn, inner_ticket}
use Rattle.lock.proofs.laws.Ready.{Ready}
use Rattle.lock.proofs.laws.WhenReadable.{readable_returning}
use Rattle.lock.proofs.claim.Fit.{Fit, ready_apart, fit_readable, idle_fit}
use Rattle.lock.proofs.claim.Effect.{Grips, Effect, turned, freed, passed, unnotified, gave, grips_then, notices_then}
use Rattle.lock.proofs.claim.InnerWords.{nobody}
use Rattle.lock.proofs.claim.Timed.{Timely}
use Rattle.lock.proofs.claim.Forward.{kin}
use Rattle.lock.proofs.claim.Backward.{own_returned, notice_returned, notice_back, word_returned_same, turn_returned_lem}
use Rattle.lock.proofs.claim.Onward.{asked_same, unclaimed_returning, unclaimed_first, timely_none}
use Rattle.lock.proofs.claim.Keeps.{Keeps, keeps_stay, notified_inner}

module _ (s : Settings) (rs : List Record) (r : Record) (last now : ℕ) (later : last ≤ now) (g : Settled s) (rd : Ready s r last) (v : Fit s r last) (w : ℕ) (e : r.phase ≡ 10) where
  abbrev n : ℕ
  n = given_piece r

  abbrev m : ℕ
  m = s.distance

  begun : r.giving < length (pieces r)
  begun = omega (arith, rd.active.giving_begun, rd.active.exists)

  node : Node s.levels n
  node = (ready_apart s r last rd).node r.giving begun

  -- a record that goes on returning: with this piece, grip and place
  still : (giving grip place : ℕ) → grip ≤ 3 → (level (current_piece r) ≡ s.levels → (grip ≡ 0) ⊎ (grip ≡ 3)) → (grip < 3 → r.notices ≡ 0) → giving ≤ r.current → grip_of (with_grip grip r) giving ≢ 0
      → place ≤ notices_of s r giving → Fit s (with_giving giving (with_grip grip (with_place place r))) now × Timely s rs nobody r (with_giving giving (with_grip grip (with_place place r))) now
  unfolding pieces piece_at grip_of notices_of
  still giving grip place a b c d f h =
      let z = with_giving giving (with_grip grip (with_place place r)) in (
        fit_readable s z now
            (readable_returning s z now g (asked_same s r z last now rd (kin r z refl refl refl refl) later refl refl refl refl refl rd.no_early_time) a b e (rd.outcome_some e) rd.outcome_most (rd.later_piece e) h rd.active.noticed c d f)
            (λ x. omega arith),
        timely_none s rs nobody r now z (unclaimed_returning z e),
      )

  -- with the grip that it has
  onwards : (giving place : ℕ) → giving ≤ r.current → grip_of r giving ≢ 0 → place ≤ notices_of s r giving
      → Fit s (with_place place (with_giving giving r)) now × Timely s rs nobody r (with_place place (with_giving giving r)) now
  onwards giving place = still giving r.grip place (rd.grip_most e) (rd.grip_leaf_returning e) rd.no_notices

  -- after a word is given back
  after_word : Fit s (word_returned s r) now × Timely s rs nobody r (word_returned s r) now
  unfolding word_returned piece_returned
  after_word =
      let P : Record → Type 0 = λ q. Fit s q now × Timely s rs nobody r q now in
      let next = suc r.giving in
      on_choose P (ltb r.place (notices_of s r r.giving)) (with_place (suc r.place) r) (piece_returned r)
      (λ t. onwards r.giving (suc r.place) rd.active.giving_begun (rd.giving_gripped e) (ltb→lt r.place (notices_of s r r.giving) t))
      (λ _. on_choose P (eqb (grip_of r next) 0) (idle_with r.outcome) (with_place 0 (with_giving next r))
      (λ _. (idle_fit s r.outcome now rd.outcome_most, timely_none s rs nobody r now (idle_with r.outcome) (unclaimed_first (idle_with r.outcome) refl (omega arith) (λ _. refl))))
      (λ t. let some = neqb→ne (grip_of r next) 0 t in
      onwards next 0 (by_lt r.current next (λ b. absurd (some (grip_after r next b))) (λ b. b)) some (omega arith)))

  pub grips : r.place ≡ 0 → (from : ℕ) → grip_of r r.giving ≡ from → Grips s r (word_returned s r) n from 0
  grips z from f =
      grips_then s r (with_place (suc r.place) r) (word_returned s r) (word_returned_same s r last rd (ready_apart s r last rd) e) n from 0 node.some
      (own_returned s r last rd (ready_apart s r last rd) e z from f)

  keeps : (v : ℕ) → Effect s r (word_returned s r) n w v → Keeps s rs r n w v (word_returned s r) now
  keeps v f = record { node = λ _. node; effect = f; fits = after_word.0; time = after_word.1 }

  -- ---- the own word of a leaf

  pub leaf_grip : level n ≡ s.levels → grip_of r r.giving ≡ 3
  leaf_grip leaf =
      by_lt r.giving r.current (λ b. grip_before r r.giving b)
      (λ b. let i : r.giving ≡ r.current = omega (arith, rd.active.giving_begun) in
      let here = grip_current r r.giving i in
      ⊎_elim (λ z. absurd (rd.giving_gripped e (here ∙ z))) (λ z. here ∙ z) (rd.grip_leaf_returning e (ap (λ (j : ℕ). level (piece_at r j)) (sym i) ∙ leaf)))

  pub bits_keeps : r.place ≡ 0 → level n ≡ s.levels → (return_bits s r w).number ≡ 0 → Keeps s rs r n w (return_bits s r w).word (return_bits s r w).next now
  unfolding return_bits
  bits_keeps z leaf =
      let swap = give_bits (wanted s r n) w in
      on_choose (λ (y : Moved). y.number ≡ 0 → Keeps s rs r n w y.word y.next now) swap.done (leaves swap.word (word_returned s r)) (record { number = 9; word = w; next = r })
      (λ t _. keeps swap.word (gave leaf (grips z 3 (leaf_grip leaf)) (test_true swap.done t) refl))
      (λ _ f. absurd (omega arith))

  -- ---- the own word of an inner node

  inner_most : grip_of r r.giving ≤ 3
  inner_most =
      by_lt r.giving r.current (λ b. omega (arith, grip_before r r.giving b))
      (λ b. omega (arith, grip_current r r.giving (omega (arith, rd.active.giving_begun)), rd.grip_most e))

  turn_keeps : r.place ≡ 0 → level n ≢ s.levels → grip_of r r.giving ≡ 1 → Keeps s rs r n w w (turn_returned r w) now
  unfolding turn_returned
  turn_keeps z inner one =
      let here : r.giving ≡ r.current = by_lt r.giving r.current (λ b. absurd (omega (arith, grip_before r r.giving b))) (λ b. omega (arith, rd.active.giving_begun)) in
      on_choose (λ q. Keeps s rs r n w w q now) (eqb (tcnt w) r.ticket) (with_grip 2 r) r
      (λ t. let after = still r.giving 2 r.place (omega arith) (λ l. absurd (inner (ap (λ (i : ℕ). level (piece_at r i)) here ∙ l)))
      (λ _. rd.no_notices (omega (arith, grip_current r r.giving here))) rd.active.giving_begun (λ y. omega (arith, grip_current (with_grip 2 r) r.giving here)) (rd.active.returning e) in
      record {
        node = λ _. node;
        effect = turned inner (turn_returned_lem s r last rd (ready_apart s r last rd) e z here one) (eqb→eq (tcnt w) r.ticket t) refl;
        fits = after.0;
        time = after.1;
      })
      (λ _. keeps_stay s rs r n w last now later v (λ _. node))

  pub inner_keeps : r.place ≡ 0 → level n ≢ s.levels → Keeps s rs r n w (return_inner s r w).word (return_inner s r w).next now
  inner_keeps z inner =
      by_eq (grip_of r r.giving) 3
      (λ f. rw (inner_occ s r w f) (keeps (return_occ w) (freed inner (grips z 3 f) refl)))
      (λ d. by_eq (grip_of r r.giving) 2
      (λ f. rw (inner_turn s r w f) (keeps (add_tcnt 1 w) (passed inner (grips z 2 f) refl)))
      (λ f. rw (inner_ticket s r w d f) (turn_keeps z inner (omega (arith, inner_most, rd.giving_gripped e)))))

  -- ---- a notice

  module _ (some : r.place ≢ 0) where
    abbrev x : ℕ
    x = get_or (notify_list m n) (r.place - 1) 0

    notice_node : Node s.levels x × (level x ≢ s.levels)
    notice_node = notified_inner s g n node (r.place - 1) (omega (arith, given_notices s r (placed s r last rd.active), rd.active.returning e))

    pub notice_keeps : Keeps s rs r x w (add_dcnt 1 w) (word_returned s r) now
    notice_keeps =
        let q = with_place (suc r.place) r in
        let same = word_returned_same s r last rd (ready_apart s r last rd) e in
        let b : 0 < r.place = by_lt 0 r.place (λ l. l) (λ l. absurd (some (omega arith))) in
        record {
          node = λ _. notice_node.0;
          effect = unnotified notice_node.1 (notices_then s r q (word_returned s r) same x (notice_returned s r last rd (ready_apart s r last rd) e b x refl))
              (notice_back s r last rd (ready_apart s r last rd) e b x refl ∙ ap suc (sym (same.notices x notice_node.0.some))) refl;
          fits = after_word.0;
          time = after_word.1;
        }

leaf_test : (s : Settings) (n : ℕ) → level n ≡ s.levels → is_leaf s n ≡ true
unfolding is_leaf
leaf_test s n e = eq-eqb (level n) s.levels e

inner_test : (s : Settings) (n : ℕ) → level n ≢ s.levels → is_leaf s n ≡ false
unfolding is_leaf
inner_test s n d = ne_eqb (level n) s.levels d

-- ---- the whole step, on the words of the tree

module _ (s : Settings) (rs : List Record) (r : Record) (last now : ℕ) (later : last ≤ now) (g : Settled s) (rd : Ready s r last) (v : Fit s r last) (e : r.phase ≡ 10) (word_of : ℕ → ℕ) where
  -- the step's work on the word of node y
  abbrev Owed : ℕ → Moved → Type 0
  Owed y d = d.number ≡ 0 → Keeps s rs r y (word_of y) d.word d.next now

  pub returning_keeps : Owed (touched_in s r returning) (give_back s r (word_of (touched_in s r returning)))
  unfolding is_leaf
  returning_keeps =
      by_eq r.place 0
      (λ z. let n = given_piece r in
      subst (λ (y : ℕ). Owed y (give_back s r (word_of y))) (sym (touched_own s r z))
      (by_eq (level n) s.levels
      (λ leaf. rw (own_leaf s r (word_of n) z (leaf_test s n leaf)) (bits_keeps s rs r last now later g rd v (word_of n) e z leaf))
      (λ inner. rw (own_inner s r (word_of n) z (inner_test s n inner)) (λ _. inner_keeps s rs r last now later g rd v (word_of n) e z inner))))
      (λ d. subst (λ (y : ℕ). Owed y (give_back s r (word_of y))) (sym (touched_notice s r d))
      (rw (own_notice s r (word_of (get_or (notify_list s.distance (given_piece r)) (r.place - 1) 0)) d) (λ _. notice_keeps s rs r last now later g rd v _ e d)))
