-- Laws: what a returning step changes of what its record owns: one word more is given back, and then the next piece begins or the record is idle.
-- Assumes nothing.
use Rattle.std.specs.Prelude.{◌≡◌, ◌≢◌, eqb, length, get_or}
use Rattle.std.proofs.Math.Path.{refl, sym, ap}
use Rattle.std.proofs.Common.{ap₂, subst, ◌∙◌, arith}
use Prim.Native.Nat.{ℕ, suc, ◌+◌, ◌-◌, ◌≤◌, ◌<◌}
use Rattle.base.specs.rules.Choice.{choose}
use Rattle.base.specs.laws.ChoiceLaws.{by_lt, by_eq}
use Rattle.base.specs.laws.Sum.{sum_to, to_same, to_one, to_zero}
use Rattle.tree.specs.rules.Lists.{notify_list}
use Rattle.lock.specs.declared.Record.{Record}
use Rattle.lock.specs.declared.Settings.{Settings}
use Rattle.lock.specs.rules.Records.{pieces, piece_at, given_piece, grip_of, notices_of, with_place, with_giving, with_grip, idle_with}
use Rattle.lock.proofs.laws.Pieces.{grip_before, grip_current, grip_after, notices_current}
use Rattle.lock.specs.rules.Steps.{word_returned}
use Rattle.lock.proofs.laws.ReturnLaws.{piece_last, piece_next, word_more, word_last}
use Rattle.lock.proofs.laws.Ready.{Ready}
use Rattle.lock.proofs.claim.Owned.{returned, gripped, noticed, outstanding, owns_notice, returned_before, returned_here, returned_after, gripped_kept, gripped_returned, noticed_begun, noticed_none}
use Rattle.lock.proofs.claim.Fit.{Apart}
use Rattle.lock.proofs.claim.Effect.{Same, Grips, Notices}
use Rattle.lock.proofs.claim.Changes.{alike, grips_at, notices_out, notices_at, notices_less, out_here, out_other, out_returned, out_same}
use Rattle.lock.proofs.claim.Forward.{Empty, empty_same, fresh_empty}

-- two returning records that have given back as much have the same in hand
gripped_same : (s : Settings) (r q : Record) (i : ℕ) → returned s q i ≡ returned s r i → grip_of q i ≡ grip_of r i → gripped s q i ≡ gripped s r i
unfolding gripped
gripped_same s r q i e f = ap₂ (λ (x y : ℕ). choose (eqb x 0) y 0) e f

module _ (s : Settings) (r : Record) (last : ℕ) (rd : Ready s r last) (v : Apart s r) (e : r.phase ≡ 10) where
  abbrev g : ℕ
  g = r.giving

  -- the record when one word more is given back
  abbrev q : Record
  q = with_place (suc r.place) r

  begun : g ≤ r.current
  begun = rd.active.giving_begun

  exists : g < length (pieces r)
  exists = omega (arith, begun, rd.active.exists)

  within : r.place ≤ notices_of s r g
  within = rd.active.returning e

  pieces_same : pieces q ≡ pieces r
  unfolding pieces
  pieces_same = refl

  returned_else : (i : ℕ) → i ≢ g → returned s q i ≡ returned s r i
  unfolding notices_of piece_at pieces
  returned_else i d =
      by_lt i g (λ b. returned_before s q i e b ∙ sym (returned_before s r i e b)) (λ b. returned_after s q i e (omega arith) ∙ sym (returned_after s r i e (omega arith)))

  grip_alike : (i : ℕ) → grip_of q i ≡ grip_of r i
  unfolding grip_of
  grip_alike i = refl

  noticed_alike : (i : ℕ) → noticed s q i ≡ noticed s r i
  unfolding noticed notices_of piece_at pieces
  noticed_alike i = refl

  piece_alike : (i : ℕ) → piece_at q i ≡ piece_at r i
  unfolding piece_at pieces
  piece_alike i = refl

  was : returned s r g ≡ r.place
  was = returned_here s r g e refl

  is : returned s q g ≡ suc r.place
  is = returned_here s q g e refl

  grip_else : (i : ℕ) → i ≢ g → gripped s q i ≡ gripped s r i
  grip_else i d = gripped_same s r q i (returned_else i d) (grip_alike i)

  -- ---- the own word

  pub own_returned : r.place ≡ 0 → (from : ℕ) → grip_of r g ≡ from → Grips s r q (given_piece r) from 0
  own_returned z from f =
      grips_at s r q pieces_same refl refl v g from 0 exists (gripped_kept s r g (was ∙ z) ∙ f) (gripped_returned s q g (omega (arith, is))) (λ i _ d. grip_else i d)
      (λ n i _. by_eq i g
      (λ h. ap (λ (m : ℕ). sum_to m (λ j. outstanding s n q i j)) (noticed_alike i)
      ∙ to_same _ _ (noticed s r i) (λ j _. out_same s n r i j q (piece_alike i) (omega (arith, ap (returned s r) h, was)) (omega (arith, ap (returned s q) h, is))))
      (λ d. notices_out s r q pieces_same refl refl n i (noticed_alike i) (returned_else i d)))
      (λ _ _ _ _. refl)

  -- ---- the turn of a ticket that is given back has come

  pub turn_returned_lem : r.place ≡ 0 → g ≡ r.current → grip_of r g ≡ 1 → Grips s r (with_grip 2 r) (given_piece r) 1 2
  unfolding pieces noticed notices_of piece_at returned outstanding
  turn_returned_lem z here one =
      let p = with_grip 2 r in
      grips_at s r p refl refl refl v g 1 2 exists (gripped_kept s r g (was ∙ z) ∙ one) (gripped_kept s p g (was ∙ z) ∙ grip_current p g here)
      (λ i _ d. gripped_same s r p i refl
      (by_lt i g (λ b. grip_before p i (omega arith) ∙ sym (grip_before r i (omega arith))) (λ b. grip_after p i (omega arith) ∙ sym (grip_after r i (omega arith)))))
      (λ n i _. refl) (λ _ _ _ _. refl)

  -- ---- a notice

  module _ (some : 0 < r.place) (x : ℕ) (at : get_or (notify_list s.distance (given_piece r)) (r.place - 1) 0 ≡ x) where
    abbrev k : ℕ
    k = r.place - 1

    grips_alike : (i : ℕ) → gripped s q i ≡ gripped s r i
    grips_alike i =
        by_eq i g
        (λ h. gripped_returned s q i (omega (arith, ap (returned s q) h, is)) ∙ sym (gripped_returned s r i (omega (arith, ap (returned s r) h, was))))
        (grip_else i)

    listed : k < noticed s r g
    listed = omega (arith, noticed_begun s r g begun, within)

    -- of the piece's notices that one is back
    one_less : (n : ℕ) → sum_to (noticed s q g) (λ j. outstanding s n q g j) + outstanding s n r g k ≡ sum_to (noticed s r g) (λ j. outstanding s n r g j) + outstanding s n q g k
    one_less n =
        let same : (j : ℕ) → j < noticed s r g → j ≢ k → outstanding s n q g j ≡ outstanding s n r g j
        = λ j _ d. by_lt j k
        (λ b. out_returned s n q g j (omega (arith, is)) ∙ sym (out_returned s n r g j (omega (arith, was))))
        (λ b. out_same s n r g j q (piece_alike g) (omega (arith, was)) (omega (arith, is))) in
        ap (λ (m : ℕ). sum_to m (λ j. outstanding s n q g j) + outstanding s n r g k) (noticed_alike g)
        ∙ to_one (λ j. outstanding s n q g j) (λ j. outstanding s n r g j) (noticed s r g) k listed same

    back : (n : ℕ) → outstanding s n q g k ≡ 0
    back n = out_returned s n q g k (omega (arith, is))

    pub notice_returned : Notices s r q x
    notice_returned =
        notices_at s r q pieces_same refl refl (λ i _. grips_alike i) refl g exists (λ i _ _. noticed_alike i) (λ i _ d. returned_else i d) x
        (λ n d. omega (arith, one_less n, back n, out_other s n r g k (λ f. d (sym f ∙ at))))

    pub notice_back : owns_notice s x r ≡ suc (owns_notice s x q)
    notice_back =
        notices_less s r q pieces_same refl refl (λ i _. grips_alike i) refl g exists (λ i _ _. noticed_alike i) (λ i _ d. returned_else i d) x
        (omega (arith, one_less x, back x, out_here s x r g k (omega (arith, was)) at))

  -- ---- what comes after

  -- the next piece: that this one is given back is said by its number now
  next_same : notices_of s r g ≤ r.place → Same s q (with_place 0 (with_giving (suc g) r))
  unfolding pieces noticed notices_of piece_at grip_of
  next_same b =
      let p = with_place 0 (with_giving (suc g) r) in
      let back : (i : ℕ) → returned s p i ≡ returned s q i
      = λ i. by_lt i g
      (λ l. returned_before s p i e (omega arith) ∙ sym (returned_before s q i e l))
      (λ l. by_eq i g
      (λ h. returned_before s p i e (omega arith) ∙ (let z : suc (notices_of s r i) ≡ suc r.place = omega (arith, within, ap (notices_of s r) h) in z) ∙ sym (returned_here s q i e h))
      (λ d. by_eq i (suc g) (λ h. returned_here s p i e h) (λ f. returned_after s p i e (omega arith)) ∙ sym (returned_after s q i e (omega arith)))) in
      alike s q p refl refl refl (λ i _. gripped_same s q p i (back i) refl) (λ i _. refl) (λ i _. back i) (λ _ _ _. refl)

  -- nothing is left: the record owns nothing
  rest_empty : notices_of s r g ≤ r.place → grip_of r (suc g) ≡ 0 → Empty s q
  unfolding sum_to
  rest_empty b z =
      let last_one : r.current ≤ suc g = by_lt (suc g) r.current (λ l. absurd (omega (arith, grip_before r (suc g) l))) (λ l. l) in
      let no_grip : (i : ℕ) → g < i → grip_of r i ≡ 0 = λ i l. by_eq i (suc g) (λ h. ap (grip_of r) h ∙ z) (λ d. grip_after r i (omega arith)) in
      record {
        ungripped = λ i _. by_lt g i
            (λ l. gripped_kept s q i (returned_after s q i e l) ∙ grip_alike i ∙ no_grip i l)
            (λ l. by_eq i g (λ h. gripped_returned s q i (omega (arith, ap (returned s q) h, is))) (λ d. gripped_returned s q i (omega (arith, returned_before s q i e (omega arith)))));
        unnoticed = λ n i _. by_lt g i
            (λ l. ap (λ (m : ℕ). sum_to m (λ j. outstanding s n q i j)) (noticed_alike i ∙ by_lt r.current i
            (λ o. noticed_none s r i o)
            (λ o. noticed_begun s r i o ∙ notices_current s r i (omega arith) ∙ rd.no_notices (omega (arith, grip_current r i (omega arith), no_grip i l)))))
            (λ l. to_zero _ (noticed s q i) (λ j o. out_returned s n q i j
            (by_eq i g
            (λ h. omega (arith, noticed_alike i, noticed_begun s r i (omega (arith, begun)), ap (returned s q) h, is, ap (notices_of s r) h))
            (λ d. omega (arith, noticed_begun s q i (omega (arith, begun)), returned_before s q i e (omega arith))))));
      }

  plus_one : (n : ℕ) → suc n ≡ n + 1
  plus_one n = omega arith

  pub word_returned_same : Same s q (word_returned s r)
  word_returned_same =
      by_lt r.place (notices_of s r g)
      (λ b. rw (word_more s r b) (subst (λ (n : ℕ). Same s q (with_place n r)) (plus_one r.place) (alike s q q refl refl refl (λ _ _. refl) (λ _ _. refl) (λ _ _. refl) (λ _ _ _. refl))))
      (λ b. rw (word_last s r b) (by_eq (grip_of r (g + 1)) 0
      (λ z. rw (piece_last r z) (empty_same s q (idle_with r.outcome) (rest_empty b (ap (grip_of r) (plus_one g) ∙ z)) (fresh_empty s (idle_with r.outcome) (λ h. omega arith) refl refl refl)))
      (λ d. rw (piece_next r d) (subst (λ (n : ℕ). Same s q (with_place 0 (with_giving n r))) (plus_one g) (next_same b)))))
