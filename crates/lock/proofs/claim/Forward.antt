-- Laws: what a step in one of the phases 1 .. 9 changes of what its record owns, from the fields that it changes. Assumes nothing.
use Rattle.std.specs.Prelude.{◌≡◌, ◌≢◌, [], ◌∷◌, eqb, leb, ltb, length}
use Rattle.std.proofs.Math.Path.{refl, ap}
use Rattle.std.proofs.Common.{sym, ◌∙◌, arith}
use Prim.Native.Nat.{ℕ, suc, ◌+◌, ◌≤◌, ◌<◌}
use Rattle.std.proofs.Math.ListN.{get_or}
use Rattle.base.specs.rules.Choice.{choose}
use Rattle.base.specs.laws.ChoiceLaws.{on_choose, by_lt, by_eq}
use Rattle.base.specs.laws.Sum.{sum_to, to_same, to_zero}
use Rattle.tree.specs.rules.Lists.{notify_list}
use Rattle.lock.specs.declared.Record.{Record}
use Rattle.lock.specs.declared.Settings.{Settings}
use Rattle.lock.specs.rules.Records.{pieces, piece_at, current_piece}
use Rattle.lock.proofs.laws.Pieces.{grip_before, grip_current, grip_after, notices_before, notices_current}
use Rattle.lock.proofs.claim.Owned.{returned, gripped, noticed, owns, owns_unit, outstanding, owns_notice, reaches_no, returned_none, returned_here, returned_after, gripped_kept, noticed_begun, noticed_none}
use Rattle.lock.proofs.claim.Fit.{Apart, Fit, fit_idle}
use Rattle.lock.proofs.claim.Effect.{Same, Grips, Notices}
use Rattle.lock.proofs.claim.Changes.{alike, grips_at, notices_out, notices_at, notices_more, out_here, out_other, out_same, turn_with_ticket}

-- q has r's window and pieces
pub record Kin (r q : Record) : Type 0 where
  pub pieces_same : pieces q ≡ pieces r
  pub left_same : q.left ≡ r.left
  pub right_same : q.right ≡ r.right

pub kin : (r q : Record) → q.left ≡ r.left → q.right ≡ r.right → q.first ≡ r.first → q.second ≡ r.second → Kin r q
unfolding pieces
kin r q a b c d = record { pieces_same = λ i. choose (eqb (d i) 0) (c i ∷ []) (c i ∷ d i ∷ []); left_same = a; right_same = b }

-- nothing of a record is given back
abbrev pub Unreturned : Settings → Record → Type 0
Unreturned s r = (i : ℕ) → returned s r i ≡ 0

pub onward_unreturned : (s : Settings) (r : Record) → r.phase ≢ 10 → Unreturned s r
onward_unreturned s r d i = returned_none s r i d

-- a record that begins to return has given back nothing yet
pub entering_unreturned : (s : Settings) (r : Record) → r.phase ≡ 10 → r.giving ≡ 0 → r.place ≡ 0 → Unreturned s r
entering_unreturned s r e g p i =
    by_eq i 0 (λ z. returned_here s r i e (z ∙ sym g) ∙ p) (λ d. returned_after s r i e (omega arith))

module _ (s : Settings) (r q : Record) (k : Kin r q) (c : q.current ≡ r.current) (z : Unreturned s r) (y : Unreturned s q) where
  kin_piece : (i : ℕ) → piece_at q i ≡ piece_at r i
  unfolding piece_at
  kin_piece i = ap (λ l. get_or l i 0) k.pieces_same

  -- a piece that is not the current one stands as it stood
  grip_else : (i : ℕ) → i ≢ r.current → gripped s q i ≡ gripped s r i
  grip_else i d =
      gripped_kept s q i (y i)
      ∙ by_lt i r.current (λ b. grip_before q i (omega arith) ∙ sym (grip_before r i b)) (λ b. grip_after q i (omega arith) ∙ sym (grip_after r i (omega arith)))
      ∙ sym (gripped_kept s r i (z i))

  grip_here : (g : ℕ) → q.grip ≡ g → (i : ℕ) → i ≡ r.current → gripped s q i ≡ g
  grip_here g e i f = gripped_kept s q i (y i) ∙ grip_current q i (f ∙ sym c) ∙ e

  grip_was : (i : ℕ) → i ≡ r.current → gripped s r i ≡ r.grip
  grip_was i f = gripped_kept s r i (z i) ∙ grip_current r i f

  grip_same : q.grip ≡ r.grip → (i : ℕ) → gripped s q i ≡ gripped s r i
  grip_same e i = by_eq i r.current (λ f. grip_here r.grip e i f ∙ sym (grip_was i f)) (grip_else i)

  notices_else : (i : ℕ) → i ≢ r.current → noticed s q i ≡ noticed s r i
  notices_else i d =
      by_lt i r.current
      (λ b. noticed_begun s q i (omega arith) ∙ notices_before s q i (omega arith) ∙ ap (λ (n : ℕ). length (notify_list s.distance n)) (kin_piece i)
      ∙ sym (noticed_begun s r i (omega arith) ∙ notices_before s r i b))
      (λ b. noticed_none s q i (omega arith) ∙ sym (noticed_none s r i (omega arith)))

  notices_are : (i : ℕ) → i ≡ r.current → noticed s q i ≡ q.notices
  notices_are i f = noticed_begun s q i (omega arith) ∙ notices_current s q i (omega arith)

  notices_were : (i : ℕ) → i ≡ r.current → noticed s r i ≡ r.notices
  notices_were i f = noticed_begun s r i (omega arith) ∙ notices_current s r i (omega arith)

  notices_same : q.notices ≡ r.notices → (i : ℕ) → noticed s q i ≡ noticed s r i
  notices_same e i = by_eq i r.current (λ f. notices_are i f ∙ e ∙ sym (notices_were i f)) (notices_else i)

  returned_same : (i : ℕ) → returned s q i ≡ returned s r i
  returned_same i = y i ∙ sym (z i)

  -- ---- nothing changes hands

  pub forward_same : q.grip ≡ r.grip → q.notices ≡ r.notices → q.ticket ≡ r.ticket → Same s r q
  forward_same e f t =
      alike s r q k.pieces_same k.left_same k.right_same (λ i _. grip_same e i) (λ i _. notices_same f i) (λ i _. returned_same i) (λ _ _ _. t)

  -- ---- the grip on the current piece changes

  module _ (v : Apart s r) (exists : r.current < length (pieces r)) where
    pub forward_grips : (from to : ℕ) → r.grip ≡ from → q.grip ≡ to → q.notices ≡ r.notices
        → ((n : ℕ) → n ≢ current_piece r → owns s 1 n q ≡ 1 → owns s 2 n q ≢ 1 → q.ticket ≡ r.ticket) → Grips s r q (current_piece r) from to
    forward_grips from to e f g d =
        grips_at s r q k.pieces_same k.left_same k.right_same v r.current from to exists (grip_was r.current refl ∙ e) (grip_here to f r.current refl)
        (λ j _ o. grip_else j o) (λ n j _. notices_out s r q k.pieces_same k.left_same k.right_same n j (notices_same g j) (returned_same j)) d

    -- a piece that is not the current one does not wait with a ticket
    pub drawn_else : (n : ℕ) → n ≢ current_piece r → owns s 1 n q ≡ 1 → owns s 2 n q ≢ 1 → ⊥
    drawn_else n d o t =
        t (sym (turn_with_ticket s q n
        (λ j x e. by_lt j r.current
        (λ b. omega (arith, gripped_kept s q j (y j), grip_before q j (omega arith)))
        (λ b. by_eq j r.current
        (λ f. d (sym x ∙ kin_piece j ∙ ap (piece_at r) f))
        (λ f. omega (arith, gripped_kept s q j (y j), grip_after q j (omega arith)))))) ∙ o)

    -- ---- a notice of the current piece is given: place k of its list, node x

    module _ (e : q.grip ≡ r.grip) (f : q.notices ≡ suc r.notices) (t : q.ticket ≡ r.ticket) (x : ℕ)
        (at : get_or (notify_list s.distance (current_piece r)) r.notices 0 ≡ x) where
      abbrev i : ℕ
      i = r.current

      abbrev out : ℕ → Record → ℕ
      out n u = sum_to (noticed s u i) (λ j. outstanding s n u i j)

      -- the piece has one more place out
      one_more : (n : ℕ) → out n q ≡ outstanding s n q i r.notices + out n r
      unfolding sum_to
      one_more n =
          let a : noticed s q i ≡ suc r.notices = notices_are i refl ∙ f in
          let b : noticed s r i ≡ r.notices = notices_were i refl in
          ap (λ (m : ℕ). sum_to m (λ j. outstanding s n q i j)) a
          ∙ ap (λ (m : ℕ). outstanding s n q i r.notices + m)
          (to_same _ _ r.notices (λ j l. out_same s n r i j q (kin_piece i) (omega (arith, z i)) (omega (arith, y i)))
          ∙ ap (λ (m : ℕ). sum_to m (λ j. outstanding s n r i j)) (sym b))

      place_is : get_or (notify_list s.distance (piece_at q i)) r.notices 0 ≡ x
      place_is = ap (λ (n : ℕ). get_or (notify_list s.distance n) r.notices 0) (kin_piece i) ∙ at

      pub forward_notices : Notices s r q x
      forward_notices =
          notices_at s r q k.pieces_same k.left_same k.right_same (λ j _. grip_same e j) t i exists (λ j _ o. notices_else j o) (λ j _ _. returned_same j) x
          (λ n d. omega (arith, one_more n, out_other s n q i r.notices (λ g. d (sym g ∙ place_is))))

      pub forward_notified : owns_notice s x q ≡ suc (owns_notice s x r)
      forward_notified =
          notices_more s r q k.pieces_same k.left_same k.right_same (λ j _. grip_same e j) t i exists (λ j _ o. notices_else j o) (λ j _ _. returned_same j) x
          (omega (arith, one_more x, out_here s x q i r.notices (omega (arith, y i)) place_is))

-- ---- a record that owns nothing

pub record Empty (s : Settings) (r : Record) : Type 0 where
  pub ungripped : (i : ℕ) → i < length (pieces r) → gripped s r i ≡ 0
  pub unnoticed : (n i : ℕ) → i < length (pieces r) → sum_to (noticed s r i) (λ j. outstanding s n r i j) ≡ 0

module _ (s : Settings) (r : Record) (v : Empty s r) where
  pub empty_owns : (k n : ℕ) → 1 ≤ k → owns s k n r ≡ 0
  unfolding owns
  empty_owns k n a =
      to_zero _ (length (pieces r)) (λ i b.
      on_choose (λ (x : ℕ). x ≡ 0) (eqb (piece_at r i) n) _ 0 (λ _. reaches_no k (gripped s r i) (omega (arith, v.ungripped i b))) (λ _. refl))

  pub empty_unit : (u : ℕ) → owns_unit s u r ≡ 0
  unfolding owns_unit
  empty_unit u =
      on_choose (λ (x : ℕ). x ≡ 0) (leb r.left u) _ 0
      (λ _. on_choose (λ (x : ℕ). x ≡ 0) (ltb u r.right) _ 0 (λ _. empty_owns 3 _ (omega arith)) (λ _. refl)) (λ _. refl)

  pub empty_notice : (n : ℕ) → owns_notice s n r ≡ 0
  unfolding owns_notice
  empty_notice n = to_zero _ (length (pieces r)) (v.unnoticed n)

-- who owns nothing before and after
pub empty_same : (s : Settings) (r q : Record) → Empty s r → Empty s q → Same s r q
empty_same s r q v w = record {
  owned = λ k n a _. empty_owns s q w k n a ∙ sym (empty_owns s r v k n a);
  units = λ u. empty_unit s q w u ∙ sym (empty_unit s r v u);
  notices = λ n _. empty_notice s q w n ∙ sym (empty_notice s r v n);
  drawn = λ n _ o _. absurd (omega (arith, empty_owns s q w 1 n (omega arith)));
}

-- a record with nothing in its hands
pub fresh_empty : (s : Settings) (r : Record) → r.phase ≢ 10 → r.current ≡ 0 → r.grip ≡ 0 → r.notices ≡ 0 → Empty s r
unfolding sum_to
fresh_empty s r d c g n = record {
  ungripped = λ i _. gripped_kept s r i (returned_none s r i d) ∙ by_eq i 0 (λ e. grip_current r i (e ∙ sym c) ∙ g) (λ e. grip_after r i (omega arith));
  unnoticed = λ m i _. ap (λ (l : ℕ). sum_to l (λ j. outstanding s m r i j))
      (by_eq i 0 (λ e. noticed_begun s r i (omega arith) ∙ notices_current s r i (omega arith) ∙ n) (λ e. noticed_none s r i (omega arith)));
}

-- an idle record
pub fit_empty : (s : Settings) (r : Record) (last : ℕ) → Fit s r last → r.phase ≡ 0 → Empty s r
fit_empty s r last v z =
    let e = fit_idle s r last v z in
    fresh_empty s r (λ f. omega arith) (ap (λ x. x.current) e) (ap (λ x. x.grip) e) (ap (λ x. x.notices) e)

-- ---- taking a piece: begun next, the record owns what it owned

pub begin_same : (s : Settings) (r q : Record) → Kin r q → q.current ≡ suc r.current → q.grip ≡ 0 → q.notices ≡ 0 → r.grip ≡ 3
    → r.notices ≡ length (notify_list s.distance (current_piece r)) → Unreturned s r → Unreturned s q → Same s r q
unfolding piece_at
begin_same s r q k c g n h all z y =
    let piece : (i : ℕ) → piece_at q i ≡ piece_at r i = λ i. ap (λ l. get_or l i 0) k.pieces_same in
    let grip : (i : ℕ) → gripped s q i ≡ gripped s r i = λ i. gripped_kept s q i (y i)
    ∙ by_lt i r.current (λ b. grip_before q i (omega arith) ∙ sym (grip_before r i b))
    (λ b. by_eq i r.current
    (λ e. grip_before q i (omega arith) ∙ sym (grip_current r i e ∙ h))
    (λ d. by_eq i q.current (λ e. grip_current q i e ∙ g) (λ f. grip_after q i (omega arith)) ∙ sym (grip_after r i (omega arith))))
    ∙ sym (gripped_kept s r i (z i)) in
    let notes : (i : ℕ) → noticed s q i ≡ noticed s r i = λ i.
    by_lt r.current i
    (λ b. by_eq i q.current (λ e. noticed_begun s q i (omega arith) ∙ notices_current s q i (omega arith) ∙ n) (λ f. noticed_none s q i (omega arith)) ∙ sym (noticed_none s r i b))
    (λ b. noticed_begun s q i (omega arith) ∙ notices_before s q i (omega arith) ∙ ap (λ (m : ℕ). length (notify_list s.distance m)) (piece i)
    ∙ sym (noticed_begun s r i b
    ∙ by_lt i r.current (λ l. notices_before s r i l) (λ l. notices_current s r i l ∙ all ∙ ap (λ (j : ℕ). length (notify_list s.distance (piece_at r j))) (let e : r.current ≡ i = omega arith in e)))) in
    alike s r q k.pieces_same k.left_same k.right_same (λ i _. grip i) (λ i _. notes i) (λ i _. y i ∙ sym (z i))
    (λ m o t. absurd (t (sym (turn_with_ticket s q m
    (λ j _ e. by_lt j q.current
    (λ b. omega (arith, gripped_kept s q j (y j), grip_before q j b))
    (λ b. by_eq j q.current (λ f. omega (arith, gripped_kept s q j (y j), grip_current q j f)) (λ f. omega (arith, gripped_kept s q j (y j), grip_after q j (omega arith)))))) ∙ o)))
