-- Laws: from what a call changes in the fields of a record to what it changes of what the record owns. r is the record before, q after it, with the same
-- window and pieces. Assumes nothing.
use Rattle.std.specs.Prelude.{◌≡◌, ◌≢◌, ℕ, suc, ◌+◌, ◌≤◌, ◌<◌, eqb, leb, ltb}
use Rattle.std.proofs.Math.Path.{refl, sym, ap, ap₂}
use Rattle.std.proofs.Common.{◌∙◌, arith, eqb→eq}
use Rattle.std.proofs.Math.ListN.{length, get_or}
use Rattle.base.specs.rules.Choice.{choose}
use Rattle.base.specs.laws.ChoiceLaws.{on_choose, choose_eq, choose_ne, choose_le, choose_gt, choose_no, by_lt}
use Rattle.base.specs.laws.Sum.{sum_to, to_same, to_one}
use Rattle.tree.specs.rules.Tree.{leaf}
use Rattle.tree.specs.rules.Lists.{notify_list}
use Rattle.lock.specs.declared.Record.{Record}
use Rattle.lock.specs.declared.Settings.{Settings}
use Rattle.lock.specs.rules.Records.{pieces, piece_at}
use Rattle.lock.proofs.claim.Owned.{returned, gripped, noticed, reaches, owns, owns_unit, outstanding, owns_notice, reaches_yes, reaches_no, owns_same, notice_same}
use Rattle.lock.proofs.claim.Fit.{Apart, owns_here}
use Rattle.lock.proofs.claim.Effect.{in_window, Same, Grips, Notices}

-- a record of which no piece at node n waits with a ticket: if it has a ticket there, it has its turn
pub turn_with_ticket : (s : Settings) (q : Record) (n : ℕ) → ((j : ℕ) → piece_at q j ≡ n → gripped s q j ≢ 1) → owns s 1 n q ≡ owns s 2 n q
unfolding owns
turn_with_ticket s q n h =
    to_same _ _ (length (pieces q)) (λ j b.
    on_choose (λ (x : ℕ). x ≡ choose (eqb (piece_at q j) n) (reaches 2 (gripped s q j)) 0) (eqb (piece_at q j) n) _ 0
    (λ t. let e = eqb→eq (piece_at q j) n t in
    let other = h j e in
    by_lt (gripped s q j) 1
    (λ l. reaches_no 1 (gripped s q j) l ∙ sym (choose_eq (piece_at q j) n _ 0 e ∙ reaches_no 2 (gripped s q j) (omega arith)))
    (λ l. reaches_yes 1 (gripped s q j) l ∙ sym (choose_eq (piece_at q j) n _ 0 e ∙ reaches_yes 2 (gripped s q j) (omega arith))))
    (λ t. sym (choose_no (eqb (piece_at q j) n) _ 0 t)))

module _ (s : Settings) (r q : Record) (p : pieces q ≡ pieces r) (l : q.left ≡ r.left) (k : q.right ≡ r.right) where
  -- the same window
  window_same : (u v : ℕ) → in_window q u v ≡ in_window r u v
  unfolding in_window
  window_same u v = ap₂ (λ (x y : ℕ). choose (leb x u) (choose (ltb u y) v 0) 0) l k

  unit_same : (u : ℕ) → owns s 3 (leaf s.levels u) q ≡ owns s 3 (leaf s.levels u) r → owns_unit s u q ≡ owns_unit s u r
  unfolding owns_unit in_window
  unit_same u e = window_same u _ ∙ ap (in_window r u) e

  piece_same : (i : ℕ) → piece_at q i ≡ piece_at r i
  unfolding piece_at
  piece_same i = ap (λ c. get_or c i 0) p

  -- a notice is out as before, if its piece has given back as much
  notice_out : (n i j : ℕ) → returned s q i ≡ returned s r i → outstanding s n q i j ≡ outstanding s n r i j
  unfolding outstanding
  notice_out n i j e = ap₂ (λ (x y : ℕ). choose (leb x (suc j)) (choose (eqb (get_or (notify_list s.distance y) j 0) n) 1 0) 0) e (piece_same i)

  pub notices_out : (n i : ℕ) → noticed s q i ≡ noticed s r i → returned s q i ≡ returned s r i
      → sum_to (noticed s q i) (λ j. outstanding s n q i j) ≡ sum_to (noticed s r i) (λ j. outstanding s n r i j)
  notices_out n i e f = ap (λ (c : ℕ). sum_to c (λ j. outstanding s n q i j)) e ∙ to_same _ _ (noticed s r i) (λ j _. notice_out n i j f)

  -- ---- every piece stands as it stood

  pub alike : ((i : ℕ) → i < length (pieces r) → gripped s q i ≡ gripped s r i)
      → ((i : ℕ) → i < length (pieces r) → noticed s q i ≡ noticed s r i)
      → ((i : ℕ) → i < length (pieces r) → returned s q i ≡ returned s r i)
      → ((n : ℕ) → owns s 1 n q ≡ 1 → owns s 2 n q ≢ 1 → q.ticket ≡ r.ticket) → Same s r q
  alike g e f d =
      let owned : (c n : ℕ) → owns s c n q ≡ owns s c n r = λ c n. owns_same s r q p n (λ i b _. g i b) c in
      record {
        owned = λ c n _ _. owned c n;
        units = λ u. unit_same u (owned 3 (leaf s.levels u));
        notices = λ n _. notice_same s r q p n (λ i b. notices_out n i (e i b) (f i b));
        drawn = λ n _. d n;
      }

  -- ---- the grip of piece i changes

  pub grips_at : Apart s r → (i from to : ℕ) → i < length (pieces r) → gripped s r i ≡ from → gripped s q i ≡ to
      → ((j : ℕ) → j < length (pieces r) → j ≢ i → gripped s q j ≡ gripped s r j)
      → ((n j : ℕ) → j < length (pieces r) → sum_to (noticed s q j) (λ c. outstanding s n q j c) ≡ sum_to (noticed s r j) (λ c. outstanding s n r j c))
      → ((n : ℕ) → n ≢ piece_at r i → owns s 1 n q ≡ 1 → owns s 2 n q ≢ 1 → q.ticket ≡ r.ticket) → Grips s r q (piece_at r i) from to
  unfolding owns_unit in_window piece_at
  grips_at v i from to b e f g h d =
      let x = piece_at r i in
      let w : Apart s q = record {
        node = λ j c. rw (piece_same j) (v.node j (rw (sym (ap length p)) c));
        apart = λ j m c o n z. v.apart j m (rw (sym (ap length p)) c) (rw (sym (ap length p)) o) n (sym (piece_same j) ∙ z ∙ piece_same m);
      } in
      let before : (c : ℕ) → owns s c x r ≡ reaches c from = λ c. owns_here s r v x i c b refl ∙ ap (reaches c) e in
      let after : (c : ℕ) → owns s c x q ≡ reaches c to = λ c. owns_here s q w x i c (rw (ap length p) b) (piece_same i) ∙ ap (reaches c) f in
      let else : (c n : ℕ) → n ≢ x → owns s c n q ≡ owns s c n r = λ c n o. owns_same s r q p n (λ j a z. g j a (λ y. o (sym z ∙ ap (piece_at r) y))) c in
      record {
        before = λ c _. before c;
        after = λ c _. after c;
        else = λ c n _ _ o. else c n o;
        units = λ u o. unit_same u (else 3 (leaf s.levels u) o);
        units_before = λ u z. ap (λ (n : ℕ). in_window r u (owns s 3 n r)) z ∙ ap (in_window r u) (before 3);
        units_after = λ u z. window_same u _ ∙ ap (λ (n : ℕ). in_window r u (owns s 3 n q)) z ∙ ap (in_window r u) (after 3);
        notices = λ n _. notice_same s r q p n (h n);
        drawn = λ n _. d n;
      }

  -- ---- a notice of piece i is given, or given back

  module _ (g : (i : ℕ) → i < length (pieces r) → gripped s q i ≡ gripped s r i) (t : q.ticket ≡ r.ticket) (i : ℕ) (b : i < length (pieces r))
      (e : (j : ℕ) → j < length (pieces r) → j ≢ i → noticed s q j ≡ noticed s r j)
      (f : (j : ℕ) → j < length (pieces r) → j ≢ i → returned s q j ≡ returned s r j) where
    abbrev out : ℕ → Record → ℕ → ℕ
    out n z j = sum_to (noticed s z j) (λ c. outstanding s n z j c)

    -- the record owns more or less by what the piece does
    notices_differ : (n : ℕ) → owns_notice s n q + out n r i ≡ owns_notice s n r + out n q i
    unfolding owns_notice
    notices_differ n =
        let c : sum_to (length (pieces q)) (λ j. out n q j) ≡ sum_to (length (pieces r)) (λ j. out n q j) = ap (λ (m : ℕ). sum_to m (λ j. out n q j)) (ap length p) in
        omega (arith, c, to_one (λ j. out n q j) (λ j. out n r j) (length (pieces r)) i b (λ j a o. notices_out n j (e j a o) (f j a o)))

    pub notices_at : (x : ℕ) → ((n : ℕ) → n ≢ x → out n q i ≡ out n r i) → Notices s r q x
    notices_at x h =
        let owned : (c n : ℕ) → owns s c n q ≡ owns s c n r = λ c n. owns_same s r q p n (λ j a _. g j a) c in
        record {
          owned = λ c n _ _. owned c n;
          units = λ u. unit_same u (owned 3 (leaf s.levels u));
          else = λ n _ o. omega (arith, notices_differ n, h n o);
          drawn = λ n _ _ _. t;
        }

    pub notices_more : (x : ℕ) → out x q i ≡ suc (out x r i) → owns_notice s x q ≡ suc (owns_notice s x r)
    notices_more x h = omega (arith, notices_differ x)

    pub notices_less : (x : ℕ) → out x r i ≡ suc (out x q i) → owns_notice s x r ≡ suc (owns_notice s x q)
    notices_less x h = omega (arith, notices_differ x)

-- ---- one place of a notify list

module _ (s : Settings) (n : ℕ) (r : Record) (i j : ℕ) where
  pub out_here : returned s r i ≤ suc j → get_or (notify_list s.distance (piece_at r i)) j 0 ≡ n → outstanding s n r i j ≡ 1
  unfolding outstanding
  out_here b e = choose_le (returned s r i) (suc j) _ 0 b ∙ choose_eq _ n 1 0 e

  pub out_other : get_or (notify_list s.distance (piece_at r i)) j 0 ≢ n → outstanding s n r i j ≡ 0
  unfolding outstanding
  out_other d =
      on_choose (λ (x : ℕ). x ≡ 0) (leb (returned s r i) (suc j)) _ 0 (λ _. choose_ne (get_or (notify_list s.distance (piece_at r i)) j 0) n 1 0 d) (λ _. refl)

  pub out_returned : suc j < returned s r i → outstanding s n r i j ≡ 0
  unfolding outstanding
  out_returned b = choose_gt (returned s r i) (suc j) _ 0 b

  -- whether it is out is as in another record that has given back as much of the piece, as far as this place is concerned
  pub out_same : (q : Record) → piece_at q i ≡ piece_at r i → returned s r i ≤ suc j → returned s q i ≤ suc j → outstanding s n q i j ≡ outstanding s n r i j
  unfolding outstanding
  out_same q p a b =
      choose_le (returned s q i) (suc j) _ 0 b ∙ ap (λ (y : ℕ). choose (eqb (get_or (notify_list s.distance y) j 0) n) 1 0) p
      ∙ sym (choose_le (returned s r i) (suc j) _ 0 a)
