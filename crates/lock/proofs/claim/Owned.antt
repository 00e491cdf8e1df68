-- What a record owns of the words: tickets, turns and Occ of inner nodes, bits of leaves, and notices. Over all pieces of the record, however many there
-- are. Assumes nothing.
use Rattle.std.specs.Prelude.{◌≡◌, ℕ, suc, ◌≤◌, ◌<◌, eqb, leb, ltb}
use Rattle.std.proofs.Math.Path.{sym, ap}
use Rattle.std.proofs.Common.{◌∙◌, arith}
use Rattle.std.proofs.Math.Dec.{eqb→eq}
use Rattle.std.proofs.Math.ListN.{length, get_or}
use Rattle.base.specs.rules.Choice.{choose}
use Rattle.base.specs.laws.ChoiceLaws.{on_choose, choose_yes, choose_no, choose_eq, choose_ne, choose_lt, choose_ge, choose_le, choose_gt, by_lt}
use Rattle.base.specs.laws.Sum.{sum_to, to_same, to_mono}
use Rattle.tree.specs.rules.Tree.{leaf}
use Rattle.tree.specs.rules.Lists.{notify_list}
use Rattle.lock.specs.declared.Record.{Record}
use Rattle.lock.specs.declared.Settings.{Settings}
use Rattle.lock.specs.rules.Records.{pieces, piece_at, grip_of, notices_of}

-- how many words of piece i are given back: "each with its own word at place 0 and its notices after it"
unfoldable pub returned : Settings → Record → ℕ → ℕ
returned s r i =
    choose (eqb r.phase 10) (choose (ltb i r.giving) (suc (notices_of s r i)) (choose (eqb i r.giving) r.place 0)) 0

-- the grip on the own word of piece i that is not given back
unfoldable pub gripped : Settings → Record → ℕ → ℕ
gripped s r i = choose (eqb (returned s r i) 0) (grip_of r i) 0

-- how many notices piece i gave; a piece that is not begun gave none
unfoldable pub noticed : Settings → Record → ℕ → ℕ
noticed s r i = choose (leb i r.current) (notices_of s r i) 0

-- 1 for a grip of k or more
unfoldable pub reaches : ℕ → ℕ → ℕ
reaches k grip = choose (leb k grip) 1 0

-- whether the record has a grip of k or more on node n: 1 a ticket, 2 the turn, 3 Occ or leaf bits
unfoldable pub owns : Settings → ℕ → ℕ → Record → ℕ
owns s k n r = sum_to (length (pieces r)) (λ i. choose (eqb (piece_at r i) n) (reaches k (gripped s r i)) 0)

-- whether it owns the bit of unit u
unfoldable pub owns_unit : Settings → ℕ → Record → ℕ
owns_unit s u r = choose (leb r.left u) (choose (ltb u r.right) (owns s 3 (leaf s.levels u) r) 0) 0

-- 1 if place j of the notify list of piece i is node n, and that notice is not given back
unfoldable pub outstanding : Settings → ℕ → Record → ℕ → ℕ → ℕ
outstanding s n r i j = choose (leb (returned s r i) (suc j)) (choose (eqb (get_or (notify_list s.distance (piece_at r i)) j 0) n) 1 0) 0

-- how many notices it owns at node n
unfoldable pub owns_notice : Settings → ℕ → Record → ℕ
owns_notice s n r = sum_to (length (pieces r)) (λ i. sum_to (noticed s r i) (λ j. outstanding s n r i j))

-- ---- laws of one piece

pub reaches_le : (k g : ℕ) → reaches k g ≤ 1
unfolding reaches
reaches_le k g = on_choose (λ (x : ℕ). x ≤ 1) (leb k g) 1 0 (λ _. omega arith) (λ _. omega arith)

pub reaches_yes : (k g : ℕ) → k ≤ g → reaches k g ≡ 1
unfolding reaches
reaches_yes k g b = choose_le k g 1 0 b

pub reaches_no : (k g : ℕ) → g < k → reaches k g ≡ 0
unfolding reaches
reaches_no k g b = choose_gt k g 1 0 b

module _ (s : Settings) (r : Record) (i : ℕ) where
  pub returned_none : (r.phase ≡ 10 → ⊥) → returned s r i ≡ 0
  unfolding returned
  returned_none d = choose_ne r.phase 10 _ 0 d

  module _ (e : r.phase ≡ 10) where
    pub returned_before : i < r.giving → returned s r i ≡ suc (notices_of s r i)
    unfolding returned
    returned_before b = choose_eq r.phase 10 _ 0 e ∙ choose_lt i r.giving _ _ b

    pub returned_here : i ≡ r.giving → returned s r i ≡ r.place
    unfolding returned
    returned_here f = choose_eq r.phase 10 _ 0 e ∙ choose_ge i r.giving _ _ (omega arith) ∙ choose_eq i r.giving _ _ f

    pub returned_after : r.giving < i → returned s r i ≡ 0
    unfolding returned
    returned_after b = choose_eq r.phase 10 _ 0 e ∙ choose_ge i r.giving _ _ (omega arith) ∙ choose_ne i r.giving _ _ (λ f. omega arith)

  pub gripped_kept : returned s r i ≡ 0 → gripped s r i ≡ grip_of r i
  unfolding gripped
  gripped_kept e = choose_eq (returned s r i) 0 _ _ e

  pub gripped_returned : 0 < returned s r i → gripped s r i ≡ 0
  unfolding gripped
  gripped_returned b = choose_ne (returned s r i) 0 _ _ (λ e. omega arith)

  pub noticed_begun : i ≤ r.current → noticed s r i ≡ notices_of s r i
  unfolding noticed
  noticed_begun b = choose_le i r.current _ 0 b

  pub noticed_none : r.current < i → noticed s r i ≡ 0
  unfolding noticed
  noticed_none b = choose_gt i r.current _ 0 b

-- ---- laws of all pieces

-- who has Occ has its turn, and who has its turn has a ticket
pub owns_falls : (s : Settings) (k n : ℕ) (r : Record) → owns s (suc k) n r ≤ owns s k n r
unfolding owns
owns_falls s k n r =
    to_mono _ _ (length (pieces r)) (λ i b.
    on_choose (λ (x : ℕ). x ≤ choose (eqb (piece_at r i) n) (reaches k (gripped s r i)) 0) (eqb (piece_at r i) n) _ 0
    (λ t. let e = choose_yes (eqb (piece_at r i) n) (reaches k (gripped s r i)) 0 t in
    by_lt k (gripped s r i) (λ l. omega (arith, reaches_le (suc k) (gripped s r i), reaches_yes k (gripped s r i) (omega arith))) (λ l. omega (arith, reaches_no (suc k) (gripped s r i) (omega arith))))
    (λ t. omega arith))

-- two records with the same pieces, whose pieces stand the same, own the same
module _ (s : Settings) (r q : Record) (p : pieces q ≡ pieces r) where
  piece_same : (i : ℕ) → piece_at q i ≡ piece_at r i
  unfolding piece_at
  piece_same i = ap (λ c. get_or c i 0) p

  pub owns_same : (n : ℕ) → ((i : ℕ) → i < length (pieces r) → piece_at r i ≡ n → gripped s q i ≡ gripped s r i) → (k : ℕ) → owns s k n q ≡ owns s k n r
  unfolding owns
  owns_same n h k =
      ap (λ (c : ℕ). sum_to c (λ i. choose (eqb (piece_at q i) n) (reaches k (gripped s q i)) 0)) (ap length p)
      ∙ to_same _ _ (length (pieces r)) (λ i b. ap (λ (m : ℕ). choose (eqb m n) (reaches k (gripped s q i)) 0) (piece_same i) ∙ here i b)
    where
      here : (i : ℕ) → i < length (pieces r)
          → choose (eqb (piece_at r i) n) (reaches k (gripped s q i)) 0 ≡ choose (eqb (piece_at r i) n) (reaches k (gripped s r i)) 0
      here i b =
          on_choose (λ (x : ℕ). x ≡ choose (eqb (piece_at r i) n) (reaches k (gripped s r i)) 0) (eqb (piece_at r i) n) _ _
          (λ t. let e = eqb→eq (piece_at r i) n t in ap (reaches k) (h i b e) ∙ sym (choose_eq (piece_at r i) n _ 0 e))
          (λ t. sym (choose_no (eqb (piece_at r i) n) _ 0 t))

  pub notice_same : (n : ℕ) → ((i : ℕ) → i < length (pieces r) → sum_to (noticed s q i) (λ j. outstanding s n q i j) ≡ sum_to (noticed s r i) (λ j. outstanding s n r i j))
      → owns_notice s n q ≡ owns_notice s n r
  unfolding owns_notice
  notice_same n h = ap (λ (c : ℕ). sum_to c (λ i. sum_to (noticed s q i) (λ j. outstanding s n q i j))) (ap length p) ∙ to_same _ _ (length (pieces r)) h
