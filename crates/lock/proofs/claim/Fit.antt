-- Laws: what is known of every record of a table after a history: it is readable, and its notices fit its phase; and what follows of its pieces. Assumes nothing.
use Rattle.std.specs.Prelude.{◌≡◌, ◌≢◌, false, List, [], ◌∷◌, ℕ, zero, suc, ◌≤◌, ◌<◌, eqb, leb, get_or}
use Rattle.std.proofs.Math.Path.{sym, ap}
use Rattle.std.proofs.Common.{subst, ◌∙◌, arith, eqb→eq}
use Rattle.std.proofs.Math.ListN.{length}
use Rattle.base.specs.rules.Choice.{choose}
use Rattle.base.specs.laws.ChoiceLaws.{on_choose, choose_eq, choose_ne, by_lt, by_eq}
use Rattle.base.specs.laws.Sum.{sum_to, to_only, to_le, to_once}
use Rattle.tree.specs.rules.Tree.{level, left, Node}
use Rattle.tree.specs.rules.Lists.{notify_list}
use Rattle.tree.proofs.laws.Level.{level_pos}
use Rattle.tree.proofs.laws.Range.{root_left}
use Rattle.tree.proofs.laws.Notify.{notify_count, Bounded, notify_count_lem, notify_place, notify_once}
use Rattle.cover.specs.rules.Cover.{Covers, Rising}
use Rattle.cover.specs.laws.Lowest.{Window}
use Rattle.cover.proofs.laws.Least.{least_cover_lem}
use Rattle.lock.specs.declared.Record.{Record}
use Rattle.lock.specs.declared.Settings.{Settings}
use Rattle.lock.specs.rules.Records.{cover_of, pieces, piece_at, current_piece, idle_with}
use Rattle.lock.proofs.laws.Pieces.{notices_before, notices_current}
use Rattle.lock.specs.rules.Unreadable.{unreadable}
use Rattle.lock.specs.laws.Active.{Settled}
use Rattle.lock.proofs.laws.ActiveLaws.{in_at, idle_readable}
use Rattle.lock.proofs.laws.Ready.{Ready, ready}
use Rattle.lock.proofs.laws.WhenReadable.{readable_idle, readable_later}
use Rattle.lock.proofs.claim.Owned.{returned, gripped, noticed, reaches, owns, outstanding, owns_notice, noticed_begun, noticed_none}

-- readable, and from 7 to 9 with all notices of the current piece given, which a readable record need not have
pub record Fit (s : Settings) (r : Record) (last : ℕ) : Type 0 where
  pub readable : unreadable s r last ≡ false
  pub all_noticed : 7 ≤ r.phase → r.phase ≤ 9 → r.notices ≡ length (notify_list s.distance (current_piece r))

-- ---- the pieces of a cover

rising_from : (h n : ℕ) (c : List ℕ) → Rising h (n ∷ c) → (i : ℕ) → i < length c → left h n < left h (get_or c i 0)
unfolding Rising
rising_from h n [] v i b = absurd (omega arith)
rising_from h n (m ∷ c) v zero b = v.0
rising_from h n (m ∷ c) v (suc i) b = omega (arith, v.0, rising_from h m c v.1 i (omega arith))

rising_tail : (h n : ℕ) (c : List ℕ) → Rising h (n ∷ c) → Rising h c
unfolding Rising
rising_tail h n [] v = tt
rising_tail h n (m ∷ c) v = v.1

rising_at : (h : ℕ) (c : List ℕ) → Rising h c → (i j : ℕ) → i < length c → j < i → left h (get_or c j 0) < left h (get_or c i 0)
rising_at h [] v i j b l = absurd (omega arith)
rising_at h (n ∷ c) v zero j b l = absurd (omega arith)
rising_at h (n ∷ c) v (suc i) zero b l = rising_from h n c v i (omega arith)
rising_at h (n ∷ c) v (suc i) (suc j) b l = rising_at h c (rising_tail h n c v) i j (omega arith) (omega arith)

-- the pieces of a record are nodes of the tree, and no two are the same
pub record Apart (s : Settings) (r : Record) : Type 0 where
  pub node : (i : ℕ) → i < length (pieces r) → Node s.levels (piece_at r i)
  pub apart : (i j : ℕ) → i < length (pieces r) → j < length (pieces r) → i ≢ j → piece_at r i ≢ piece_at r j

module _ (s : Settings) (r : Record) (w : Window s.levels r.left r.right) (c : pieces r ≡ cover_of s r.left r.right) where
  pub covers : Covers s.levels r.left r.right (pieces r)
  covers = subst (Covers s.levels r.left r.right) (sym c) (least_cover_lem s.levels r.left r.right w.levels w.some w.fits 2 (omega arith)).covers

  pub covered_apart : Apart s r
  unfolding piece_at
  covered_apart =
      let lower : (i j : ℕ) → i < length (pieces r) → j < i → piece_at r i ≢ piece_at r j
      = λ i j b l e. omega (arith, rising_at s.levels (pieces r) covers.rising i j b l, ap (left s.levels) e) in
      record {
        node = λ i b. (covers.meets _ (in_at (pieces r) i b)).node;
        apart = λ i j b d n e. by_lt i j (λ q. lower j i d q (sym e)) (λ q. lower i j b (omega arith) e);
      }

  -- the root stands for all units, and so is no later piece
  pub later_below : (i : ℕ) → 0 < i → i < length (pieces r) → piece_at r i ≢ 1
  unfolding piece_at
  later_below i a b e = omega (arith, rising_at s.levels (pieces r) covers.rising i 0 b a, ap (left s.levels) e, root_left s.levels w.levels)

-- ---- what a record owns, piece by piece

module _ (s : Settings) (r : Record) (v : Apart s r) where
  -- at most one piece is at node n
  pub owns_here : (n i k : ℕ) → i < length (pieces r) → piece_at r i ≡ n → owns s k n r ≡ reaches k (gripped s r i)
  unfolding owns
  owns_here n i k b e =
      to_only _ (length (pieces r)) i b (λ j c d. choose_ne (piece_at r j) n _ 0 (λ f. v.apart j i c b d (f ∙ sym e)))
      ∙ choose_eq (piece_at r i) n _ 0 e

  module _ (g : Settled s) (given : (i : ℕ) → i < length (pieces r) → noticed s r i ≤ length (notify_list s.distance (piece_at r i))) where
    pub bounded_piece : (i : ℕ) → i < length (pieces r) → Bounded s.distance (level (piece_at r i))
    bounded_piece i b =
        record { m_some = g.distance_some; m_most = g.distance_most; d_some = level_pos (piece_at r i); d_most = omega (arith, (v.node i b).inside, g.levels_most) }

    -- a piece owns at most one notice at a node
    notice_once : (n i : ℕ) → i < length (pieces r) → sum_to (noticed s r i) (λ j. outstanding s n r i j) ≤ 1
    unfolding outstanding
    notice_once n i b =
        to_once _ (noticed s r i) (λ j c. small j)
        (λ j l c d x y.
        let y1 = bounded_piece i b in
        let m = s.distance in
        let p = piece_at r i in
        let count = notify_count_lem m p y1 in
        let a : j < notify_count m (level p) = omega (arith, given i b) in
        notify_once m p y1 (v.node i b).some j l a d
        (sym (notify_place m p y1 l (omega arith)) ∙ at l y ∙ sym (at j x) ∙ notify_place m p y1 j a))
      where
        small : (j : ℕ) → choose (leb (returned s r i) (suc j)) (choose (eqb (get_or (notify_list s.distance (piece_at r i)) j 0) n) 1 0) 0 ≤ 1
        small j =
            on_choose (λ (x : ℕ). x ≤ 1) (leb (returned s r i) (suc j)) _ 0
            (λ _. on_choose (λ (x : ℕ). x ≤ 1) (eqb (get_or (notify_list s.distance (piece_at r i)) j 0) n) 1 0 (λ _. omega arith) (λ _. omega arith)) (λ _. omega arith)

        at : (j : ℕ) → 0 < choose (leb (returned s r i) (suc j)) (choose (eqb (get_or (notify_list s.distance (piece_at r i)) j 0) n) 1 0) 0
            → get_or (notify_list s.distance (piece_at r i)) j 0 ≡ n
        at j =
            on_choose (λ (x : ℕ). 0 < x → get_or (notify_list s.distance (piece_at r i)) j 0 ≡ n) (leb (returned s r i) (suc j)) _ 0
            (λ _. on_choose (λ (x : ℕ). 0 < x → get_or (notify_list s.distance (piece_at r i)) j 0 ≡ n) (eqb (get_or (notify_list s.distance (piece_at r i)) j 0) n) 1 0
            (λ t _. eqb→eq _ n t) (λ _ b. absurd (omega arith))) (λ _ b. absurd (omega arith))

    -- a record owns at most as many notices at a node as it has pieces
    pub notice_le : (n : ℕ) → owns_notice s n r ≤ length (pieces r)
    unfolding owns_notice
    notice_le n = omega (arith, to_le (λ i. sum_to (noticed s r i) (λ j. outstanding s n r i j)) 1 (length (pieces r)) (λ i b. notice_once n i b))

-- ---- a readable record that is not idle

module _ (s : Settings) (r : Record) (last : ℕ) (v : Ready s r last) where
  pub ready_apart : Apart s r
  ready_apart = covered_apart s r v.active.window v.active.cover

  pub ready_noticed : (i : ℕ) → i < length (pieces r) → noticed s r i ≤ length (notify_list s.distance (piece_at r i))
  ready_noticed i b =
      by_lt r.current i
      (λ q. omega (arith, noticed_none s r i q))
      (λ q. by_lt i r.current
      (λ l. omega (arith, noticed_begun s r i q, notices_before s r i l))
      (λ l. let e : i ≡ r.current = omega arith in
      let f : length (notify_list s.distance (piece_at r i)) ≡ length (notify_list s.distance (current_piece r)) = ap (λ (j : ℕ). length (notify_list s.distance (piece_at r j))) e in
      omega (arith, noticed_begun s r i q, notices_current s r i l, v.active.noticed)))

-- ---- a record that fits

module _ (s : Settings) (r : Record) (last : ℕ) where
  -- before its notices are all given, or when it returns
  pub fit_readable : unreadable s r last ≡ false → (7 ≤ r.phase → 9 < r.phase) → Fit s r last
  fit_readable u b = record { readable = u; all_noticed = λ x y. absurd (omega (arith, b x)) }

  module _ (v : Fit s r last) where
    pub fit_idle : r.phase ≡ 0 → r ≡ idle_with r.outcome
    fit_idle e = idle_readable s r last v.readable e

    pub fit_later : (now : ℕ) → last ≤ now → Fit s r now
    fit_later now b = record { readable = readable_later s r last now b v.readable; all_noticed = v.all_noticed }

    module _ (g : Settled s) where
      pub fit_ready : r.phase ≢ 0 → Ready s r last
      fit_ready d = ready s r last g v.readable d

      -- cases on whether it is idle
      pub on_fit : {P : Type 0} → (r ≡ idle_with r.outcome → P) → (Ready s r last → P) → P
      on_fit f h = by_eq r.phase 0 (λ e. f (fit_idle e)) (λ d. h (fit_ready d))

pub idle_fit : (s : Settings) (o last : ℕ) → o ≤ 4 → Fit s (idle_with o) last
idle_fit s o last b = fit_readable s (idle_with o) last (readable_idle s o last b) (λ x. omega arith)
