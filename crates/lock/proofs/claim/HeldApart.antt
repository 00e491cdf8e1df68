-- Laws: two different clients that both hold do not hold a unit in common, where each has checked its list and found no notice of the other. Assumes nothing.
use Rattle.std.specs.Prelude.{◌≡◌, ◌≢◌, List, [], ◌∷◌, ℕ, suc, ◌-◌, ◌%◌, ◌≤◌, ◌<◌, length, get_or}
use Rattle.std.proofs.Math.Path.{sym, ap}
use Rattle.std.proofs.Common.{subst, ◌∙◌, inl, inr}
use Rattle.std.proofs.Math.Logic.{⊎_elim}
use native.Mathlib.Omega.{arith}
use Rattle.base.specs.laws.ChoiceLaws.{by_lt, by_eq}
use Rattle.base.specs.laws.Sum.{sum_by, sum_two, get_d_past}
use Rattle.word.proofs.laws.Fields.{field_lt}
use Rattle.word.proofs.laws.Bits.{bit_lt}
use Rattle.tree.specs.rules.Tree.{climb, leaf, level, units, holder, Holds, Above}
use Rattle.tree.proofs.laws.Range.{holds_holder}
use Rattle.tree.proofs.laws.Notify.{notify_node}
use Rattle.tree.proofs.laws.Check.{check_place, check_all}
use Rattle.tree.proofs.laws.Meeting.{meeting}
use Rattle.cover.specs.rules.Cover.{In}
use Rattle.cover.proofs.laws.Overlap.{overlap}
use Rattle.lock.specs.declared.Record.{Record}
use Rattle.lock.specs.declared.Settings.{Settings}
use Rattle.lock.specs.rules.Records.{pieces, piece_at, word_at}
use Rattle.lock.proofs.laws.Ready.{Ready}
use Rattle.lock.proofs.claim.Owned.{owns, owns_unit}
use Rattle.lock.proofs.claim.Fit.{covers, ready_apart, fit_ready}
use Rattle.lock.proofs.claim.Effect.{in_window}
use Rattle.lock.proofs.claim.InnerWords.{nobody}
use Rattle.lock.proofs.claim.LeafWords.{in_window_lem}
use Rattle.lock.proofs.claim.Stage.{phase_at, stage_before, stage_current, checked_all, stage_owns}
use Rattle.lock.proofs.claim.Parts.{Parts, record_in}
use Rattle.lock.proofs.claim.Timed.{Checked}
use Rattle.lock.proofs.claim.Invariant.{Invariant}

-- ---- two clients that hold

-- the place of a node in a list
place_in : (n : ℕ) (c : List ℕ) → In n c → (i : ℕ) × (i < length c) × (get_or c i 0 ≡ n)
unfolding In
place_in n [] a = absurd a
place_in n (m ∷ c) (inl e) = (0, omega arith, sym e)
place_in n (m ∷ c) (inr a) = let p = place_in n c a in (suc p.0, omega (arith, p.1), p.2)

module _ (s : Settings) (st : Parts) (inv : Invariant s st) (checked : (c d : ℕ) → c ≢ d → Checked s (record_in st c) (record_in st d)) where
  abbrev h : ℕ
  h = s.levels

  -- a client that holds
  pub record Held (c u : ℕ) : Type 0 where
    pub ready : Ready s (record_in st c) (st.clock c)
    pub phase : (record_in st c).phase ≡ 9
    pub low : (record_in st c).left ≤ u
    pub high : u < (record_in st c).right
    pub listed : c < length st.records

  pub held : (c u : ℕ) → (record_in st c).phase ≡ 9 → (record_in st c).left ≤ u → u < (record_in st c).right → Held c u
  held c u e a b = record {
    ready = fit_ready s (record_in st c) (st.clock c) (inv.fit c) inv.settled (λ z. omega arith);
    phase = e;
    low = a;
    high = b;
    listed = by_lt c (length st.records) (λ l. l) (λ l. absurd (omega (arith, ap (λ x. x.phase) (get_d_past st.records c nobody l))));
  }

  -- every piece of a window that is held is taken
  taken : (c u : ℕ) → Held c u → (i : ℕ) → i < length (pieces (record_in st c)) → phase_at (record_in st c) i ≡ 9
  taken c u v i b =
      let r = record_in st c in
      by_lt i r.current (λ l. stage_before r i l (λ e. omega (arith, v.phase)))
      (λ l. stage_current r i (omega (arith, v.ready.whole v.phase)) ∙ v.phase)

  -- two different clients do not both own more than there is
  not_both : (f : Record → ℕ) (c d u : ℕ) → c ≢ d → Held c u → Held d u → f (record_in st c) ≡ 1 → f (record_in st d) ≡ 1 → sum_by f st.records < 2 → ⊥
  not_both f c d u n v w a b l =
      by_lt c d
      (λ o. omega (arith, sum_two f st.records c d nobody o w.listed))
      (λ o. omega (arith, sum_two f st.records d c nobody (by_lt d c (λ q. q) (λ q. absurd (n (omega arith)))) v.listed))

  -- one client's piece is above the other's: it checked a node that the other has notified
  not_above : (c d u : ℕ) → c ≢ d → Held c u → Held d u → (i j : ℕ) → i < length (pieces (record_in st c)) → j < length (pieces (record_in st d))
      → Above (piece_at (record_in st c) i) (piece_at (record_in st d) j) → ⊥
  not_above c d u n v w i j bi bj above =
      let m = s.distance in
      let a = piece_at (record_in st c) i in
      let b = piece_at (record_in st d) j in
      let g = inv.settled in
      let na = (ready_apart s (record_in st c) (st.clock c) v.ready).node i bi in
      let nb = (ready_apart s (record_in st d) (st.clock d) w.ready).node j bj in
      let meet = meeting h m a b g.levels_most g.distance_some g.distance_most nb na.some above in
      let place = check_all a na.some h m g.distance_some (notify_node m b meet.place) meet.checked in
      let ti = taken c u v i bi in
      let tj = taken d u w j bj in
      checked c d n i j (check_place a na.some h m g.distance_some (notify_node m b meet.place)) meet.place
      (omega (arith, place.0, checked_all s (record_in st c) i ti)) (omega arith) (omega arith) above meet.listed place.1

  -- they have a piece in common: it is an inner node, or a leaf with the common unit
  not_same : (c d u : ℕ) → c ≢ d → Held c u → Held d u → u < units h → (i j : ℕ) → i < length (pieces (record_in st c)) → j < length (pieces (record_in st d))
      → piece_at (record_in st c) i ≡ piece_at (record_in st d) j → Holds h (piece_at (record_in st c) i) u → ⊥
  unfolding owns_unit in_window holder climb
  not_same c d u n v w f i j bi bj e hold =
      let a = piece_at (record_in st c) i in
      let ti = taken c u v i bi in
      let tj = taken d u w j bj in
      let mine : owns s 3 a (record_in st c) ≡ 1 = stage_owns s (record_in st c) (st.clock c) v.ready i (omega arith) (omega arith) in
      let other : owns s 3 a (record_in st d) ≡ 1 = ap (λ (x : ℕ). owns s 3 x (record_in st d)) e ∙ stage_owns s (record_in st d) (st.clock d) w.ready j (omega arith) (omega arith) in
      let node = (ready_apart s (record_in st c) (st.clock c) v.ready).node i bi in
      by_eq (level a) h
      (λ l. let is : leaf h u ≡ a = ap (λ (x : ℕ). climb x (leaf h u)) (let z : 0 ≡ h - level a = omega arith in z) ∙ holds_holder h a node u hold in
      let unit : (r : Record) → r.left ≤ u → u < r.right → owns s 3 a r ≡ 1 → owns_unit s u r ≡ 1 = λ r x y o. in_window_lem r u (owns s 3 (leaf h u) r) x y ∙ ap (λ (k : ℕ). owns s 3 k r) is ∙ o in
      not_both (owns_unit s u) c d u n v w (unit (record_in st c) v.low v.high mine) (unit (record_in st d) w.low w.high other)
      (omega (arith, inv.bits u f, bit_lt (u % 64) (word_at st.words (leaf h u)))))
      (λ l. not_both (owns s 3 a) c d u n v w mine other (omega (arith, (inv.inner a node l).occ_is, field_lt 62 1 (word_at st.words a))))

  -- "no two different clients hold windows that overlap"
  pub apart : (c d u : ℕ) → c ≢ d → Held c u → Held d u → ⊥
  unfolding piece_at
  apart c d u n v w =
      let A = record_in st c in
      let B = record_in st d in
      let f : u < units h = omega (arith, v.high, v.ready.active.window.fits) in
      let o = overlap h A.left A.right (pieces A) (covers s A v.ready.active.window v.ready.active.cover) B.left B.right (pieces B) (covers s B w.ready.active.window w.ready.active.cover)
      u v.ready.active.window.levels f v.low v.high w.low w.high in
      let p = place_in o.mine.node (pieces A) o.mine.among in
      let q = place_in o.other.node (pieces B) o.other.among in
      ⊎_elim
      (λ e. not_same c d u n v w f p.0 q.0 p.1 q.1 (p.2 ∙ e ∙ sym q.2) (subst (λ (x : ℕ). Holds h x u) (sym p.2) o.mine.holds))
      (λ z. ⊎_elim
      (λ e. not_above c d u n v w p.0 q.0 p.1 q.1 (subst (λ (x : ℕ). Above x (piece_at B q.0)) (sym p.2) (subst (Above o.mine.node) (sym q.2) e)))
      (λ e. not_above d c u (λ x. n (sym x)) w v q.0 p.0 q.1 p.1 (subst (λ (x : ℕ). Above x (piece_at A p.0)) (sym q.2) (subst (Above o.other.node) (sym p.2) e))) z)
      o.nested
