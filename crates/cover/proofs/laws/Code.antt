-- Laws: what the code of the cover computes, over plain numbers. Assumes nothing.
use Rattle.std.specs.Prelude.{◌≡◌, true, false, not, ◌||◌, List, [], ◌∷◌, ℕ, suc, ◌+◌, ◌-◌, ◌*◌, ◌/◌, ◌%◌, ◌^◌, ◌≤◌, ◌<◌, eqb}
use Rattle.std.proofs.Math.Path.{sym, ap}
use Rattle.std.proofs.Common.{ap₂, ◌∙◌, mod-eq_of_lt, div-mul-le_self, div-one, shr-shr, pow-add}
use native.Mathlib.Omega.{arith}
use borrow.Author.Tests.{ltb-false, leb-false, le-ltb, lt-leb}
use Rattle.std.proofs.Math.Dec.{leb, ltb}
use Rattle.base.specs.rules.Choice.{choose}
use Rattle.base.specs.laws.ChoiceLaws.{choose_eq, choose_ne, by_eq}
use Rattle.base.specs.laws.TestLaws.{both_false}
use Rattle.tree.specs.rules.Tree.{holder, level, left, size, units, first}
use Rattle.tree.proofs.laws.Climb.{first_pos}
use Rattle.tree.proofs.laws.Range.{holder_level, right_in}
use Rattle.tree.proofs.laws.Closed.{four, first_up, holder_is, left_edge_is, node_small}
use Rattle.tree.proofs.laws.Code.{four_small, shifted}
use Rattle.cover.specs.declared.window.Piece.{Piece}
use Rattle.cover.specs.rules.Cover.{over, total}
use Rattle.cover.specs.rules.Search.{least_cover}
use Rattle.cover.specs.rules.Answer.{levels_outside, window_outside, refused, accepted, answer}
use Rattle.cover.specs.laws.Rise.{rise}
use Rattle.cover.proofs.laws.Over.{over_le, over_leaf, over_inner, over_part, part_all, part_ends, part_starts, units_small}
use Rattle.cover.specs.laws.Lowest.{lowest, Window}
use Rattle.cover.proofs.laws.Lowest.{rise_le, low_level, low_has}
use Rattle.cover.specs.laws.Split.{edge_child, cut}
use Rattle.cover.proofs.laws.Split.{halves, same_leaf}
use Rattle.cover.proofs.laws.Two.{split_one, split_two, split_least}
use Rattle.cover.specs.laws.Code.{lowest_piece, one, pair, cut_unit, not_cover}

-- ---- the lowest node

-- a unit's place among the nodes that are k levels above the leaves
place_code : (u k : ℕ) → u / 2 ^ (2 * k + 6) ≡ u / 64 / 4 ^ k
place_code u k =
    let e : 2 * k + 6 ≡ 6 + 2 * k = omega arith in
    ap (λ (x : ℕ). u / 2 ^ x) e ∙ sym (shr-shr u 6 (2 * k)) ∙ ap (λ (p : ℕ). u / 64 / p) (four k)

module _ {h l r k : ℕ} (w : Window h l r) (ek : k ≡ rise l (r - 1)) where
  pub levels_left : (k < h) × (h ≤ 12)
  levels_left = (omega (arith, rise_le h l r w, w.levels), w.most)

  -- by its level's first number and its place there
  low_is : first (h - k) + l / 64 / 4 ^ k ≡ lowest h l r
  unfolding lowest
  low_is =
      let b = levels_left in
      let s : k ≡ h - (h - k) = omega arith in
      ap (λ (x : ℕ). first (h - k) + l / 64 / 4 ^ x) s ∙ sym (holder_is h (h - k) l (omega arith) (omega arith)) ∙ ap (λ (x : ℕ). holder h (h - x) l) ek

  pub leaf_code : {f : ℕ} → k ≡ 0 → f ≡ first h → f + l / 64 ≡ lowest h l r
  leaf_code {f} z e =
      let s : first h ≡ first (h - k) = ap first (omega arith) in
      let p : l / 64 ≡ l / 64 / 4 ^ k = sym (ap (λ (x : ℕ). l / 64 / 4 ^ x) z ∙ div-one (l / 64)) in
      ap₂ ◌+◌ (e ∙ s) p ∙ low_is

  pub node_code : {f : ℕ} → f ≡ first h → (f - 1) / 2 ^ (2 * k) + l / 2 ^ (2 * k + 6) + 1 ≡ lowest h l r
  node_code {f} e =
      let u : (f - 1) / 2 ^ (2 * k) ≡ first (h - k) - 1 = ap₂ (λ (x p : ℕ). (x - 1) / p) e (four k) ∙ first_up h k levels_left.0 in
      omega (arith, u, place_code l k, first_pos (h - k), low_is)

  size_is : size h (lowest h l r) ≡ 64 * 4 ^ k
  unfolding size
  size_is = let e : h - level (lowest h l r) ≡ k = omega (arith, low_level h l r w, levels_left) in ap (λ (x : ℕ). 64 * 4 ^ x) e

  shift_code : (64 * 2 ^ (2 * k)) % 2 ^ 64 ≡ size h (lowest h l r)
  shift_code = shifted 64 k (omega (arith, four_small k (omega (arith, levels_left)))) ∙ sym size_is

  pub window_le : r - l ≤ (64 * 2 ^ (2 * k)) % 2 ^ 64
  window_le = let v = low_has h l r w in omega (arith, shift_code, v.low, v.high)

  pub low_small : lowest h l r < 5592406
  low_small = let v = low_has h l r w in node_small (lowest h l r) (record { some = v.node.some; inside = omega (arith, v.node.inside, w.most) })

  pub leaf_piece : {n : ℕ} → n ≡ lowest h l r → k ≡ 0 → record { node = n; over = 0 } ≡ lowest_piece h l r
  unfolding lowest_piece
  leaf_piece e z =
      let o : 0 ≡ over h l r (lowest h l r) = sym (over_leaf h l r (lowest h l r) (low_level h l r w ∙ omega arith)) in
      λ i. record { node = e i; over = o i }

  pub inner_piece : {n : ℕ} → n ≡ lowest h l r → (k ≡ 0 → ⊥) → record { node = n; over = (64 * 2 ^ (2 * k)) % 2 ^ 64 - (r - l) } ≡ lowest_piece h l r
  unfolding lowest_piece
  inner_piece e z =
      let v = low_has h l r w in
      let o : (64 * 2 ^ (2 * k)) % 2 ^ 64 - (r - l) ≡ over h l r (lowest h l r) =
      ap (λ (x : ℕ). x - (r - l)) shift_code
      ∙ sym (over_inner h l r (lowest h l r) (omega (arith, low_level h l r w, levels_left)) ∙ ap (λ (x : ℕ). size h (lowest h l r) - x) (part_all h l r (lowest h l r) v.low v.high)) in
      λ i. record { node = e i; over = o i }

-- ---- one piece or two

-- the answers from the code's pieces
pub one_is : (h l r : ℕ) (p : Piece) → p ≡ lowest_piece h l r → record { number = 0; first = p.node; second = 0; over = p.over } ≡ one h l r
unfolding lowest_piece one
one_is h l r p e = λ i. record { number = 0; first = (e i).node; second = 0; over = (e i).over }

pub pair_is : (h l t r : ℕ) (p q : Piece) → p ≡ lowest_piece h l t → q ≡ lowest_piece h t r
    → record { number = 0; first = p.node; second = q.node; over = p.over + q.over } ≡ pair h l t r
unfolding lowest_piece pair
pair_is h l t r p q e f = λ i. record { number = 0; first = (e i).node; second = (f i).node; over = (e i).over + (f i).over }

pub over_small : (h l r : ℕ) (p : Piece) → Window h l r → p ≡ lowest_piece h l r → p.over ≤ 268435456
unfolding lowest_piece
over_small h l r p w e =
    let v = low_has h l r w in
    let o : p.over ≡ over h l r (lowest h l r) = ap (λ q. q.over) e in
    omega (arith, over_le h l r (lowest h l r), right_in h (lowest h l r) v.node w.levels, units_small h w.most)

pub sum_small : (h l t r : ℕ) (p q : Piece) → Window h l t × Window h t r → p ≡ lowest_piece h l t → q ≡ lowest_piece h t r → p.over + q.over < 2 ^ 64
sum_small h l t r p q w e f = omega (arith, over_small h l t p w.0 e, over_small h t r q w.1 f)

module _ (h l r : ℕ) where
  cut_yes : edge_child h l r (r - 1) ≡ suc (edge_child h l r l) → cut_unit h l r ≡ cut h l r
  unfolding cut_unit
  cut_yes e = choose_eq (edge_child h l r (r - 1)) (suc (edge_child h l r l)) _ _ e

  cut_no : (edge_child h l r (r - 1) ≡ suc (edge_child h l r l) → ⊥) → cut_unit h l r ≡ 0
  unfolding cut_unit
  cut_no d = choose_ne (edge_child h l r (r - 1)) (suc (edge_child h l r l)) _ _ d

module _ {h l r t : ℕ} (w : Window h l r) (et : t ≡ cut_unit h l r) where
  whole : t ≡ 0 → edge_child h l r (r - 1) ≡ suc (edge_child h l r l) → ⊥
  whole z e = omega (arith, cut_yes h l r e, (halves h l r w e).after)

  halved : (t ≡ 0 → ⊥) → (edge_child h l r (r - 1) ≡ suc (edge_child h l r l)) × (t ≡ cut h l r)
  halved z = by_eq (edge_child h l r (r - 1)) (suc (edge_child h l r l)) (λ e. (e, et ∙ cut_yes h l r e)) (λ d. absurd (z (et ∙ cut_no h l r d)))

  pub one_least : t ≡ 0 → lowest h l r ∷ [] ≡ least_cover 2 h l r
  one_least z = sym (split_least h l r w ∙ split_one h l r w (whole z))

  pub two_least : (t ≡ 0 → ⊥) → lowest h l t ∷ lowest h t r ∷ [] ≡ least_cover 2 h l r
  two_least z = let c = halved z in ap (λ (u : ℕ). lowest h l u ∷ lowest h u r ∷ []) c.1 ∙ sym (split_least h l r w ∙ split_two h l r w c.0)

  pub one_code : t ≡ 0 → one h l r ≡ accepted h l r (least_cover 2 h l r)
  unfolding one accepted total
  one_code z =
      let o : over h l r (lowest h l r) ≡ over h l r (lowest h l r) + 0 = omega arith in
      (λ i. record { number = 0; first = lowest h l r; second = 0; over = o i }) ∙ ap (accepted h l r) (one_least z)

  pub pair_code : (t ≡ 0 → ⊥) → pair h l t r ≡ accepted h l r (least_cover 2 h l r)
  unfolding pair accepted total
  pair_code z =
      let s = halves h l r w (halved z).0 in
      let c = cut h l r in
      let p = lowest h l c in
      let q = lowest h c r in
      let op : over h l c p ≡ over h l r p =
      over_part h l c l r p (part_all h l c p s.has_p.low s.has_p.high ∙ sym (part_ends h l r p c s.has_p.low s.end_p (omega (arith, s.before)))) in
      let oq : over h c r q ≡ over h l r q =
      over_part h c r l r q (part_all h c r q s.has_q.low s.has_q.high ∙ sym (part_starts h l r q c s.start_q (omega (arith, s.after)) s.has_q.high)) in
      let o : over h l c p + over h c r q ≡ over h l r p + (over h l r q + 0) = omega arith in
      ap (λ (u : ℕ). pair h l u r) (halved z).1 ∙ (λ i. record { number = 0; first = p; second = q; over = o i })
      ∙ ap (accepted h l r) (sym (split_least h l r w ∙ split_two h l r w (halved z).0))

  pub halves_fit : (t ≡ 0 → ⊥) → Window h l t × Window h t r
  halves_fit z =
      let c = halved z in
      let s = halves h l r w c.0 in (
        record { levels = w.levels; most = w.most; some = omega (arith, s.after, c.1); fits = omega (arith, s.before, c.1, w.fits) },
        record { levels = w.levels; most = w.most; some = omega (arith, s.before, c.1); fits = w.fits },
      )

  pub other_one : (first second : ℕ) {n : ℕ} → t ≡ 0 → n ≡ lowest h l r → (not (eqb first n) || not (eqb second 0)) ≡ not_cover false (least_cover 2 h l r) first second
  other_one first second z e =
      ap (λ (n : ℕ). not (eqb first n) || not (eqb second 0)) e ∙ ap (λ (c : List ℕ). not_cover false c first second) (one_least z)

  pub other_two : (first second : ℕ) {n m : ℕ} → (t ≡ 0 → ⊥) → n ≡ lowest h l t → m ≡ lowest h t r
      → (not (eqb first n) || not (eqb second m)) ≡ not_cover false (least_cover 2 h l r) first second
  other_two first second z e f =
      (λ i. not (eqb first (e i)) || not (eqb second (f i))) ∙ ap (λ (c : List ℕ). not_cover false c first second) (two_least z)

module _ {h l r k : ℕ} (w : Window h l r) (ek : k ≡ rise l (r - 1)) where
  pub cut_leaf : k ≡ 0 → 0 ≡ cut_unit h l r
  cut_leaf z = sym (cut_no h l r (λ e. omega (arith, same_leaf h l r w (omega (arith, low_level h l r w)))))

  module _ (inner : k ≡ 0 → ⊥) where
    -- the child of the lowest node that stands for unit u, by its place in its level
    child_place : (u : ℕ) → edge_child h l r u ≡ first (h - k + 1) + u / 2 ^ (2 * k + 4)
    child_place u =
        let b = levels_left w ek in
        let d : suc (level (lowest h l r)) ≡ h - k + 1 = omega (arith, low_level h l r w) in
        let e : h - (h - k + 1) ≡ k - 1 = omega (arith, inner) in
        let f : 2 * (k - 1) + 6 ≡ 2 * k + 4 = omega (arith, inner) in
        ap (λ (x : ℕ). holder h x u) d ∙ holder_is h (h - k + 1) u (omega arith) (omega (arith, inner))
        ∙ ap (λ (x : ℕ). first (h - k + 1) + x) (ap (λ (x : ℕ). u / 64 / 4 ^ x) e ∙ sym (place_code u (k - 1)) ∙ ap (λ (x : ℕ). u / 2 ^ x) f)

    pub cut_none : ((r - 1) / 2 ^ (2 * k + 4) ≡ l / 2 ^ (2 * k + 4) + 1 → ⊥) → 0 ≡ cut_unit h l r
    cut_none d = sym (cut_no h l r (λ e. d (omega (arith, child_place (r - 1), child_place l))))

    pub cut_code : (r - 1) / 2 ^ (2 * k + 4) ≡ l / 2 ^ (2 * k + 4) + 1 → ((r - 1) / 2 ^ (2 * k + 4) * 2 ^ (2 * k + 4)) % 2 ^ 64 ≡ cut_unit h l r
    cut_code q =
        let y = (r - 1) / 2 ^ (2 * k + 4) in
        let d = h - k + 1 in
        let b = levels_left w ek in
        let e : h - d ≡ k - 1 = omega (arith, inner) in
        let f : 6 + 2 * (k - 1) ≡ 2 * k + 4 = omega (arith, inner) in
        let p : 2 ^ (2 * k + 4) ≡ 64 * 4 ^ (k - 1) = ap (λ (x : ℕ). 2 ^ x) (sym f) ∙ pow-add 2 6 (2 * (k - 1)) ∙ ap (λ (x : ℕ). 64 * x) (four (k - 1)) in
        let v : level (first d + y) ≡ d = ap level (sym (child_place (r - 1))) ∙ holder_level h (r - 1) w.levels (omega (arith, w.some, w.fits)) (suc (level (lowest h l r))) (omega arith) (omega (arith, low_level h l r w, inner)) ∙ omega (arith, low_level h l r w) in
        let c : cut h l r ≡ 64 * (4 ^ (k - 1) * y) = ap (left h) (child_place (r - 1)) ∙ left_edge_is h d y (omega arith) (omega (arith, inner)) v ∙ ap (λ (x : ℕ). 64 * (4 ^ x * y)) e in
        mod-eq_of_lt (omega (arith, div-mul-le_self (r - 1) (2 ^ (2 * k + 4)), w.fits, units_small h w.most)) ∙ ap (λ (x : ℕ). y * x) p ∙ omega arith
        ∙ sym (cut_yes h l r (omega (arith, child_place (r - 1), child_place l)))

-- ---- the tests of the call

module _ (h l r : ℕ) where
  pub levels_refused : levels_outside h ≡ true → refused 1 ≡ answer h l r
  unfolding answer choose
  levels_refused e = rw e

  pub window_refused_lem : levels_outside h ≡ false → window_outside h l r ≡ true → refused 7 ≡ answer h l r
  unfolding answer choose
  window_refused_lem e f = rw (e, f)

  pub window_covered : levels_outside h ≡ false → window_outside h l r ≡ false → accepted h l r (least_cover 2 h l r) ≡ answer h l r
  unfolding answer choose
  window_covered e f = rw (e, f)

  -- N, as the code shifts it
  pub units_code : 1 ≤ h → h ≤ 12 → (64 * 2 ^ (2 * (h - 1))) % 2 ^ 64 ≡ units h
  unfolding units
  units_code a b = shifted 64 (h - 1) (omega (arith, four_small (h - 1) (omega arith)))

  pub levels_inside : levels_outside h ≡ false → (2 ≤ h) × (h ≤ 12)
  unfolding levels_outside
  levels_inside e = let t = both_false (ltb h 2) _ e in (ltb-false h 2 t.0, ltb-false 12 h t.1)

  pub window_tested : (2 ≤ h) × (h ≤ 12) → (leb r l || ltb ((64 * 2 ^ (2 * (h - 1))) % 2 ^ 64) r) ≡ window_outside h l r
  unfolding window_outside
  window_tested v = ap (λ (n : ℕ). leb r l || ltb n r) (units_code (omega (arith, v.0)) v.1)

  -- a window that is not outside is one of the tree
  pub window_inside : 1 ≤ h → h ≤ 12 → window_outside h l r ≡ false → Window h l r
  unfolding window_outside
  window_inside a b e =
      let t = both_false (leb r l) _ e in
      record { levels = a; most = b; some = leb-false r l t.0; fits = ltb-false (units h) r t.1 }

  -- and the other way round
  pub levels_right : 2 ≤ h → h ≤ 12 → levels_outside h ≡ false
  unfolding levels_outside
  levels_right a b = rw (le-ltb h 2 a, le-ltb 12 h b)

  pub window_right : Window h l r → window_outside h l r ≡ false
  unfolding window_outside
  window_right w = rw (lt-leb r l w.some, le-ltb (units h) r w.fits)
