-- Laws: where a window of the tree is split in two. Its lowest node's children at the edges are neighbours, and each half has a lowest node of its
-- own; no other place can be the cut of two nodes. Assumes nothing.
use Rattle.std.specs.Prelude.{◌≡◌, List, [], ◌∷◌, eqb}
use Rattle.std.proofs.Math.Path.{sym, ap}
use Rattle.std.proofs.Common.{◌∙◌, subst, ⊎_elim}
use Prim.Native.Nat.{ℕ, suc, ◌+◌, ◌-◌, ◌*◌, ◌≤◌, ◌<◌}
use native.Mathlib.Omega.{arith}
use Rattle.base.specs.rules.Choice.{choose}
use Rattle.base.specs.laws.ChoiceLaws.{by_lt}
use Rattle.tree.specs.rules.Tree.{climb, leaf, holder, level, left, right, size, units, Node, Holds}
use Rattle.tree.proofs.laws.Climb.{climb_mono}
use Rattle.tree.proofs.laws.Level.{level_pos}
use Rattle.tree.proofs.laws.Range.{holder_level, holder_node, holder_own, holder_climb, holds_holder, nested, size_pos}
use Rattle.tree.proofs.laws.Within.{Within, within_above, left_along, size_along}
use Rattle.cover.specs.laws.Lowest.{lowest, Window}
use Rattle.cover.proofs.laws.Lowest.{Has, low_has, low_least, low_apart}
use Rattle.cover.specs.laws.Split.{edge_child, cut}

-- the lowest nodes of the two halves, if the children at the edges are neighbours; else the lowest node
unfoldable pub split : ℕ → ℕ → ℕ → List ℕ
split h l r =
    choose (eqb (edge_child h l r (r - 1)) (suc (edge_child h l r l))) (lowest h l (cut h l r) ∷ lowest h (cut h l r) r ∷ []) (lowest h l r ∷ [])

-- ---- the two children at the edges

module _ (h l r : ℕ) (w : Window h l r) where
  abbrev n : ℕ
  n = lowest h l r

  abbrev x : ℕ
  x = edge_child h l r l

  abbrev y : ℕ
  y = edge_child h l r (r - 1)

  has : Has h l r n
  has = low_has h l r w

  left_in : l < units h
  left_in = omega (arith, w.some, w.fits)

  last_in : r - 1 < units h
  last_in = omega (arith, w.some, w.fits)

  holds_l : Holds h n l
  holds_l = record { low = has.low; high = omega (arith, has.high, w.some) }

  holds_r : Holds h n (r - 1)
  holds_r = record { low = omega (arith, has.low, w.some); high = omega (arith, has.high, w.some) }

  -- a node of the next level that stands for a unit of the lowest node is within it
  child_within : (u : ℕ) → u < units h → Holds h n u → level n < h → Within h (edge_child h l r u) n
  child_within u hu q b =
      let d = suc (level n) in
      let e = holder_level h u w.levels hu d (omega arith) b in
      within_above h (edge_child h l r u) n (holder_node h u w.levels hu d (omega arith) b)
      (record { higher = omega arith; meets = ap (λ (k : ℕ). climb (k - level n) (edge_child h l r u)) e ∙ holder_climb h u w.levels hu (level n) d (level_pos n) (omega arith) b ∙ holds_holder h n has.node u q })

  x_le_y : x ≤ y
  unfolding holder
  x_le_y = climb_mono (h - suc (level n)) (leaf h l) (leaf h (r - 1)) (omega (arith, w.some))

  record Edges : Type 0 where
    inner : level n < h
    vx : Node h x
    vy : Node h y
    lx : level x ≡ suc (level n)
    ly : level y ≡ suc (level n)
    wx : Holds h x l
    wy : Holds h y (r - 1)
    inx : Within h x n
    order : x < y

  edges : level n < h → Edges
  edges b =
      let d = suc (level n) in
      let le : x ≤ y = x_le_y in
      let ne = low_apart h l r w d (omega arith) b in
      record {
        inner = b;
        vx = holder_node h l w.levels left_in d (omega arith) b;
        vy = holder_node h (r - 1) w.levels last_in d (omega arith) b;
        lx = holder_level h l w.levels left_in d (omega arith) b;
        ly = holder_level h (r - 1) w.levels last_in d (omega arith) b;
        wx = holder_own h l w.levels left_in d (omega arith) b;
        wy = holder_own h (r - 1) w.levels last_in d (omega arith) b;
        inx = child_within l left_in holds_l b;
        order = omega arith;
      }

  -- y is j + 1 places after x
  along : (j : ℕ) → Edges → y ≡ x + suc j → left h y ≡ left h x + size h x * suc j
  along j b f =
      let v : Node h (x + suc j) = subst (λ (z : ℕ). Node h z) f b.vy in
      let g : level (x + suc j) ≡ level x = ap level (sym f) ∙ b.ly ∙ sym b.lx in
      ap (left h) f ∙ left_along h x (suc j) b.vx v g

  -- neighbours: y starts where x ends
  next : Edges → y ≡ suc x → left h y ≡ right h x
  next b e = omega (arith, along 0 b (omega arith))

  -- if x reaches up to where y starts or beyond, they are neighbours
  touching : Edges → left h y ≤ right h x → y ≡ suc x
  touching b t =
      by_lt (suc x) y
      (λ q.
      let j = y - x - 2 in
      absurd (far (left h x) (size h x) j (left h y) (along (suc j) b (omega (arith, b.order))) t (size_pos h x b.vx)))
      (λ q. omega (arith, b.order))
    where
      far : (a s j c : ℕ) → c ≡ a + s * suc (suc j) → c ≤ a + s → 64 ≤ s → ⊥
      far a s j c e q z = omega arith

  -- ---- any two nodes that cover the window

  pub record Shape (p q : ℕ) : Type 0 where
    pub vp : Node h p
    pub vq : Node h q
    pub low : left h p ≤ l
    pub joint : right h p ≡ left h q
    pub high : r ≤ right h q
    pub after : l < left h q
    pub before : left h q < r

  -- they lie in x and y, which are neighbours, and are cut where those meet
  pub record Cut (q : ℕ) : Type 0 where
    pub neighbours : edge_child h l r (r - 1) ≡ suc (edge_child h l r l)
    pub edge : cut h l r ≡ left h q

  pub cut_at : (p q : ℕ) → Shape p q → Cut q
  cut_at p q s =
      let pl : Holds h p l = record { low = s.low; high = omega (arith, s.joint, s.after) } in
      let qr : Holds h q (r - 1) = record { low = omega (arith, s.before); high = omega (arith, s.high, w.some) } in
      let below_p : level n < level p =
      ⊎_elim (λ e. let g : right h p ≡ right h n = ap (right h) e in absurd (omega (arith, has.high, s.joint, s.before)))
      (⊎_elim (λ a. let z = within_above h n p has.node a in absurd (omega (arith, z.to, has.high, s.joint, s.before))) (λ a. a.higher))
      (nested h p n l w.levels left_in s.vp has.node pl holds_l) in
      let b = edges (omega (arith, s.vp.inside)) in
      let in_x : right h p ≤ right h x =
      ⊎_elim (λ e. let g : right h p ≡ right h x = ap (right h) e in omega arith)
      (⊎_elim (λ a. absurd (omega (arith, a.higher, b.lx))) (λ a. (within_above h p x s.vp a).to))
      (nested h p x l w.levels left_in s.vp b.vx pl b.wx) in
      let below_q : level n < level q =
      ⊎_elim (λ e. let g : left h q ≡ left h n = ap (left h) e in absurd (omega (arith, has.low, s.after)))
      (⊎_elim (λ a. let z = within_above h n q has.node a in absurd (omega (arith, z.from, has.low, s.after))) (λ a. a.higher))
      (nested h q n (r - 1) w.levels last_in s.vq has.node qr holds_r) in
      let in_y : left h y ≤ left h q =
      ⊎_elim (λ e. let g : left h q ≡ left h y = ap (left h) e in omega arith)
      (⊎_elim (λ a. absurd (omega (arith, a.higher, b.ly))) (λ a. (within_above h q y s.vq a).from))
      (nested h q y (r - 1) w.levels last_in s.vq b.vy qr b.wy) in
      let e = touching b (omega (arith, s.joint)) in
      record { neighbours = e; edge = omega (arith, next b e, s.joint) }

  -- at a leaf both are the leaf
  pub same_leaf : h ≤ level n → x ≡ y
  unfolding holder
  same_leaf b =
      let e : h - suc (level n) ≡ h - level n = omega arith in
      ap (λ (k : ℕ). climb k (leaf h l)) e ∙ holds_holder h n has.node l holds_l
      ∙ sym (ap (λ (k : ℕ). climb k (leaf h (r - 1))) e ∙ holds_holder h n has.node (r - 1) holds_r)

  at_edges : edge_child h l r (r - 1) ≡ suc (edge_child h l r l) → Edges
  at_edges e = by_lt (level n) h (λ b. edges b) (λ b. absurd (let s = same_leaf b in omega arith))

  -- ---- the two halves

  pub record Halves : Type 0 where
    pub inner : level (lowest h l r) < h
    pub after : l < cut h l r
    pub before : cut h l r < r
    pub has_p : Has h l (cut h l r) (lowest h l (cut h l r))
    pub has_q : Has h (cut h l r) r (lowest h (cut h l r) r)
    pub end_p : right h (lowest h l (cut h l r)) ≡ cut h l r
    pub start_q : left h (lowest h (cut h l r) r) ≡ cut h l r
    pub size_p : 4 * size h (lowest h l (cut h l r)) ≤ size h (lowest h l r)
    pub size_q : 4 * size h (lowest h (cut h l r) r) ≤ size h (lowest h l r)

  pub halves : edge_child h l r (r - 1) ≡ suc (edge_child h l r l) → Halves
  halves e =
      let t = cut h l r in
      let b = at_edges e in
      let nx = next b e in
      let sp = size_pos h x b.vx in
      let after : l < t = omega (arith, b.wx.high) in
      let before : t < r = omega (arith, b.wy.low, w.some) in
      let wp : Window h l t = record { levels = w.levels; most = w.most; some = after; fits = omega (arith, w.fits) } in
      let wq : Window h t r = record { levels = w.levels; most = w.most; some = before; fits = w.fits } in
      let hx : Has h l t x = record { node = b.vx; low = b.wx.low; high = omega arith } in
      let hy : Has h t r y = record { node = b.vy; low = omega arith; high = omega (arith, b.wy.high, w.some) } in
      let in_p : (right h (lowest h l t) ≤ right h x) × (size h (lowest h l t) ≤ size h x) =
      ⊎_elim (λ q. let g : right h x ≡ right h (lowest h l t) = ap (right h) q in let g' : size h x ≡ size h (lowest h l t) = ap (size h) q in (omega arith, omega arith)) (λ z. (z.to, omega (arith, z.quarter))) (low_least h l t wp x hx) in
      let in_q : (left h y ≤ left h (lowest h t r)) × (size h (lowest h t r) ≤ size h y) =
      ⊎_elim (λ q. let g : left h y ≡ left h (lowest h t r) = ap (left h) q in let g' : size h y ≡ size h (lowest h t r) = ap (size h) q in (omega arith, omega arith)) (λ z. (z.from, omega (arith, z.quarter))) (low_least h t r wq y hy) in
      let sy : size h y ≡ size h x = size_along h x y (b.ly ∙ sym b.lx) in
      let hp = low_has h l t wp in
      let hq = low_has h t r wq in
      record {
        inner = b.inner;
        after = after;
        before = before;
        has_p = hp;
        has_q = hq;
        end_p = omega (arith, in_p.0, hp.high);
        start_q = omega (arith, in_q.0, hq.low);
        size_p = omega (arith, in_p.1, b.inx.quarter);
        size_q = omega (arith, in_q.1, b.inx.quarter);
      }
