-- Laws of a node's range within its ancestors': the children's ranges follow each other and make up the node's. Assumes nothing.
use Rattle.std.specs.Prelude.{◌≡◌, refl}
use Rattle.std.proofs.Common.{sym, ◌∙◌}
use Rattle.std.proofs.Math.Path.{ap, subst}
use Prim.Native.Nat.{ℕ, zero, suc, ◌+◌, ◌-◌, ◌*◌, ◌^◌, ◌≤◌, ◌<◌}
use native.Mathlib.Omega.{arith}
use Rattle.base.specs.laws.ChoiceLaws.{by_lt}
use Rattle.tree.specs.rules.Tree.{parent, child, climb, leftmost, first, level, Node, units, size, left, right, Holds, holder, Above}
use Rattle.tree.proofs.laws.Climb.{left_pos, left_mono, left_shift, left_child}
use Rattle.tree.proofs.laws.Level.{level_pos, level_root, level_up}
use Rattle.tree.proofs.laws.Range.{leaves_from, right_in, holds_holder, holder_own, holder_climb}

-- the range of p is within that of q, at most a quarter of it
pub record Within (h p q : ℕ) : Type 0 where
  pub from : left h q ≤ left h p
  pub to : right h p ≤ right h q
  pub quarter : 4 * size h p ≤ size h q
  pub higher : level q < level p

pub parent_node : (h n : ℕ) → 2 ≤ n → Node h n → Node h (parent n)
parent_node h n l v = record { some = omega arith; inside = omega (arith, level_up n l, v.inside) }

pub within_parent : (h n : ℕ) → 2 ≤ n → Node h n → Within h n (parent n)
unfolding left size leftmost
within_parent h n l v =
    let p = parent n in
    let k = h - level n in
    let u = level_up n l in
    let e : h - level p ≡ suc k = omega (arith, v.inside) in
    let c = left_child k p in
    let a = left_mono k (child p 0) n (omega arith) in
    let b = left_mono k (n + 1) (child p 0 + 4) (omega arith) in
    let s = left_shift k n 1 (omega arith) in
    let t = left_shift k (child p 0) 4 (omega arith) in
    let g = leaves_from h n v in
    let g' = leaves_from h p (parent_node h n l v) in
    let q = left_pos k p (omega arith) in
    record { from = rw e (omega arith); to = rw e (omega arith); quarter = rw e (omega arith); higher = omega arith }

within_trans : {h p q r : ℕ} → Within h p q → Within h q r → Within h p r
within_trans a b = record { from = omega arith; to = omega arith; quarter = omega arith; higher = omega arith }

pub within_climb : (h j p : ℕ) → Node h p → suc j < level p → Within h p (climb (suc j) p)
unfolding climb
within_climb h zero p v l = by_lt p 2 (λ q. absurd (omega (arith, level_root p (omega arith)))) (λ q. within_parent h p q v)
within_climb h (suc j) p v l =
    by_lt p 2
    (λ q. absurd (omega (arith, level_root p (omega arith))))
    (λ q. within_trans (within_parent h p q v) (within_climb h j (parent p) (parent_node h p q v) (omega (arith, level_up p q))))

pub within_above : (h p q : ℕ) → Node h p → Above q p → Within h p q
within_above h p q v a =
    let j = level p - level q - 1 in
    let e : level p - level q ≡ suc j = omega (arith, a.higher) in
    subst (λ (x : ℕ). Within h p x) (ap (λ (k : ℕ). climb k p) (sym e) ∙ a.meets) (within_climb h j p v (omega (arith, level_pos q)))

-- ---- neighbours and children

-- i places on, in the same level
pub left_along : (h x i : ℕ) → Node h x → Node h (x + i) → level (x + i) ≡ level x → left h (x + i) ≡ left h x + size h x * i
unfolding left size
left_along h x i v w e = rw e (omega (arith, left_shift (h - level x) x i v.some, leaves_from h x v))

pub size_along : (h x y : ℕ) → level y ≡ level x → size h y ≡ size h x
unfolding size
size_along h x y e = rw e refl

module _ (h n i : ℕ) (some : 1 ≤ n) (four : i < 4) (inner : level n < h) where
  pub child_parent : parent (child n i) ≡ n
  child_parent = omega arith

  pub child_level : level (child n i) ≡ suc (level n)
  child_level = level_up (child n i) (omega arith) ∙ ap (λ (x : ℕ). suc (level x)) child_parent

  pub child_node : Node h (child n i)
  child_node = record { some = omega arith; inside = omega (arith, child_level) }

  pub child_size : 4 * size h (child n i) ≡ size h n
  unfolding size
  child_size =
      let e : h - level n ≡ suc (h - suc (level n)) = omega arith in
      rw (child_level, e) (omega arith)

  -- the children's ranges follow each other and make up the node's
  pub child_left : left h (child n i) ≡ left h n + size h (child n i) * i
  unfolding left size leftmost
  child_left =
      let k = h - suc (level n) in
      let e : h - level n ≡ suc k = omega arith in
      let v : Node h n = record { some = some; inside = omega arith } in
      let g : first h ≤ leftmost (suc k) n = subst (λ (x : ℕ). first h ≤ leftmost x n) e (leaves_from h n v) in
      let c : child n i ≡ child n 0 + i = omega arith in
      let s : leftmost k (child n i) ≡ leftmost k (child n 0) + 4 ^ k * i = ap (leftmost k) c ∙ left_shift k (child n 0) i (omega arith) in
      rw (child_level, e) (omega (arith, left_child k n))

-- ---- the children share out the node's units

module _ (h n : ℕ) (hh : 1 ≤ h) (v : Node h n) (inner : level n < h) where
  -- each unit of a node is a unit of one of its children
  pub child_some : (u : ℕ) → Holds h n u → (parent (holder h (suc (level n)) u) ≡ n) × Holds h (holder h (suc (level n)) u) u
  unfolding climb
  child_some u w =
      let b : u < units h = omega (arith, w.high, right_in h n v hh) in
      let d = suc (level n) in
      let one : d - level n ≡ 1 = omega arith in (
        ap (λ (k : ℕ). climb k (holder h d u)) (sym one) ∙ holder_climb h u hh b (level n) d (level_pos n) (omega arith) inner ∙ holds_holder h n v u w,
        holder_own h u hh b d (omega arith) inner,
      )

  -- a child's units are the node's
  pub child_in : (i : ℕ) → i < 4 → (u : ℕ) → Holds h (child n i) u → Holds h n u
  child_in i b u w =
      let e = child_parent h n i v.some b inner in
      let p = subst (λ (x : ℕ). Within h (child n i) x) e (within_parent h (child n i) (omega (arith, v.some)) (child_node h n i v.some b inner)) in
      record { low = omega (arith, p.from, w.low); high = omega (arith, p.to, w.high) }

  -- and two children have none in common
  pub child_once : (i j : ℕ) → i < 4 → j < 4 → (u : ℕ) → Holds h (child n i) u → Holds h (child n j) u → i ≡ j
  child_once i j a b u w z =
      let e = holds_holder h (child n i) (child_node h n i v.some a inner) u w in
      let f = holds_holder h (child n j) (child_node h n j v.some b inner) u z in
      let g : level (child n i) ≡ level (child n j) = child_level h n i v.some a inner ∙ sym (child_level h n j v.some b inner) in
      let k : child n i ≡ child n j = sym e ∙ ap (λ (d : ℕ). holder h d u) g ∙ f in
      omega arith
