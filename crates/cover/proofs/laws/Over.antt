-- Laws of a node's part of the window and of its over-cover. Assumes nothing.
use Rattle.std.specs.Prelude.{◌≡◌, refl, ℕ, ◌-◌, ◌≤◌, ◌<◌, eqb}
use Rattle.std.proofs.Math.Nat.{pow-le-pow_right}
use Rattle.std.proofs.Common.{arith}
use Rattle.base.specs.laws.ChoiceLaws.{on_choose, choose_eq, choose_ne}
use Rattle.tree.specs.rules.Tree.{level, left, right, size, units, Node}
use Rattle.tree.proofs.laws.Range.{size_pos}
use Rattle.tree.proofs.laws.Within.{Within}
use Rattle.cover.specs.rules.Cover.{part, over}

pub over_le : (h l r n : ℕ) → over h l r n ≤ size h n - part h l r n
unfolding over
over_le h l r n = on_choose (λ x. x ≤ size h n - part h l r n) (eqb (level n) h) _ _ (λ _. omega arith) (λ _. omega arith)

pub over_leaf : (h l r n : ℕ) → level n ≡ h → over h l r n ≡ 0
unfolding over
over_leaf h l r n e = choose_eq (level n) h 0 _ e

pub over_inner : (h l r n : ℕ) → level n < h → over h l r n ≡ size h n - part h l r n
unfolding over
over_inner h l r n b = choose_ne (level n) h 0 _ (λ e. omega arith)

-- the part of the window in a node that has all of it, that ends in it, or that starts in it
pub part_all : (h l r n : ℕ) → left h n ≤ l → r ≤ right h n → part h l r n ≡ r - l
unfolding part
part_all h l r n a b = omega arith

pub part_ends : (h l r n t : ℕ) → left h n ≤ l → right h n ≡ t → t ≤ r → part h l r n ≡ t - l
unfolding part
part_ends h l r n t a b c = omega arith

pub part_starts : (h l r n t : ℕ) → left h n ≡ t → l ≤ t → r ≤ right h n → part h l r n ≡ r - t
unfolding part
part_starts h l r n t a b c = omega arith

-- two windows of which n has the same part
pub over_part : (h l r k s n : ℕ) → part h l r n ≡ part h k s n → over h l r n ≡ over h k s n
unfolding over
over_part h l r k s n e = rw e refl

-- a node that has all that a node within it has of the window takes more
pub over_grow : (h l r p q : ℕ) → Node h p → Within h p q → part h l r p ≡ part h l r q → 1 ≤ part h l r p → part h l r p ≤ size h p → over h l r p < over h l r q
over_grow h l r p q v w e s b = omega (arith, over_le h l r p, over_inner h l r q (omega (arith, w.higher, v.inside)), w.quarter, size_pos h p v)

-- ---- bounds

pub units_small : (h : ℕ) → h ≤ 12 → units h ≤ 268435456
unfolding units
units_small h b = omega (arith, pow-le-pow_right {n = 4} (omega arith) {i = h - 1} {j = 11} (omega arith))
