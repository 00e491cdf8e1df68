-- Where a window of the tree is split in two: the children of its lowest node at the edges. Their laws: proofs/laws/Split.antt. Assumes nothing.
use Prim.Native.Nat.{ℕ, suc, ◌-◌}
use Rattle.tree.specs.rules.Tree.{holder, level, left}
use Rattle.cover.specs.laws.Lowest.{lowest}

-- the child of the lowest node of [l, r) that stands for unit u. (A leaf has no child: there it is the leaf.)
abbrev pub edge_child : ℕ → ℕ → ℕ → ℕ → ℕ
edge_child h l r u = holder h (suc (level (lowest h l r))) u

-- where the right one of the two children starts
abbrev pub cut : ℕ → ℕ → ℕ → ℕ
cut h l r = left h (edge_child h l r (r - 1))
