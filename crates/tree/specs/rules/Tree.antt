-- To be believed: document 01, section "The tree": node numbers, levels, and the units that a node stands for. Assumes nothing.
use Rattle.std.specs.Prelude.{◌≡◌, ℕ, zero, suc, ◌+◌, ◌-◌, ◌*◌, ◌/◌, ◌^◌, ◌≤◌, ◌<◌, ltb}
use Rattle.base.specs.rules.Choice.{choose}

-- "child i (0..3) of n is 4n - 2 + i"
abbrev pub child : ℕ → ℕ → ℕ
child n i = 4 * n - 2 + i

-- "the parent of n is (n + 2) / 4 rounded down"
abbrev pub parent : ℕ → ℕ
parent n = (n + 2) / 4

-- the node that k steps to the parent lead to
unfoldable pub climb : ℕ → ℕ → ℕ
climb zero n = n
climb (suc k) n = climb k (parent n)

-- the first of the nodes that are k levels below n
unfoldable pub leftmost : ℕ → ℕ → ℕ
leftmost zero n = n
leftmost (suc k) n = child (leftmost k n) 0

-- "level 1 is the root": one more than the steps from n up to the root. The first argument bounds the steps, and n is enough.
unfoldable pub level_within : ℕ → ℕ → ℕ
level_within zero n = 1
level_within (suc steps) n = choose (ltb n 2) 1 (suc (level_within steps (parent n)))

unfoldable pub level : ℕ → ℕ
level n = level_within n n

-- "Nodes are numbered from 1 in level order": the first and the last node of level d
unfoldable pub first : ℕ → ℕ
first zero = 1
first (suc d) = leftmost d 1

unfoldable pub last : ℕ → ℕ
last d = first (suc d) - 1

-- n is a node of the tree with h levels
pub record Node (h n : ℕ) : Type 0 where
  pub some : 1 ≤ n
  pub inside : level n ≤ h

-- the lent words, "whose count is exactly (4^H - 1) / 3"
unfoldable pub word_count : ℕ → ℕ
word_count h = (4 ^ h - 1) / 3

-- "N = 64 × 4^(H-1)"
unfoldable pub units : ℕ → ℕ
units h = 64 * 4 ^ (h - 1)

-- "A leaf stands for 64 units, an inner node for its children's units": [left, right), and 64 units for each of its leaves
unfoldable pub size : ℕ → ℕ → ℕ
size h n = 64 * 4 ^ (h - level n)

-- 64 units for each leaf before its first leaf
unfoldable pub left : ℕ → ℕ → ℕ
left h n = 64 * (leftmost (h - level n) n - first h)

abbrev pub right : ℕ → ℕ → ℕ
right h n = left h n + size h n

-- n stands for unit u
pub record Holds (h n u : ℕ) : Type 0 where
  pub low : left h n ≤ u
  pub high : u < right h n

-- the leaf that stands for unit u, and the node of level d that does
abbrev pub leaf : ℕ → ℕ → ℕ
leaf h u = first h + u / 64

unfoldable pub holder : ℕ → ℕ → ℕ → ℕ
holder h d u = climb (h - d) (leaf h u)

-- a is an ancestor of b, and b itself is none
pub record Above (a b : ℕ) : Type 0 where
  pub higher : level a < level b
  pub meets : climb (level b - level a) b ≡ a
