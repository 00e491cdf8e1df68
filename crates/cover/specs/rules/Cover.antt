-- To be believed: document 01, section "The pieces of a window": what a cover is, and which cover is the least. A cover is a list of nodes, of
-- at most k; document 01 has k = 2. Assumes nothing.
use Rattle.std.specs.Prelude.{◌≡◌, ◌⊎◌, List, [], ◌∷◌, ℕ, ◌+◌, ◌-◌, ◌≤◌, ◌<◌, min, max, eqb, length}
use Rattle.base.specs.rules.Choice.{choose}
use Rattle.tree.specs.rules.Tree.{level, left, right, size, Node, Holds}

-- how many units of n lie in the window [l, r)
unfoldable pub part : ℕ → ℕ → ℕ → ℕ → ℕ
part h l r n = min r (right h n) - max l (left h n)

-- "Over-cover: for an inner node its size less its part of the window; for a leaf 0, since only the wanted bits are taken."
unfoldable pub over : ℕ → ℕ → ℕ → ℕ → ℕ
over h l r n = choose (eqb (level n) h) 0 (size h n - part h l r n)

unfoldable pub total : ℕ → ℕ → ℕ → List ℕ → ℕ
total h l r [] = 0
total h l r (n ∷ c) = over h l r n + total h l r c

-- n is in the list
unfoldable pub In : ℕ → List ℕ → Type 0
In n [] = ⊥
In n (m ∷ c) = (n ≡ m) ⊎ In n c

-- a node "meeting the window"
pub record Meets (h l r n : ℕ) : Type 0 where
  pub node : Node h n
  pub unit : ℕ
  pub low : l ≤ unit
  pub high : unit < r
  pub holds : Holds h n unit

-- a node of the list that stands for unit u
pub record Holder (h : ℕ) (c : List ℕ) (u : ℕ) : Type 0 where
  pub node : ℕ
  pub among : In node c
  pub holds : Holds h node u

-- "in rising order of left edge"
unfoldable pub Rising : ℕ → List ℕ → Type 0
Rising h [] = Unit
Rising h (n ∷ []) = Unit
Rising h (n ∷ m ∷ c) = (left h n < left h m) × Rising h (m ∷ c)

-- "nodes with disjoint ranges, each meeting the window, together holding all of it"
pub record Covers (h l r : ℕ) (c : List ℕ) : Type 0 where
  pub meets : (n : ℕ) → In n c → Meets h l r n
  pub holds : (u : ℕ) → l ≤ u → u < r → Holder h c u
  pub disjoint : (n m u : ℕ) → In n c → In m c → Holds h n u → Holds h m u → n ≡ m
  pub rising : Rising h c

-- one list of numbers before another, as words in a dictionary
unfoldable pub Before : List ℕ → List ℕ → Type 0
Before [] [] = ⊥
Before [] (y ∷ ys) = Unit
Before (x ∷ xs) [] = ⊥
Before (x ∷ xs) (y ∷ ys) = (x < y) ⊎ ((x ≡ y) × Before xs ys)

-- "Least total over-cover wins, then fewer nodes, then the lower number of the first node, then of the second."
unfoldable pub rank : ℕ → ℕ → ℕ → List ℕ → List ℕ
rank h l r c = total h l r c ∷ length c ∷ c

-- c is the least of all covers of at most k nodes
pub record Least (k h l r : ℕ) (c : List ℕ) : Type 0 where
  pub covers : Covers h l r c
  pub few : length c ≤ k
  pub least : (d : List ℕ) → Covers h l r d → length d ≤ k → (c ≡ d) ⊎ Before (rank h l r c) (rank h l r d)
