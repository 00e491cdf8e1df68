-- To be believed: the lists of nodes that a client walks. Document 01, section "Notices and the checked part", and "read the ancestor,
-- parent first". Assumes nothing.
use Rattle.std.specs.Prelude.{Bool, ◌&&◌, ◌||◌, List, [], ◌∷◌, ◌++◌, map, ℕ, zero, suc, ◌-◌, ◌%◌, ◌^◌, min, eqb, leb}
use Rattle.base.specs.rules.Choice.{choose}
use Rattle.tree.specs.rules.Tree.{parent, climb, leftmost, level}

-- the ancestor of n at level d; n itself at its own level
unfoldable pub ancestor : ℕ → ℕ → ℕ
ancestor d n = climb (level n - d) n

-- the nodes that 1, 2, .. k steps up from n lead to
unfoldable pub upward : ℕ → ℕ → List ℕ
upward zero n = []
upward (suc k) n = parent n ∷ upward k (parent n)

-- all ancestors of n, "parent first", the root last
unfoldable pub ancestors : ℕ → List ℕ
ancestors n = upward (level n - 1) n

-- whether a node at level d notifies its ancestor at level e: "for 2 ≤ d ≤ m the parent; for d > m all of d-1, d-1-m, d-1-2m, .. that are at
-- least m, and m itself". ("for d = 1 none": there is no level above it.)
unfoldable pub notifies : ℕ → ℕ → ℕ → Bool
notifies m d e = choose (leb d m) (eqb e (d - 1)) (eqb e m || leb m e && eqb ((d - 1 - e) % m) 0)

-- of the levels e, e - 1, .. 1 those that it notifies
unfoldable pub notified_from : ℕ → ℕ → ℕ → List ℕ
notified_from m d zero = []
notified_from m d (suc e) = choose (notifies m d (suc e)) (suc e ∷ notified_from m d e) (notified_from m d e)

-- "each level a single time, lowest node first"
unfoldable pub notify_levels : ℕ → ℕ → List ℕ
notify_levels m d = notified_from m d (d - 1)

-- the nodes that n notifies
unfoldable pub notify_list : ℕ → ℕ → List ℕ
notify_list m n = map (λ d. ancestor d n) (notify_levels m (level n))

-- count numbers in a row, from n on
unfoldable pub row : ℕ → ℕ → List ℕ
row zero n = []
row (suc count) n = n ∷ row count (suc n)

-- the nodes that are k levels below n, "by rising number"
unfoldable pub descendants : ℕ → ℕ → List ℕ
descendants k n = row (4 ^ k) (leftmost k n)

-- n and the nodes that are fewer than k levels below it
unfoldable pub nearest : ℕ → ℕ → List ℕ
nearest zero n = []
nearest (suc k) n = nearest k n ++ descendants k n

-- "A node at level L checks itself and its inner descendants at levels L..L+m-1, by rising number": of a tree with h levels those below h are inner
unfoldable pub check_list : ℕ → ℕ → ℕ → List ℕ
check_list h m n = nearest (min m (h - level n)) n
