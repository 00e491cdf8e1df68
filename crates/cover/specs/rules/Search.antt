-- To be believed as far as Cover.antt is: the least cover, computed by a search over the level of each next node. The theorem in laws/Least.antt says in the words
-- of Cover.antt what it finds, and that there is no other. Assumes nothing.
use Rattle.std.specs.Prelude.{Bool, true, false, List, [], ◌∷◌, ℕ, zero, suc, eqb, leb, ltb}
use Rattle.std.proofs.Math.Option.{Option, none, some}
use Rattle.base.specs.rules.Choice.{choose}
use Rattle.tree.specs.rules.Tree.{holder, left, right}
use Rattle.cover.specs.rules.Cover.{rank}

-- the test for `Before`
unfoldable pub before : List ℕ → List ℕ → Bool
before [] [] = false
before [] (y ∷ ys) = true
before (x ∷ xs) [] = false
before (x ∷ xs) (y ∷ ys) = choose (ltb x y) true (choose (eqb x y) (before xs ys) false)

module _ (h l r : ℕ) where
  -- the lesser of two lists, where there are two
  unfoldable pub lesser : Option (List ℕ) → Option (List ℕ) → Option (List ℕ)
  lesser none b = b
  lesser (some a) none = some a
  lesser (some a) (some b) = choose (before (rank h l r a) (rank h l r b)) (some a) (some b)

  unfoldable pub behind : ℕ → Option (List ℕ) → Option (List ℕ)
  behind p none = none
  behind p (some c) = some (p ∷ c)

  -- the least of f 1 .. f n
  unfoldable pub least_of : ℕ → (ℕ → Option (List ℕ)) → Option (List ℕ)
  least_of zero f = none
  least_of (suc n) f = lesser (f (suc n)) (least_of n f)

  -- at most k nodes that hold [t, r), the first of which starts at t
  unfoldable pub rest : ℕ → ℕ → Option (List ℕ)
  rest zero t = choose (leb r t) (some []) none
  rest (suc k) t =
      choose (leb r t) (some [])
      (least_of h (λ d. choose (eqb (left h (holder h d t)) t) (behind (holder h d t) (rest k (right h (holder h d t)))) none))

  -- at most k nodes that hold [l, r)
  unfoldable pub search : ℕ → Option (List ℕ)
  search zero = none
  search (suc k) = least_of h (λ d. behind (holder h d l) (rest k (right h (holder h d l))))

unfoldable pub found : Option (List ℕ) → List ℕ
found none = []
found (some c) = c

-- the least cover of [l, r) by at most k nodes of the tree with h levels
unfoldable pub least_cover : ℕ → ℕ → ℕ → ℕ → List ℕ
least_cover k h l r = found (search h l r k)
