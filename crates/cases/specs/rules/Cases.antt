-- To be believed: the cases that document 01, section "Edges", marks P, in one table. Assumes nothing.
use Rattle.std.specs.Prelude.{◌≡◌, List, [], ◌∷◌, ℕ}
use Rattle.word.specs.rules.Word.{occ, tcnt, tmax, return_occ}
use Rattle.tree.specs.rules.Tree.{parent}
use Rattle.tree.specs.rules.Lists.{notify_levels}
use Rattle.cover.specs.rules.Answer.{answer}

pub data Case : Type 0 where
  -- "H = 3 for covers": the window [l, r), its pieces (0 for no second) and its over-cover
  covers : (l r first second over : ℕ) → Case
  -- a node at level d, at distance m, notifies these levels
  notices : (d m : ℕ) → List ℕ → Case
  -- the parent of n
  parent_of : (n p : ℕ) → Case
  -- a word with this TCnt and this Occ, returned: TCnt and Occ afterwards, "TMax untouched"
  returned : (tcnt_before occ_before tcnt_after occ_after : ℕ) → Case

-- what a line of the table says
unfoldable pub Right : Case → Type 0
Right (covers l r p q o) = answer 3 l r ≡ record { number = 0; first = p; second = q; over = o }
Right (notices d m levels) = notify_levels m d ≡ levels
Right (parent_of n p) = parent n ≡ p
Right (returned t o u v) = (w : ℕ) → occ w ≡ o → tcnt w ≡ t → (occ (return_occ w) ≡ v) × (tcnt (return_occ w) ≡ u) × (tmax (return_occ w) ≡ tmax w)

abbrev pub table : List Case
table =
    covers 60 70 6 7 0
    ∷ covers 0 129 2 0 127
    ∷ covers 0 256 2 0 0
    ∷ covers 10 300 2 10 10
    ∷ covers 100 700 1 0 424
    ∷ covers 500 520 13 14 0
    ∷ notices 12 4 (11 ∷ 7 ∷ 4 ∷ [])
    ∷ notices 6 3 (5 ∷ 3 ∷ [])
    ∷ parent_of 21 5
    ∷ returned 32767 1 0 0
    ∷ []

-- every line of a table is right
unfoldable pub AllRight : List Case → Type 0
AllRight [] = Unit
AllRight (c ∷ cs) = Right c × AllRight cs
