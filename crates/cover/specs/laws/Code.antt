-- What the functions of the cover give, over plain numbers. Their laws: proofs/laws/Code.antt. Assumes nothing.
use Rattle.std.specs.Prelude.{Bool, not, ◌||◌, List, ℕ, suc, ◌+◌, ◌-◌, eqb, get_or}
use Rattle.base.specs.rules.Choice.{choose}
use Rattle.cover.specs.declared.Answer.{Answer}
use Rattle.cover.specs.declared.window.Piece.{Piece}
use Rattle.cover.specs.rules.Cover.{over}
use Rattle.cover.specs.laws.Lowest.{lowest}
use Rattle.cover.specs.laws.Split.{edge_child, cut}

unfoldable pub lowest_piece : ℕ → ℕ → ℕ → Piece
lowest_piece h l r = record { node = lowest h l r; over = over h l r (lowest h l r) }

unfoldable pub one : ℕ → ℕ → ℕ → Answer
one h l r = record { number = 0; first = lowest h l r; second = 0; over = over h l r (lowest h l r) }

unfoldable pub pair : ℕ → ℕ → ℕ → ℕ → Answer
pair h l t r = record { number = 0; first = lowest h l t; second = lowest h t r; over = over h l t (lowest h l t) + over h t r (lowest h t r) }

-- the unit at which the window is cut in two, 0 for none
unfoldable pub cut_unit : ℕ → ℕ → ℕ → ℕ
cut_unit h l r = choose (eqb (edge_child h l r (r - 1)) (suc (edge_child h l r l))) (cut h l r) 0

-- the window is outside, or its pieces are not these two numbers, 0 for none
abbrev pub not_cover : Bool → List ℕ → ℕ → ℕ → Bool
not_cover outside c first second = outside || not (eqb first (get_or c 0 0)) || not (eqb second (get_or c 1 0))
