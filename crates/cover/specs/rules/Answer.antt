-- To be believed: "Cover as a call takes H, l and r and gives pieces and total over-cover; it tests 1 for H, then 7." Assumes nothing.
use Rattle.std.specs.Prelude.{Bool, ◌||◌, List, ℕ, leb, ltb, get_or, Result, Ok, Err}
use Rattle.base.specs.declared.Refusal.{Refusal}
use Rattle.base.specs.rules.Choice.{choose}
use Rattle.base.specs.rules.Refusals.{number_of}
use Rattle.tree.specs.rules.Tree.{units}
use Rattle.cover.specs.declared.Answer.{Answer}
use Rattle.cover.specs.declared.Pieces.{Pieces}
use Rattle.cover.specs.rules.Cover.{total}
use Rattle.cover.specs.rules.Search.{least_cover}

-- "Levels H are 2..12": H outside its range is cause 1
unfoldable pub levels_outside : ℕ → Bool
levels_outside h = ltb h 2 || ltb 12 h

-- cause 7: "l ≥ r or r > N"
unfoldable pub window_outside : ℕ → ℕ → ℕ → Bool
window_outside h l r = leb r l || ltb (units h) r

-- "number only": the rest is 0
unfoldable pub refused : ℕ → Answer
refused cause = record { number = cause; first = 0; second = 0; over = 0 }

-- number 0; the pieces in order, 0 where there is no second; and their total over-cover
unfoldable pub accepted : ℕ → ℕ → ℕ → List ℕ → Answer
accepted h l r c = record { number = 0; first = get_or c 0 0; second = get_or c 1 0; over = total h l r c }

-- the call: "one or two nodes"
unfoldable pub answer : ℕ → ℕ → ℕ → Answer
answer h l r = choose (levels_outside h) (refused 1) (choose (window_outside h l r) (refused 7) (accepted h l r (least_cover 2 h l r)))

-- the pieces of a cover, 0 where there is no second, and their total over-cover
abbrev pub pieces_of : ℕ → ℕ → ℕ → List ℕ → Pieces
pieces_of h l r c = record { first = get_or c 0 0; second = get_or c 1 0; over = total h l r c }

-- what C is told: the pieces, or the refusal's number
abbrev pub answer_of : Result Pieces Refusal → Answer
answer_of (Ok p) = record { number = 0; first = p.first; second = p.second; over = p.over }
answer_of (Err r) = refused (number_of r)
