-- A closed quarter of a day, and of the whole days after one. Their laws: proofs/laws/Days.antt. Assumes nothing.
use Rattle.std.specs.Prelude.{Bool, ◌||◌, ℕ, ◌+◌, ◌%◌, leb, ltb}
use Rattle.calendar.specs.rules.Hours.{some_below}

-- the opening and the closing quarter of each day of the week
module _ (opens closes : ℕ → ℕ) where
  -- a quarter of a day, from one to another, is closed
  abbrev pub closed_in : (day from to : ℕ) → Bool
  closed_in day from to = ltb from (opens day) || leb (closes day) to

  -- one of so many whole days after `day` has a closed quarter
  abbrev pub closed_after : (day days : ℕ) → Bool
  closed_after day days = some_below days (λ after. closed_in ((day + 1 + after) % 7) 0 95)
