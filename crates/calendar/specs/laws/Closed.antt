-- What the code finds of a window's days: whether a day, or some of the days after one, has a closed quarter. Their laws: proofs/laws/Closed.antt. Assumes nothing.
use Rattle.std.specs.Prelude.{Bool, List, ℕ}
use Rattle.calendar.specs.rules.Hours.{opening, closing, pair_of}
use Rattle.calendar.specs.laws.Days.{closed_in, closed_after}

abbrev pub opens : List ℕ → ℕ → ℕ → ℕ
opens hours ward day = opening hours (pair_of ward day)

abbrev pub closes : List ℕ → ℕ → ℕ → ℕ
closes hours ward day = closing hours (pair_of ward day)

unfoldable pub closed_in_day : List ℕ → (ward day from to : ℕ) → Bool
closed_in_day hours ward day from to = closed_in (opens hours ward) (closes hours ward) day from to

unfoldable pub closed_in_days : List ℕ → (ward day days : ℕ) → Bool
closed_in_days hours ward day days = closed_after (opens hours ward) (closes hours ward) day days
