-- The cause by which a calendar or a window is refused, 0 where it is not; and what C is told of a result. Their laws: proofs/laws/Told.antt. Assumes nothing.
use Rattle.std.specs.Prelude.{ℕ, List, Result, Ok, Err}
use Rattle.base.specs.declared.Refusal.{Refusal}
use Rattle.base.specs.rules.Choice.{choose}
use Rattle.base.specs.rules.Refusals.{number_of}
use Rattle.cover.specs.rules.Answer.{levels_outside}
use Rattle.calendar.specs.declared.Calendar.{Calendar}
use Rattle.calendar.specs.declared.Quarter.{Quarter}
use Rattle.calendar.specs.declared.QuarterAnswer.{QuarterAnswer}
use Rattle.calendar.specs.declared.WindowAnswer.{WindowAnswer}
use Rattle.calendar.specs.rules.Calendar.{figures_outside}
use Rattle.calendar.specs.rules.Back.{quarter_refused, quarter_found}
use Rattle.calendar.specs.rules.Windows.{calendar_wrong, out_of_order, window_refused}

-- a calendar's levels, and its other figures
unfoldable pub figures_cause : Calendar → ℕ
figures_cause c = choose (levels_outside c.levels) 1 (choose (figures_outside c) 12 0)

-- a window's hours and ends, and their order
unfoldable pub order_cause : Calendar → List ℕ → Quarter → Quarter → ℕ
order_cause c hours first last = choose (calendar_wrong c hours first last) 12 (choose (out_of_order c.weeks first last) 13 0)

-- what C is told of a window's edges
abbrev pub window_told : Result (ℕ × ℕ) Refusal → WindowAnswer
window_told (Ok edges) = record { number = 0; left = edges.0; right = edges.1 }
window_told (Err cause) = window_refused (number_of cause)

-- what C is told of a quarter
abbrev pub quarter_told : Result Quarter Refusal → QuarterAnswer
quarter_told (Ok at) = quarter_found at
quarter_told (Err cause) = quarter_refused (number_of cause)
