-- To be believed: document 02, request 2.6: the way back, as a call, and its causes 1 and 12. Assumes nothing.
use Rattle.std.specs.Prelude.{◌||◌, ℕ, leb}
use Rattle.base.specs.rules.Choice.{choose}
use Rattle.cover.specs.rules.Answer.{levels_outside}
use Rattle.calendar.specs.declared.Calendar.{Calendar}
use Rattle.calendar.specs.declared.Quarter.{Quarter}
use Rattle.calendar.specs.declared.QuarterAnswer.{QuarterAnswer}
use Rattle.calendar.specs.rules.Calendar.{unit_count, figures_outside, quarter_of}

-- "number only": the rest is 0
unfoldable pub quarter_refused : ℕ → QuarterAnswer
quarter_refused cause = record { number = cause; at = record { ward = 0; week = 0; day = 0; quarter = 0 } }

-- number 0, and the quarter
unfoldable pub quarter_found : Quarter → QuarterAnswer
quarter_found at = record { number = 0; at = at }

-- the call: "The way back gives ward, week, day and quarter of any calendar unit." It tests 1 for H, then 12: the figures, and "a unit past the last ward's".
unfoldable pub quarter_answer : Calendar → ℕ → QuarterAnswer
quarter_answer c unit =
    choose (levels_outside c.levels) (quarter_refused 1)
    (choose (figures_outside c || leb (unit_count c) unit) (quarter_refused 12)
    (quarter_found (quarter_of c.weeks unit)))
