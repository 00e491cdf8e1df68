-- The answer that C is given for a window meets its contract. Assumes nothing.
use Rattle.calendar.specs.rules.Windows.{window_refused}
use Rattle.calendar.proofs.told.WindowAnswerFromResultTuple2U64U64Refusal.from.Goals as goal

pub returns-in-Err : goal.returns-in-Err
unfolding window_refused
returns-in-Err c = rw (c.in-Err.is, c.number.ensures)
