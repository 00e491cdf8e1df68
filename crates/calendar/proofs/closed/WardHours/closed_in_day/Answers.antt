-- `calendar::closed::WardHours::closed_in_day` meets its contract. Assumes nothing.
use Rattle.std.proofs.Common.{refl}
use Rattle.calendar.specs.rules.Hours.{opening, closing}
use Rattle.calendar.specs.laws.Closed.{closed_in_day}
use Rattle.calendar.proofs.closed.WardHours.closed_in_day.Goals as goal

pub returns : goal.returns
unfolding closed_in_day opening closing
returns c = refl
