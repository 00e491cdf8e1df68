-- `calendar::figures::unit_count` meets its contract. Assumes nothing.
use mathlib.Core.Path.{refl}
use Rattle.calendar.specs.rules.Calendar.{unit_count}
use Rattle.calendar.proofs.figures.unit_count.Goals as goal

pub returns : goal.returns
unfolding unit_count
returns c = refl
