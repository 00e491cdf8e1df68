-- `calendar::figures::Figures::unknown` meets its contract. Assumes nothing.
use mathlib.Core.Path.{refl}
use Rattle.calendar.specs.rules.Calendar.{unknown}
use Rattle.calendar.proofs.figures.Figures.unknown.Goals as goal

pub returns : goal.returns
unfolding unknown
returns c = refl
