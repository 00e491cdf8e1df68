-- `calendar::figures::Figures::quarter_of` meets its contract. Assumes nothing.
use Rattle.std.proofs.Common.{refl}
use Rattle.calendar.specs.rules.Calendar.{quarter_of}
use Rattle.calendar.proofs.laws.Figures.{to_inside}
use Rattle.calendar.proofs.figures.Figures.quarter_of.Goals as goal

pub nonzero_div-result : goal.nonzero_div-result
nonzero_div-result c = (to_inside c.args.self.calendar c.args.self.fits.figures).ranges.some_week

pub nonzero_rem-result : goal.nonzero_rem-result
nonzero_rem-result c = (to_inside c.args.self.calendar c.args.self.fits.figures).ranges.some_week

pub returns : goal.returns
unfolding quarter_of
returns c = refl
