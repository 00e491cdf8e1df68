-- `calendar::figures::Figures::unit_count` meets its contract. Assumes nothing.
use Rattle.calendar.proofs.laws.Figures.{to_inside}
use Rattle.calendar.proofs.figures.Figures.unit_count.Goals as goal

pub unit_count-requires : goal.unit_count-requires
unit_count-requires c = (to_inside c.args.self.calendar c.args.self.fits.figures).ranges.few
