-- `calendar::figures::Figures::unit_of` meets its contract. Assumes nothing.
use Rattle.std.proofs.Common.{refl, arith}
use Rattle.calendar.specs.rules.Calendar.{unit_of}
use Rattle.calendar.proofs.laws.Figures.{weeks_known}
use Rattle.calendar.proofs.figures.Figures.unit_of.Goals as goal

pub overflow_mul-result : goal.overflow_mul-result
overflow_mul-result c = omega (arith, weeks_known c.args.self.calendar c.args.at c.args.self.fits c.requires)

pub overflow_add-result : goal.overflow_add-result
overflow_add-result c = omega (arith, weeks_known c.args.self.calendar c.args.at c.args.self.fits c.requires)

pub overflow_mul-result-2 : goal.overflow_mul-result-2
overflow_mul-result-2 c = omega (arith, weeks_known c.args.self.calendar c.args.at c.args.self.fits c.requires)

pub overflow_add-result-2 : goal.overflow_add-result-2
overflow_add-result-2 c = omega (arith, weeks_known c.args.self.calendar c.args.at c.args.self.fits c.requires)

pub overflow_add-result-3 : goal.overflow_add-result-3
overflow_add-result-3 c = omega (arith, weeks_known c.args.self.calendar c.args.at c.args.self.fits c.requires)

pub returns : goal.returns
unfolding unit_of
returns c = refl
