-- `calendar::figures::Figures::hours_wrong` meets its contract. Assumes nothing.
use Rattle.std.proofs.Common.{ap, ◌∙◌, ◌*◌, length, arith}
use Rattle.std.proofs.Math.Bool.{not}
use borrow.Author.Tests.{ne_eqb}
use Rattle.calendar.proofs.laws.Figures.{to_inside}
use Rattle.calendar.proofs.laws.HoursLaws.{other_length, right_length}
use Rattle.calendar.proofs.figures.Figures.hours_wrong.Goals as goal

pub overflow_mul-self : goal.overflow_mul-self
overflow_mul-self c = omega (arith, (to_inside c.args.self.calendar c.args.self.fits.figures).ranges.few.wards)

pub returns-then-hours-self : goal.returns-then-hours-self
returns-then-hours-self c =
    let wards = c.args.self.calendar.wards in
    let hours = c.args.hours.now in
    ap not (ne_eqb (length hours) (14 * wards) c.if-hours-self.true) ∙ other_length wards hours c.if-hours-self.true

pub returns-else-hours-self : goal.returns-else-hours-self
returns-else-hours-self c =
    c.some_pair_wrong.ensures ∙ right_length c.args.self.calendar.wards c.args.hours.now c.if-hours-self.false
