-- `calendar::window::Window::new` meets its contract. Assumes nothing.
use Rattle.std.proofs.Common.{◌∙◌, sym}
use Rattle.base.specs.laws.TestLaws.{both_false}
use Rattle.calendar.proofs.laws.Figures.{to_known}
use Rattle.calendar.proofs.laws.Code.{tested_12, tested_13}
use Rattle.calendar.proofs.laws.Told.{order_12, order_13, order_0}
use Rattle.calendar.proofs.window.Window.new.Goals as goal

pub returns-then-hours_wrong-unknown-clause-number : goal.returns-then-hours_wrong-unknown-clause-number
returns-then-hours_wrong-unknown-clause-number c =
    let a = c.args in
    order_12 a.figures.calendar a.hours.now a.first a.last
    (tested_12 a.figures.calendar a.hours.now a.first a.last a.figures.fits.figures c.hours_wrong.ensures c.unknown.ensures c.unknown-2.ensures c.if-hours_wrong-unknown.true)

pub unit_of-requires : goal.unit_of-requires
unit_of-requires c =
    to_known c.args.figures.calendar c.args.last (sym c.unknown-2.ensures ∙ (both_false _ _ c.if-hours_wrong-unknown.false).1)

pub unit_of-requires-2 : goal.unit_of-requires-2
unit_of-requires-2 c =
    to_known c.args.figures.calendar c.args.first (sym c.unknown.ensures ∙ (both_false _ _ (both_false _ _ c.if-hours_wrong-unknown.false).0).1)

pub returns-then-last-first-clause-number : goal.returns-then-last-first-clause-number
returns-then-last-first-clause-number c =
    let a = c.args in
    order_13 a.figures.calendar a.hours.now a.first a.last
    (tested_12 a.figures.calendar a.hours.now a.first a.last a.figures.fits.figures c.hours_wrong.ensures c.unknown.ensures c.unknown-2.ensures c.if-hours_wrong-unknown.false)
    (tested_13 a.figures.calendar a.hours.now a.first a.last c.unit_of.ensures c.unit_of-2.ensures c.if-last-first.true)

pub invariant_of-result : goal.invariant_of-result
invariant_of-result c =
    let a = c.args in
    record {
      right = tested_12 a.figures.calendar a.hours.now a.first a.last a.figures.fits.figures c.hours_wrong.ensures c.unknown.ensures c.unknown-2.ensures c.if-hours_wrong-unknown.false;
      order = tested_13 a.figures.calendar a.hours.now a.first a.last c.unit_of.ensures c.unit_of-2.ensures c.if-last-first.false;
    }

pub returns-clause-number : goal.returns-clause-number
returns-clause-number c =
    let a = c.args in
    order_0 a.figures.calendar a.hours.now a.first a.last
    (tested_12 a.figures.calendar a.hours.now a.first a.last a.figures.fits.figures c.hours_wrong.ensures c.unknown.ensures c.unknown-2.ensures c.if-hours_wrong-unknown.false)
    (tested_13 a.figures.calendar a.hours.now a.first a.last c.unit_of.ensures c.unit_of-2.ensures c.if-last-first.false)
