-- A calendar's figures are tested as the contract says. Assumes nothing.
use Rattle.std.proofs.Common.{refl, ◌∙◌, sym, arith, lt-ltb, le-ltb}
use Rattle.tree.specs.rules.Tree.{units}
use Rattle.cover.specs.rules.Answer.{levels_outside}
use Rattle.calendar.specs.rules.Calendar.{unit_count}
use Rattle.calendar.proofs.laws.Figures.{ranges_refused, count_tested}
use Rattle.calendar.proofs.laws.Told.{figures_1, figures_12, figures_0}
use Rattle.calendar.proofs.figures.FiguresTryFromCalendar.try_from.Goals as goal

pub returns-then-calendar : goal.returns-then-calendar
unfolding levels_outside
returns-then-calendar c = (figures_1 c.args.calendar c.if-calendar.true, tt)

pub returns-then-calendar-2 : goal.returns-then-calendar-2
unfolding levels_outside
returns-then-calendar-2 c =
    (figures_12 c.args.calendar c.if-calendar.false (sym (ranges_refused c.args.calendar c.if-calendar-2.true)), tt)

pub returns-then-tree_units-unit_count : goal.returns-then-tree_units-unit_count
unfolding levels_outside
returns-then-tree_units-unit_count c =
    let a = c.args.calendar in (
      figures_12 a c.if-calendar.false
          (sym (count_tested a c.if-calendar-2.false) ∙ lt-ltb (units a.levels) (unit_count a) (omega (arith, c.tree_units.ensures, c.unit_count.ensures, c.if-tree_units-unit_count.true))),
      tt,
    )

pub invariant_of-result : goal.invariant_of-result
unfolding levels_outside
invariant_of-result c =
    let a = c.args.calendar in
    record {
      fits = record {
        levels = c.if-calendar.false;
        figures = sym (count_tested a c.if-calendar-2.false) ∙ le-ltb (units a.levels) (unit_count a) (omega (arith, c.tree_units.ensures, c.unit_count.ensures, c.if-tree_units-unit_count.false));
      };
    }

pub returns : goal.returns
unfolding levels_outside
returns c =
    let a = c.args.calendar in (
      figures_0 a c.if-calendar.false
          (sym (count_tested a c.if-calendar-2.false) ∙ le-ltb (units a.levels) (unit_count a) (omega (arith, c.tree_units.ensures, c.unit_count.ensures, c.if-tree_units-unit_count.false))),
      refl,
    )
