-- `calendar::calls::quarter` meets its contract. Assumes nothing.
use Rattle.std.proofs.Common.{◌∙◌, ap, arith, le-leb}
use Rattle.std.proofs.lemmas.Result.{err_from_is_err_and}
use Rattle.std.proofs.lemmas.Bool.{lt-leb}
use Rattle.calendar.specs.rules.Calendar.{unit_count}
use Rattle.calendar.specs.rules.Back.{quarter_found, quarter_answer}
use Rattle.calendar.proofs.laws.Code.{quarter_past, quarter_0}
use Rattle.calendar.proofs.laws.Told.{quarter_figures_refused}
use Rattle.calendar.proofs.calls.quarter.Goals as goal

pub returns-in_err-figures : goal.returns-in_err-figures
returns-in_err-figures c =
    let a = c.args in
    let p = err_from_is_err_and c.from_residual.result c.from_residual.ensures.1 in
    rw (p.1, p.2) (quarter_figures_refused a.calendar c.in_err-figures.field-0.0 a.unit c.in_err-figures.ensures.0)

pub returns-then-unit_count-unit : goal.returns-then-unit_count-unit
returns-then-unit_count-unit c =
    let a = c.args in
    let f = c.in_ok-figures.figures in
    quarter_past f.calendar a.unit f.fits.levels f.fits.figures (le-leb (unit_count f.calendar) a.unit (omega (arith, c.unit_count.ensures, c.if-unit_count-unit.true)))
    ∙ λ i. quarter_answer (c.in_ok-figures.ensures.1 i) a.unit

pub returns : goal.returns
returns c =
    let a = c.args in
    let f = c.in_ok-figures.figures in
    ap quarter_found c.quarter_of.ensures
    ∙ quarter_0 f.calendar a.unit f.fits.levels f.fits.figures (lt-leb (unit_count f.calendar) a.unit (omega (arith, c.unit_count.ensures, c.if-unit_count-unit.false)))
    ∙ λ i. quarter_answer (c.in_ok-figures.ensures.1 i) a.unit
