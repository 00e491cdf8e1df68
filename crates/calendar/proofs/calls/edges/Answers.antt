-- `calendar::calls::edges` meets its contract. Assumes nothing.
use Rattle.std.proofs.Common.{◌∙◌, sym}
use Rattle.std.proofs.lemmas.Result.{err_from_is_err_and}
use Rattle.calendar.specs.rules.Windows.{window_found, window_answer}
use Rattle.calendar.proofs.laws.Code.{window_14, window_0}
use Rattle.calendar.proofs.laws.Told.{figures_refused, order_refused}
use Rattle.calendar.proofs.calls.edges.Goals as goal

pub returns-in_err-figures : goal.returns-in_err-figures
returns-in_err-figures c =
    let a = c.args in
    let p = err_from_is_err_and c.from_residual.result c.from_residual.ensures.1 in
    rw (p.1, p.2) (figures_refused a.calendar c.in_err-figures.field-0.0 a.hours.now a.first a.last c.in_err-figures.ensures.0)

pub returns-in_err-window : goal.returns-in_err-window
returns-in_err-window c =
    let a = c.args in
    let f = c.in_ok-figures.figures in
    let p = err_from_is_err_and c.from_residual-in_err-window.result c.from_residual-in_err-window.ensures.1 in
    rw (p.1, p.2) (order_refused f.calendar c.in_err-window.field-0.0 a.hours.now a.first a.last f.fits.levels c.in_err-window.ensures.number ∙ λ i. window_answer (c.in_ok-figures.ensures.1 i) a.hours.now a.first a.last)

pub returns-then-some_closed : goal.returns-then-some_closed
returns-then-some_closed c =
    let w = c.in_ok-window.window in
    let s = c.in_ok-window.ensures.same in
    window_14 w.figures.calendar w.hours.now w.first w.last w.figures.fits.levels w.right w.order (sym c.some_closed.ensures ∙ c.if-some_closed.true)
    ∙ λ i. window_answer ((s.0 ∙ c.in_ok-figures.ensures.1) i) (s.1 i) (s.2 i) (s.3 i)

pub returns : goal.returns
unfolding window_found
returns c =
    let w = c.in_ok-window.window in
    let s = c.in_ok-window.ensures.same in
    (λ i. record { number = 0; left = c.edges.ensures.left i; right = c.edges.ensures.right i })
    ∙ window_0 w.figures.calendar w.hours.now w.first w.last w.figures.fits.levels w.right w.order (sym c.some_closed.ensures ∙ c.if-some_closed.false)
    ∙ λ i. window_answer ((s.0 ∙ c.in_ok-figures.ensures.1) i) (s.1 i) (s.2 i) (s.3 i)
