-- `calendar::window::Window::edges` meets its contract. Assumes nothing.
use Rattle.std.proofs.Common.{arith}
use Rattle.calendar.proofs.laws.Figures.{unit_small, fits_small}
use Rattle.calendar.proofs.laws.Window.{right}
use Rattle.calendar.proofs.window.Window.edges.Goals as goal

pub unit_of-requires : goal.unit_of-requires
unit_of-requires c = (right c.args.self).first_known

pub unit_of-requires-2 : goal.unit_of-requires-2
unit_of-requires-2 c = (right c.args.self).last_known

pub overflow_add-result : goal.overflow_add-result
overflow_add-result c =
    let w = c.args.self in
    omega (arith, c.unit_of-2.ensures, unit_small w.figures.calendar.weeks w.last (fits_small w.figures.calendar w.last w.figures.fits (right w).last_known))
