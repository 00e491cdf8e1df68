-- Laws: what the type of a window says of it. Assumes nothing.
use Rattle.calendar.specs.declared.window.Window.{Window}
use Rattle.calendar.proofs.laws.Closed.{Ordered}
use Rattle.calendar.proofs.laws.Code.{Right, to_right, to_ordered}

module _ (w : Window) where
  pub right : Right w.figures.calendar w.hours.now w.first w.last
  right = to_right w.figures.calendar w.hours.now w.first w.last w.right

  pub ordered : Ordered w.figures.calendar.weeks w.hours.now w.first w.last
  ordered = to_ordered w.figures.calendar w.hours.now w.first w.last right w.order
