-- `cover::window::TreeWindow::tested` meets its contract. Assumes nothing.
use Rattle.std.specs.Prelude.{refl}
use Rattle.std.proofs.Common.{◌∙◌, sym}
use Rattle.base.specs.rules.Choice.{choose}
use Rattle.cover.specs.rules.Answer.{levels_outside}
use Rattle.cover.proofs.window.TreeWindow.tested.Goals as goal

pub returns-then-h-clause-refused : goal.returns-then-h-clause-refused
unfolding levels_outside choose
returns-then-h-clause-refused c = rw c.if-h.true refl

pub returns-then-outside-clause-refused : goal.returns-then-outside-clause-refused
unfolding levels_outside choose
returns-then-outside-clause-refused c = rw (c.if-h.false, sym c.outside.ensures ∙ c.if-outside.true) refl

pub returns-clause-refused : goal.returns-clause-refused
unfolding levels_outside choose
returns-clause-refused c = rw (c.if-h.false, sym c.outside.ensures ∙ c.if-outside.false) refl
