-- `pages::counts::in_phase_9` meets its contract. Assumes nothing.
use mathlib.Core.Path.{sym}
use Rattle.base.specs.laws.ChoiceLaws.{choose_eq, choose_ne}
use Rattle.pages.specs.rules.Pages.{in_phase9}
use Rattle.pages.proofs.counts.in_phase_9.Goals as goal

pub returns-then-one-eq9 : goal.returns-then-one-eq9
unfolding in_phase9
returns-then-one-eq9 c =
    sym (choose_eq c.args.one.phase 9 1 0 c.if-one-eq9.true)

pub returns : goal.returns
unfolding in_phase9
returns c =
    sym (choose_ne c.args.one.phase 9 1 0 c.if-one-eq9.false)
