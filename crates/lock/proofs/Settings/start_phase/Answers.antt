-- `lock::Settings::start_phase` meets its contract. Assumes nothing.
use mathlib.Core.Path.{sym, ◌∙◌}
use Rattle.lock.proofs.laws.StepLaws.{start_leaf, start_inner}
use Rattle.lock.proofs.Settings.start_phase.Goals as goal

pub returns-then-is_leaf : goal.returns-then-is_leaf
returns-then-is_leaf c =
    sym (start_leaf c.args.self c.args.n (sym c.is_leaf.ensures ∙ c.if-is_leaf.true))

pub returns : goal.returns
returns c =
    sym (start_inner c.args.self c.args.n (sym c.is_leaf.ensures ∙ c.if-is_leaf.false))
