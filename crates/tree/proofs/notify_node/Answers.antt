-- `tree::notify_node` meets its contract. Assumes nothing.
use mathlib.Core.Path.{◌∙◌}
use Rattle.tree.proofs.laws.Code.{steps_code}
use Rattle.tree.proofs.notify_node.Goals as goal

pub climb-requires : goal.climb-requires
climb-requires c =
    (c.requires.2, (steps_code c.requires c.level.ensures c.notify_steps.ensures).0)

pub returns : goal.returns
returns c =
    c.climb.ensures ∙ (steps_code c.requires c.level.ensures c.notify_steps.ensures).1
