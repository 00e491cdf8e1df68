-- `runs::posted::standing` meets its contract. Assumes nothing.
use mathlib.Core.Path.{◌∙◌}
use Rattle.runs.specs.laws.Standing.{stands_as}
use Rattle.runs.proofs.posted.standing.Goals as goal

pub returns : goal.returns
returns c =
    c.own_operation.ensures ∙ stands_as c.args.settings.values c.args.own c.args.phase c.args.place
