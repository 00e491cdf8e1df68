-- `lock::by_phase::lacks_returning` meets its contract. Assumes nothing.
use mathlib.Core.Bool.{◌&&◌}
use lib.Dec.{ltb}
use Rattle.lock.specs.rules.Unreadable.{differ}
use Rattle.base.specs.laws.ChoiceLaws.{choose_tests}
use Rattle.lock.proofs.by_phase.lacks_returning.Goals as goal

pub returns : goal.returns
returns c =
    choose_tests c.args.leaf (differ c.args.grip 0 && differ c.args.grip 3) (ltb 3 c.args.grip)
