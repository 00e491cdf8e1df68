-- `lock::by_phase::lacks_turn` meets its contract. Assumes nothing.
use Rattle.lock.specs.rules.Unreadable.{differ}
use Rattle.base.specs.laws.ChoiceLaws.{choose_tests}
use Rattle.lock.proofs.by_phase.lacks_turn.Goals as goal

pub returns : goal.returns
returns c =
    choose_tests c.args.leaf (differ c.args.grip 0) (differ c.args.grip 2)
