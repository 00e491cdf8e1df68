-- `lock::Record::returning_wrong` meets its contract. Assumes nothing.
use Rattle.lock.proofs.laws.PhaseTests.{own_returning}
use Rattle.lock.proofs.Record.returning_wrong.Goals as goal

pub returns : goal.returns
returns c =
    own_returning c.requires.0 c.requires.3 c.requires.2 c.requires.1 c.past_notices.ensures c.lacks_returning.ensures c.grip_of.ensures
