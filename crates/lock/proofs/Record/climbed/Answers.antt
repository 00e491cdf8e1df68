-- `lock::Record::climbed` meets its contract. Assumes nothing.
use Rattle.lock.proofs.laws.StepLaws.{noted_parent}
use Rattle.lock.proofs.Record.climbed.Goals as goal

pub go_up-requires : goal.go_up-requires
go_up-requires c =
    noted_parent c.args.self c.requires c.args.clock c.parent_noted.result c.parent_noted.ensures
