-- `lock::Record::late` meets its contract. Assumes nothing.
use Rattle.lock.proofs.laws.LateLaws.{late_waited, late_by}
use Rattle.lock.proofs.Record.late.Goals as goal

pub returns-then-settings-elapsed : goal.returns-then-settings-elapsed
returns-then-settings-elapsed c =
    let a = c.args in
    late_waited a.settings.values a.self a.clock c.if-settings-elapsed.true

pub returns : goal.returns
returns c =
    let a = c.args in
    late_by a.settings.values a.self a.clock
