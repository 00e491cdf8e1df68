-- `lock::Record::waited` meets its contract. Assumes nothing.
use mathlib.Core.Path.{sym}
use native.Mathlib.Omega.{arith}
use Rattle.lock.proofs.laws.StepLaws.{wait_over, wait_on}
use Rattle.lock.proofs.Record.waited.Goals as goal

pub returns-then-settings-clock : goal.returns-then-settings-clock
returns-then-settings-clock c =
    let a = c.args in
    sym (wait_over a.settings a.self a.clock c.if-settings-clock.true)

pub returns : goal.returns
returns c =
    let a = c.args in
    sym (wait_on a.settings a.self a.clock (omega (arith, c.if-settings-clock.false)))
