-- `lock::Record::go_up` meets its contract. Assumes nothing.
use mathlib.Core.Path.{sym}
use native.Mathlib.Omega.{arith}
use Rattle.lock.proofs.laws.StepLaws.{up_more, up_last, up_small}
use Rattle.lock.proofs.Record.go_up.Goals as goal

pub returns-then-n-eq1 : goal.returns-then-n-eq1
returns-then-n-eq1 c =
    sym (up_last c.args.self c.requires c.if-n-eq1.true)

pub overflow_add-self : goal.overflow_add-self
overflow_add-self c =
    omega (arith, up_small c.args.self c.requires)

pub returns : goal.returns
returns c =
    sym (up_more c.args.self c.requires c.if-n-eq1.false)
