-- `lock::Record::first_noted` meets its contract. Assumes nothing.
use mathlib.Core.Path.{sym}
use native.Mathlib.Omega.{arith}
use Rattle.base.specs.laws.ChoiceLaws.{choose_eq, choose_ne}
use Rattle.lock.specs.rules.Records.{with_taken}
use Rattle.lock.specs.rules.Steps.{first_noted}
use Rattle.lock.proofs.Record.first_noted.Goals as goal

pub returns-then-self-gt0 : goal.returns-then-self-gt0
unfolding first_noted
returns-then-self-gt0 c =
    let a = c.args in
    sym (choose_ne a.self.current 0 (with_taken a.clock a.self) a.self (λ e. omega (arith, c.if-self-gt0.true)))

pub returns : goal.returns
unfolding first_noted
returns c =
    let a = c.args in
    sym (choose_eq a.self.current 0 (with_taken a.clock a.self) a.self (omega (arith, c.if-self-gt0.false)))
