-- `lock::Record::grip_of` meets its contract. Assumes nothing.
use mathlib.Core.Path.{sym}
use native.Mathlib.Omega.{arith}
use Rattle.lock.proofs.laws.Pieces.{grip_before, grip_current, grip_after}
use Rattle.lock.proofs.Record.grip_of.Goals as goal

pub returns-then-i-self : goal.returns-then-i-self
returns-then-i-self c =
    sym (grip_before c.args.self c.args.i c.if-i-self.true)

pub returns-then-i-self-2 : goal.returns-then-i-self-2
returns-then-i-self-2 c =
    sym (grip_current c.args.self c.args.i c.if-i-self-2.true)

pub returns : goal.returns
returns c =
    sym (grip_after c.args.self c.args.i (omega arith))
