-- `lock::Record::cancel` meets its contract. Assumes nothing.
use Rattle.std.proofs.Common.{sym}
use mathlib.Core.List.{[]}
use Rattle.lock.specs.rules.Calls.{first_cause}
use Rattle.lock.proofs.laws.CallLaws.{cause_hit, cause_skip}
use Rattle.lock.proofs.Record.cancel.Goals as goal

pub returns-then-self-clause-number : goal.returns-then-self-clause-number
returns-then-self-clause-number c = sym (cause_hit _ 8 [] c.if-self.true)

pub returns-clause-number : goal.returns-clause-number
unfolding first_cause
returns-clause-number c = sym (cause_skip _ 8 [] c.if-self.false)
