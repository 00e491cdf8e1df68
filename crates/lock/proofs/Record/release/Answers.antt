-- `lock::Record::release` meets its contract. Assumes nothing.
use Rattle.std.proofs.Common.{sym, ap, eq-eqb, ne_eqb}
use Rattle.std.proofs.Math.Bool.{not}
use mathlib.Core.List.{[]}
use Rattle.lock.specs.rules.Calls.{first_cause, released}
use Rattle.lock.proofs.laws.CallLaws.{cause_hit, cause_skip}
use Rattle.lock.proofs.Record.release.Goals as goal

pub returns-then-self-ne9-clause-number : goal.returns-then-self-ne9-clause-number
returns-then-self-ne9-clause-number c =
    sym (cause_hit _ 8 [] (ap not (ne_eqb c.args.self.phase 9 c.if-self-ne9.true)))

pub returns-clause-number : goal.returns-clause-number
unfolding first_cause
returns-clause-number c =
    sym (cause_skip _ 8 [] (ap not (eq-eqb c.args.self.phase 9 c.if-self-ne9.false)))

pub returns-clause-next : goal.returns-clause-next
unfolding released
returns-clause-next c = c.sent_back.ensures
