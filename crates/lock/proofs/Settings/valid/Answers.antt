-- `lock::Settings::valid` meets its contract. Assumes nothing.
use Rattle.std.proofs.Common.{sym, ◌∙◌}
use mathlib.Core.List.{[]}
use Rattle.lock.specs.rules.Calls.{first_cause}
use Rattle.lock.proofs.laws.CallLaws.{cause_hit, cause_skip}
use Rattle.lock.proofs.laws.SettledLaws.{settled}
use Rattle.lock.proofs.Settings.valid.Goals as goal

pub returns-then-outside-clause-number : goal.returns-then-outside-clause-number
returns-then-outside-clause-number c =
    sym (cause_hit _ 1 [] (sym c.outside.ensures ∙ c.if-outside.true))

pub invariant_of-result : goal.invariant_of-result
invariant_of-result c = record { settled = settled c.args.self (sym c.outside.ensures ∙ c.if-outside.false) }

pub returns-clause-number : goal.returns-clause-number
unfolding first_cause
returns-clause-number c =
    sym (cause_skip _ 1 [] (sym c.outside.ensures ∙ c.if-outside.false))
