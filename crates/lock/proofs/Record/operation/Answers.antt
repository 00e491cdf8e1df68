-- `lock::Record::operation` meets its contract. Assumes nothing.
use mathlib.Core.Path.{sym, ap₂, ◌∙◌}
use Rattle.lock.specs.rules.Operations.{operation_at}
use Rattle.lock.proofs.laws.PatienceLaws.{own_touched_lem, sent_back_touched}
use Rattle.lock.proofs.laws.OperationLaws.{patient_access, impatient_access}
use Rattle.lock.proofs.Record.operation.Goals as goal

pub returns-then-out_of_patience : goal.returns-then-out_of_patience
returns-then-out_of_patience c =
    let a = c.args in
    let e = sym c.out_of_patience.ensures ∙ c.if-out_of_patience.true in
    c.at.ensures ∙ ap₂ operation_at (sym (sent_back_touched a.settings.values a.self a.clock e)) (sym (impatient_access a.settings.values a.self a.clock e))

pub returns : goal.returns
returns c =
    let a = c.args in
    let e = sym c.out_of_patience.ensures ∙ c.if-out_of_patience.false in
    c.own_operation.ensures ∙ ap₂ operation_at (sym (own_touched_lem a.settings.values a.self a.clock e)) (sym (patient_access a.settings.values a.self a.clock e))
