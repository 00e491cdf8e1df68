-- `lock::Record::all_notified` meets its contract. Assumes nothing.
use mathlib.Core.Path.{sym, ap, ◌∙◌}
use Rattle.lock.specs.rules.Records.{is_leaf}
use Rattle.lock.proofs.laws.StepLaws.{notified_late, notified_leaf, notified_inner}
use Rattle.lock.proofs.Record.all_notified.Goals as goal

pub returns-then-late : goal.returns-then-late
returns-then-late c =
    let a = c.args in
    sym (notified_late a.settings.values a.self a.clock (sym c.late.ensures ∙ c.if-late.true))

pub returns-then-is_leaf : goal.returns-then-is_leaf
returns-then-is_leaf c =
    let a = c.args in
    c.taken.ensures ∙ sym (notified_leaf a.settings.values a.self a.clock (sym c.late.ensures ∙ c.if-late.false) (ap (is_leaf a.settings.values) (sym c.current_piece.ensures) ∙ sym c.is_leaf.ensures ∙ c.if-is_leaf.true))

pub returns : goal.returns
returns c =
    let a = c.args in
    sym (notified_inner a.settings.values a.self a.clock (sym c.late.ensures ∙ c.if-late.false) (ap (is_leaf a.settings.values) (sym c.current_piece.ensures) ∙ sym c.is_leaf.ensures ∙ c.if-is_leaf.false))
