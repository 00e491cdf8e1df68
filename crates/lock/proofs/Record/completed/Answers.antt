-- `lock::Record::completed` meets its contract. Assumes nothing.
use mathlib.Core.Path.{sym, ◌∙◌}
use Rattle.lock.proofs.laws.PatienceLaws.{own_moved_lem, sent_back_moved}
use Rattle.lock.proofs.Record.completed.Goals as goal

pub returns-then-out_of_patience : goal.returns-then-out_of_patience
returns-then-out_of_patience c =
    let a = c.args in
    let e = sym c.out_of_patience.ensures ∙ c.if-out_of_patience.true in
    rw c.leaves.ensures (rw c.sent_back.ensures (sym (sent_back_moved a.settings.values a.self a.clock e a.found)))

pub returns : goal.returns
returns c =
    let a = c.args in
    let e = sym c.out_of_patience.ensures ∙ c.if-out_of_patience.false in
    c.own_moved.ensures ∙ sym (own_moved_lem a.settings.values a.self a.clock e a.found)
