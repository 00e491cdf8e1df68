-- `table::causes::clients_cause` meets its contract. Assumes nothing.
use Rattle.std.proofs.Common.{sym, ◌∙◌}
use Rattle.table.specs.laws.CauseLaws.{one_true, one_false}
use Rattle.table.proofs.causes.clients_cause.Goals as goal

pub returns-then-clients_outside : goal.returns-then-clients_outside
returns-then-clients_outside c = one_true _ 3 (sym c.clients_outside.ensures ∙ c.if-clients_outside.true)

pub returns : goal.returns
returns c = one_false _ 3 (sym c.clients_outside.ensures ∙ c.if-clients_outside.false)
