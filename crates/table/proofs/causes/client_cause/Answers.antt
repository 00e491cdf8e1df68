-- `table::causes::client_cause` meets its contract. Assumes nothing.
use Rattle.std.proofs.Common.{◌≡◌, [], ◌∷◌, leb, ◌∙◌, arith, rules}
use borrow.Author.Tests.{le-leb, lt-leb}
use Rattle.base.specs.rules.Refusals.{number_of, number_in}
use Rattle.lock.specs.rules.Calls.{clients_outside, client_tests}
use Rattle.table.specs.laws.CauseLaws.{one_true, one_false, refused_first, passed_first}
use Rattle.table.proofs.causes.client_cause.Goals as goal

pub returns-in_err-clients_cause-clause-number : goal.returns-in_err-clients_cause-clause-number
unfolding client_tests
returns-in_err-clients_cause-clause-number c =
    let a = c.args in
    let told : number_in c.from_residual.result ≡ number_of c.in_err-clients_cause.field-0.0 = search rules in
    told ∙ refused_first ((clients_outside a.clients, 3) ∷ []) ((leb a.clients a.client, 4) ∷ []) _ c.in_err-clients_cause.ensures

pub returns-then-clients-client-clause-number : goal.returns-then-clients-client-clause-number
unfolding client_tests
returns-then-clients-client-clause-number c =
    let a = c.args in
    passed_first ((clients_outside a.clients, 3) ∷ []) ((leb a.clients a.client, 4) ∷ []) ((λ e. omega (arith, e)), tt) c.in_ok-clients_cause.ensures 4
    (one_true _ 4 (le-leb a.clients a.client c.if-clients-client.true))

pub returns-clause-number : goal.returns-clause-number
unfolding client_tests
returns-clause-number c =
    let a = c.args in
    passed_first ((clients_outside a.clients, 3) ∷ []) ((leb a.clients a.client, 4) ∷ []) ((λ e. omega (arith, e)), tt) c.in_ok-clients_cause.ensures 0
    (one_false _ 4 (lt-leb a.clients a.client c.if-clients-client.false))
