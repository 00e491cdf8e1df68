-- `table::causes::table_cause` meets its contract. Assumes nothing.
use Rattle.std.proofs.Common.{◌≡◌, ◌∙◌, arith, rules}
use Rattle.base.specs.rules.Refusals.{number_of, number_in}
use Rattle.lock.specs.rules.Calls.{tree_tests, client_tests}
use Rattle.table.specs.laws.Causes.{table_cause}
use Rattle.table.specs.laws.CauseLaws.{refused_first, passed_first}
use Rattle.table.proofs.causes.table_cause.Goals as goal

pub returns-in_err-tree_tests-clause-number : goal.returns-in_err-tree_tests-clause-number
unfolding table_cause
returns-in_err-tree_tests-clause-number c =
    let a = c.args in
    let told : number_in c.from_residual.result ≡ number_of c.in_err-tree_tests.field-0.0 = search rules in
    told ∙ refused_first (tree_tests a.settings a.words) (client_tests a.clients a.client) _ c.in_err-tree_tests.ensures.number

pub returns-clause-number : goal.returns-clause-number
unfolding table_cause tree_tests
returns-clause-number c =
    let a = c.args in
    passed_first (tree_tests a.settings a.words) (client_tests a.clients a.client) ((λ e. omega (arith, e)), ((λ e. omega (arith, e)), tt)) c.in_ok-tree_tests.ensures.number _ c.client_cause.ensures.number
