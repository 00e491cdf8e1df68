-- `table::causes::opening_cause` meets its contract. Assumes nothing.
use Rattle.std.proofs.Common.{◌≡◌, [], ◌∷◌, ◌∙◌, arith, rules}
use Rattle.base.specs.rules.Refusals.{number_of, number_in}
use Rattle.lock.specs.rules.Calls.{tree_tests, clients_outside}
use Rattle.lock.specs.rules.Table.{opening_number}
use Rattle.table.specs.laws.CauseLaws.{refused_first, passed_first}
use Rattle.table.proofs.causes.opening_cause.Goals as goal

pub returns-in_err-tree_tests : goal.returns-in_err-tree_tests
unfolding opening_number
returns-in_err-tree_tests c =
    let a = c.args in
    let told : number_in c.from_residual.result ≡ number_of c.in_err-tree_tests.field-0.0 = search rules in
    told ∙ refused_first (tree_tests a.settings a.words) ((clients_outside a.clients, 3) ∷ []) _ c.in_err-tree_tests.ensures.number

pub returns : goal.returns
unfolding opening_number tree_tests
returns c =
    let a = c.args in
    passed_first (tree_tests a.settings a.words) ((clients_outside a.clients, 3) ∷ []) ((λ e. omega (arith, e)), ((λ e. omega (arith, e)), tt)) c.in_ok-tree_tests.ensures.number _ c.clients_cause.ensures
