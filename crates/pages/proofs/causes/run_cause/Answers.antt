-- `pages::causes::run_cause` meets its contract. Assumes nothing.
use Rattle.std.proofs.Common.{◌≡◌, [], ◌∷◌, ◌∙◌, arith, rules}
use Rattle.base.specs.rules.Refusals.{number_of, number_in}
use Rattle.lock.specs.rules.Calls.{settings_outside, client_tests}
use Rattle.table.specs.laws.CauseLaws.{refused_first, passed_first}
use Rattle.pages.specs.laws.Causes.{run_cause}
use Rattle.pages.proofs.causes.run_cause.Goals as goal

pub returns-in_err-valid-clause-number : goal.returns-in_err-valid-clause-number
unfolding run_cause
returns-in_err-valid-clause-number c =
    let a = c.args in
    let told : number_in c.from_residual.result ≡ number_of c.in_err-valid.field-0.0 = search rules in
    told ∙ refused_first ((settings_outside a.settings, 1) ∷ []) (client_tests a.clients a.client) _ c.in_err-valid.ensures.number

pub returns-in_err-client_cause-clause-number : goal.returns-in_err-client_cause-clause-number
unfolding run_cause
returns-in_err-client_cause-clause-number c =
    let a = c.args in
    let told : number_in c.from_residual-in_err-client_cause.result ≡ number_of c.in_err-client_cause.field-0.0 = search rules in
    told ∙ passed_first ((settings_outside a.settings, 1) ∷ []) (client_tests a.clients a.client) ((λ e. omega (arith, e)), tt) c.in_ok-valid.ensures.number _ c.in_err-client_cause.ensures.number

pub returns-clause-number : goal.returns-clause-number
unfolding run_cause
returns-clause-number c =
    let a = c.args in
    passed_first ((settings_outside a.settings, 1) ∷ []) (client_tests a.clients a.client) ((λ e. omega (arith, e)), tt) c.in_ok-valid.ensures.number 0 c.in_ok-client_cause.ensures.number
