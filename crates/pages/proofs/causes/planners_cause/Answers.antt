-- `pages::causes::planners_cause` meets its contract. Assumes nothing.
use Rattle.std.proofs.Common.{◌≡◌, [], ◌∷◌, sym, ◌∙◌, ap, not, arith, rules}
use borrow.Author.Tests.{eq-eqb, ne_eqb}
use Rattle.base.specs.rules.Refusals.{number_of, number_in}
use Rattle.lock.specs.rules.Unreadable.{differ}
use Rattle.lock.specs.rules.Calls.{settings_outside, clients_outside}
use Rattle.table.specs.laws.CauseLaws.{refused_first, passed_first}
use Rattle.lock.proofs.laws.CallLaws.{cause_hit, cause_skip}
use Rattle.pages.specs.laws.Causes.{planners_cause}
use Rattle.pages.proofs.causes.planners_cause.Goals as goal

pub returns-in_err-valid-clause-number : goal.returns-in_err-valid-clause-number
unfolding planners_cause
returns-in_err-valid-clause-number c =
    let a = c.args in
    let told : number_in c.from_residual.result ≡ number_of c.in_err-valid.field-0.0 = search rules in
    told ∙ refused_first ((settings_outside a.settings, 1) ∷ []) ((differ a.rows a.clients, 2) ∷ (clients_outside a.clients, 3) ∷ []) _ c.in_err-valid.ensures.number

pub returns-then-rows-clients-clause-number : goal.returns-then-rows-clients-clause-number
unfolding planners_cause
returns-then-rows-clients-clause-number c =
    let a = c.args in
    passed_first ((settings_outside a.settings, 1) ∷ []) ((differ a.rows a.clients, 2) ∷ (clients_outside a.clients, 3) ∷ []) ((λ e. omega (arith, e)), tt) c.in_ok-valid.ensures.number 2
    (sym (cause_hit (differ a.rows a.clients) 2 _ (ap not (ne_eqb a.rows a.clients c.if-rows-clients.true))))

pub returns-in_err-clients_cause-clause-number : goal.returns-in_err-clients_cause-clause-number
unfolding planners_cause
returns-in_err-clients_cause-clause-number c =
    let a = c.args in
    let told : number_in c.from_residual-in_err-clients_cause.result ≡ number_of c.in_err-clients_cause.field-0.0 = search rules in
    told
    ∙ passed_first ((settings_outside a.settings, 1) ∷ []) ((differ a.rows a.clients, 2) ∷ (clients_outside a.clients, 3) ∷ []) ((λ e. omega (arith, e)), tt) c.in_ok-valid.ensures.number _
    (c.in_err-clients_cause.ensures ∙ sym (cause_skip (differ a.rows a.clients) 2 _ (ap not (eq-eqb a.rows a.clients c.if-rows-clients.false))))

pub returns-clause-number : goal.returns-clause-number
unfolding planners_cause
returns-clause-number c =
    let a = c.args in
    passed_first ((settings_outside a.settings, 1) ∷ []) ((differ a.rows a.clients, 2) ∷ (clients_outside a.clients, 3) ∷ []) ((λ e. omega (arith, e)), tt) c.in_ok-valid.ensures.number 0
    (c.in_ok-clients_cause.ensures ∙ sym (cause_skip (differ a.rows a.clients) 2 _ (ap not (eq-eqb a.rows a.clients c.if-rows-clients.false))))
