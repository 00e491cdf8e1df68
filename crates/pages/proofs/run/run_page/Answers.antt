-- `pages::run::run_page` meets its contract. Assumes nothing.
use Rattle.std.proofs.Common.{◌≡◌, sym, ap, ◌∙◌, rules}
use Rattle.base.specs.rules.Refusals.{number_of}
use Rattle.lock.specs.rules.Unreadable.{unreadable}
use Rattle.lock.proofs.laws.CallLaws.{cause_some}
use Rattle.pages.specs.rules.Pages.{own_client, held_count}
use Rattle.pages.specs.laws.RunLaws.{refused_page, accepted_page, page_by}
use Rattle.pages.proofs.laws.RunLaws.{run_refuses, run_takes, own_refused, own_accepted}
use Rattle.pages.proofs.run.run_page.Goals as goal

pub returns-in_err-valid : goal.returns-in_err-valid
returns-in_err-valid c =
    let a = c.args in
    let told : page_by c.from_residual.result ≡ refused_page (number_of c.in_err-valid.field-0.0) = search rules in
    told ∙ run_refuses a.settings a.clients.now a.client _ c.in_err-valid.ensures.number (cause_some _)

pub returns-then-unreadable : goal.returns-then-unreadable
returns-then-unreadable c =
    let a = c.args in
    own_refused a.settings (own_client a.clients.now a.client) (held_count a.clients.now) (sym (c.unreadable.ensures ∙ ap (λ s. unreadable s (own_client a.clients.now a.client).«record» (own_client a.clients.now a.client).clock) c.in_ok-valid.ensures.same) ∙ c.if-unreadable.true)
    ∙ run_takes a.settings a.clients.now a.client (sym c.in_ok-valid.ensures.number)

pub returns : goal.returns
returns c =
    let a = c.args in
    let own = own_client a.clients.now a.client in
    ap (accepted_page own.«record») c.held_count-held.ensures
    ∙ own_accepted a.settings own (held_count a.clients.now) (sym (c.unreadable.ensures ∙ ap (λ s. unreadable s (own_client a.clients.now a.client).«record» (own_client a.clients.now a.client).clock) c.in_ok-valid.ensures.same) ∙ c.if-unreadable.false)
    ∙ run_takes a.settings a.clients.now a.client (sym c.in_ok-valid.ensures.number)
