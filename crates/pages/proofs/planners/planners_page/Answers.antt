-- `pages::planners::planners_page` meets its contract. Assumes nothing.
use Rattle.std.proofs.Common.{◌≡◌, refl, ℕ, sym, ap, ◌∙◌, rules}
use Rattle.base.specs.rules.Refusals.{number_of, number_in}
use Rattle.lock.proofs.laws.CallLaws.{cause_some}
use Rattle.pages.specs.rules.Pages.{page, rows_of, any_unreadable}
use Rattle.pages.proofs.laws.CauseLaws.{planners_tested}
use Rattle.pages.proofs.laws.PlannersLaws.{planners_refuses, planners_unreadable, planners_takes}
use Rattle.pages.proofs.planners.planners_page.Goals as goal

pub returns-in_err-valid : goal.returns-in_err-valid
returns-in_err-valid c =
    let a = c.args in
    let told : number_in c.from_residual.result ≡ number_of c.in_err-valid.field-0.0 = search rules in
    ap (λ (n : ℕ). page n a.rows.now) told ∙ planners_refuses a.settings a.clients.now a.rows.now _ c.in_err-valid.ensures.number (cause_some _)

pub returns-then-any_unreadable : goal.returns-then-any_unreadable
returns-then-any_unreadable c =
    planners_unreadable c.args.settings c.args.clients.now c.args.rows.now (sym c.in_ok-valid.ensures.number) (sym (c.any_unreadable.ensures ∙ ap (λ s. any_unreadable s c.args.clients.now) c.in_ok-valid.ensures.same) ∙ c.if-any_unreadable.true)

pub fill_rows-requires : goal.fill_rows-requires
fill_rows-requires c =
    let t = planners_tested _ _ _ (sym c.in_ok-valid.ensures.number) in
    (t.1, sym c.any_unreadable.ensures ∙ c.if-any_unreadable.false)

pub returns : goal.returns
returns c =
    let a = c.args in
    ap (page 0) (c.fill_rows.ensures ∙ ap (λ s. rows_of s a.clients.now) c.in_ok-valid.ensures.same)
    ∙ planners_takes a.settings a.clients.now a.rows.now 0 refl (sym c.in_ok-valid.ensures.number) (sym (c.any_unreadable.ensures ∙ ap (λ s. any_unreadable s c.args.clients.now) c.in_ok-valid.ensures.same) ∙ c.if-any_unreadable.false)
