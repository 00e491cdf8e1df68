-- `table::opened` meets its contract: refused by 1, 2 or 3 with nothing touched, or every word 0 and every client idle. Assumes nothing.
use Rattle.std.proofs.Common.{◌≡◌, refl, ℕ, length, replicate, ap, ◌∙◌, rules}
use Rattle.base.specs.rules.Refusals.{number_of, number_in}
use Rattle.lock.specs.rules.Records.{idle_client}
use Rattle.lock.proofs.laws.CallLaws.{cause_some}
use Rattle.table.specs.rules.Lent.{left_with}
use Rattle.table.specs.laws.OpeningLaws.{opening_refuses, opening_takes}
use Rattle.table.proofs.opened.Goals as goal

pub returns-in_err-opening_cause : goal.returns-in_err-opening_cause
returns-in_err-opening_cause c =
    let a = c.args in
    let told : number_in c.from_residual.result ≡ number_of c.in_err-opening_cause.field-0.0 = search rules in
    ap (λ (n : ℕ). left_with n a.clients.now a.words.now) told ∙ opening_refuses a.settings a.clients.now a.words.now _ c.in_err-opening_cause.ensures (cause_some _)

pub returns : goal.returns
returns c =
    let a = c.args in
    let words : c.fill.new.self ≡ replicate (length a.words.now) 0 = c.fill.ensures.after (λ y k. search rules) in
    let clients : c.fill-2.new.self ≡ replicate (length a.clients.now) idle_client = c.fill-2.ensures.after (λ y k. search rules) ∙ ap (replicate (length a.clients.now)) c.idle.ensures in
    (λ i. left_with 0 (clients i) (words i)) ∙ opening_takes a.settings a.clients.now a.words.now 0 c.in_ok-opening_cause.ensures refl
