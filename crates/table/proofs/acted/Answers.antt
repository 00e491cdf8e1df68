-- `table::acted` meets its contract: where `table_cause` refuses nothing is touched; else the client is below the count, and what the call by value gives is put back. Assumes nothing.
use Rattle.std.proofs.Common.{◌≡◌, refl, ℕ, length, set, sym, ap, ◌∙◌, rules}
use Rattle.std.proofs.lemmas.List.{set-get_or}
use Rattle.base.specs.rules.Refusals.{number_of, number_in}
use Rattle.lock.specs.declared.Kind.{Kind}
use Rattle.lock.specs.declared.Kind.TheVariants.{Request, Step, Release, Cancel}
use Rattle.lock.specs.rules.Records.{idle_client}
use Rattle.lock.specs.rules.ByValue.{call_by}
use Rattle.lock.specs.rules.Table.{client_of, client_at}
use Rattle.lock.proofs.laws.CallLaws.{cause_some}
use Rattle.table.specs.rules.Lent.{left_with}
use Rattle.table.specs.laws.Causes.{table_cause}
use Rattle.table.specs.laws.CallLaws.{table_refuses, table_takes}
use Rattle.table.proofs.acted.Goals as goal

client_by : (kind : Kind) (client a b : ℕ) → client_of (call_by kind client a b) ≡ client
unfolding client_of
client_by Request client a b = refl
client_by Step client a b = refl
client_by Release client a b = refl
client_by Cancel client a b = refl

pub returns-in_err-table_cause : goal.returns-in_err-table_cause
returns-in_err-table_cause c =
    let a = c.args in
    let k = a.call in
    let told : number_in c.from_residual.result ≡ number_of c.in_err-table_cause.field-0.0 = search rules in
    ap (λ (n : ℕ). left_with n a.clients.now a.words.now) told
    ∙ table_refuses a.settings a.clients.now a.words.now (call_by a.kind k.client k.a k.b) _
    (c.in_err-table_cause.ensures.number ∙ ap (table_cause a.settings (length a.words.now) (length a.clients.now)) (sym (client_by a.kind k.client k.a k.b)))
    (cause_some _)

pub returns-in_err-clients : goal.returns-in_err-clients
unfolding client_at
returns-in_err-clients c =
    let a = c.args in
    let k = a.call in
    let t = table_takes a.settings a.clients.now a.words.now (call_by a.kind k.client k.a k.b) k.client (client_by a.kind k.client k.a k.b) (sym c.in_ok-table_cause.ensures.number) in
    let told : number_in c.from_residual-in_err-clients.result ≡ number_of c.in_err-clients.field-0.0 = search rules in
    let e = c.in_err-clients.ensures in
    (λ j. left_with (told j) (sym (set-get_or a.clients.now k.client idle_client) j) c.act_as.new.words)
    ∙ (λ j. left_with (e.answer j).number (set a.clients.now k.client (e.answer j).next) (e.words j)) ∙ t

pub returns : goal.returns
unfolding client_at
returns c =
    let a = c.args in
    let k = a.call in
    let t = table_takes a.settings a.clients.now a.words.now (call_by a.kind k.client k.a k.b) k.client (client_by a.kind k.client k.a k.b) (sym c.in_ok-table_cause.ensures.number) in
    let e = c.in_ok-clients.ensures in
    (λ j. left_with (e.answer j).number (set a.clients.now k.client (e.answer j).next) (e.words j)) ∙ t
