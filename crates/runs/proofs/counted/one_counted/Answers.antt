-- `runs::counted::one_counted` meets its contract. Assumes nothing.
use Rattle.std.proofs.Common.{◌≡◌, Bool, sym, ap, ◌∙◌, rules}
use Rattle.lock.specs.declared.Operation.{Operation}
use Rattle.lock.specs.declared.Stepped.{Stepped}
use Rattle.runs.specs.rules.Ahead.{same}
use Rattle.runs.specs.laws.AnswerLaws.{tested}
use Rattle.runs.specs.laws.FirstDue.{same_derived}
use Rattle.runs.specs.laws.AlongLaws.{counted_by, not_same, not_taken, is_taken, passed, its_operation, refused_number, accepted_next}
use Rattle.runs.proofs.counted.one_counted.Goals as goal

pub returns-in_err-next : goal.returns-in_err-next
returns-in_err-next c =
    let a = c.args in
    let told : counted_by a.client c.from_residual.result ≡ record { number = 1; next = a.client } = search rules in
    told
    ∙ not_taken a.settings a.clock a.client a.posted a.found
    (refused_number a.settings a.clock a.client a.posted a.found _ c.completed.ensures (sym c.ok.ensures.value ∙ c.in_err-next.was))

pub invariant_of-valid : goal.invariant_of-valid
invariant_of-valid c =
    let a = c.args in
    let e = accepted_next a.settings a.clock a.client a.posted a.found _ c.completed.ensures c.in_ok-next.next (sym c.ok.ensures.value ∙ c.in_ok-next.was) in
    record { settled = (tested a.settings a.client a.clock (sym (passed a.settings a.clock a.client a.posted a.found (sym (ap (λ (x : Stepped). x.number) e))))).settings }

pub operation-requires : goal.operation-requires
operation-requires c =
    let a = c.args in
    let e = accepted_next a.settings a.clock a.client a.posted a.found _ c.completed.ensures c.in_ok-next.next (sym c.ok.ensures.value ∙ c.in_ok-next.was) in
    let t = tested a.settings a.client a.clock (sym (passed a.settings a.clock a.client a.posted a.found (sym (ap (λ (x : Stepped). x.number) e)))) in (t.sound, t.taken)

-- whether the client's own operation is the one that was posted
own_same : (own due posted : Operation) (eq found : Bool) → own ≡ due → eq ≡ same own posted → eq ≡ found → same due posted ≡ found
own_same own due posted eq found e f g = ap (λ (o : Operation). same o posted) (sym e) ∙ sym f ∙ g

pub returns-then-eq : goal.returns-then-eq
returns-then-eq c =
    let a = c.args in
    let e = accepted_next a.settings a.clock a.client a.posted a.found _ c.completed.ensures c.in_ok-next.next (sym c.ok.ensures.value ∙ c.in_ok-next.was) in
    let z = sym (ap (λ (x : Stepped). x.number) e) in
    let due = c.operation.ensures ∙ its_operation a.settings a.clock a.client a.posted a.found z in
    ap (λ (x : Stepped). record { number = 0; next = x.next }) e
    ∙ is_taken a.settings a.clock a.client a.posted a.found z (own_same _ _ a.posted _ _ due (c.eq.ensures ∙ same_derived c.operation.result a.posted) c.if-eq.true)

pub returns : goal.returns
returns c =
    let a = c.args in
    let e = accepted_next a.settings a.clock a.client a.posted a.found _ c.completed.ensures c.in_ok-next.next (sym c.ok.ensures.value ∙ c.in_ok-next.was) in
    let z = sym (ap (λ (x : Stepped). x.number) e) in
    let due = c.operation.ensures ∙ its_operation a.settings a.clock a.client a.posted a.found z in
    not_same a.settings a.clock a.client a.posted a.found z (own_same _ _ a.posted _ _ due (c.eq.ensures ∙ same_derived c.operation.result a.posted) c.if-eq.false)
