-- `runs::together::completed_all` meets its contract. Assumes nothing.
use Rattle.std.proofs.Common.{◌≡◌, sym, ap, ◌∙◌, arith, rules}
use Rattle.base.specs.rules.Refusals.{number_of}
use Rattle.runs.specs.declared.Ahead.{Ahead}
use Rattle.runs.specs.rules.Ahead.{ahead_answer}
use Rattle.runs.specs.laws.AlongLaws.{completed_by, none_counted}
use Rattle.runs.proofs.together.completed_all.Goals as goal

pub returns-in_err-count : goal.returns-in_err-count
unfolding ahead_answer
returns-in_err-count c =
    let a = c.args in
    let cause = number_of c.in_err-count.field-0.0 in
    let e = c.in_err-count.ensures in
    let told : completed_by a.client c.from_residual.result ≡ record { number = cause; counted = 0; next = a.client } = search rules in
    told ∙ none_counted a.settings a.client a.clock a.found.now cause (sym (ap (λ (x : Ahead). x.count) e)) (ap (λ (x : Ahead). x.number) e)

pub returns-then-count-eq0 : goal.returns-then-count-eq0
unfolding ahead_answer
returns-then-count-eq0 c =
    let a = c.args in
    let e = c.in_ok-count.ensures in
    none_counted a.settings a.client a.clock a.found.now 0 (sym (ap (λ (x : Ahead). x.count) e) ∙ c.if-count-eq0.true) (ap (λ (x : Ahead). x.number) e)

pub counted_along-requires : goal.counted_along-requires
unfolding ahead_answer
counted_along-requires c = (omega (arith, c.if-count-eq0.false), ap (λ (x : Ahead). x.count) c.in_ok-count.ensures)
