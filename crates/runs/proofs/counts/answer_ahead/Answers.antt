-- `runs::counts::answer_ahead` meets its contract. Assumes nothing.
use Rattle.std.proofs.Common.{◌≡◌, refl, min, length, sym, ap, ◌∙◌, subst, arith, rules}
use Rattle.lock.specs.rules.Records.{phase_of}
use Rattle.lock.specs.laws.Placed.{Sound}
use Rattle.runs.specs.rules.Ahead.{ahead_in}
use Rattle.base.specs.rules.Refusals.{number_of}
use Rattle.lock.proofs.laws.CallLaws.{cause_some}
use Rattle.runs.specs.laws.AnswerLaws.{ahead_by, none_refused, none_impatient, found_patient, answer_by, tested}
use Rattle.runs.proofs.counts.answer_ahead.Goals as goal

pub returns-in_err-valid : goal.returns-in_err-valid
returns-in_err-valid c =
    let a = c.args in
    let cause = number_of c.in_err-valid.field-0.0 in
    let e = c.in_err-valid.ensures.number in
    let told : ahead_by c.from_residual.result ≡ record { number = cause; count = 0 } = search rules in
    told ∙ answer_by a.settings a.client a.clock cause e a.room 0 (omega (arith, ap length (none_refused a.settings a.client a.clock cause e (cause_some _))))

pub out_of_patience-requires : goal.out_of_patience-requires
out_of_patience-requires c = (tested c.args.settings c.args.client c.args.clock c.in_ok-valid.ensures.number).taken

pub returns-then-out_of_patience : goal.returns-then-out_of_patience
returns-then-out_of_patience c =
    let a = c.args in
    let e = c.in_ok-valid.ensures.number in
    answer_by a.settings a.client a.clock 0 e a.room 0
    (omega (arith, ap length (none_impatient a.settings a.client a.clock 0 e refl (sym c.out_of_patience.ensures ∙ c.if-out_of_patience.true))))

pub count_ahead-requires : goal.count_ahead-requires
count_ahead-requires c =
    let t = tested c.args.settings c.args.client c.args.clock c.in_ok-valid.ensures.number in subst (λ s. Sound s c.args.client.«record») (sym c.in_ok-valid.ensures.same) t.sound

pub returns : goal.returns
returns c =
    let a = c.args in
    let e = c.in_ok-valid.ensures.number in
    let counted = c.count_ahead.ensures ∙ ap (λ s. length (ahead_in s a.client.«record» (phase_of a.client.«record».phase))) c.in_ok-valid.ensures.same in
    let least : c.min.result ≡ min a.room c.count_ahead.result = search rules in
    answer_by a.settings a.client a.clock 0 e a.room c.min.result
    (omega (arith, least, counted, ap length (found_patient a.settings a.client a.clock 0 e refl (sym c.out_of_patience.ensures ∙ c.if-out_of_patience.false))))
