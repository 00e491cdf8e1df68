-- `runs::together::nolthewyr_operations_ahead` meets its contract. In a turn the place is below both the posted and the lent operations. Assumes nothing.
use Rattle.std.proofs.Common.{◌≡◌, ◌<◌, ℕ, List, length, take, get_or, set, sym, ap, ◌∙◌, subst, min, arith, rules}
use Rattle.lock.specs.declared.Client.{Client}
use Rattle.lock.specs.declared.Operation.{Operation}
use Rattle.lock.specs.declared.Settings.{Settings}
use Rattle.runs.specs.declared.Ahead.{Ahead}
use Rattle.runs.specs.rules.Ahead.{laid, ahead_of, ahead_answer}
use Rattle.runs.specs.laws.Standing.{no_operation}
use Rattle.runs.specs.laws.AnswerLaws.{ahead_by, count_by, posting}
use Rattle.runs.specs.laws.LaidLaws.{laid_none, laid_length, laid_next, laid_all}
use Rattle.runs.proofs.together.nolthewyr_operations_ahead.Goals as goal

counted : (s : Settings) (c : Client) (t room : ℕ) (d : Ahead) → d ≡ ahead_answer s c t room → d.count ≡ min room (length (ahead_of s c t))
unfolding ahead_answer
counted s c t room d e = ap (λ (x : Ahead). x.count) e

inside : (os ws : List Operation) (k : ℕ) (now : List Operation) → now ≡ laid (take k os) ws → k < length ws → k < length now
inside os ws k now e h = subst (λ (n : ℕ). k < n) (sym (ap length e ∙ laid_length (take k os) ws)) h

pub loop-i-init : goal.loop-i-init
loop-i-init c = sym (laid_none (ahead_of c.args.settings c.args.client c.args.clock) c.args.operations.now)

pub invariant_of-valid : goal.invariant_of-valid
invariant_of-valid c =
    let a = c.args in
    let n = c.unwrap_or-i-end.ensures ∙ count_by c.answer_ahead-answer.result ∙ counted a.settings a.client a.clock (length a.operations.now) _ c.answer_ahead-answer.ensures in
    let below : c.loop-i.i < length (ahead_of a.settings a.client a.clock) = omega (arith, n, c.loop-i-test.true) in
    record { settled = (posting a.settings a.client a.clock c.loop-i.i below).settings }

pub operation_ahead-requires : goal.operation_ahead-requires
operation_ahead-requires c =
    let a = c.args in
    let n = c.unwrap_or-i-end.ensures ∙ count_by c.answer_ahead-answer.result ∙ counted a.settings a.client a.clock (length a.operations.now) _ c.answer_ahead-answer.ensures in
    let below : c.loop-i.i < length (ahead_of a.settings a.client a.clock) = omega (arith, n, c.loop-i-test.true) in
    let p = posting a.settings a.client a.clock c.loop-i.i below in
    (p.sound, subst (λ (l : List Operation). c.loop-i.i < length l) p.list below)

pub offset_bounds-operations-i : goal.offset_bounds-operations-i
offset_bounds-operations-i c =
    let a = c.args in
    let n = c.unwrap_or-i-end.ensures ∙ count_by c.answer_ahead-answer.result ∙ counted a.settings a.client a.clock (length a.operations.now) _ c.answer_ahead-answer.ensures in
    let h : c.loop-i.i < length a.operations.now = omega (arith, n, c.loop-i-test.true) in search (rules, h)

pub bounds-operations-i : goal.bounds-operations-i
bounds-operations-i c =
    let a = c.args in
    let n = c.unwrap_or-i-end.ensures ∙ count_by c.answer_ahead-answer.result ∙ counted a.settings a.client a.clock (length a.operations.now) _ c.answer_ahead-answer.ensures in
    inside (ahead_of a.settings a.client a.clock) a.operations.now c.loop-i.i c.loop-i.operations c.loop-i.invariant (omega (arith, n, c.loop-i-test.true))

pub loop-i-preserved : goal.loop-i-preserved
loop-i-preserved c =
    let a = c.args in
    let os = ahead_of a.settings a.client a.clock in
    let ws = a.operations.now in
    let k = c.loop-i.i in
    let n = c.unwrap_or-i-end.ensures ∙ count_by c.answer_ahead-answer.result ∙ counted a.settings a.client a.clock (length ws) _ c.answer_ahead-answer.ensures in
    let below : k < length os = omega (arith, n, c.loop-i-test.true) in
    let p = posting a.settings a.client a.clock k below in
    ap (λ (z : List Operation). set z k c.operation_ahead.result) c.loop-i.invariant
    ∙ ap (set (laid (take k os) ws) k) (c.operation_ahead.ensures ∙ sym (ap (λ (l : List Operation). get_or l k no_operation) p.list))
    ∙ laid_next k os ws no_operation below

pub returns : goal.returns
returns c =
    let a = c.args in
    let os = ahead_of a.settings a.client a.clock in
    let ws = a.operations.now in
    let n = c.unwrap_or-i-end.ensures ∙ count_by c.answer_ahead-answer.result ∙ counted a.settings a.client a.clock (length ws) _ c.answer_ahead-answer.ensures in
    let all : c.loop-i.i ≡ min (length ws) (length os) = omega (arith, n, c.loop-i-test.false) in
    let told : c.into.result ≡ ahead_by c.answer_ahead-answer.result = search rules in
    (told ∙ c.answer_ahead-answer.ensures, c.loop-i.invariant ∙ laid_all c.loop-i.i os ws all)
