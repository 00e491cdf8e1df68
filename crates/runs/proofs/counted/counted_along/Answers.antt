-- `runs::counted::counted_along` meets its contract. Assumes nothing.
use Rattle.std.proofs.Common.{◌≡◌, Option, Some, None, ℕ, ◌+◌, ◌<◌, List, length, get_or, sym, ap, ◌∙◌, subst, arith, rules}
use Rattle.base.specs.rules.Refusals.{number_of}
use Rattle.lock.specs.declared.Client.{Client}
use Rattle.lock.specs.declared.Operation.{Operation}
use Rattle.lock.specs.declared.Settings.{Settings}
use Rattle.lock.specs.declared.Stepped.{Stepped}
use Rattle.lock.proofs.laws.CallLaws.{cause_some}
use Rattle.lock.specs.rules.Records.{phase_of}
use Rattle.runs.specs.rules.Ahead.{along, ahead_in, ahead_of}
use Rattle.runs.specs.laws.AnswerLaws.{posting}
use Rattle.runs.specs.laws.Standing.{no_operation}
use Rattle.runs.specs.laws.AlongLaws.{one_counted, counted_by, completed_by, SoFar, begins, first_refused, goes_on, stops, ends, all_counted}
use Rattle.runs.proofs.counted.counted_along.Goals as goal

number_same : (x y : Stepped) → x ≡ y → x.number ≡ y.number
number_same x y e = ap (λ (z : Stepped). z.number) e

pub invariant_of-valid : goal.invariant_of-valid
invariant_of-valid c =
    let a = c.args in
    let b : 0 < length (ahead_of a.settings a.client a.clock) = omega (arith, c.requires) in record { settled = (posting a.settings a.client a.clock 0 b).settings }

pub returns-in_err-after : goal.returns-in_err-after
returns-in_err-after c =
    let a = c.args in
    let cause = number_of c.in_err-after.field-0.0 in
    let told : completed_by a.client c.from_residual.result ≡ record { number = cause; counted = 0; next = a.client } = search rules in
    let e : cause ≡ _ = number_same _ _ c.in_err-after.ensures in
    told
    ∙ all_counted a.settings a.client a.clock a.found.now cause 0 a.client (omega (arith, c.requires)) e
    (first_refused a.settings a.client a.clock a.found.now (omega (arith, c.requires)) (λ z. cause_some _ (e ∙ z)))

pub loop-i-init : goal.loop-i-init
loop-i-init c =
    let a = c.args in
    let e = c.in_ok-after.ensures in
    subst (λ (x : Client). SoFar a.settings a.clock (along a.settings a.clock a.client (ahead_of a.settings a.client a.clock) a.found.now) (ahead_of a.settings a.client a.clock) a.found.now x 1)
    (sym (ap (λ (x : Stepped). x.next) e)) (begins a.settings a.client a.clock a.found.now (omega (arith, c.requires)) (sym (number_same _ _ e)))

pub operation_ahead-posted-requires : goal.operation_ahead-posted-requires
operation_ahead-posted-requires c =
    let a = c.args in
    let i = c.loop-i.i in
    let b : i < length (ahead_of a.settings a.client a.clock) = omega (arith, c.requires.1) in
    let p = posting a.settings a.client a.clock i b in (p.sound, subst (λ (os : List Operation). i < length os) p.list b)

-- what is known of the operation of a turn, by its place
of_turn : (s : Settings) (t : ℕ) (c d : Client) (o : Operation) (w : ℕ) (answer : Option Client) (i : ℕ) → i < length (ahead_of s c t) → counted_by d answer ≡ one_counted s t d o w
    → o ≡ get_or (ahead_in s c.«record» (phase_of c.«record».phase)) i no_operation → counted_by d answer ≡ one_counted s t d (get_or (ahead_of s c t) i no_operation) w
of_turn s t c d o w answer i b e f = e ∙ ap (λ (p : Operation). one_counted s t d p w) (f ∙ sym (ap (λ (os : List Operation). get_or os i no_operation) (posting s c t i b).list))

pub returns-in-None : goal.returns-in-None
returns-in-None c =
    let a = c.args in
    let l = c.loop-i in
    let all = ahead_of a.settings a.client a.clock in
    let b : l.i < length all = omega (arith, c.requires.1) in
    let m : l.i < length a.found.now = omega (arith, c.requires.1) in
    let one = of_turn a.settings a.clock a.client l.after _ (get_or a.found.now l.i 0) None l.i b c.in-None.ensures c.operation_ahead-posted.ensures in
    all_counted a.settings a.client a.clock a.found.now 0 l.i l.after (omega (arith, c.requires)) (number_same _ _ c.in_ok-after.ensures)
    (stops a.settings a.clock (along a.settings a.clock a.client all a.found.now) all a.found.now l.after l.i l.invariant b m (λ z. omega (arith, number_same _ _ one, z)))

pub loop-i-preserved : goal.loop-i-preserved
loop-i-preserved c =
    let a = c.args in
    let l = c.loop-i in
    let all = ahead_of a.settings a.client a.clock in
    let whole = along a.settings a.clock a.client all a.found.now in
    let b : l.i < length all = omega (arith, c.requires.1) in
    let m : l.i < length a.found.now = omega (arith, c.requires.1) in
    let one = of_turn a.settings a.clock a.client l.after _ (get_or a.found.now l.i 0) (Some c.in-Some.next) l.i b c.in-Some.ensures c.operation_ahead-posted.ensures in
    subst (λ (x : Stepped). SoFar a.settings a.clock whole all a.found.now x.next (l.i + 1)) (sym one)
    (goes_on a.settings a.clock whole all a.found.now l.after l.i l.invariant b m (sym (number_same _ _ one)))

pub returns : goal.returns
returns c =
    let a = c.args in
    let l = c.loop-i in
    let all = ahead_of a.settings a.client a.clock in
    let whole = along a.settings a.clock a.client all a.found.now in
    let last : l.i ≡ a.count = omega (arith, c.loop-i-test.false, c.requires.0) in
    all_counted a.settings a.client a.clock a.found.now 0 a.count l.after (omega (arith, c.requires)) (number_same _ _ c.in_ok-after.ensures)
    (ends a.settings a.clock whole all a.found.now l.after l.i l.invariant (omega (arith, c.requires.1)) ∙ ap (λ (k : ℕ). record { count = k; next = l.after }) last)
