-- `lock::Client::post_tests` meets its contract. Assumes nothing.
use Rattle.std.proofs.Common.{sym, ap, ◌∙◌, lt-ltb, le-ltb}
use Rattle.std.proofs.lemmas.Result.{err_from_is_err_and}
use Rattle.lock.specs.rules.Unreadable.{unreadable}
use Rattle.lock.specs.rules.Operations.{post_tests}
use Rattle.lock.proofs.laws.CallLaws.{cause_some, settings_refused, settings_passed}
use Rattle.lock.proofs.laws.OperationLaws.{cause_0, cause_5, cause_6}
use Rattle.lock.proofs.Client.post_tests.Goals as goal

pub returns-in_err-valid-clause-number : goal.returns-in_err-valid-clause-number
unfolding post_tests
returns-in_err-valid-clause-number c =
    let p = err_from_is_err_and c.from_residual.result c.from_residual.ensures.1 in
    rw (p.1, p.2) (sym (settings_refused c.args.settings _ _ c.in_err-valid.ensures.number (cause_some _)))

pub returns-then-clock-self-clause-number : goal.returns-then-clock-self-clause-number
returns-then-clock-self-clause-number c =
    let a = c.args in
    cause_5 a.settings a.self a.clock (settings_passed a.settings c.in_ok-valid.ensures.number) (lt-ltb _ _ c.if-clock-self.true)

pub returns-then-unreadable-clause-number : goal.returns-then-unreadable-clause-number
returns-then-unreadable-clause-number c =
    let a = c.args in
    cause_6 a.settings a.self a.clock (settings_passed a.settings c.in_ok-valid.ensures.number) (le-ltb _ _ c.if-clock-self.false) (sym (c.unreadable.ensures ∙ ap (λ s. unreadable s a.self.«record» a.self.clock) c.in_ok-valid.ensures.same) ∙ c.if-unreadable.true)

pub returns-clause-number : goal.returns-clause-number
returns-clause-number c =
    let a = c.args in
    cause_0 a.settings a.self a.clock (settings_passed a.settings c.in_ok-valid.ensures.number) (le-ltb _ _ c.if-clock-self.false) (sym (c.unreadable.ensures ∙ ap (λ s. unreadable s a.self.«record» a.self.clock) c.in_ok-valid.ensures.same) ∙ c.if-unreadable.false)
