-- `lock::Client::act_as` meets its contract. Assumes nothing.
use Rattle.std.proofs.Common.{rules, refl, sym, ap, ◌∙◌}
use Rattle.std.proofs.lemmas.Result.{err_from_is_err_and}
use Rattle.tree.specs.rules.Tree.{word_count}
use Rattle.lock.specs.rules.Records.{client_with}
use Rattle.lock.specs.rules.Unreadable.{unreadable}
use Rattle.lock.specs.rules.Calls.{first_cause}
use Rattle.lock.specs.rules.Table.{request, step, release, cancel}
use Rattle.lock.specs.rules.ByValue.{call_by}
use Rattle.lock.proofs.laws.ByKind.{rest_of, next_by, words_by, back_of_kind, step_onward, counts, refuses_tree, refuses_back, refuses_unreadable, refuses_own, accepts}
use Rattle.lock.proofs.Client.act_as.Goals as goal

pub returns-in_err-valid : goal.returns-in_err-valid
returns-in_err-valid c =
    let a = c.args in
    let p = err_from_is_err_and c.from_residual.result c.from_residual.ensures.1 in
    let both = refuses_tree a.settings a.self a.words.now (call_by a.kind a.call.client a.call.a a.call.b) _ _ _ p.1 p.2 c.in_err-valid.ensures.number in record { answer = both.0; words = both.1 }

pub returns-then-eq-call : goal.returns-then-eq-call
returns-then-eq-call c =
    let a = c.args in
    let both = refuses_back a.settings a.self a.words.now (call_by a.kind a.call.client a.call.a a.call.b) c.in_ok-valid.ensures.number (sym (back_of_kind a.kind a.call.client a.call.a a.call.b a.self.clock) ∙ search rules) in record { answer = both.0; words = both.1 }

pub returns-then-unreadable : goal.returns-then-unreadable
returns-then-unreadable c =
    let a = c.args in
    let both = refuses_unreadable a.settings a.self a.words.now (call_by a.kind a.call.client a.call.a a.call.b) c.in_ok-valid.ensures.number (sym (back_of_kind a.kind a.call.client a.call.a a.call.b a.self.clock) ∙ search rules) (sym (c.unreadable.ensures ∙ ap (λ s. unreadable s a.self.«record» a.self.clock) c.in_ok-valid.ensures.same) ∙ c.if-unreadable.true) in record { answer = both.0; words = both.1 }

pub step-requires : goal.step-requires
step-requires c =
    let a = c.args in
    (counts a.settings a.self a.words.now (step 0 0) c.in_ok-valid.ensures.number ∙ sym (ap (λ s. word_count s.levels) c.in_ok-valid.ensures.same), sym c.unreadable.ensures ∙ c.if-unreadable.false, step_onward a.kind a.call.a a.self.clock c.in-Step.is (search rules))

pub returns-in_err-request-in-Request : goal.returns-in_err-request-in-Request
unfolding rest_of words_by
returns-in_err-request-in-Request c =
    let a = c.args in
    let p = err_from_is_err_and c.from_residual-in_err-request-in-Request.result c.from_residual-in_err-request-in-Request.ensures.1 in
    let both = refuses_own a.settings a.self a.words.now (call_by a.kind a.call.client a.call.a a.call.b) c.in_ok-valid.ensures.number (sym (back_of_kind a.kind a.call.client a.call.a a.call.b a.self.clock) ∙ search rules) (sym (c.unreadable.ensures ∙ ap (λ s. unreadable s a.self.«record» a.self.clock) c.in_ok-valid.ensures.same) ∙ c.if-unreadable.false) (request a.call.client a.call.a a.call.b) (ap (λ kind. call_by kind a.call.client a.call.a a.call.b) c.in-Request.is) a.words.now refl _ _ _ p.1 p.2 (c.in_err-request-in-Request.ensures.number ∙ ap (λ s. first_cause (rest_of s a.self a.words.now (request a.call.client a.call.a a.call.b))) c.in_ok-valid.ensures.same) in record { answer = both.0; words = both.1 }

pub returns-in_ok-request-in-Request : goal.returns-in_ok-request-in-Request
unfolding rest_of next_by words_by
returns-in_ok-request-in-Request c =
    let a = c.args in
    let both = accepts a.settings a.self a.words.now (call_by a.kind a.call.client a.call.a a.call.b) c.in_ok-valid.ensures.number (sym (back_of_kind a.kind a.call.client a.call.a a.call.b a.self.clock) ∙ search rules) (sym (c.unreadable.ensures ∙ ap (λ s. unreadable s a.self.«record» a.self.clock) c.in_ok-valid.ensures.same) ∙ c.if-unreadable.false) (request a.call.client a.call.a a.call.b) (ap (λ kind. call_by kind a.call.client a.call.a a.call.b) c.in-Request.is) a.words.now refl _ (c.in_ok-request-in-Request.ensures.number ∙ ap (λ s. first_cause (rest_of s a.self a.words.now (request a.call.client a.call.a a.call.b))) c.in_ok-valid.ensures.same) (c.with.ensures ∙ ap (client_with a.self.clock) c.in_ok-request-in-Request.ensures.next ∙ ap (λ s. next_by s a.self a.words.now (request a.call.client a.call.a a.call.b)) c.in_ok-valid.ensures.same) in record { answer = both.0; words = both.1 }

pub returns-in_err-step-in-Step : goal.returns-in_err-step-in-Step
unfolding rest_of words_by
returns-in_err-step-in-Step c =
    let a = c.args in
    let p = err_from_is_err_and c.from_residual-in_err-step-in-Step.result c.from_residual-in_err-step-in-Step.ensures.1 in
    let both = refuses_own a.settings a.self a.words.now (call_by a.kind a.call.client a.call.a a.call.b) c.in_ok-valid.ensures.number (sym (back_of_kind a.kind a.call.client a.call.a a.call.b a.self.clock) ∙ search rules) (sym (c.unreadable.ensures ∙ ap (λ s. unreadable s a.self.«record» a.self.clock) c.in_ok-valid.ensures.same) ∙ c.if-unreadable.false) (step a.call.client a.call.a) (ap (λ kind. call_by kind a.call.client a.call.a a.call.b) c.in-Step.is) c.step.new.words (c.step.ensures.words ∙ ap (λ s. words_by s a.self a.words.now (step a.call.client a.call.a)) c.in_ok-valid.ensures.same) _ _ _ p.1 p.2 (c.in_err-step-in-Step.ensures.number ∙ ap (λ s. first_cause (rest_of s a.self a.words.now (step a.call.client a.call.a))) c.in_ok-valid.ensures.same) in record { answer = both.0; words = both.1 }

pub returns-in_ok-step-in-Step : goal.returns-in_ok-step-in-Step
unfolding rest_of next_by words_by
returns-in_ok-step-in-Step c =
    let a = c.args in
    let both = accepts a.settings a.self a.words.now (call_by a.kind a.call.client a.call.a a.call.b) c.in_ok-valid.ensures.number (sym (back_of_kind a.kind a.call.client a.call.a a.call.b a.self.clock) ∙ search rules) (sym (c.unreadable.ensures ∙ ap (λ s. unreadable s a.self.«record» a.self.clock) c.in_ok-valid.ensures.same) ∙ c.if-unreadable.false) (step a.call.client a.call.a) (ap (λ kind. call_by kind a.call.client a.call.a a.call.b) c.in-Step.is) c.step.new.words (c.step.ensures.words ∙ ap (λ s. words_by s a.self a.words.now (step a.call.client a.call.a)) c.in_ok-valid.ensures.same) _ (c.in_ok-step-in-Step.ensures.number ∙ ap (λ s. first_cause (rest_of s a.self a.words.now (step a.call.client a.call.a))) c.in_ok-valid.ensures.same) (ap (client_with a.call.a) c.in_ok-step-in-Step.ensures.next ∙ ap (λ s. next_by s a.self a.words.now (step a.call.client a.call.a)) c.in_ok-valid.ensures.same) in record { answer = both.0; words = both.1 }

pub returns-in_err-release-in-Release : goal.returns-in_err-release-in-Release
unfolding rest_of words_by
returns-in_err-release-in-Release c =
    let a = c.args in
    let p = err_from_is_err_and c.from_residual-in_err-release-in-Release.result c.from_residual-in_err-release-in-Release.ensures.1 in
    let both = refuses_own a.settings a.self a.words.now (call_by a.kind a.call.client a.call.a a.call.b) c.in_ok-valid.ensures.number (sym (back_of_kind a.kind a.call.client a.call.a a.call.b a.self.clock) ∙ search rules) (sym (c.unreadable.ensures ∙ ap (λ s. unreadable s a.self.«record» a.self.clock) c.in_ok-valid.ensures.same) ∙ c.if-unreadable.false) (release a.call.client) (ap (λ kind. call_by kind a.call.client a.call.a a.call.b) c.in-Release.is) a.words.now refl _ _ _ p.1 p.2 c.in_err-release-in-Release.ensures.number in record { answer = both.0; words = both.1 }

pub returns-in_ok-release-in-Release : goal.returns-in_ok-release-in-Release
unfolding rest_of next_by words_by
returns-in_ok-release-in-Release c =
    let a = c.args in
    let both = accepts a.settings a.self a.words.now (call_by a.kind a.call.client a.call.a a.call.b) c.in_ok-valid.ensures.number (sym (back_of_kind a.kind a.call.client a.call.a a.call.b a.self.clock) ∙ search rules) (sym (c.unreadable.ensures ∙ ap (λ s. unreadable s a.self.«record» a.self.clock) c.in_ok-valid.ensures.same) ∙ c.if-unreadable.false) (release a.call.client) (ap (λ kind. call_by kind a.call.client a.call.a a.call.b) c.in-Release.is) a.words.now refl _ c.in_ok-release-in-Release.ensures.number (c.with-in-Release.ensures ∙ ap (client_with a.self.clock) c.in_ok-release-in-Release.ensures.next) in record { answer = both.0; words = both.1 }

pub returns-in_err-cancel-in-Cancel : goal.returns-in_err-cancel-in-Cancel
unfolding rest_of words_by
returns-in_err-cancel-in-Cancel c =
    let a = c.args in
    let p = err_from_is_err_and c.from_residual-in_err-cancel-in-Cancel.result c.from_residual-in_err-cancel-in-Cancel.ensures.1 in
    let both = refuses_own a.settings a.self a.words.now (call_by a.kind a.call.client a.call.a a.call.b) c.in_ok-valid.ensures.number (sym (back_of_kind a.kind a.call.client a.call.a a.call.b a.self.clock) ∙ search rules) (sym (c.unreadable.ensures ∙ ap (λ s. unreadable s a.self.«record» a.self.clock) c.in_ok-valid.ensures.same) ∙ c.if-unreadable.false) (cancel a.call.client) (ap (λ kind. call_by kind a.call.client a.call.a a.call.b) c.in-Cancel.is) a.words.now refl _ _ _ p.1 p.2 c.in_err-cancel-in-Cancel.ensures.number in record { answer = both.0; words = both.1 }

pub returns-in_ok-cancel-in-Cancel : goal.returns-in_ok-cancel-in-Cancel
unfolding rest_of next_by words_by
returns-in_ok-cancel-in-Cancel c =
    let a = c.args in
    let both = accepts a.settings a.self a.words.now (call_by a.kind a.call.client a.call.a a.call.b) c.in_ok-valid.ensures.number (sym (back_of_kind a.kind a.call.client a.call.a a.call.b a.self.clock) ∙ search rules) (sym (c.unreadable.ensures ∙ ap (λ s. unreadable s a.self.«record» a.self.clock) c.in_ok-valid.ensures.same) ∙ c.if-unreadable.false) (cancel a.call.client) (ap (λ kind. call_by kind a.call.client a.call.a a.call.b) c.in-Cancel.is) a.words.now refl _ c.in_ok-cancel-in-Cancel.ensures.number (c.with-in-Cancel.ensures ∙ ap (client_with a.self.clock) c.in_ok-cancel-in-Cancel.ensures.next) in record { answer = both.0; words = both.1 }
