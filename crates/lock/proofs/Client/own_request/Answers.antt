-- `lock::Client::own_request` meets its contract. Assumes nothing.
use Rattle.std.proofs.Common.{refl, sym, ap, ◌∙◌}
use Rattle.std.proofs.lemmas.Result.{err_from_is_err_and}
use mathlib.Core.List.{[], ◌∷◌}
use Rattle.cover.specs.rules.Answer.{window_outside}
use Rattle.lock.specs.rules.Records.{client_with}
use Rattle.lock.specs.rules.Unreadable.{differ}
use Rattle.lock.specs.rules.Calls.{first_cause, requested, request_tests}
use Rattle.lock.specs.rules.Operations.{own_request_answer}
use Rattle.lock.proofs.laws.CallLaws.{cause_some, accepted_by, refused_as}
use Rattle.lock.proofs.laws.OperationLaws.{own_refused, own_answered}
use Rattle.lock.proofs.Client.own_request.Goals as goal

pub returns-in_err-valid : goal.returns-in_err-valid
unfolding own_request_answer request_tests
returns-in_err-valid c =
    let a = c.args in
    let p = err_from_is_err_and c.from_residual.result c.from_residual.ensures.1 in
    refused_as _ a.self _ _ _ _ p.1 p.2 (sym (own_refused a.settings a.self _ c.in_err-valid.ensures.number _ (cause_some _)))

pub returns-in_err-request : goal.returns-in_err-request
unfolding own_request_answer request_tests
returns-in_err-request c =
    let a = c.args in
    let p = err_from_is_err_and c.from_residual-in_err-request.result c.from_residual-in_err-request.ensures.1 in
    own_answered a.settings a.self 0 c.in_ok-valid.ensures.number _ refl (client_with a.self.clock (requested a.settings a.a a.b)) _ (refused_as _ a.self _ _ _ _ p.1 p.2 (c.in_err-request.ensures.number ∙ ap (λ s. first_cause ((window_outside s.levels a.a a.b, 7) ∷ (differ a.self.«record».phase 0, 8) ∷ [])) c.in_ok-valid.ensures.same))

pub returns : goal.returns
unfolding own_request_answer request_tests
returns c =
    let a = c.args in
    own_answered a.settings a.self 0 c.in_ok-valid.ensures.number _ refl (client_with a.self.clock (requested a.settings a.a a.b)) _ (accepted_by _ a.self _ _ (c.in_ok-request.ensures.number ∙ ap (λ s. first_cause ((window_outside s.levels a.a a.b, 7) ∷ (differ a.self.«record».phase 0, 8) ∷ [])) c.in_ok-valid.ensures.same) (c.with.ensures ∙ ap (client_with a.self.clock) (c.in_ok-request.ensures.next ∙ ap (λ s. requested s a.a a.b) c.in_ok-valid.ensures.same)))
