-- `lock::Client::own_release` meets its contract. Assumes nothing.
use Rattle.std.proofs.Common.{refl, sym, ap, ◌∙◌}
use Rattle.std.proofs.lemmas.Result.{err_from_is_err_and}
use Rattle.lock.specs.rules.Records.{client_with}
use Rattle.lock.specs.rules.Calls.{released, release_tests}
use Rattle.lock.specs.rules.Operations.{own_release_answer}
use Rattle.lock.proofs.laws.CallLaws.{cause_some, accepted_by, refused_as}
use Rattle.lock.proofs.laws.OperationLaws.{own_refused, own_answered}
use Rattle.lock.proofs.Client.own_release.Goals as goal

pub returns-in_err-post_tests : goal.returns-in_err-post_tests
unfolding own_release_answer release_tests
returns-in_err-post_tests c =
    let a = c.args in
    let p = err_from_is_err_and c.from_residual.result c.from_residual.ensures.1 in
    refused_as _ a.self _ _ _ _ p.1 p.2 (sym (own_refused a.settings a.self _ c.in_err-post_tests.ensures.number _ (cause_some _)))

pub returns-in_err-release : goal.returns-in_err-release
unfolding own_release_answer release_tests
returns-in_err-release c =
    let a = c.args in
    let p = err_from_is_err_and c.from_residual-in_err-release.result c.from_residual-in_err-release.ensures.1 in
    own_answered a.settings a.self 0 c.in_ok-post_tests.ensures.number _ refl (client_with a.self.clock (released a.self.«record»)) _ (refused_as _ a.self _ _ _ _ p.1 p.2 c.in_err-release.ensures.number)

pub returns : goal.returns
unfolding own_release_answer release_tests
returns c =
    let a = c.args in
    own_answered a.settings a.self 0 c.in_ok-post_tests.ensures.number _ refl (client_with a.self.clock (released a.self.«record»)) _ (accepted_by _ a.self _ _ c.in_ok-release.ensures.number (c.with.ensures ∙ ap (client_with a.self.clock) c.in_ok-release.ensures.next))
