-- `lock::Client::operation` meets its contract. Assumes nothing.
use Rattle.std.proofs.Common.{refl, sym, ap, ◌∙◌, subst}
use Rattle.std.proofs.lemmas.Result.{err_from_is_err_and}
use Rattle.lock.specs.rules.Steps.{touched, access}
use Rattle.lock.specs.rules.Operations.{operation_at}
use Rattle.lock.specs.laws.Placed.{Sound}
use Rattle.lock.proofs.laws.CallLaws.{cause_some}
use native.Mathlib.Omega.{arith}
use Rattle.lock.proofs.laws.Touched.{readable}
use Rattle.lock.proofs.laws.SettledLaws.{settled}
use Rattle.lock.proofs.laws.OperationLaws.{post_tested, operation_refused, operation_found}
use Rattle.lock.proofs.Client.operation.Goals as goal

pub returns-in_err-tested : goal.returns-in_err-tested
returns-in_err-tested c =
    let a = c.args in
    let p = err_from_is_err_and c.from_residual.result c.from_residual.ensures.1 in
    record {
      number = rw (p.1, p.2) c.in_err-tested.ensures.number;
      operation = rw (p.1, p.2) (operation_refused a.settings a.self a.clock _ c.in_err-tested.ensures.number (cause_some _));
    }

pub operation-requires : goal.operation-requires
operation-requires c =
    let a = c.args in
    let v = post_tested a.settings a.self a.clock 0 c.in_ok-tested.ensures.number in
    let g = settled a.settings (v.settings refl) in
    let f = readable a.settings a.self.«record» a.self.clock g (v.readable refl) in
    (subst (λ s. Sound s a.self.«record») (sym c.in_ok-tested.ensures.same) f.sound, omega (arith, f.taken_past, v.onward refl))

pub returns : goal.returns
returns c =
    let a = c.args in
    record {
      number = c.in_ok-tested.ensures.number;
      operation = c.operation.ensures ∙ ap (λ s. operation_at (touched s a.self.«record» a.clock) (access s a.self.«record» a.clock)) c.in_ok-tested.ensures.same ∙ operation_found a.settings a.self a.clock 0 c.in_ok-tested.ensures.number refl;
    }
