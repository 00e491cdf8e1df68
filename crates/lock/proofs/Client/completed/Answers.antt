-- `lock::Client::completed` meets its contract. Assumes nothing.
use Rattle.std.proofs.Common.{refl, sym, ap, ◌∙◌, subst}
use Rattle.std.proofs.lemmas.Result.{err_from_is_err_and}
use native.Mathlib.Omega.{arith}
use Rattle.lock.specs.rules.Steps.{moved}
use Rattle.lock.specs.laws.Placed.{Sound}
use Rattle.lock.specs.laws.Rows.{leaves}
use Rattle.lock.proofs.laws.CallLaws.{cause_some}
use Rattle.lock.proofs.laws.Touched.{readable}
use Rattle.lock.proofs.laws.SettledLaws.{settled}
use Rattle.lock.proofs.laws.OperationLaws.{post_tested, completed_refused, completed_nine, completed_taken}
use Rattle.lock.proofs.Client.completed.Goals as goal

pub returns-in_err-valid : goal.returns-in_err-valid
returns-in_err-valid c =
    let a = c.args in
    let p = err_from_is_err_and c.from_residual.result c.from_residual.ensures.1 in
    rw (p.1, p.2) (completed_refused a.settings a.self a.clock _ c.in_err-valid.ensures.number a.found (cause_some _))

pub completed-requires : goal.completed-requires
completed-requires c =
    let a = c.args in
    let v = post_tested a.settings a.self a.clock 0 c.in_ok-valid.ensures.number in
    let g = settled a.settings (v.settings refl) in
    let f = readable a.settings a.self.«record» a.self.clock g (v.readable refl) in
    let b = v.onward refl in
    (subst (λ s. Sound s a.self.«record») (sym c.in_ok-valid.ensures.same) f.sound, omega (arith, f.t1_past, b), omega (arith, f.t0_past, b), omega (arith, f.taken_past, b))

pub returns-in_err-moved : goal.returns-in_err-moved
returns-in_err-moved c =
    let a = c.args in
    let p = err_from_is_err_and c.from_residual-in_err-moved.result c.from_residual-in_err-moved.ensures.1 in
    rw (p.1, p.2) (completed_nine a.settings a.self a.clock 0 c.in_ok-valid.ensures.number a.found refl _ (c.in_err-moved.ensures ∙ ap (λ s. moved s a.self.«record» a.found a.clock) c.in_ok-valid.ensures.same) (cause_some _))

pub returns : goal.returns
returns c =
    let a = c.args in
    completed_taken a.settings a.self a.clock 0 c.in_ok-valid.ensures.number a.found refl (leaves c.in_ok-moved.moved.word c.in_ok-moved.moved.next) (c.in_ok-moved.ensures ∙ ap (λ s. moved s a.self.«record» a.found a.clock) c.in_ok-valid.ensures.same) refl
