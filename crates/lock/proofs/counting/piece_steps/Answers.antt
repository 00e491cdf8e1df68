-- `lock::counting::piece_steps` meets its contract. Assumes nothing.
use native.Mathlib.Omega.{arith}
use Rattle.lock.proofs.laws.PieceSteps.{leaf_code, inner_code, claim_few}
use Rattle.lock.proofs.laws.StepLaws.{check_small}
use Rattle.tree.proofs.laws.Code.{bounded}
use Rattle.lock.proofs.laws.Placed.{widen}
use Rattle.lock.proofs.counting.piece_steps.Goals as goal

pub overflow_add-notified : goal.overflow_add-notified
overflow_add-notified c =
    let a = c.args in
    let p = c.requires in
    let v = bounded a.m a.n p.1 p.2 (widen a.h a.n p.0 p.3) in
    omega (arith, c.level-d.ensures, c.notify_count.ensures, claim_few a.h a.m a.n v)

pub returns-then-d-h : goal.returns-then-d-h
returns-then-d-h c =
    let a = c.args in
    omega (arith, c.level-d.ensures, c.notify_count.ensures, leaf_code a.h a.m a.n (omega (arith, c.level-d.ensures, c.if-d-h.true)))

pub overflow_add-result : goal.overflow_add-result
overflow_add-result c =
    let a = c.args in
    let p = c.requires in
    let v = bounded a.m a.n p.1 p.2 (widen a.h a.n p.0 p.3) in
    omega (arith, c.level-d.ensures, c.notify_count.ensures, claim_few a.h a.m a.n v)

pub overflow_add-result-2 : goal.overflow_add-result-2
overflow_add-result-2 c =
    let a = c.args in
    let p = c.requires in
    let v = bounded a.m a.n p.1 p.2 (widen a.h a.n p.0 p.3) in
    omega (arith, c.level-d.ensures, c.notify_count.ensures, c.check_count.ensures, claim_few a.h a.m a.n v, check_small a.h a.m a.n p.0 p.1)

pub returns : goal.returns
returns c =
    let a = c.args in
    omega (arith, c.level-d.ensures, c.notify_count.ensures, c.check_count.ensures, inner_code a.h a.m a.n (λ e. c.if-d-h.false (omega (arith, c.level-d.ensures))))
