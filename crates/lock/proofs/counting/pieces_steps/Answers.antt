-- `lock::counting::pieces_steps` meets its contract. Assumes nothing.
use mathlib.Core.Path.{◌∙◌}
use native.Mathlib.Omega.{arith}
use Rattle.lock.proofs.laws.PieceSteps.{pieces_one, pieces_two, steps_few}
use Rattle.tree.proofs.laws.Code.{bounded}
use Rattle.lock.proofs.laws.Placed.{widen}
use Rattle.lock.proofs.counting.pieces_steps.Goals as goal

pub returns-then-second-eq0 : goal.returns-then-second-eq0
returns-then-second-eq0 c =
    let a = c.args in
    let p = c.requires in
    c.piece_steps-own.ensures ∙ pieces_one a.h a.m a.first a.second c.if-second-eq0.true

pub overflow_add-result : goal.overflow_add-result
overflow_add-result c =
    let a = c.args in
    let p = c.requires in
    omega (
      arith,
      c.piece_steps-own.ensures,
      c.piece_steps.ensures,
      steps_few a.h a.m a.first (bounded a.m a.first p.1 p.2 (widen a.h a.first p.0 p.3)),
      steps_few a.h a.m a.second (bounded a.m a.second p.1 p.2 (widen a.h a.second p.0 (p.4 c.if-second-eq0.false))),
    )

pub returns : goal.returns
returns c =
    let a = c.args in
    let p = c.requires in
    omega (arith, c.piece_steps-own.ensures, c.piece_steps.ensures, pieces_two a.h a.m a.first a.second c.if-second-eq0.false)
