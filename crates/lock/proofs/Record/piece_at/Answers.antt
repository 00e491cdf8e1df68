-- `lock::Record::piece_at` meets its contract. Assumes nothing.
use mathlib.Core.Path.{◌≡◌, sym, ap, ◌∙◌}
use native.Mathlib.Omega.{arith}
use Rattle.lock.specs.rules.Records.{piece_at}
use Rattle.lock.proofs.laws.Pieces.{piece_first, piece_second, few_pieces}
use Rattle.lock.proofs.Record.piece_at.Goals as goal

pub returns-then-i-eq0 : goal.returns-then-i-eq0
returns-then-i-eq0 c =
    let a = c.args in
    sym (ap (piece_at a.self) c.if-i-eq0.true ∙ piece_first a.self)

pub returns : goal.returns
returns c =
    let a = c.args in
    let e : a.i ≡ 1 = omega (arith, few_pieces a.self) in
    sym (ap (piece_at a.self) e ∙ piece_second a.self (omega arith))
