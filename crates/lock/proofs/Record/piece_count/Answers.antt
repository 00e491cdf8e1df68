-- `lock::Record::piece_count` meets its contract. Assumes nothing.
use mathlib.Core.Path.{sym}
use Rattle.lock.proofs.laws.Pieces.{count_one, count_two}
use Rattle.lock.proofs.Record.piece_count.Goals as goal

pub returns-then-self-eq0 : goal.returns-then-self-eq0
returns-then-self-eq0 c =
    sym (count_one c.args.self c.if-self-eq0.true)

pub returns : goal.returns
returns c =
    sym (count_two c.args.self c.if-self-eq0.false)
