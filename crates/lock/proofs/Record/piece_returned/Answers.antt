-- `lock::Record::piece_returned` meets its contract. Assumes nothing.
use native.Mathlib.Omega.{arith}
use Rattle.lock.proofs.laws.Pieces.{few_pieces}
use Rattle.lock.proofs.Record.piece_returned.Goals as goal

pub overflow_add-next : goal.overflow_add-next
overflow_add-next c =
    omega (arith, few_pieces c.args.self, c.requires)
