-- `runs::together::nolthewyr_operations_ahead`: the first operations are laid into the lent list. Assumes nothing.
use Rattle.std.proofs.Common.{◌≡◌, take}
use Rattle.runs.specs.rules.Ahead.{laid, ahead_of}
use Rattle.runs.proofs.together.nolthewyr_operations_ahead.Given as goal

abbrev pub invariant-loop-i : goal.invariant-loop-i
invariant-loop-i l = l.operations ≡ laid (take l.i (ahead_of l.settings l.fn.client l.clock)) l.initial.operations
