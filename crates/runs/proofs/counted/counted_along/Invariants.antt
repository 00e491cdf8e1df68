-- `runs::counted::counted_along`: the first operations counted, and this is the client after them. Assumes nothing.
use Rattle.runs.specs.rules.Ahead.{along, ahead_of}
use Rattle.runs.specs.laws.AlongLaws.{SoFar}
use Rattle.runs.proofs.counted.counted_along.Given as goal

abbrev pub invariant-loop-i : goal.invariant-loop-i
invariant-loop-i l = SoFar l.settings l.clock (along l.settings l.clock l.fn.client (ahead_of l.settings l.fn.client l.clock) l.found) (ahead_of l.settings l.fn.client l.clock) l.found l.after l.i
