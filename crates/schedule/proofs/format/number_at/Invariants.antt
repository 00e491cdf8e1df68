use Rattle.std.proofs.Common.{◌≡◌, ◌+◌, ◌-◌}
use Rattle.schedule.specs.rules.Format.{little}
use Rattle.schedule.proofs.format.number_at.Given as goal

abbrev pub invariant-loop-k : goal.invariant-loop-k
invariant-loop-k g l = l.number ≡ little (g.row.N - l.k) l.bytes (l.at + l.k)
