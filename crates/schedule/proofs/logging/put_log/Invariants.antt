use Rattle.std.proofs.Common.{◌≡◌, ◌≤◌, ◌+◌, ◌*◌, ◌++◌, length, map, take}
use Rattle.schedule.specs.rules.Log.{header_line, lines}
use Rattle.schedule.specs.laws.FormatLaws.{call_of_bytes}
use Rattle.schedule.specs.laws.RunLaws.{fresh}
use Rattle.schedule.specs.laws.Writing.{lines_from}
use Rattle.schedule.proofs.logging.put_log.Given as goal

abbrev pub invariant-loop-k : goal.invariant-loop-k
invariant-loop-k l = record {
  text : take l.end l.out ++ lines_from l.schedule.settings l.schedule.calls.now l.table l.k ≡ header_line l.schedule.settings l.schedule.clients ++ lines l.schedule.settings (fresh l.schedule.settings l.schedule.clients) 0 (map call_of_bytes l.schedule.calls.now);
  inside : l.end ≤ length l.out;
  short : l.end ≤ 112 + 144 * l.k;
}
