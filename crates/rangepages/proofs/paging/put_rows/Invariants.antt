use Rattle.std.proofs.Common.{◌≤◌, ◌*◌}
use Rattle.rangepages.specs.rules.Printed.{row_line}
use Rattle.rangepages.specs.laws.Lines.{Lined}
use Rattle.rangepages.proofs.paging.put_rows.Given as goal

abbrev pub invariant-loop-client : goal.invariant-loop-client
invariant-loop-client l = record {
  piece : Lined (row_line l.schedule.settings) l.clients l.initial.out 0 l.out l.end l.client;
  short : l.end ≤ 168 * l.client;
}
