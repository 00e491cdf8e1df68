use Rattle.std.proofs.Common.{◌≤◌, ◌+◌, ◌*◌}
use Rattle.rangepages.specs.rules.Printed.{record_line}
use Rattle.rangepages.specs.laws.Lines.{Lined}
use Rattle.rangepages.proofs.paging.put_records.Given as goal

abbrev pub invariant-loop-client : goal.invariant-loop-client
invariant-loop-client l = record {
  piece : Lined (record_line l.held) l.clients l.initial.out l.at l.out l.end l.client;
  short : l.end ≤ l.at + 357 * l.client;
}
