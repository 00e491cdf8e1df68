use Rattle.std.proofs.Common.{◌≡◌, drop, map}
use Rattle.lock.specs.rules.History as History
use Rattle.schedule.specs.laws.FormatLaws.{call_of_bytes}
use Rattle.schedule.specs.laws.RunLaws.{fresh}
use Rattle.schedule.proofs.examined.Schedule.run.Given as goal

abbrev pub invariant-loop-call : goal.invariant-loop-call
invariant-loop-call l =
    History.run l.self.settings l.table (map call_of_bytes (drop l.call-index l.self.calls.now))
    ≡ History.run l.self.settings (fresh l.self.settings l.self.clients) (map call_of_bytes l.self.calls.now)
