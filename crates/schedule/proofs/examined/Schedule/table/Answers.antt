use Rattle.std.proofs.Common.{sym, ◌∙◌}
use Rattle.schedule.specs.laws.RunLaws.{opening_fresh}
use Rattle.schedule.proofs.examined.Schedule.table.Goals as goal

pub returns : goal.returns
returns c = c.new.ensures ∙ sym (opening_fresh c.args.self.now.settings c.args.self.now.clients)
