use Rattle.schedule.specs.rules.Format.{settings_in}
use Rattle.schedule.proofs.format.settings_in.Goals as goal

pub returns : goal.returns
unfolding settings_in
returns c = cc
