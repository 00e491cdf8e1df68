use Rattle.schedule.specs.rules.Format.{clients_in, count_in, offset_in}
use Rattle.schedule.proofs.format.Header.read.Goals as goal

pub returns : goal.returns
unfolding clients_in count_in offset_in
returns c = (c.if-bytes-lt20.false, cc)
