-- `calendar::hours::pair_wrong` meets its contract. Assumes nothing.
use Rattle.calendar.proofs.laws.HoursLaws.{pair_tested}
use Rattle.calendar.proofs.hours.pair_wrong.Goals as goal

pub returns : goal.returns
returns c =
    let a = c.args in
    pair_tested a.opening a.closing
