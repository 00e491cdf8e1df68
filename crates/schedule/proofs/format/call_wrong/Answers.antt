use Rattle.std.proofs.Common.{refl}
use Rattle.schedule.specs.laws.FormatLaws.{wrong_tested}
use Rattle.schedule.proofs.format.call_wrong.Goals as goal

pub returns : goal.returns
returns c =
    let call = c.call_in-call.ensures in
    wrong_tested _ 0 _ _ _ _ _ call.kind refl c.number_at.ensures call.a call.b
