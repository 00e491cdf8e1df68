-- The answer that C is given for a quarter meets its contract. Assumes nothing.
use Rattle.base.specs.rules.Refusals.{number_of}
use Rattle.calendar.specs.rules.Back.{quarter_refused, quarter_found}
use Rattle.calendar.proofs.told.QuarterAnswerFromResultQuarterRefusal.from.Goals as goal

pub returns-in-Ok : goal.returns-in-Ok
unfolding quarter_found
returns-in-Ok c = rw c.in-Ok.is

pub returns-in-Err : goal.returns-in-Err
unfolding quarter_refused
returns-in-Err c =
    let d = c.default.ensures in
    rw (c.in-Err.is, c.number.ensures) (λ i. record { number = number_of c.in-Err.cause; at = record { ward = d.0 i; week = d.1.0 i; day = d.1.1.0 i; quarter = d.1.1.1 i } })
