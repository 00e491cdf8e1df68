-- `runs::posted::before_list` meets its contract. Assumes nothing.
use mathlib.Core.Path.{◌∙◌}
use Prim.Native.Nat.{◌-◌}
use native.Mathlib.Omega.{arith}
use Rattle.lock.specs.rules.Records.{phase_of}
use Rattle.runs.specs.laws.AheadLaws.{behind_later}
use Rattle.runs.specs.laws.Standing.{stands_in}
use Rattle.runs.proofs.posted.before_list.Goals as goal

pub standing-requires-2 : goal.standing-requires-2
standing-requires-2 c =
    let a = c.args in (stands_in a.settings.values a.own c.requires.0 a.list (a.i - 1) (omega (arith, c.requires.2, c.if-i-eq0.false)))

pub returns : goal.returns
returns c =
    let a = c.args in c.standing-2.ensures ∙ behind_later a.settings.values a.own (phase_of a.phase) (phase_of a.list) a.place a.i c.if-i-eq0.false c.requires.2
