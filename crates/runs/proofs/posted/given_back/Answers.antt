-- `runs::posted::given_back` meets its contract. Assumes nothing.
use mathlib.Core.Path.{◌≡◌, ◌∙◌}
use Prim.Native.Nat.{◌+◌, ◌-◌}
use native.Mathlib.Omega.{arith}
use native.Mathlib.Numerals.{add-one}
use Rattle.base.specs.rules.Choice.{choose}
use Rattle.lock.specs.rules.Records.{phase_of}
use Rattle.lock.proofs.laws.Pieces.{few_pieces}
use Rattle.runs.specs.laws.GivesBack.{left, front_at, front_stands, back_at_by, back_stands_by}
use Rattle.runs.specs.laws.Standing.{notices_few}
use Rattle.runs.proofs.posted.given_back.Goals as goal

pub overflow_add-left : goal.overflow_add-left
overflow_add-left c =
    let a = c.args in omega (arith, c.notices_of.ensures, notices_few a.settings.values a.own c.args.settings.settled c.requires.0 a.own.giving c.requires.0.giving_begun)

pub standing-requires : goal.standing-requires
standing-requires c =
    let a = c.args in (front_stands a.settings.values a.own c.requires.0 a.i (omega (arith, c.notices_of.ensures, c.if-i-left.true)))

pub returns-then-i-left : goal.returns-then-i-left
unfolding phase_of choose
returns-then-i-left c =
    let a = c.args in c.standing.ensures ∙ front_at a.settings.values a.own c.requires.0 a.i (omega (arith, c.notices_of.ensures, c.if-i-left.true))

pub overflow_add-own-2 : goal.overflow_add-own-2
overflow_add-own-2 c =
    let a = c.args in omega (arith, c.requires.0.giving_begun, c.requires.0.exists, few_pieces a.own)

pub standing-requires-2 : goal.standing-requires-2
standing-requires-2 c =
    let a = c.args in let g = c.requires.0 in let e : c.notices_of.result + 1 - a.own.place ≡ left a.settings.values a.own = omega (arith, c.notices_of.ensures) in (back_stands_by a.settings.values a.own g a.i (omega (arith, e, c.if-i-left.false)) c.requires.2 _ _ e (add-one a.own.giving))

pub returns : goal.returns
unfolding phase_of choose
returns c =
    let a = c.args in let g = c.requires.0 in let e : c.notices_of.result + 1 - a.own.place ≡ left a.settings.values a.own = omega (arith, c.notices_of.ensures) in c.standing-2.ensures ∙ back_at_by a.settings.values a.own g a.i (omega (arith, e, c.if-i-left.false)) c.requires.2 _ _ e (add-one a.own.giving)
