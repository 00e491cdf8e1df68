-- `lock::Record::unreadable` meets its contract. Assumes nothing.
use mathlib.Core.Path.{sym, ap, ◌∙◌}
use mathlib.Core.Bool.{Bool, ◌||◌}
use native.Mathlib.Omega.{arith}
use lib.Dec.{ltb}
use Rattle.lock.specs.laws.OwnTests.{own_wrong}
use Rattle.lock.proofs.laws.OwnTests.{unreadable_parts, unreadable_idle}
use Rattle.lock.proofs.laws.WhenReadable.{asked_begun}
use Rattle.lock.proofs.Record.unreadable.Goals as goal

pub returns-then-self-eq0 : goal.returns-then-self-eq0
returns-then-self-eq0 c =
    ap (λ (b : Bool). ltb 4 c.args.self.outcome || b) c.idle_filled.ensures ∙ sym (unreadable_idle c.args.settings.values c.args.self c.args.last c.if-self-eq0.true)

pub returns-then-not_begun : goal.returns-then-not_begun
returns-then-not_begun c =
    sym (unreadable_parts c.args.settings.values c.args.self c.args.last c.if-self-eq0.false ∙ ap (λ (b : Bool). b || own_wrong c.args.settings.values c.args.self) (sym c.not_begun.ensures ∙ c.if-not_begun.true))

pub own_wrong-requires : goal.own_wrong-requires
own_wrong-requires c =
    let a = c.args in (
      asked_begun a.settings.values a.self a.last a.settings.settled (sym c.not_begun.ensures ∙ c.if-not_begun.false),
      omega (arith, c.if-self-eq0.false),
    )

pub returns : goal.returns
returns c =
    sym (unreadable_parts c.args.settings.values c.args.self c.args.last c.if-self-eq0.false ∙ ap (λ (b : Bool). b || own_wrong c.args.settings.values c.args.self) (sym c.not_begun.ensures ∙ c.if-not_begun.false) ∙ sym c.own_wrong.ensures)
