-- `lock::Record::cancelled` meets its contract. Assumes nothing.
use mathlib.Core.Path.{sym, ◌∙◌}
use Rattle.base.specs.laws.ChoiceLaws.{choose_eq, choose_ne}
use Rattle.lock.specs.rules.Records.{grip_of, idle_with}
use Rattle.lock.specs.rules.Calls.{cancelled}
use Rattle.lock.proofs.Record.cancelled.Goals as goal

pub returns-then-grip_of-eq0 : goal.returns-then-grip_of-eq0
unfolding cancelled
returns-then-grip_of-eq0 c =
    let r = c.args.self in
    c.idle_with.ensures ∙ sym (choose_eq (grip_of r 0) 0 _ _ (sym c.grip_of.ensures ∙ c.if-grip_of-eq0.true))

pub returns : goal.returns
unfolding cancelled
returns c =
    let r = c.args.self in
    c.sent_back.ensures ∙ sym (choose_ne (grip_of r 0) 0 (idle_with 3) _ (λ e. c.if-grip_of-eq0.false (c.grip_of.ensures ∙ e)))
