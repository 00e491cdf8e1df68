-- `lock::Record::notices_of` meets its contract. Assumes nothing.
use mathlib.Core.Path.{sym, ap, ◌∙◌}
use Prim.Native.Nat.{ℕ}
use lib.ListN.{length}
use Rattle.tree.specs.rules.Lists.{notify_list}
use Rattle.lock.proofs.laws.Pieces.{notices_before, notices_current}
use Rattle.lock.proofs.Record.notices_of.Goals as goal

pub returns-then-i-self : goal.returns-then-i-self
returns-then-i-self c =
    let a = c.args in
    c.notify_count.ensures ∙ ap (λ (n : ℕ). length (notify_list a.settings.distance n)) c.piece_at.ensures ∙ sym (notices_before a.settings a.self a.i c.if-i-self.true)

pub returns : goal.returns
returns c =
    sym (notices_current c.args.settings c.args.self c.args.i c.if-i-self.false)
