-- `lock::Record::past_notices` meets its contract. Assumes nothing.
use mathlib.Core.Path.{sym, ap, ◌∙◌}
use Prim.Native.Nat.{ℕ}
use lib.Dec.{ltb}
use lib.ListN.{length}
use Rattle.tree.specs.rules.Lists.{notify_list}
use Rattle.lock.proofs.laws.Pieces.{notices_before, notices_current}
use Rattle.lock.proofs.Record.past_notices.Goals as goal

pub returns-then-self : goal.returns-then-self
returns-then-self c =
    let s = c.args.settings.values in
    let r = c.args.self in
    ap (λ (n : ℕ). ltb n r.place) (c.notify_count.ensures ∙ ap (λ (n : ℕ). length (notify_list s.distance n)) c.piece_at.ensures ∙ sym (notices_before s r r.giving c.if-self.true))

pub returns : goal.returns
returns c =
    let s = c.args.settings.values in
    let r = c.args.self in
    ap (λ (n : ℕ). ltb n r.place) (sym (notices_current s r r.giving c.if-self.false))
