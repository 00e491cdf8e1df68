-- `lock::Record::notice_given` meets its contract. Assumes nothing.
use mathlib.Core.Path.{refl, sym, ap, ◌∙◌}
use Prim.Native.Nat.{ℕ}
use native.Mathlib.Omega.{arith}
use lib.ListN.{length}
use Rattle.tree.specs.rules.Lists.{notify_list}
use Rattle.tree.proofs.laws.Code.{count_small, bounded}
use Rattle.lock.specs.rules.Records.{current_piece}
use Rattle.lock.proofs.laws.StepLaws.{pieced_kept, notice_more, notice_last}
use Rattle.lock.proofs.Record.notice_given.Goals as goal

pub overflow_add-given : goal.overflow_add-given
overflow_add-given c =
    let a = c.args in
    let q = c.requires in
    let v = q.0.nodes a.self.current q.0.exists in
    let m = a.settings.values.distance in
    omega (arith, count_small m (current_piece a.self) (bounded m (current_piece a.self) c.args.settings.settled.distance_some c.args.settings.settled.distance_most v), q.1)

pub returns-then-given-notify_count : goal.returns-then-given-notify_count
returns-then-given-notify_count c =
    let a = c.args in
    let q = c.requires in
    let v = q.0.nodes a.self.current q.0.exists in
    let m = a.settings.values.distance in
    sym (notice_more a.settings.values a.self a.clock (omega (arith, c.notify_count.ensures ∙ ap (λ (x : ℕ). length (notify_list m x)) c.current_piece-n.ensures, c.if-given-notify_count.true)))

pub all_notified-requires : goal.all_notified-requires
all_notified-requires c =
    let a = c.args in
    let q = c.requires in
    let v = q.0.nodes a.self.current q.0.exists in
    let m = a.settings.values.distance in
    (pieced_kept a.self _ q.0 refl refl refl, q.2)

pub returns : goal.returns
returns c =
    let a = c.args in
    let q = c.requires in
    let v = q.0.nodes a.self.current q.0.exists in
    let m = a.settings.values.distance in
    c.all_notified.ensures ∙ sym (notice_last a.settings.values a.self a.clock (omega (arith, c.notify_count.ensures ∙ ap (λ (x : ℕ). length (notify_list m x)) c.current_piece-n.ensures, c.if-given-notify_count.false)))
