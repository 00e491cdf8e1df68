-- `lock::Record::touched_returning` meets its contract. Assumes nothing.
use mathlib.Core.Path.{sym, ap, ◌∙◌, subst}
use Prim.Native.Nat.{ℕ, ◌-◌, ◌<◌}
use native.Mathlib.Omega.{arith}
use lib.ListN.{length, get_or}
use Rattle.tree.specs.rules.Tree.{Node}
use Rattle.tree.specs.rules.Lists.{notify_list}
use Rattle.lock.specs.rules.Records.{pieces}
use Rattle.lock.proofs.laws.Placed.{pieced, given_notices}
use Rattle.lock.proofs.laws.MoveLaws.{touched_own, touched_notice}
use Rattle.lock.proofs.Record.touched_returning.Goals as goal

pub returns-then-self-eq0 : goal.returns-then-self-eq0
returns-then-self-eq0 c =
    let a = c.args in
    let q = c.requires in
    let p = pieced a.settings.values a.self c.args.settings.settled q.0 in
    let g : a.self.giving < length (pieces a.self) = omega (arith, q.0.giving_begun, q.0.exists) in
    c.given_piece-n.ensures ∙ sym (touched_own a.settings.values a.self c.if-self-eq0.true)

pub notify_node-requires : goal.notify_node-requires
notify_node-requires c =
    let a = c.args in
    let q = c.requires in
    let p = pieced a.settings.values a.self c.args.settings.settled q.0 in
    let g : a.self.giving < length (pieces a.self) = omega (arith, q.0.giving_begun, q.0.exists) in
    let e = sym c.given_piece-n.ensures in
    let m = a.settings.values.distance in (
      c.args.settings.settled.distance_some,
      c.args.settings.settled.distance_most,
      subst (λ (n : ℕ). Node 12 n) e (p.nodes a.self.giving g),
      subst (λ (n : ℕ). a.self.place - 1 < length (notify_list m n)) e (omega (arith, q.0.returning q.1, given_notices a.settings.values a.self q.0, c.if-self-eq0.false)),
    )

pub returns : goal.returns
returns c =
    let a = c.args in
    let q = c.requires in
    let p = pieced a.settings.values a.self c.args.settings.settled q.0 in
    let g : a.self.giving < length (pieces a.self) = omega (arith, q.0.giving_begun, q.0.exists) in
    c.notify_node.ensures ∙ ap (λ (n : ℕ). get_or (notify_list a.settings.values.distance n) (a.self.place - 1) 0) c.given_piece-n.ensures ∙ sym (touched_notice a.settings.values a.self c.if-self-eq0.false)
