-- `lock::Record::claim_piece` meets its contract. Assumes nothing.
use mathlib.Core.Path.{sym, ◌∙◌, subst}
use Prim.Native.Nat.{ℕ}
use Rattle.cover.specs.rules.Cover.{Meets}
use Rattle.lock.proofs.laws.Placed.{pieced}
use Rattle.lock.proofs.laws.ReturnLaws.{leaf_level}
use Rattle.lock.proofs.Record.claim_piece.Goals as goal

pub wanted-requires : goal.wanted-requires
wanted-requires c =
    let a = c.args in
    let q = c.requires in
    let p = pieced a.settings.values a.self c.args.settings.settled q in
    let e = sym c.current_piece-n.ensures in
    let h = a.settings.values.levels in
    (subst (λ (n : ℕ). Meets h a.self.left a.self.right n) e (q.meets a.self.current p.exists), leaf_level a.settings.values c.current_piece-n.result (sym c.is_leaf.ensures ∙ c.if-is_leaf.true))
