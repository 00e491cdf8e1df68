-- `lock::Record::claim_access` meets its contract. Assumes nothing.
use mathlib.Core.Path.{sym, ◌∙◌, subst}
use Prim.Native.Nat.{ℕ}
use Rattle.cover.specs.rules.Cover.{Meets}
use Rattle.lock.proofs.laws.ReturnLaws.{leaf_level}
use Rattle.lock.proofs.Record.claim_access.Goals as goal

pub wanted-bits-requires : goal.wanted-bits-requires
wanted-bits-requires c =
    let a = c.args in
    let q = c.requires in
    let h = a.settings.values.levels in
    (subst (λ (n : ℕ). Meets h a.self.left a.self.right n) (sym c.current_piece-n.ensures) (q.meets a.self.current q.exists), leaf_level a.settings.values c.current_piece-n.result (sym c.is_leaf.ensures ∙ c.if-is_leaf.true))
