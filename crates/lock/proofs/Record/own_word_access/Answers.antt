-- `lock::Record::own_word_access` meets its contract. Assumes nothing.
use mathlib.Core.Path.{sym, ◌∙◌, subst}
use Prim.Native.Nat.{ℕ, ◌<◌}
use native.Mathlib.Omega.{arith}
use lib.ListN.{length}
use Rattle.cover.specs.rules.Cover.{Meets}
use Rattle.lock.specs.rules.Records.{pieces}
use Rattle.lock.proofs.laws.ReturnLaws.{leaf_level}
use Rattle.lock.proofs.Record.own_word_access.Goals as goal

pub wanted-bits-requires : goal.wanted-bits-requires
wanted-bits-requires c =
    let a = c.args in
    let q = c.requires in
    let h = a.settings.values.levels in
    let g : a.self.giving < length (pieces a.self) = omega (arith, q.giving_begun, q.exists) in
    (subst (λ (n : ℕ). Meets h a.self.left a.self.right n) (sym c.given_piece-n.ensures) (q.meets a.self.giving g), leaf_level a.settings.values c.given_piece-n.result (sym c.is_leaf.ensures ∙ c.if-is_leaf.true))
