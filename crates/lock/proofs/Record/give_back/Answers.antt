-- `lock::Record::give_back` meets its contract. Assumes nothing.
use mathlib.Core.Path.{sym, ap, ◌∙◌}
use Prim.Native.Nat.{◌<◌}
use native.Mathlib.Omega.{arith}
use lib.ListN.{length}
use Rattle.lock.specs.rules.Records.{pieces, is_leaf, given_piece}
use Rattle.lock.proofs.laws.Placed.{pieced}
use Rattle.lock.proofs.laws.ReturnLaws.{leaf_level}
use Rattle.lock.proofs.Record.give_back.Goals as goal

pub return_bits-requires : goal.return_bits-requires
return_bits-requires c =
    let a = c.args in
    let q = c.requires in
    let g : a.self.giving < length (pieces a.self) = omega (arith, q.giving_begun, q.exists) in
    let p = pieced a.settings.values a.self c.args.settings.settled q in
    (q, g, leaf_level a.settings.values (given_piece a.self) (ap (is_leaf a.settings.values) (sym c.given_piece.ensures) ∙ sym c.is_leaf.ensures ∙ c.if-is_leaf.true))
