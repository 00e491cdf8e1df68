-- `lock::Record::wanted` meets its contract. Assumes nothing.
use mathlib.Core.Path.{sym, subst}
use Prim.Native.Nat.{ℕ, ◌+◌, ◌^◌, ◌<◌}
use native.Mathlib.Omega.{arith}
use Rattle.lock.proofs.laws.Placed.{clipped}
use Rattle.lock.proofs.Record.wanted.Goals as goal

pub wanted_bits-requires : goal.wanted_bits-requires
wanted_bits-requires c =
    let a = c.args in
    let q = c.requires in
    let k = clipped a.settings.values.levels a.self.left a.self.right a.n (omega (arith, c.args.settings.settled.levels_some)) c.args.settings.settled.levels_most q.0 q.1 in
    subst (λ (e : ℕ). (a.self.left < a.self.right) × (a.self.left < e + 64) × (e < a.self.right) × (e + 64 < 2 ^ 64)) (sym c.left_edge.ensures) (k.some, k.starts, k.ends, k.fits)
