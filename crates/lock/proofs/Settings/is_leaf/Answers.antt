-- `lock::Settings::is_leaf` meets its contract. Assumes nothing.
use mathlib.Core.Path.{ap}
use Prim.Native.Nat.{ℕ}
use lib.Dec.{eqb}
use Rattle.lock.specs.rules.Records.{is_leaf}
use Rattle.lock.proofs.Settings.is_leaf.Goals as goal

pub returns : goal.returns
unfolding is_leaf
returns c =
    ap (λ (d : ℕ). eqb d c.args.self.levels) c.level.ensures
