-- The levels of the notify list, by place. Their laws: proofs/laws/Notify.antt. Assumes nothing.
use Rattle.std.specs.Prelude.{ℕ, ◌-◌, ◌*◌, max, leb}
use Rattle.base.specs.rules.Choice.{choose}

unfoldable pub notify_level : ℕ → ℕ → ℕ → ℕ
notify_level m d i = choose (leb d m) (d - 1) (max m (d - 1 - i * m))
