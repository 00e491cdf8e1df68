-- The lowest node that has all of a window. Its laws: proofs/laws/Lowest.antt. Assumes nothing.
use Rattle.std.specs.Prelude.{ℕ, ◌-◌, ◌≤◌, ◌<◌}
use Rattle.tree.specs.rules.Tree.{holder, units}
use Rattle.cover.specs.laws.Rise.{rise}

unfoldable pub lowest : ℕ → ℕ → ℕ → ℕ
lowest h l r = holder h (h - rise l (r - 1)) l

-- a window of a tree of at most 12 levels
pub record Window (h l r : ℕ) : Type 0 where
  pub levels : 1 ≤ h
  pub most : h ≤ 12
  pub some : l < r
  pub fits : r ≤ units h
