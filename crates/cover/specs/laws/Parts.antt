-- The two windows that a window is cut into. Assumes nothing.
use Rattle.std.specs.Prelude.{◌≡◌}
use Rattle.cover.specs.declared.window.TreeWindow.{TreeWindow}
use Rattle.cover.specs.laws.Code.{cut_unit}

-- p ends where w is cut, and q starts there
pub record Parts (w p q : TreeWindow) : Type 0 where
  pub p_levels : p.levels ≡ w.levels
  pub p_left : p.left ≡ w.left
  pub p_right : p.right ≡ cut_unit w.levels w.left w.right
  pub q_levels : q.levels ≡ w.levels
  pub q_left : q.left ≡ cut_unit w.levels w.left w.right
  pub q_right : q.right ≡ w.right
