-- Figures whose products fit into 64 bits. Their laws: proofs/laws/Figures.antt. Assumes nothing.
use Rattle.std.specs.Prelude.{◌≤◌}
use Rattle.calendar.specs.declared.Calendar.{Calendar}

-- figures whose products fit into 64 bits
pub record Few (c : Calendar) : Type 0 where
  pub wards : c.wards ≤ 64
  pub weeks : c.weeks ≤ 60
