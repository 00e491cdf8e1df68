-- `calendar::figures::tree_units` meets its contract. Assumes nothing.
use native.Mathlib.Omega.{arith}
use Rattle.cover.proofs.laws.Code.{units_code}
use Rattle.calendar.proofs.figures.tree_units.Goals as goal

pub returns : goal.returns
returns c =
    units_code c.args.levels 0 0 (omega (arith, c.requires.0)) c.requires.1
