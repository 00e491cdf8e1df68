-- `tree::notify_count` meets its contract. Assumes nothing.
use native.Mathlib.Omega.{arith}
use Rattle.tree.proofs.laws.Code.{count_code}
use Rattle.tree.proofs.notify_count.Goals as goal

pub returns-in-1 : goal.returns-in-1
returns-in-1 c = count_code c.requires c.in-1.is (omega (arith, c.level-d.ensures))

pub returns-in-2 : goal.returns-in-2
returns-in-2 c = count_code c.requires c.in-2.is (omega (arith, c.level-d.ensures))

pub returns-in-3 : goal.returns-in-3
returns-in-3 c = count_code c.requires c.in-3.is (omega (arith, c.level-d.ensures))

pub returns-in_default : goal.returns-in_default
returns-in_default c =
    count_code {k = 4} c.requires (omega arith) (omega (arith, c.level-d.ensures))
