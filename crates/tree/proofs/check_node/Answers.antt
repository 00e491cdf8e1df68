-- `tree::check_node` meets its contract. Assumes nothing.
use Prim.Native.Nat.{◌+◌}
use native.Mathlib.Omega.{arith}
use Rattle.tree.proofs.laws.Closed.{node_small}
use Rattle.tree.proofs.laws.Code.{place_node, place_level, check_small, check_code}
use Rattle.tree.proofs.check_node.Goals as goal

pub overflow_add-i : goal.overflow_add-i
overflow_add-i c =
    omega (arith, node_small (c.args.i + 1) (place_node c.requires))

pub level-requires : goal.level-requires
level-requires c =
    place_node c.requires

pub overflow_mul-result : goal.overflow_mul-result
overflow_mul-result c =
    omega (arith, place_level c.requires c.level.ensures)

pub overflow_shl-result : goal.overflow_shl-result
overflow_shl-result c =
    omega (arith, place_level c.requires c.level.ensures)

pub overflow_add-result : goal.overflow_add-result
overflow_add-result c =
    omega (arith, check_small c.requires c.level.ensures)

pub overflow_add-result-2 : goal.overflow_add-result-2
overflow_add-result-2 c =
    omega (arith, check_small c.requires c.level.ensures)

pub returns : goal.returns
returns c =
    check_code c.requires c.level.ensures
