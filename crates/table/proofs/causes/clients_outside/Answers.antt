-- `table::causes::clients_outside` meets its contract. Assumes nothing.
use mathlib.Core.Path.{refl}
use Rattle.lock.specs.rules.Calls.{clients_outside}
use Rattle.table.proofs.causes.clients_outside.Goals as goal

pub returns : goal.returns
unfolding clients_outside
returns c =
    refl
