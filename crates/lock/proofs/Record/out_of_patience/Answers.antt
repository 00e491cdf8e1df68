-- `lock::Record::out_of_patience` meets its contract. Assumes nothing.
use mathlib.Core.Path.{refl}
use Rattle.lock.specs.rules.Steps.{out_of_patience}
use Rattle.lock.proofs.Record.out_of_patience.Goals as goal

pub returns : goal.returns
unfolding out_of_patience
returns c =
    refl
