-- `lock::Record::taken_first` meets its contract. Assumes nothing.
use mathlib.Core.Path.{refl}
use Rattle.lock.specs.rules.Unreadable.{taken_first}
use Rattle.lock.proofs.Record.taken_first.Goals as goal

pub returns : goal.returns
unfolding taken_first
returns c =
    refl
