-- `lock::outside::levels_or_distance_outside` meets its contract. Assumes nothing.
use Rattle.cover.specs.rules.Answer.{levels_outside}
use Rattle.lock.proofs.outside.levels_or_distance_outside.Goals as goal

pub returns : goal.returns
unfolding levels_outside
returns c =
    mathlib.Core.Path.refl
