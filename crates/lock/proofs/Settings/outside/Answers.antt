-- `lock::Settings::outside` meets its contract. Assumes nothing.
use mathlib.Core.Path.{ap}
use mathlib.Core.Bool.{◌||◌}
use lib.Dec.{ltb}
use Rattle.lock.specs.rules.Calls.{settings_outside}
use Rattle.lock.proofs.Settings.outside.Goals as goal

pub returns : goal.returns
unfolding settings_outside
returns c =
    let a = c.args in
    ap (λ b. b || ltb a.self.wait 1 || ltb 4294967295 a.self.wait || ltb a.self.patience 1 || ltb 4294967295 a.self.patience) c.levels_or_distance_outside.ensures
