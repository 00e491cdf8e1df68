-- `lock::Record::begin` meets its contract. Assumes nothing.
use mathlib.Core.Path.{ap, ◌∙◌}
use Rattle.lock.specs.rules.Steps.{start_phase}
use Rattle.lock.proofs.laws.StepLaws.{begin_is}
use Rattle.lock.proofs.Record.begin.Goals as goal

pub returns : goal.returns
returns c =
    let a = c.args in
    begin_is a.settings a.self a.i c.start_phase-phase.result (c.start_phase-phase.ensures ∙ ap (start_phase a.settings) c.piece_at.ensures)
