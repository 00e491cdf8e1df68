-- `lock::Record::own_moved` meets its contract. Assumes nothing.
use mathlib.Core.Path.{ap, ◌∙◌}
use mathlib.Core.Logic.{inl}
use native.Mathlib.Omega.{arith}
use Rattle.lock.specs.rules.Steps.{touched_in}
use Rattle.lock.proofs.laws.Placed.{pieced, sound_placed}
use Rattle.lock.proofs.laws.Phases.{at_climb}
use Rattle.lock.proofs.Record.own_moved.Goals as goal

pub climbed-requires : goal.climbed-requires
unfolding touched_in
climbed-requires c =
    let a = c.args in
    let q = c.requires in
    let e = c.in-3.is in
    let v = sound_placed a.settings.values a.self q.0 (omega arith) in
    record { pieced = pieced a.settings.values a.self c.args.settings.settled v; within = v.climbing (inl e); node = q.3 ∙ ap (touched_in a.settings.values a.self) (at_climb a.self.phase e) }
