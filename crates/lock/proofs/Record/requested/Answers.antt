-- `lock::Record::requested` meets its contract. Assumes nothing.
use Rattle.std.proofs.Common.{rules, ◌≡◌, ap, ◌∙◌}
use lib.ListN.{get_or}
use Rattle.lock.specs.rules.Steps.{start_phase}
use Rattle.lock.specs.rules.Calls.{requested}
use Rattle.lock.proofs.laws.CoverLaws.{first_node}
use Rattle.lock.specs.rules.Records.{cover_of, windowed, idle_with}
use Rattle.lock.proofs.Record.requested.Goals as goal

pub start_phase-phase-requires : goal.start_phase-phase-requires
start_phase-phase-requires c =
    first_node c.args.settings.values c.args.a c.args.b c.args.first c.args.settings.settled c.requires.0 c.requires.1

pub returns : goal.returns
unfolding requested
returns c =
    let q = c.requires in
    let a = c.args in
    let e : c.start_phase-phase.result ≡ start_phase a.settings.values (get_or (cover_of a.settings.values a.a a.b) 0 0) = c.start_phase-phase.ensures ∙ ap (start_phase a.settings.values) q.1 in
    let p : c.default.result ≡ idle_with 0 = search rules in
    rw p (λ i. windowed (e i) a.a a.b (q.1 i) (q.2 i))
