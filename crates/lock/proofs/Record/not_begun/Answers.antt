-- `lock::Record::not_begun` meets its contract. Assumes nothing.
use mathlib.Core.Bool.{◌||◌}
use lib.Dec.{leb, ltb}
use Rattle.lock.specs.rules.Unreadable.{not_covered, no_current, ticket_too_large, time_ahead}
use Rattle.lock.specs.laws.OwnTests.{not_begun}
use Rattle.lock.proofs.Record.not_begun.Goals as goal

pub returns : goal.returns
unfolding not_begun not_covered no_current ticket_too_large time_ahead
returns c =
    let r = c.args.self in
    let last = c.args.last in
    λ i. c.not_cover.ensures i || leb (c.piece_count.ensures i) r.current || ltb 32767 r.ticket || (ltb last r.t1 || ltb last r.t0 || ltb last r.taken) || c.taken_first.ensures i
