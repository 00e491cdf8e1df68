-- `pages::counts::held_count` meets its contract: no more are held than there are. Assumes nothing.
use Rattle.std.proofs.Common.{◌≡◌, ◌-◌, ◌^◌, ◌∙◌, arith, rules}
use Rattle.std.specs.List.{sum_by}
use Rattle.std.proofs.iter.runs.Made.{chains}
use Rattle.std.proofs.lemmas.Iterator.{YieldsList-from_slice}
use Rattle.std.proofs.lemmas.Iterator.Adapters.{fits_from_length, at_most_from_yields_List}
use Rattle.pages.specs.rules.Pages.{in_phase9}
use Rattle.pages.proofs.laws.CountLaws.{in_phase_9, held_summed, phase_9_most}
use Rattle.pages.proofs.counts.held_count.Goals as goal

pub sum-requires-clause-fits : goal.sum-requires-clause-fits
sum-requires-clause-fits c =
    fits_from_length _ _ (2 ^ 64 - 1) _ (at_most_from_yields_List (YieldsList-from_slice c.args.clients.now cc) (grind arith)) c.map.ensures.closure (omega arith)
    (λ x r q k. let e : r ≡ in_phase9 x.now.«record».phase = search rules in (search rules, omega (arith, e, phase_9_most x.now.«record».phase)))

pub returns : goal.returns
returns c =
    let h : c.sum.result ≡ sum_by in_phase_9 c.args.clients.now = search (rules, chains) in
    h ∙ held_summed c.args.clients.now
