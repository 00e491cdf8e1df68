-- `calendar::hours::some_pair_wrong` meets its contract. Assumes nothing.
use Rattle.std.proofs.Common.{rules, ◌∙◌, ◌/◌, length, get_or}
use Rattle.std.specs.Simd.{first_chunks}
use Rattle.std.proofs.lemmas.Iterator.{YieldsList-from_slice}
use Rattle.std.proofs.lemmas.Iterator.Search.{any_from_yields_List}
use borrow.Author.Tests.{tests}
use Rattle.calendar.specs.rules.Hours.{pair_wrong}
use Rattle.calendar.proofs.laws.HoursLaws.{any_pair}
use Rattle.calendar.proofs.hours.some_pair_wrong.Goals as goal

pub returns : goal.returns
returns c =
    let hours = c.args.hours.now in
    let pairs = length hours / 2 in
    any_from_yields_List (λ pair. pair_wrong (get_or pair 0 0) (get_or pair 1 0)) _ _ c.any.result c.any.ensures.ran (YieldsList-from_slice (first_chunks 2 pairs hours) (cc)) (λ x b q k. search (rules, tests))
    ∙ any_pair pairs hours
