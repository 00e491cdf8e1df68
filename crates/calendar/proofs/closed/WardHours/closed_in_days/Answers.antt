-- `calendar::closed::WardHours::closed_in_days` meets its contract. Assumes nothing.
use Rattle.std.proofs.Common.{rules, refl, ◌∙◌, ℕ, ◌+◌, ◌%◌, arith}
use Rattle.std.proofs.lemmas.Iterator.{YieldsList-from_range}
use Rattle.std.proofs.lemmas.Iterator.Search.{any_from_yields_List}
use borrow.Author.Tests.{tests}
use Rattle.calendar.specs.laws.Closed.{closed_in_day}
use Rattle.calendar.proofs.laws.Closed.{any_day}
use Rattle.calendar.proofs.closed.WardHours.closed_in_days.Goals as goal

pub returns : goal.returns
returns c =
    let a = c.args in
    any_from_yields_List (λ (after : ℕ). closed_in_day a.self.hours.now a.self.ward ((a.day + 1 + after) % 7) 0 95) _ _ c.any.result c.any.ensures.ran (YieldsList-from_range 0 a.days a.days refl (omega arith)) (λ x b q k. search (rules, tests))
    ∙ any_day a.self.hours.now a.self.ward a.day a.days
