-- `calendar::window::Window::some_closed` meets its contract. Assumes nothing.
use Rattle.std.proofs.Common.{ap, ◌∙◌, arith, ◌||◌}
use Rattle.calendar.specs.laws.Closed.{closed_in_days}
use Rattle.calendar.proofs.laws.Closed.{days_in_order, closed_within, closed_over}
use Rattle.calendar.proofs.laws.Window.{ordered}
use Rattle.calendar.proofs.window.Window.some_closed.Goals as goal

pub overflow_mul-days : goal.overflow_mul-days
overflow_mul-days c = let o = ordered c.args.self in omega arith

pub overflow_add-days : goal.overflow_add-days
overflow_add-days c = let o = ordered c.args.self in omega arith

pub overflow_mul-days-2 : goal.overflow_mul-days-2
overflow_mul-days-2 c = let o = ordered c.args.self in omega arith

pub overflow_add-days-2 : goal.overflow_add-days-2
overflow_add-days-2 c = let o = ordered c.args.self in omega arith

pub overflow_sub-days : goal.overflow_sub-days
overflow_sub-days c =
    let w = c.args.self in
    days_in_order w.figures.calendar.weeks w.hours.now w.first w.last (ordered w)

pub invariant_of-ward : goal.invariant_of-ward
invariant_of-ward c = record { there = (ordered c.args.self).hours_there }

pub closed_in_day-requires : goal.closed_in_day-requires
closed_in_day-requires c = (ordered c.args.self).first_day

pub returns-then-days-eq0 : goal.returns-then-days-eq0
returns-then-days-eq0 c =
    let w = c.args.self in
    c.closed_in_day.ensures ∙ closed_within w.figures.calendar.weeks w.hours.now w.first w.last (ordered w) c.if-days-eq0.true

pub invariant_of-ward-2 : goal.invariant_of-ward-2
invariant_of-ward-2 c = record { there = (ordered c.args.self).hours_there }

pub closed_in_day-requires-2 : goal.closed_in_day-requires-2
closed_in_day-requires-2 c = (ordered c.args.self).first_day

pub closed_in_day-requires-3 : goal.closed_in_day-requires-3
closed_in_day-requires-3 c = (ordered c.args.self).last_day

pub closed_in_days-requires : goal.closed_in_days-requires
closed_in_days-requires c = ((ordered c.args.self).first_day, omega (arith, c.whole_days.ensures))

pub returns : goal.returns
returns c =
    let w = c.args.self in
    (λ i. c.closed_in_day-2.ensures i || c.closed_in_day-3.ensures i || (c.closed_in_days.ensures ∙ ap (closed_in_days w.hours.now w.first.ward w.first.day) c.whole_days.ensures) i)
    ∙ closed_over w.figures.calendar.weeks w.hours.now w.first w.last (ordered w) c.if-days-eq0.false
