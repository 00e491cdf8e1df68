-- Laws: a window is accepted wherever nothing speaks against it: a calendar, hours and quarters that are right, in order, and every quarter from the first to the last open. Assumes nothing.
use Rattle.std.specs.Prelude.{◌≡◌, true, List, ℕ, ◌+◌, ◌≤◌}
use Rattle.std.proofs.Math.Path.{sym, ap}
use Rattle.std.proofs.Math.Bool.{false, not}
use Rattle.std.proofs.Common.{arith, le-ltb, eq-eqb}
use Rattle.base.specs.laws.ChoiceLaws.{by_lt}
use Rattle.calendar.specs.declared.Calendar.{Calendar}
use Rattle.calendar.specs.declared.Quarter.{Quarter}
use Rattle.calendar.specs.rules.Calendar.{unit_of, Known, Fits, quarter_of}
use Rattle.calendar.specs.rules.Hours.{is_open, hours_wrong}
use Rattle.calendar.specs.rules.Windows.{calendar_wrong, out_of_order, some_closed, window_found, WindowAccepted, Earlier, Between}
use Rattle.calendar.proofs.laws.SomeBelow.{all_fail, none_of}
use Rattle.calendar.proofs.laws.Figures.{from_known}
use Rattle.calendar.proofs.laws.Code.{to_right, to_ordered, window_0}
use Rattle.calendar.proofs.laws.Edges.{lower_earlier, between}

module _ (c : Calendar) (hours : List ℕ) (first last : Quarter)
    (f : Fits c) (h : hours_wrong c.wards hours ≡ false) (p : Known c first) (q : Known c last) (one_ward : last.ward ≡ first.ward) (order : Earlier last first → ⊥) where
  not_before : unit_of c.weeks first ≤ unit_of c.weeks last
  not_before = by_lt (unit_of c.weeks last) (unit_of c.weeks first) (λ b. absurd (order (lower_earlier c last first q p one_ward b))) (λ b. b)

  right : calendar_wrong c hours first last ≡ false
  unfolding calendar_wrong
  right = none_of _ _ (none_of _ _ (none_of _ _ f.figures h) (from_known c first p)) (from_known c last q)

  in_order : out_of_order c.weeks first last ≡ false
  unfolding out_of_order
  in_order = none_of _ _ (ap not (eq-eqb last.ward first.ward one_ward)) (le-ltb (unit_of c.weeks last) (unit_of c.weeks first) not_before)

  pub accepted_where_open : ((at : Quarter) → Between c first last at → is_open hours at ≡ true) → WindowAccepted c hours first last (unit_of c.weeks first) (unit_of c.weeks last + 1)
  unfolding WindowAccepted window_found some_closed
  accepted_where_open all_open =
      let v = to_right c hours first last right in
      let o = to_ordered c hours first last v in_order in
      let closed : some_closed c.weeks hours first last ≡ false = all_fail _ _ (λ i b.
      let u = unit_of c.weeks first + i in
      ap not (all_open (quarter_of c.weeks u) (between c hours first last v o u (omega arith) (omega arith)))) in
      sym (window_0 c hours first last f.levels right in_order closed)
