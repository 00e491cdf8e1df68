-- Laws: the answers of the two calls, test by test. Assumes nothing.
use Rattle.std.specs.Prelude.{◌≡◌, Bool, true, false, not, ◌||◌, List, ℕ, eqb, leb, ltb}
use Rattle.std.proofs.Common.{arith}
use borrow.Author.Tests.{ltb-false, eqb-true, not-false}
use Rattle.base.specs.rules.Choice.{choose}
use Rattle.base.specs.laws.TestLaws.{both_false}
use Rattle.cover.specs.rules.Answer.{levels_outside}
use Rattle.calendar.specs.declared.Calendar.{Calendar}
use Rattle.calendar.specs.declared.Quarter.{Quarter}
use Rattle.calendar.specs.rules.Calendar.{unit_of, unit_count, Known, unknown, figures_outside, quarter_of}
use Rattle.calendar.specs.rules.Back.{quarter_refused, quarter_found, quarter_answer}
use Rattle.calendar.specs.rules.Hours.{hours_wrong}
use Rattle.calendar.specs.rules.Windows.{calendar_wrong, out_of_order, some_closed, window_refused, window_found, window_answer}
use Rattle.calendar.proofs.laws.Figures.{Small, Inside, to_inside, to_known, known_small}
use Rattle.calendar.proofs.laws.HoursLaws.{pairs_there}
use Rattle.calendar.proofs.laws.Closed.{Ordered}

-- what passed 12
pub record Right (c : Calendar) (hours : List ℕ) (first last : Quarter) : Type 0 where
  pub figures : Inside c
  pub figures_right : figures_outside c ≡ false
  pub hours_right : hours_wrong c.wards hours ≡ false
  pub first_known : Known c first
  pub last_known : Known c last

module _ (c : Calendar) (hours : List ℕ) (first last : Quarter) where
  pub to_right : calendar_wrong c hours first last ≡ false → Right c hours first last
  unfolding calendar_wrong
  to_right e =
      let a = both_false (figures_outside c || hours_wrong c.wards hours || unknown c first) (unknown c last) e in
      let b = both_false (figures_outside c || hours_wrong c.wards hours) (unknown c first) a.0 in
      let d = both_false (figures_outside c) (hours_wrong c.wards hours) b.0 in
      record { figures = to_inside c d.0; figures_right = d.0; hours_right = d.1; first_known = to_known c first b.1; last_known = to_known c last a.1 }

  pub wrong_figures : figures_outside c ≡ true → true ≡ calendar_wrong c hours first last
  unfolding calendar_wrong
  wrong_figures e = rw e

  module _ (figures : figures_outside c ≡ false) where
    pub wrong_hours : hours_wrong c.wards hours ≡ true → true ≡ calendar_wrong c hours first last
    unfolding calendar_wrong
    wrong_hours e = rw (figures, e)

    pub wrong_ends : hours_wrong c.wards hours ≡ false → (unknown c first || unknown c last) ≡ calendar_wrong c hours first last
    unfolding calendar_wrong
    wrong_ends e = rw (figures, e)

  -- the tests of the code, one after another, are 12 and 13
  pub tested_12 : {h u v b : Bool} → figures_outside c ≡ false → h ≡ hours_wrong c.wards hours → u ≡ unknown c first → v ≡ unknown c last → (h || u || v) ≡ b
      → calendar_wrong c hours first last ≡ b
  unfolding calendar_wrong
  tested_12 figures d e f t = rw (figures, ← d, ← e, ← f) t

  pub tested_13 : {l k : ℕ} {b : Bool} → l ≡ unit_of c.weeks last → k ≡ unit_of c.weeks first → (not (eqb last.ward first.ward) || ltb l k) ≡ b
      → out_of_order c.weeks first last ≡ b
  unfolding out_of_order
  tested_13 e f t = rw (← e, ← f) t

  pub first_small : Right c hours first last → Small c.weeks first
  first_small v = known_small c first v.figures.ranges.few v.first_known

  pub last_small : Right c hours first last → Small c.weeks last
  last_small v = known_small c last v.figures.ranges.few v.last_known

  pub to_ordered : Right c hours first last → out_of_order c.weeks first last ≡ false → Ordered c.weeks hours first last
  unfolding out_of_order
  to_ordered v e =
      let t = both_false (not (eqb last.ward first.ward)) (ltb (unit_of c.weeks last) (unit_of c.weeks first)) e in
      let f = v.figures.ranges.few in
      record {
        one_ward = eqb-true last.ward first.ward (not-false _ t.0);
        ward = omega (arith, f.wards, v.first_known.ward);
        first_week = v.first_known.week;
        first_day = v.first_known.day;
        first_quarter = v.first_known.quarter;
        last_week = v.last_known.week;
        last_day = v.last_known.day;
        last_quarter = v.last_known.quarter;
        weeks_few = f.weeks;
        hours_there = omega (arith, pairs_there c.wards hours v.hours_right, v.first_known.ward);
        order = ltb-false (unit_of c.weeks last) (unit_of c.weeks first) t.1;
      }

  -- ---- there

  pub window_1 : levels_outside c.levels ≡ true → window_refused 1 ≡ window_answer c hours first last
  unfolding window_answer choose
  window_1 e = rw e

  module _ (levels : levels_outside c.levels ≡ false) where
    pub window_12 : calendar_wrong c hours first last ≡ true → window_refused 12 ≡ window_answer c hours first last
    unfolding window_answer choose
    window_12 e = rw (levels, e)

    module _ (right : calendar_wrong c hours first last ≡ false) where
      pub window_13 : out_of_order c.weeks first last ≡ true → window_refused 13 ≡ window_answer c hours first last
      unfolding window_answer choose
      window_13 e = rw (levels, right, e)

      module _ (order : out_of_order c.weeks first last ≡ false) where
        pub window_14 : some_closed c.weeks hours first last ≡ true → window_refused 14 ≡ window_answer c hours first last
        unfolding window_answer choose
        window_14 e = rw (levels, right, order, e)

        pub window_0 : some_closed c.weeks hours first last ≡ false → window_found c.weeks first last ≡ window_answer c hours first last
        unfolding window_answer choose
        window_0 e = rw (levels, right, order, e)

-- ---- back

module _ (c : Calendar) (unit : ℕ) where
  pub quarter_1 : levels_outside c.levels ≡ true → quarter_refused 1 ≡ quarter_answer c unit
  unfolding quarter_answer choose
  quarter_1 e = rw e

  module _ (levels : levels_outside c.levels ≡ false) where
    pub quarter_12 : figures_outside c ≡ true → quarter_refused 12 ≡ quarter_answer c unit
    unfolding quarter_answer choose
    quarter_12 e = rw (levels, e)

    module _ (figures : figures_outside c ≡ false) where
      pub quarter_past : leb (unit_count c) unit ≡ true → quarter_refused 12 ≡ quarter_answer c unit
      unfolding quarter_answer choose
      quarter_past e = rw (levels, figures, e)

      pub quarter_0 : leb (unit_count c) unit ≡ false → quarter_found (quarter_of c.weeks unit) ≡ quarter_answer c unit
      unfolding quarter_answer choose
      quarter_0 e = rw (levels, figures, e)
