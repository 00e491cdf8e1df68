-- Laws: which figures and quarters the tests let pass, and that the code's sums and products stay small. Assumes nothing.
use Rattle.std.specs.Prelude.{◌≡◌, refl, Bool, true, false, ◌||◌, ℕ, ◌+◌, ◌*◌, ◌≤◌, ◌<◌, leb, ltb}
use Rattle.std.proofs.Common.{arith, mul-le-mul, ltb-false, leb-false, le-ltb}
use Rattle.std.proofs.lemmas.Bool.{lt-leb}
use Rattle.base.specs.laws.TestLaws.{both_false, true_first, next_test}
use Rattle.tree.specs.rules.Tree.{units}
use Rattle.calendar.specs.declared.Calendar.{Calendar}
use Rattle.calendar.specs.declared.Quarter.{Quarter}
use Rattle.calendar.specs.rules.Calendar.{unit_of, unit_count, Known, Fits, unknown, figures_outside}
use Rattle.calendar.specs.laws.Figures.{Few}

-- a quarter whose unit fits into 64 bits
pub record Small (weeks : ℕ) (at : Quarter) : Type 0 where
  pub weeks_few : weeks ≤ 60
  pub ward : at.ward < 64
  pub week : at.week < 60
  pub day : at.day < 7
  pub quarter : at.quarter < 96

weeks_small : (wards weeks : ℕ) → wards ≤ 64 → weeks ≤ 60 → wards * weeks ≤ 3840
weeks_small wards weeks a b = mul-le-mul {n₁ = wards} {m₁ = weeks} {n₂ = 64} {m₂ = 60} a b

-- how many weeks all wards have, and those before a quarter's
pub all_weeks : {c : Calendar} → Few c → c.wards * c.weeks ≤ 3840
all_weeks {c} f = weeks_small c.wards c.weeks f.wards f.weeks

pub weeks_before : {weeks : ℕ} {at : Quarter} → Small weeks at → at.ward * weeks ≤ 3840
weeks_before {weeks} {at} s = weeks_small at.ward weeks (omega (arith, s.ward)) s.weeks_few

pub unit_small : (weeks : ℕ) (at : Quarter) → Small weeks at → unit_of weeks at < 2620800
unfolding unit_of
unit_small weeks at s = omega (arith, weeks_before s)

pub known_small : (c : Calendar) (at : Quarter) → Few c → Known c at → Small c.weeks at
known_small c at f k =
    record {
      weeks_few = f.weeks;
      ward = omega (arith, f.wards, k.ward);
      week = omega (arith, f.weeks, k.week);
      day = k.day;
      quarter = k.quarter;
    }

pub to_known : (c : Calendar) (at : Quarter) → unknown c at ≡ false → Known c at
unfolding unknown
to_known c at e =
    let d = both_false (leb c.wards at.ward || leb c.weeks at.week || ltb 6 at.day) (ltb 95 at.quarter) e in
    let b = both_false (leb c.wards at.ward || leb c.weeks at.week) (ltb 6 at.day) d.0 in
    let a = both_false (leb c.wards at.ward) (leb c.weeks at.week) b.0 in
    record {
      ward = leb-false c.wards at.ward a.0;
      week = leb-false c.weeks at.week a.1;
      day = omega (arith, ltb-false 6 at.day b.1);
      quarter = omega (arith, ltb-false 95 at.quarter d.1);
    }

pub from_known : (c : Calendar) (at : Quarter) → Known c at → unknown c at ≡ false
unfolding unknown
from_known c at k =
    rw (lt-leb c.wards at.ward k.ward, lt-leb c.weeks at.week k.week, le-ltb 6 at.day (omega (arith, k.day)), le-ltb 95 at.quarter (omega (arith, k.quarter)))

-- the tests of the ranges alone
abbrev pub ranges_outside : Calendar → Bool
ranges_outside c = ltb c.wards 1 || ltb 64 c.wards || ltb c.weeks 1 || ltb 60 c.weeks

-- figures in their ranges
pub record InRanges (c : Calendar) : Type 0 where
  pub few : Few c
  pub some_ward : 0 < c.wards
  pub some_week : 0 < c.weeks

pub in_ranges : (c : Calendar) → ranges_outside c ≡ false → InRanges c
in_ranges c e =
    let d = both_false (ltb c.wards 1 || ltb 64 c.wards || ltb c.weeks 1) (ltb 60 c.weeks) e in
    let b = both_false (ltb c.wards 1 || ltb 64 c.wards) (ltb c.weeks 1) d.0 in
    let a = both_false (ltb c.wards 1) (ltb 64 c.wards) b.0 in
    record {
      few = record { wards = ltb-false 64 c.wards a.1; weeks = ltb-false 60 c.weeks d.1 };
      some_ward = omega (arith, ltb-false c.wards 1 a.0);
      some_week = omega (arith, ltb-false c.weeks 1 b.1);
    }

pub ranges_refused : (c : Calendar) → ranges_outside c ≡ true → true ≡ figures_outside c
unfolding figures_outside
ranges_refused c e = true_first (ranges_outside c) (ltb (units c.levels) (unit_count c)) e

pub count_tested : (c : Calendar) → ranges_outside c ≡ false → ltb (units c.levels) (unit_count c) ≡ figures_outside c
unfolding figures_outside
count_tested c e = next_test (ltb (units c.levels) (unit_count c)) (ranges_outside c) (ltb (units c.levels) (unit_count c)) e refl

-- figures that the test lets pass
pub record Inside (c : Calendar) : Type 0 where
  pub ranges : InRanges c
  pub room : unit_count c ≤ units c.levels

pub to_inside : (c : Calendar) → figures_outside c ≡ false → Inside c
unfolding figures_outside
to_inside c e =
    let t = both_false (ranges_outside c) (ltb (units c.levels) (unit_count c)) e in
    record { ranges = in_ranges c t.0; room = ltb-false (units c.levels) (unit_count c) t.1 }

-- a known quarter of a calendar that fits
pub fits_small : (c : Calendar) (at : Quarter) → Fits c → Known c at → Small c.weeks at
fits_small c at f k = known_small c at (to_inside c f.figures).ranges.few k

-- how many weeks are before it, those of the wards before its own counted too
pub weeks_known : (c : Calendar) (at : Quarter) → Fits c → Known c at → at.ward * c.weeks + at.week < 3900
weeks_known c at f k =
    let s = fits_small c at f k in
    omega (arith, weeks_before s)
