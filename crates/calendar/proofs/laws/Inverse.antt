-- Laws: there and back are inverse on every unit of the calendar. Assumes nothing.
use Rattle.std.specs.Prelude.{◌≡◌, ℕ, ◌+◌, ◌*◌, ◌/◌, ◌%◌, ◌<◌}
use Rattle.std.proofs.Math.Path.{ap}
use Rattle.std.proofs.Common.{◌∙◌, div-lt_iff_lt-mul, mod-lt}
use native.Mathlib.Omega.{arith}
use Rattle.std.proofs.Math.Nat.{div-add-mod'}
use Rattle.std.proofs.Math.Arith.{digits_div, digits_mod, digits_lt}
use Rattle.calendar.specs.declared.Calendar.{Calendar}
use Rattle.calendar.specs.declared.Quarter.{Quarter}
use Rattle.calendar.specs.rules.Calendar.{unit_of, unit_count, Known, quarter_of}

-- a known quarter's unit is one of the calendar's
pub unit_inside : (c : Calendar) (at : Quarter) → Known c at → unit_of c.weeks at < unit_count c
unfolding unit_of unit_count
unit_inside c at k =
    omega (arith, digits_lt {q = at.ward} {m = c.wards} {r = at.week} {c = c.weeks} k.ward k.week, k.day, k.quarter)

-- a unit of the calendar is a known quarter
pub quarter_known : (c : Calendar) (u : ℕ) → 0 < c.weeks → u < unit_count c → Known c (quarter_of c.weeks u)
unfolding unit_count quarter_of
quarter_known c u some h =
    let b : u / 672 < c.wards * c.weeks = omega arith in
    record {
      ward = (div-lt_iff_lt-mul {k = c.weeks} {x = u / 672} {y = c.wards} some).1 b;
      week = mod-lt (u / 672) some;
      day = omega arith;
      quarter = omega arith;
    }

-- how many days of its ward are before a quarter's
abbrev pub day_of : Quarter → ℕ
day_of at = 7 * at.week + at.day

module _ (weeks : ℕ) where
  -- there, and back again
  pub there_and_back : (at : Quarter) → at.week < weeks → at.day < 7 → at.quarter < 96 → quarter_of weeks (unit_of weeks at) ≡ at
  unfolding unit_of quarter_of
  there_and_back at a b d =
      let u = (at.ward * weeks + at.week) * 672 + at.day * 96 + at.quarter in
      let w : u / 672 ≡ at.ward * weeks + at.week = omega arith in
      let p : u / 672 / weeks ≡ at.ward = ap (λ (x : ℕ). x / weeks) w ∙ digits_div at.ward {m = weeks} {r = at.week} a in
      let q : u / 672 % weeks ≡ at.week = ap (λ (x : ℕ). x % weeks) w ∙ digits_mod at.ward {m = weeks} {r = at.week} a in
      let r : u / 96 % 7 ≡ at.day = omega arith in
      let s : u % 96 ≡ at.quarter = omega arith in
      λ i. record { ward = p i; week = q i; day = r i; quarter = s i }

  -- back, and there again
  pub back_and_there : (u : ℕ) → unit_of weeks (quarter_of weeks u) ≡ u
  unfolding unit_of quarter_of
  back_and_there u = omega (arith, div-add-mod' (u / 672) weeks)

  -- a unit by its distance from its ward's first
  pub from_ward : (at : Quarter) → unit_of weeks at ≡ at.ward * weeks * 672 + (day_of at * 96 + at.quarter)
  unfolding unit_of
  from_ward at = omega arith

  pub quarter_at : (ward x : ℕ) → x < weeks * 672 → quarter_of weeks (ward * weeks * 672 + x) ≡ record { ward = ward; week = x / 672; day = x / 96 % 7; quarter = x % 96 }
  quarter_at ward x h =
      let at : Quarter = record { ward = ward; week = x / 672; day = x / 96 % 7; quarter = x % 96 } in
      let u : ward * weeks * 672 + x ≡ unit_of weeks at = omega (arith, from_ward at) in
      ap (quarter_of weeks) u ∙ there_and_back at (omega arith) (omega arith) (omega arith)
