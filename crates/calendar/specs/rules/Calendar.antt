-- To be believed: document 02, request 2.6: the units of a calendar's quarters, and cause 12 as far as it needs no hours. Assumes nothing.
use Rattle.std.specs.Prelude.{◌≡◌, Bool, false, ◌||◌, ℕ, ◌+◌, ◌*◌, ◌/◌, ◌%◌, ◌<◌, leb, ltb}
use Rattle.tree.specs.rules.Tree.{units}
use Rattle.cover.specs.rules.Answer.{levels_outside}
use Rattle.calendar.specs.declared.Calendar.{Calendar}
use Rattle.calendar.specs.declared.Quarter.{Quarter}

-- "Ward w, week k, day d (0..6), quarter q (0..95) is unit (w × weeks + k) × 672 + d × 96 + q"
unfoldable pub unit_of : ℕ → Quarter → ℕ
unit_of weeks at = (at.ward * weeks + at.week) * 672 + at.day * 96 + at.quarter

-- how many units a calendar has: "wards × weeks × 672"
unfoldable pub unit_count : Calendar → ℕ
unit_count c = c.wards * c.weeks * 672

-- a quarter that the calendar has
pub record Known (c : Calendar) (at : Quarter) : Type 0 where
  pub ward : at.ward < c.wards
  pub week : at.week < c.weeks
  pub day : at.day < 7
  pub quarter : at.quarter < 96

-- the test for it: "an unknown ward, week, day or quarter"
unfoldable pub unknown : Calendar → Quarter → Bool
unknown c at = leb c.wards at.ward || leb c.weeks at.week || ltb 6 at.day || ltb 95 at.quarter

-- "with 1 to 64 wards and 1 to 60 weeks, and wards × weeks × 672 no more than N": "calendar figures outside these ranges"
unfoldable pub figures_outside : Calendar → Bool
figures_outside c = ltb c.wards 1 || ltb 64 c.wards || ltb c.weeks 1 || ltb 60 c.weeks || ltb (units c.levels) (unit_count c)

-- a calendar whose H passes 1 and whose figures pass 12
pub record Fits (c : Calendar) : Type 0 where
  pub levels : levels_outside c.levels ≡ false
  pub figures : figures_outside c ≡ false

-- the quarter that a unit is: a week is 672 units, a ward `weeks` of them, a day 96. (`unit_there` and `quarter_back` in laws/BothWays.antt say that it is no other.)
unfoldable pub quarter_of : ℕ → ℕ → Quarter
quarter_of weeks unit = record { ward = unit / 672 / weeks; week = unit / 672 % weeks; day = unit / 96 % 7; quarter = unit % 96 }
