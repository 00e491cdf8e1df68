-- Laws: what the code finds of a window's days is whether some quarter of it is closed. Assumes nothing.
use Rattle.std.specs.Prelude.{◌≡◌, refl, Bool, false, ◌||◌, List, ℕ, ◌+◌, ◌-◌, ◌*◌, ◌%◌, ◌≤◌, ◌<◌, min, length}
use Rattle.std.specs.List.{list_any, range_with_len}
use Rattle.std.proofs.Common.{sym, ◌∙◌, add-one, arith}
use Rattle.std.proofs.Math.Path.{ap}
use Rattle.std.proofs.Math.Bool.{not}
use Rattle.calendar.specs.declared.Quarter.{Quarter}
use Rattle.calendar.specs.rules.Calendar.{unit_of, quarter_of}
use Rattle.calendar.specs.rules.Hours.{some_below, is_open}
use Rattle.calendar.specs.rules.Windows.{some_closed}
use Rattle.calendar.proofs.laws.SomeBelow.{same_below, any_in_range}
use Rattle.calendar.proofs.laws.Inverse.{day_of, from_ward, quarter_at}
use Rattle.calendar.specs.laws.Days.{closed_in, closed_after}
use Rattle.calendar.proofs.laws.Days.{open_at, some_closed_at, within_a_day, over_midnight}
use Rattle.calendar.specs.laws.Closed.{opens, closes, closed_in_day, closed_in_days}

-- the ends of a window that passed 12 and 13, and the hours of its ward
pub record Ordered (weeks : ℕ) (hours : List ℕ) (first last : Quarter) : Type 0 where
  pub one_ward : last.ward ≡ first.ward
  pub ward : first.ward < 64
  pub first_week : first.week < weeks
  pub first_day : first.day < 7
  pub first_quarter : first.quarter < 96
  pub last_week : last.week < weeks
  pub last_day : last.day < 7
  pub last_quarter : last.quarter < 96
  pub weeks_few : weeks ≤ 60
  pub hours_there : 14 * first.ward + 14 ≤ length hours
  pub order : unit_of weeks first ≤ unit_of weeks last

pub no_days : (hours : List ℕ) (ward day : ℕ) → false ≡ closed_in_days hours ward day 0
unfolding closed_in_days some_below
no_days hours ward day = refl

pub next_day : (hours : List ℕ) (ward day after : ℕ) (closed next : Bool) → closed ≡ closed_in_days hours ward day after
    → next ≡ closed_in_day hours ward ((day + 1 + after) % 7) 0 95 → (closed || next) ≡ closed_in_days hours ward day (after + 1)
unfolding closed_in_days closed_in_day some_below
next_day hours ward day after closed next e f = rw (add-one after, e, f)

-- the days as the code looks at them
pub any_day : (hours : List ℕ) (ward day days : ℕ) → list_any (λ after. closed_in_day hours ward ((day + 1 + after) % 7) 0 95) (range_with_len 0 days) ≡ closed_in_days hours ward day days
unfolding closed_in_day closed_in_days
any_day hours ward day days =
    let closed : ℕ → Bool = λ after. closed_in (opens hours ward) (closes hours ward) ((day + 1 + after) % 7) 0 95 in
    any_in_range 0 days closed ∙ same_below days days _ closed refl (λ i h. let e : 0 + i ≡ i = omega arith in ap closed e)

module _ (weeks : ℕ) (hours : List ℕ) where
  open_by_distance : (ward x : ℕ) → x < weeks * 672 → is_open hours (quarter_of weeks (ward * weeks * 672 + x)) ≡ open_at (opens hours ward) (closes hours ward) x
  unfolding is_open
  open_by_distance ward x h = ap (is_open hours) (quarter_at weeks ward x h)

  module _ (first last : Quarter) (v : Ordered weeks hours first last) where
    abbrev opening_of : ℕ → ℕ
    opening_of = opens hours first.ward

    abbrev closing_of : ℕ → ℕ
    closing_of = closes hours first.ward

    distances : unit_of weeks last ≡ first.ward * weeks * 672 + (day_of last * 96 + last.quarter)
    distances = from_ward weeks last ∙ ap (λ (w : ℕ). w * weeks * 672 + (day_of last * 96 + last.quarter)) v.one_ward

    in_order : day_of first * 96 + first.quarter ≤ day_of last * 96 + last.quarter
    in_order = omega (arith, v.order, from_ward weeks first, distances)

    pub days_in_order : day_of first ≤ day_of last
    days_in_order = omega (arith, in_order, v.first_quarter, v.last_quarter)

    by_distance : some_closed_at opening_of closing_of (day_of first) first.quarter (day_of last) last.quarter v.first_quarter v.last_quarter in_order ≡ some_closed weeks hours first last
    unfolding some_closed
    by_distance =
        same_below _ _ _ _ (omega (arith, from_ward weeks first, distances)) (λ i h.
        let u : unit_of weeks first + i ≡ first.ward * weeks * 672 + (day_of first * 96 + first.quarter + i) = omega (arith, from_ward weeks first) in
        ap not (sym (ap (λ (k : ℕ). is_open hours (quarter_of weeks k)) u ∙ open_by_distance first.ward (day_of first * 96 + first.quarter + i) (omega (arith, h, v.last_week, v.last_day, v.last_quarter)))))

    pub closed_within : day_of last - day_of first ≡ 0 → closed_in_day hours first.ward first.day first.quarter last.quarter ≡ some_closed weeks hours first last
    unfolding closed_in_day
    closed_within z =
        let d : first.day ≡ day_of first % 7 = omega (arith, v.first_day) in
        ap (λ (k : ℕ). closed_in opening_of closing_of k first.quarter last.quarter) d
        ∙ within_a_day opening_of closing_of (day_of first) first.quarter (day_of last) last.quarter v.first_quarter v.last_quarter in_order (omega (arith, in_order, v.first_quarter, v.last_quarter))
        ∙ by_distance

    pub closed_over : (day_of last - day_of first ≡ 0 → ⊥)
        → (closed_in_day hours first.ward first.day first.quarter 95 || closed_in_day hours first.ward last.day 0 last.quarter
        || closed_in_days hours first.ward first.day (min 7 (day_of last - day_of first - 1))) ≡ some_closed weeks hours first last
    unfolding closed_in_day closed_in_days
    closed_over z =
        let d : first.day ≡ day_of first % 7 = omega (arith, v.first_day) in
        let e : last.day ≡ day_of last % 7 = omega (arith, v.last_day) in
        (λ i. closed_in opening_of closing_of (d i) first.quarter 95 || closed_in opening_of closing_of (e i) 0 last.quarter || closed_after opening_of closing_of (d i) (min 7 (day_of last - day_of first - 1)))
        ∙ over_midnight opening_of closing_of (day_of first) first.quarter (day_of last) last.quarter v.first_quarter v.last_quarter in_order (omega (arith, z))
        ∙ by_distance
