-- To be believed: document 02, request 2.6: the window from a first to a last quarter, as a call, and its causes 1, 12, 13 and 14; and what is said of all accepted windows. Assumes nothing.
use Rattle.std.specs.Prelude.{◌≡◌, Bool, true, not, ◌||◌, List, ◌⊎◌, ℕ, ◌+◌, ◌-◌, ◌<◌, eqb, ltb}
use Rattle.base.specs.rules.Choice.{choose}
use Rattle.cover.specs.rules.Answer.{levels_outside}
use Rattle.calendar.specs.declared.Calendar.{Calendar}
use Rattle.calendar.specs.declared.Quarter.{Quarter}
use Rattle.calendar.specs.declared.WindowAnswer.{WindowAnswer}
use Rattle.calendar.specs.rules.Calendar.{unit_of, Known, unknown, figures_outside, quarter_of}
use Rattle.calendar.specs.rules.Hours.{some_below, hours_wrong, is_open}

-- "A window .. locks from the first's unit up to the last's plus 1"
abbrev pub left_edge : ℕ → Quarter → ℕ
left_edge weeks first = unit_of weeks first

abbrev pub right_edge : ℕ → Quarter → ℕ
right_edge weeks last = unit_of weeks last + 1

-- cause 12, all of it: figures, hours, and both ends of the window
unfoldable pub calendar_wrong : Calendar → List ℕ → Quarter → Quarter → Bool
calendar_wrong c hours first last = figures_outside c || hours_wrong c.wards hours || unknown c first || unknown c last

-- cause 13: "a last quarter before the first or in another ward". In one ward the earlier quarter is the one with the lower unit (`earlier_lower` and `lower_earlier` in laws/Edges.antt).
unfoldable pub out_of_order : ℕ → Quarter → Quarter → Bool
out_of_order weeks first last = not (eqb last.ward first.ward) || ltb (unit_of weeks last) (unit_of weeks first)

-- cause 14: "every quarter in it must be open"
unfoldable pub some_closed : ℕ → List ℕ → Quarter → Quarter → Bool
some_closed weeks hours first last = some_below (right_edge weeks last - left_edge weeks first) (λ i. not (is_open hours (quarter_of weeks (left_edge weeks first + i))))

-- "number only": the rest is 0
unfoldable pub window_refused : ℕ → WindowAnswer
window_refused cause = record { number = cause; left = 0; right = 0 }

-- number 0, and the edges
unfoldable pub window_found : ℕ → Quarter → Quarter → WindowAnswer
window_found weeks first last = record { number = 0; left = left_edge weeks first; right = right_edge weeks last }

-- the call: "tested in this order after 1"
unfoldable pub window_answer : Calendar → List ℕ → Quarter → Quarter → WindowAnswer
window_answer c hours first last =
    choose (levels_outside c.levels) (window_refused 1)
    (choose (calendar_wrong c hours first last) (window_refused 12)
    (choose (out_of_order c.weeks first last) (window_refused 13)
    (choose (some_closed c.weeks hours first last) (window_refused 14)
    (window_found c.weeks first last))))

-- ---- What is claimed of accepted windows

-- the call accepts the window, with these edges
unfoldable pub WindowAccepted : Calendar → List ℕ → Quarter → Quarter → ℕ → ℕ → Type 0
WindowAccepted c hours first last l r = window_answer c hours first last ≡ record { number = 0; left = l; right = r }

-- one quarter of a ward is before another: an earlier week, or day of the same week, or quarter of the same day
unfoldable pub Earlier : Quarter → Quarter → Type 0
Earlier a b = (a.week < b.week) ⊎ ((a.week ≡ b.week) × ((a.day < b.day) ⊎ ((a.day ≡ b.day) × (a.quarter < b.quarter))))

-- "A window lies in one ward from a first to a last quarter": a quarter that lies in it is of that ward, not before the first and not after the last
pub record Between (c : Calendar) (first last at : Quarter) : Type 0 where
  pub known : Known c at
  pub ward : at.ward ≡ first.ward
  pub not_before : Earlier at first → ⊥
  pub not_after : Earlier last at → ⊥

-- "every quarter in it must be open": unit u is a quarter between the two ends, and open
pub record OpenBetween (c : Calendar) (hours : List ℕ) (first last : Quarter) (u : ℕ) : Type 0 where
  pub between : Between c first last (quarter_of c.weeks u)
  pub unit : unit_of c.weeks (quarter_of c.weeks u) ≡ u
  pub unit_open : is_open hours (quarter_of c.weeks u) ≡ true
