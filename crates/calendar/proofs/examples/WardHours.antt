-- The rules run on windows of a calendar with three wards and two weeks, at H 5, by computing. Assumes nothing.
use Rattle.std.specs.Prelude.{◌≡◌, refl, List, [], ◌∷◌, ◌++◌, ℕ}
use Rattle.base.specs.rules.Choice.{choose}
use Rattle.tree.specs.rules.Tree.{units}
use Rattle.cover.specs.rules.Answer.{levels_outside}
use Rattle.calendar.specs.declared.Calendar.{Calendar}
use Rattle.calendar.specs.declared.Quarter.{Quarter}
use Rattle.calendar.specs.rules.Calendar.{unit_of, unit_count, unknown, figures_outside, quarter_of}
use Rattle.calendar.specs.rules.Back.{quarter_refused, quarter_found, quarter_answer}
use Rattle.calendar.specs.rules.Hours.{opening, closing, some_below, pair_wrong, hours_wrong, is_open}
use Rattle.calendar.specs.rules.Windows.{calendar_wrong, out_of_order, some_closed, window_refused, window_found, window_answer}

abbrev calendar : Calendar
calendar = record { levels = 5; wards = 3; weeks = 2 }

abbrev at : ℕ → ℕ → ℕ → ℕ → Quarter
at ward week day quarter = record { ward = ward; week = week; day = day; quarter = quarter }

-- open all day, every day; the same but for day 0, from 06:00; and days 0 to 4 from 08:00 to 18:00, the others closed
abbrev all_day : List ℕ
all_day = 0 ∷ 96 ∷ 0 ∷ 96 ∷ 0 ∷ 96 ∷ 0 ∷ 96 ∷ 0 ∷ 96 ∷ 0 ∷ 96 ∷ 0 ∷ 96 ∷ []

abbrev from_six : List ℕ
from_six = 24 ∷ 96 ∷ 0 ∷ 96 ∷ 0 ∷ 96 ∷ 0 ∷ 96 ∷ 0 ∷ 96 ∷ 0 ∷ 96 ∷ 0 ∷ 96 ∷ []

abbrev by_day : List ℕ
by_day = 32 ∷ 72 ∷ 32 ∷ 72 ∷ 32 ∷ 72 ∷ 32 ∷ 72 ∷ 32 ∷ 72 ∷ 0 ∷ 0 ∷ 0 ∷ 0 ∷ []

abbrev hours : List ℕ
hours = by_day ++ from_six ++ all_day

-- ward 2 from 23:45 on the last day of week 0 until 02:00 on the first of week 1: nine units over midnight and the week's end
pub over_the_weeks_end : window_answer calendar hours (at 2 0 6 95) (at 2 1 0 7) ≡ record { number = 0; left = 3359; right = 3368 }
unfolding window_answer calendar_wrong figures_outside hours_wrong unknown out_of_order some_closed is_open opening closing some_below pair_wrong unit_of unit_count units quarter_of levels_outside choose window_found
over_the_weeks_end = refl

-- in ward 1, which opens at 06:00 then, it is refused by 14; so is a window of ward 0 that runs up to 18:15
pub before_opening : window_answer calendar hours (at 1 0 6 95) (at 1 1 0 7) ≡ window_refused 14
unfolding window_answer calendar_wrong figures_outside hours_wrong unknown out_of_order some_closed is_open opening closing some_below pair_wrong unit_of unit_count units quarter_of levels_outside choose
before_opening = refl

pub after_closing : window_answer calendar hours (at 0 0 0 32) (at 0 0 0 72) ≡ window_refused 14
unfolding window_answer calendar_wrong figures_outside hours_wrong unknown out_of_order some_closed is_open opening closing some_below pair_wrong unit_of unit_count units quarter_of levels_outside choose
after_closing = refl

pub until_closing : window_answer calendar hours (at 0 0 0 32) (at 0 0 0 71) ≡ record { number = 0; left = 32; right = 72 }
unfolding window_answer calendar_wrong figures_outside hours_wrong unknown out_of_order some_closed is_open opening closing some_below pair_wrong unit_of unit_count units quarter_of levels_outside choose window_found
until_closing = refl

-- the ends exchanged are refused by 13, and by 12 if the hours of a ward are left out
pub exchanged : window_answer calendar hours (at 2 1 0 7) (at 2 0 6 95) ≡ window_refused 13
unfolding window_answer calendar_wrong figures_outside hours_wrong unknown out_of_order some_closed is_open opening closing some_below pair_wrong unit_of unit_count units quarter_of levels_outside choose
exchanged = refl

pub hours_left_out : window_answer calendar (by_day ++ from_six) (at 2 1 0 7) (at 2 0 6 95) ≡ window_refused 12
unfolding window_answer calendar_wrong figures_outside hours_wrong unknown out_of_order some_closed is_open opening closing some_below pair_wrong unit_of unit_count units quarter_of levels_outside choose
hours_left_out = refl

-- the last unit of that window is the quarter until 02:00; the calendar has 4,032 units, from 0 on
pub back_again : quarter_answer calendar 3367 ≡ quarter_found (at 2 1 0 7)
unfolding quarter_answer figures_outside unit_count units quarter_of levels_outside choose
back_again = refl

pub past_the_last : quarter_answer calendar 4032 ≡ quarter_refused 12
unfolding quarter_answer figures_outside unit_count units quarter_of levels_outside choose
past_the_last = refl
