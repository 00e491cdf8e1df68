-- To be believed: document 02, request 2.6: the lent hours, which quarters are open by them, and cause 12 where the hours are wrong. Assumes nothing.
use Rattle.std.specs.Prelude.{Bool, false, not, ◌&&◌, ◌||◌, List, ℕ, zero, suc, ◌+◌, ◌*◌, eqb, leb, ltb, length, get_or}
use Rattle.calendar.specs.declared.Quarter.{Quarter}

-- "Each ward has for each day an opening quarter and a closing quarter": the lent numbers are pairs, those of ward 0's days 0 to 6 first
unfoldable pub opening : List ℕ → ℕ → ℕ
opening hours pair = get_or hours (2 * pair) 0

unfoldable pub closing : List ℕ → ℕ → ℕ
closing hours pair = get_or hours (2 * pair + 1) 0

-- the pair of a ward and a day
abbrev pub pair_of : ℕ → ℕ → ℕ
pair_of ward day = 7 * ward + day

-- the test passes at some number below n
unfoldable pub some_below : ℕ → (ℕ → Bool) → Bool
some_below zero test = false
some_below (suc n) test = some_below n test || test n

-- "(0..96, ..)", and "an opening after its closing"
unfoldable pub pair_wrong : ℕ → ℕ → Bool
pair_wrong opens closes = ltb 96 opens || ltb 96 closes || ltb closes opens

-- "hours that aren't one pair for each ward and day", or a wrong pair "anywhere"
unfoldable pub hours_wrong : ℕ → List ℕ → Bool
hours_wrong wards hours = not (eqb (length hours) (14 * wards)) || some_below (7 * wards) (λ pair. pair_wrong (opening hours pair) (closing hours pair))

-- whether a quarter is open by the hours: "closing not included; equal means closed"
unfoldable pub is_open : List ℕ → Quarter → Bool
is_open hours at = leb (opening hours (pair_of at.ward at.day)) at.quarter && ltb at.quarter (closing hours (pair_of at.ward at.day))
