-- Laws: the two calls are inverse: every unit of the calendar leads back to a quarter that leads to it, and every quarter to a unit that leads back. Assumes nothing.
use Rattle.std.specs.Prelude.{◌≡◌, List, ℕ, ◌-◌, ◌<◌}
use Rattle.std.proofs.Common.{sym, ap, ◌∙◌, arith}
use Rattle.std.proofs.lemmas.Bool.{lt-leb}
use Rattle.calendar.specs.declared.Calendar.{Calendar}
use Rattle.calendar.specs.declared.Quarter.{Quarter}
use Rattle.calendar.specs.rules.Calendar.{unit_of, unit_count, Known, Fits, quarter_of}
use Rattle.calendar.specs.rules.Back.{quarter_found, quarter_answer}
use Rattle.calendar.specs.rules.Windows.{WindowAccepted}
use Rattle.calendar.proofs.laws.Figures.{to_inside}
use Rattle.calendar.proofs.laws.Inverse.{unit_inside, quarter_known, there_and_back, back_and_there}
use Rattle.calendar.proofs.laws.Code.{quarter_0}
use Rattle.calendar.proofs.laws.Edges.{tests, edges, passed}

module _ (c : Calendar) (f : Fits c) where
  -- every quarter there and back
  pub quarter_back : (at : Quarter) → Known c at → quarter_answer c (unit_of c.weeks at) ≡ quarter_found at
  quarter_back at k =
      sym (quarter_0 c (unit_of c.weeks at) f.levels f.figures (lt-leb (unit_count c) (unit_of c.weeks at) (unit_inside c at k)))
      ∙ ap quarter_found (there_and_back c.weeks at k.week k.day k.quarter)

  -- every unit back and there: its quarter is one that the calendar has, and its unit is this one
  pub unit_there : (u : ℕ) → u < unit_count c
      → (quarter_answer c u ≡ quarter_found (quarter_of c.weeks u)) × Known c (quarter_of c.weeks u) × (unit_of c.weeks (quarter_of c.weeks u) ≡ u)
  unit_there u h = (
    sym (quarter_0 c u f.levels f.figures (lt-leb (unit_count c) u h)),
    quarter_known c u (to_inside c f.figures).ranges.some_week h,
    back_and_there c.weeks u,
  )

-- a window's edges lead back to its first and its last quarter
pub ends_back : (c : Calendar) (hours : List ℕ) (first last : Quarter) (l r : ℕ) → WindowAccepted c hours first last l r
    → (quarter_answer c l ≡ quarter_found first) × (quarter_answer c (r - 1) ≡ quarter_found last)
ends_back c hours first last l r a =
    let t = tests c hours first last l r a in
    let e = edges c hours first last l r a in
    let v = passed c hours first last l r a in
    let f : Fits c = record { levels = t.0; figures = v.figures_right } in
    let m : r - 1 ≡ unit_of c.weeks last = omega (arith, e.1) in
    (ap (quarter_answer c) e.0 ∙ quarter_back c f first v.first_known, ap (quarter_answer c) m ∙ quarter_back c f last v.last_known)
