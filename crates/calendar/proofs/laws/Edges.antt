-- Laws: what accepted windows have, by their edges alone: exactly the quarters from the first to the last, all of them open; those of different wards never overlap. Assumes nothing.
use Rattle.std.specs.Prelude.{◌≡◌, refl, Bool, true, false, ◌↔◌, List, ℕ, ◌+◌, ◌-◌, ◌*◌, ◌≤◌, ◌<◌}
use Rattle.std.proofs.Math.Path.{sym, ap}
use Rattle.std.proofs.Common.{◌∙◌, arith}
use Rattle.std.proofs.Math.Bool.{not}
use Rattle.std.proofs.Math.Logic.{inl, inr}
use borrow.Author.Tests.{not-false, lt-leb, le-ltb}
use Rattle.base.specs.rules.Choice.{choose}
use Rattle.base.specs.rules.Overlap.{Overlap}
use Rattle.base.specs.laws.ChoiceLaws.{by_lt}
use Rattle.tree.specs.rules.Tree.{units}
use Rattle.cover.specs.rules.Answer.{levels_outside, window_outside}
use Rattle.calendar.specs.declared.Calendar.{Calendar}
use Rattle.calendar.specs.declared.Quarter.{Quarter}
use Rattle.calendar.specs.declared.WindowAnswer.{WindowAnswer}
use Rattle.calendar.specs.rules.Calendar.{unit_of, Known, quarter_of}
use Rattle.calendar.specs.rules.Hours.{is_open}
use Rattle.calendar.specs.rules.Windows.{calendar_wrong, out_of_order, some_closed, window_refused, window_found, window_answer, WindowAccepted, Earlier, Between, OpenBetween}
use Rattle.calendar.proofs.laws.SomeBelow.{none_below}
use Rattle.calendar.proofs.laws.Inverse.{day_of, from_ward, quarter_at, unit_inside, quarter_known, back_and_there}
use Rattle.calendar.proofs.laws.Closed.{Ordered}
use Rattle.calendar.proofs.laws.Code.{Right, to_right, to_ordered}

-- ---- the order of quarters and of units

module _ (c : Calendar) (a b : Quarter) (p : Known c a) (q : Known c b) (same : a.ward ≡ b.ward) where
  by_days_lem : (unit_of c.weeks a < unit_of c.weeks b) ↔ (day_of a * 96 + a.quarter < day_of b * 96 + b.quarter)
  by_days_lem =
      let e = from_ward c.weeks a ∙ ap (λ (w : ℕ). w * c.weeks * 672 + (day_of a * 96 + a.quarter)) same in
      let f = from_ward c.weeks b in
      (λ h. omega (arith, e, f), λ h. omega (arith, e, f))

  -- an earlier quarter has a lower unit
  pub earlier_lower : Earlier a b → unit_of c.weeks a < unit_of c.weeks b
  unfolding Earlier
  earlier_lower (inl h) = by_days_lem.1 (omega (arith, p.day, p.quarter))
  earlier_lower (inr (e, inl h)) = by_days_lem.1 (omega (arith, p.quarter))
  earlier_lower (inr (e, inr (f, h))) = by_days_lem.1 (omega arith)

  -- and the other way round
  pub lower_earlier : unit_of c.weeks a < unit_of c.weeks b → Earlier a b
  unfolding Earlier
  lower_earlier h =
      let d = by_days_lem.0 h in
      by_lt a.week b.week inl (λ w.
      let e : a.week ≡ b.week = omega (arith, p.day, p.quarter, q.day, q.quarter) in
      by_lt a.day b.day (λ x. inr (e, inl x)) (λ x.
      let f : a.day ≡ b.day = omega (arith, p.quarter, q.quarter) in
      inr (e, inr (f, omega arith))))

-- ---- the units from the first quarter's to the last's

module _ (c : Calendar) (hours : List ℕ) (first last : Quarter) (v : Right c hours first last) (o : Ordered c.weeks hours first last) (u : ℕ) (a : unit_of c.weeks first ≤ u) (b : u ≤ unit_of c.weeks last) where
  abbrev at : Quarter
  at = quarter_of c.weeks u

  -- each is one of their ward
  of_ward : at.ward ≡ first.ward
  of_ward =
      let w = first.ward * c.weeks * 672 in
      let e = from_ward c.weeks first in
      let f = from_ward c.weeks last ∙ ap (λ (k : ℕ). k * c.weeks * 672 + (day_of last * 96 + last.quarter)) o.one_ward in
      let d : u ≡ w + (u - w) = omega arith in
      ap (λ (k : ℕ). (quarter_of c.weeks k).ward) d ∙ ap (λ q. q.ward) (quarter_at c.weeks first.ward (u - w) (omega (arith, o.last_week, o.last_day, o.last_quarter)))

  known : Known c at
  known = quarter_known c u v.figures.ranges.some_week (omega (arith, unit_inside c last v.last_known))

  pub between : Between c first last at
  between =
      let e = back_and_there c.weeks u in
      record {
        known = known;
        ward = of_ward;
        not_before = λ h. omega (arith, earlier_lower c at first known v.first_known of_ward h, e);
        not_after = λ h. omega (arith, earlier_lower c last at v.last_known known (o.one_ward ∙ sym of_ward) h, e);
      }

-- ---- what an accepted window has passed

four_tests : (a b d e : Bool) (x : WindowAnswer) → (choose a (window_refused 1) (choose b (window_refused 12) (choose d (window_refused 13) (choose e (window_refused 14) x)))).number ≡ 0
    → (a ≡ false) × (b ≡ false) × (d ≡ false) × (e ≡ false)
unfolding choose window_refused
four_tests true b d e x h = absurd (omega arith)
four_tests false true d e x h = absurd (omega arith)
four_tests false false true e x h = absurd (omega arith)
four_tests false false false true x h = absurd (omega arith)
four_tests false false false false x h = (refl, refl, refl, refl)

module _ (c : Calendar) (hours : List ℕ) (first last : Quarter) (l r : ℕ) (accepted : WindowAccepted c hours first last l r) where
  pub tests : (levels_outside c.levels ≡ false) × (calendar_wrong c hours first last ≡ false) × (out_of_order c.weeks first last ≡ false) × (some_closed c.weeks hours first last ≡ false)
  unfolding WindowAccepted window_answer
  tests = four_tests (levels_outside c.levels) (calendar_wrong c hours first last) (out_of_order c.weeks first last) (some_closed c.weeks hours first last) (window_found c.weeks first last) (ap (λ a. a.number) accepted)

  found : window_found c.weeks first last ≡ record { number = 0; left = l; right = r }
  unfolding WindowAccepted window_answer choose
  found = rw (tests.0, tests.1, tests.2, tests.3) at accepted

  -- the edges are the first quarter's unit and the last's plus 1
  pub edges : (l ≡ unit_of c.weeks first) × (r ≡ unit_of c.weeks last + 1)
  unfolding window_found
  edges = (sym (ap (λ a. a.left) found), sym (ap (λ a. a.right) found))

  pub passed : Right c hours first last
  passed = to_right c hours first last tests.1

  ordered : Ordered c.weeks hours first last
  ordered = to_ordered c hours first last passed tests.2

  in_ward : (u : ℕ) → l ≤ u → u < r → (quarter_of c.weeks u).ward ≡ first.ward
  in_ward u a b = of_ward c hours first last passed ordered u (omega (arith, edges.0)) (omega (arith, edges.1))

  -- every unit of the window is an open quarter of the ward, from the first to the last
  pub each_open : (u : ℕ) → l ≤ u → u < r → OpenBetween c hours first last u
  unfolding some_closed
  each_open u a b =
      record {
        between = between c hours first last passed ordered u (omega (arith, edges.0)) (omega (arith, edges.1));
        unit = back_and_there c.weeks u;
        unit_open =
            let i = u - l in
            let k : unit_of c.weeks first + i ≡ u = omega (arith, edges.0) in
            ap (λ (x : ℕ). is_open hours (quarter_of c.weeks x)) (sym k) ∙ not-false _ (none_below _ (λ j. not (is_open hours (quarter_of c.weeks (unit_of c.weeks first + j)))) tests.3 i (omega (arith, edges)));
      }

  -- and no quarter from the first to the last is left out
  pub none_left_out : (at : Quarter) → Between c first last at → (l ≤ unit_of c.weeks at) × (unit_of c.weeks at < r)
  none_left_out at v = (
    by_lt (unit_of c.weeks at) l (λ h. absurd (v.not_before (lower_earlier c at first v.known passed.first_known v.ward (omega (arith, edges.0))))) (λ h. h),
    by_lt (unit_of c.weeks at) r (λ h. h) (λ h. absurd (v.not_after (lower_earlier c last at passed.last_known v.known (ordered.one_ward ∙ sym v.ward) (omega (arith, edges.1))))),
  )

  -- a request for these edges is not refused by 7
  pub never_refused_by_7 : window_outside c.levels l r ≡ false
  unfolding window_outside
  never_refused_by_7 =
      rw (lt-leb r l (omega (arith, edges, ordered.order)), le-ltb (units c.levels) r (omega (arith, edges.1, unit_inside c last passed.last_known, passed.figures.room)))

-- windows of different wards never overlap, whatever hours they were tested by
pub other_wards_apart : (c : Calendar) (hours hours' : List ℕ) (first last first' last' : Quarter) (l r l' r' : ℕ)
    → WindowAccepted c hours first last l r → WindowAccepted c hours' first' last' l' r' → (first.ward ≡ first'.ward → ⊥) → Overlap l r l' r' → ⊥
other_wards_apart c hours hours' first last first' last' l r l' r' a b d o =
    d (sym (in_ward c hours first last l r a o.unit o.low o.high) ∙ in_ward c hours' first' last' l' r' b o.unit o.other_low o.other_high)
