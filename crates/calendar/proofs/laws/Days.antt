-- Laws: a window has a closed quarter if its first day has one from the first quarter on, its last day up to the last, or one of the whole days between them; and of these seven are enough. A unit of one ward is told
-- by its distance from the ward's first. Assumes nothing.
use Rattle.std.specs.Prelude.{◌≡◌, Bool, false, not, ◌&&◌, ◌||◌, ℕ, ◌+◌, ◌-◌, ◌*◌, ◌/◌, ◌%◌, ◌≤◌, ◌<◌, min, leb, ltb}
use Rattle.std.proofs.Common.{ap, ◌∙◌, arith, leb-true, ltb-true, leb-false, ltb-false, le-leb, lt-ltb, le-ltb}
use Rattle.std.proofs.Math.Decide.{ℕ_discrete}
use Rattle.std.proofs.lemmas.Bool.{lt-leb, not-false}
use Rattle.base.specs.laws.TestLaws.{both_false, both_true}
use Rattle.calendar.specs.rules.Hours.{some_below}
use Rattle.calendar.proofs.laws.SomeBelow.{none_below, all_fail, fail_together, none_of}
use Rattle.calendar.specs.laws.Days as Spec

few_days : (k j : ℕ) → k % 7 < min 7 (k + 1 + j)
few_days k j = omega arith

day_after : (d k : ℕ) → (d + 1 + k) % 7 ≡ (d % 7 + 1 + k % 7) % 7
day_after d k = omega arith

-- of the whole days after d and before e, the day y comes again among the first seven
same_day : (d y e : ℕ) → d < y → y < e → ((y - d - 1) % 7 < min 7 (e - d - 1)) × (y % 7 ≡ (d % 7 + 1 + (y - d - 1) % 7) % 7)
same_day d y e a b =
    let w : y ≡ d + 1 + (y - d - 1) = omega arith in
    let m : e - d - 1 ≡ y - d - 1 + 1 + (e - y - 1) = omega arith in
    (rw m (few_days (y - d - 1) (e - y - 1)), ap (λ (k : ℕ). k % 7) w ∙ day_after d (y - d - 1))

-- the opening and the closing quarter of each day of the week
module _ (opens closes : ℕ → ℕ) where
  -- the quarter at a distance from the ward's first is open
  abbrev pub open_at : ℕ → Bool
  open_at x = leb (opens (x / 96 % 7)) (x % 96) && ltb (x % 96) (closes (x / 96 % 7))

  -- a quarter of a day, and one of the whole days after one, of these hours
  abbrev closed_in : (day from to : ℕ) → Bool
  closed_in = Spec.closed_in opens closes

  abbrev closed_after : (day days : ℕ) → Bool
  closed_after = Spec.closed_after opens closes

  abbrev Open : ℕ → Type 0
  Open x = (opens (x / 96 % 7) ≤ x % 96) × (x % 96 < closes (x / 96 % 7))

  abbrev OpenFrom : (day from to : ℕ) → Type 0
  OpenFrom day from to = (opens day ≤ from) × (to < closes day)

  opened : (x : ℕ) → not (open_at x) ≡ false → Open x
  opened x e =
      let t = both_true (leb (opens (x / 96 % 7)) (x % 96)) (ltb (x % 96) (closes (x / 96 % 7))) (not-false _ e) in
      (leb-true _ _ t.0, ltb-true _ _ t.1)

  unit_open : (x : ℕ) → Open x → not (open_at x) ≡ false
  unit_open x v = rw (le-leb (opens (x / 96 % 7)) (x % 96) v.0, lt-ltb (x % 96) (closes (x / 96 % 7)) v.1)

  day_opened : (day from to : ℕ) → closed_in day from to ≡ false → OpenFrom day from to
  day_opened day from to e =
      let t = both_false (ltb from (opens day)) (leb (closes day) to) e in
      (ltb-false from (opens day) t.0, leb-false (closes day) to t.1)

  day_is_open : (day from to : ℕ) → OpenFrom day from to → closed_in day from to ≡ false
  day_is_open day from to v = none_of (ltb from (opens day)) (leb (closes day) to) (le-ltb from (opens day) v.0) (lt-leb (closes day) to v.1)

  -- a whole day that is open, told by another number
  whole_day_open : (day other quarter : ℕ) → day ≡ other → quarter < 96 → OpenFrom other 0 95 → OpenFrom day quarter quarter
  whole_day_open day other quarter e h v = (omega (arith, v.0, ap opens e), omega (arith, v.1, ap closes e))

  -- the window from quarter q of day d to quarter s of day e, counted from the ward's first day
  module _ (d q e s : ℕ) (qs : q < 96) (ss : s < 96) (order : d * 96 + q ≤ e * 96 + s) where
    abbrev left : ℕ
    left = d * 96 + q

    abbrev AllOpen : Type 0
    AllOpen = (x : ℕ) → left ≤ x → x ≤ e * 96 + s → Open x

    abbrev pub some_closed_at : Bool
    some_closed_at = some_below (e * 96 + s + 1 - left) (λ i. not (open_at (left + i)))

    all_opened : some_closed_at ≡ false → AllOpen
    all_opened f x a b =
        let same : left + (x - left) ≡ x = omega arith in
        rw same at (opened (left + (x - left)) (none_below _ (λ i. not (open_at (left + i))) f (x - left) (omega arith)))

    all_are_open : AllOpen → some_closed_at ≡ false
    all_are_open f = all_fail (e * 96 + s + 1 - left) (λ i. not (open_at (left + i))) (λ i h. unit_open (left + i) (f (left + i) (omega arith) (omega arith)))

    -- what an open quarter of a day says of that day's hours
    in_day : AllOpen → (day quarter : ℕ) → quarter < 96 → left ≤ day * 96 + quarter → day * 96 + quarter ≤ e * 96 + s → OpenFrom (day % 7) quarter quarter
    in_day f day quarter h a b =
        let x = day * 96 + quarter in
        let v = f x a b in
        let p : x / 96 % 7 ≡ day % 7 = omega arith in
        (omega (arith, v.0, ap opens p), omega (arith, v.1, ap closes p))

    -- a window within one day
    pub within_a_day : e ≡ d → closed_in (d % 7) q s ≡ some_closed_at
    within_a_day z = fail_together (closed_in (d % 7) q s) some_closed_at (λ f. all_are_open (all f)) (λ f. day_is_open (d % 7) q s (day f))
      where
        all : closed_in (d % 7) q s ≡ false → AllOpen
        all f x a b =
            let v = day_opened (d % 7) q s f in
            let p : x / 96 % 7 ≡ d % 7 = omega arith in
            (omega (arith, v.0, ap opens p), omega (arith, v.1, ap closes p))

        day : some_closed_at ≡ false → OpenFrom (d % 7) q s
        day f =
            let v = all_opened f in
            ((in_day v d q qs (omega arith) (omega arith)).0, (in_day v d s ss (omega arith) (omega arith)).1)

    -- a window over midnight
    pub over_midnight : d < e → (closed_in (d % 7) q 95 || closed_in (e % 7) 0 s || closed_after (d % 7) (min 7 (e - d - 1))) ≡ some_closed_at
    over_midnight z = fail_together by_days some_closed_at (λ f. all_are_open (all f)) days
      where
        count : ℕ
        count = min 7 (e - d - 1)

        by_days : Bool
        by_days = closed_in (d % 7) q 95 || closed_in (e % 7) 0 s || closed_after (d % 7) count

        all : by_days ≡ false → AllOpen
        all f x a b =
            let t = both_false (closed_in (d % 7) q 95 || closed_in (e % 7) 0 s) (closed_after (d % 7) count) f in
            let g = both_false (closed_in (d % 7) q 95) (closed_in (e % 7) 0 s) t.0 in
            elim (ℕ_discrete (x / 96) d) [
              | yes same ↦
                  let v = day_opened (d % 7) q 95 g.0 in
                  let p : x / 96 % 7 ≡ d % 7 = ap (λ (k : ℕ). k % 7) same in
                  (omega (arith, v.0, ap opens p), omega (arith, v.1, ap closes p))
              | no later ↦
                  elim (ℕ_discrete (x / 96) e) [
                    | yes same ↦
                        let v = day_opened (e % 7) 0 s g.1 in
                        let p : x / 96 % 7 ≡ e % 7 = ap (λ (k : ℕ). k % 7) same in
                        (omega (arith, v.0, ap opens p), omega (arith, v.1, ap closes p))
                    | no earlier ↦
                        let after = (x / 96 - d - 1) % 7 in
                        let g = same_day d (x / 96) e (omega arith) (omega arith) in
                        let v = day_opened ((d % 7 + 1 + after) % 7) 0 95 (none_below count (λ k. closed_in ((d % 7 + 1 + k) % 7) 0 95) t.1 after g.0) in
                        whole_day_open (x / 96 % 7) ((d % 7 + 1 + after) % 7) (x % 96) g.1 (omega arith) v
                  ]
            ]

        days : some_closed_at ≡ false → by_days ≡ false
        days f =
            let v = all_opened f in
            none_of (closed_in (d % 7) q 95 || closed_in (e % 7) 0 s) (closed_after (d % 7) count)
            (none_of (closed_in (d % 7) q 95) (closed_in (e % 7) 0 s)
            (day_is_open (d % 7) q 95 ((in_day v d q qs (omega arith) (omega arith)).0, (in_day v d 95 (omega arith) (omega arith) (omega arith)).1))
            (day_is_open (e % 7) 0 s ((in_day v e 0 (omega arith) (omega arith) (omega arith)).0, (in_day v e s ss (omega arith) (omega arith)).1)))
            (all_fail count (λ k. closed_in ((d % 7 + 1 + k) % 7) 0 95) (λ k h.
            let p : (d % 7 + 1 + k) % 7 ≡ (d + 1 + k) % 7 = omega arith in
            day_is_open ((d % 7 + 1 + k) % 7) 0 95
            (omega (arith, (in_day v (d + 1 + k) 0 (omega arith) (omega arith) (omega arith)).0, ap opens p), omega (arith, (in_day v (d + 1 + k) 95 (omega arith) (omega arith) (omega arith)).1, ap closes p))))
