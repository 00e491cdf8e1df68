-- Laws of the test of 2.3, "A claim is late unless 10,001 × (clock - t1) < 9,999 × T". Assumes nothing.
use Rattle.std.specs.Prelude.{◌≡◌, true, false, ℕ, ◌*◌, ◌-◌, ◌≤◌, ◌<◌, leb}
use Rattle.std.proofs.Math.Path.{sym, ap}
use Rattle.std.proofs.Common.{◌∙◌, arith}
use Rattle.std.proofs.Math.Bool.{not}
use borrow.Author.Tests.{ltb-true, lt-ltb, le-ltb, le-leb, lt-leb, not-false}
use Rattle.base.specs.laws.ChoiceLaws.{by_lt}
use Rattle.lock.specs.declared.Record.{Record}
use Rattle.lock.specs.declared.Settings.{Settings}
use Rattle.lock.specs.rules.Steps.{late}

-- in time, from t1 to the clock t
abbrev pub InTime : (wait t1 t : ℕ) → Type 0
InTime wait t1 t = 10001 * (t - t1) < 9999 * wait

module _ (s : Settings) (r : Record) (t : ℕ) where
  -- the products that are compared
  abbrev passed : ℕ
  passed = 10001 * (t - r.t1)

  abbrev allowed : ℕ
  allowed = 9999 * s.wait

  -- from T on it is late in any case: the products need not be made
  pub late_waited : s.wait ≤ t - r.t1 → true ≡ late s r t
  unfolding late
  late_waited b = sym (ap not (le-ltb passed allowed (omega arith)))

  -- the test as the code has it
  pub late_by : leb allowed passed ≡ late s r t
  unfolding late
  late_by =
      by_lt passed allowed
      (λ b. lt-leb allowed passed b ∙ sym (ap not (lt-ltb passed allowed b)))
      (λ b. le-leb allowed passed b ∙ sym (ap not (le-ltb passed allowed b)))

  pub not_late : late s r t ≡ false → InTime s.wait r.t1 t
  unfolding late
  not_late e = ltb-true passed allowed (not-false _ e)

  pub in_time_not_late : InTime s.wait r.t1 t → late s r t ≡ false
  unfolding late
  in_time_not_late b = ap not (lt-ltb passed allowed b)
