-- What is known of a file that is not refused, and the laws by which the file is tested. Assumes nothing.
use Rattle.std.specs.Prelude.{◌≡◌, refl, Bool, true, false, ◌||◌, List, [], ◌∷◌, ℕ, suc, ◌≤◌, ◌<◌, length}
use Rattle.std.proofs.Common.{subst, arith}
use borrow.Author.Tests.{ltb-false, lt-ltb, le-ltb}
use Rattle.std.proofs.Math.Dec.{ltb}
use Rattle.base.specs.rules.Choice.{choose}
use Rattle.lock.specs.rules.Calls.{first_cause}
use Rattle.base.specs.laws.TestLaws.{both_false, true_first, next_test}
use Rattle.schedule.specs.rules.Format.{little, settings_in, clients_in, count_in, offset_in, place_of, any_wrong, malformed, too_large, file_cause}

pub record WellFormed (bytes : List ℕ) : Type 0 where
  pub short : length bytes ≤ 65536
  pub header : 20 ≤ length bytes
  pub offset : 20 ≤ offset_in bytes
  pub inside : place_of bytes (count_in bytes) ≤ length bytes
  pub right : any_wrong bytes (count_in bytes) ≡ false
  pub levels : (settings_in bytes).levels ≤ 6
  pub clients : clients_in bytes ≤ 64

-- ---- the tests of a file one after another

module _ (bytes : List ℕ) where
  pub too_long : 65536 < length bytes → true ≡ malformed bytes
  unfolding malformed
  too_long h = true_first _ _ (lt-ltb _ _ h)

  module _ (short : length bytes ≤ 65536) where
    pub too_short : length bytes < 20 → true ≡ malformed bytes
    unfolding malformed
    too_short h = next_test _ _ _ (le-ltb _ _ short) (true_first _ _ (lt-ltb _ _ h))

    module _ (header : 20 ≤ length bytes) (offset : ℕ) (eo : offset ≡ offset_in bytes) where
      pub offset_low : offset < 20 → true ≡ malformed bytes
      unfolding malformed
      offset_low h =
          next_test _ _ _ (le-ltb _ _ short) (next_test _ _ _ (le-ltb _ _ header) (true_first _ _ (lt-ltb _ _ (subst (λ (n : ℕ). n < 20) eo h))))

      module _ (high : 20 ≤ offset) (end : ℕ) (ee : end ≡ place_of bytes (count_in bytes)) where
        from_end : (x : Bool) → x ≡ (ltb (length bytes) (place_of bytes (count_in bytes)) || any_wrong bytes (count_in bytes)) → x ≡ malformed bytes
        unfolding malformed
        from_end x h =
            next_test _ _ _ (le-ltb _ _ short)
            (next_test _ _ _ (le-ltb _ _ header) (next_test _ _ _ (le-ltb _ _ (subst (λ (n : ℕ). 20 ≤ n) eo high)) h))

        pub calls_outside : length bytes < end → true ≡ malformed bytes
        calls_outside h = from_end _ (true_first _ _ (lt-ltb _ _ (subst (λ (n : ℕ). length bytes < n) ee h)))

        pub calls_tested : end ≤ length bytes → (x : Bool) → x ≡ any_wrong bytes (count_in bytes) → x ≡ malformed bytes
        calls_tested h x e = from_end _ (next_test _ _ _ (le-ltb _ _ (subst (λ (n : ℕ). n ≤ length bytes) ee h)) e)

  pub large_tested : (levels clients : ℕ) → levels ≡ little 2 bytes 0 → clients ≡ clients_in bytes → (ltb 6 levels || ltb 64 clients) ≡ too_large bytes
  unfolding too_large settings_in
  large_tested levels clients e f = λ i. ltb 6 (e i) || ltb 64 (f i)

-- ---- 10 before 11

module _ (bytes : List ℕ) where
  pub cause_malformed : malformed bytes ≡ true → 10 ≡ file_cause bytes
  unfolding file_cause first_cause choose
  cause_malformed e = rw e

  pub cause_large : malformed bytes ≡ false → too_large bytes ≡ true → 11 ≡ file_cause bytes
  unfolding file_cause first_cause choose
  cause_large e f = rw (e, f)

  pub cause_none : malformed bytes ≡ false → too_large bytes ≡ false → 0 ≡ file_cause bytes
  unfolding file_cause first_cause choose
  cause_none e f = rw (e, f)

  pub long_enough : malformed bytes ≡ false → 20 ≤ length bytes
  unfolding malformed
  long_enough e = ltb-false _ _ (both_false (ltb (length bytes) 20) _ (both_false (ltb 65536 (length bytes)) _ e).1).0

none_true : (m l : Bool) → first_cause ((m, 10) ∷ (l, 11) ∷ []) ≡ 0 → (m ≡ false) × (l ≡ false)
unfolding first_cause choose
none_true true l e = absurd (omega arith)
none_true false true e = absurd (omega arith)
none_true false false e = (refl, refl)

module _ (bytes : List ℕ) (e : file_cause bytes ≡ 0) where
  right_form : malformed bytes ≡ false
  unfolding file_cause
  right_form = (none_true _ _ e).0

  right_size : too_large bytes ≡ false
  unfolding file_cause
  right_size = (none_true _ _ e).1

  -- "A file too long or short, ..": what holds of a file that is not refused
  pub well_formed : WellFormed bytes
  unfolding malformed too_large
  well_formed =
      let f2 = (both_false (ltb 65536 (length bytes)) _ right_form).1 in
      let f3 = (both_false (ltb (length bytes) 20) _ f2).1 in
      let f4 = (both_false (ltb (offset_in bytes) 20) _ f3).1 in
      record {
        short = ltb-false _ _ (both_false (ltb 65536 (length bytes)) _ right_form).0;
        header = ltb-false _ _ (both_false (ltb (length bytes) 20) _ f2).0;
        offset = ltb-false _ _ (both_false (ltb (offset_in bytes) 20) _ f3).0;
        inside = ltb-false _ _ (both_false (ltb (length bytes) (place_of bytes (count_in bytes))) _ f4).0;
        right = (both_false (ltb (length bytes) (place_of bytes (count_in bytes))) _ f4).1;
        levels = ltb-false _ _ (both_false (ltb 6 (settings_in bytes).levels) _ right_size).0;
        clients = ltb-false _ _ (both_false (ltb 6 (settings_in bytes).levels) _ right_size).1;
      }

-- the bytes of each call are inside
pub call_inside : (bytes : List ℕ) → WellFormed bytes → (k : ℕ) → k < count_in bytes → place_of bytes (suc k) ≤ length bytes
unfolding place_of
call_inside bytes w k h = omega (arith, w.inside)

-- the room that all calls have
pub few_calls : (bytes : List ℕ) → WellFormed bytes → count_in bytes ≤ 2729
unfolding place_of
few_calls bytes w = omega (arith, w.inside, w.offset, w.short)
