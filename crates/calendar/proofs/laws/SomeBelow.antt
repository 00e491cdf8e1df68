-- Laws of a test that passes at some number below a bound. Assumes nothing.
use Rattle.std.specs.Prelude.{◌≡◌, refl, Bool, true, false, ◌||◌, ℕ, zero, suc, ◌+◌, ◌<◌}
use Rattle.std.specs.List.{list_any, range_with_len}
use Rattle.std.proofs.Common.{sym, ap, ◌∙◌, arith}
use Rattle.std.proofs.Math.Bool.{or_assoc}
use Rattle.std.proofs.Math.Path.{ap₂}
use Rattle.std.proofs.Math.Decide.{ℕ_discrete}
use Rattle.base.specs.laws.TestLaws.{both_false, true_first, true_later}
use Rattle.calendar.specs.rules.Hours.{some_below}

-- it passes at none
pub none_below : (n : ℕ) (test : ℕ → Bool) → some_below n test ≡ false → (i : ℕ) → i < n → test i ≡ false
unfolding some_below
none_below zero test e i h = absurd (omega arith)
none_below (suc n) test e i h =
    let b = both_false (some_below n test) (test n) e in
    elim (ℕ_discrete i n) [
      | yes q ↦ ap test q ∙ b.1
      | no d ↦ none_below n test b.0 i (omega arith)
    ]

-- the other way round
pub all_fail : (n : ℕ) (test : ℕ → Bool) → ((i : ℕ) → i < n → test i ≡ false) → some_below n test ≡ false
unfolding some_below
all_fail zero test f = refl
all_fail (suc n) test f = rw (all_fail n test (λ i h. f i (omega arith)), f n (omega arith))

-- it passes at one
pub some_below_lem : (n : ℕ) (test : ℕ → Bool) (i : ℕ) → i < n → test i ≡ true → some_below n test ≡ true
unfolding some_below
some_below_lem zero test i h e = absurd (omega arith)
some_below_lem (suc n) test i h e =
    elim (ℕ_discrete i n) [
      | yes q ↦ sym (true_later (some_below n test) (test n) (sym e ∙ ap test q))
      | no d ↦ sym (true_first (some_below n test) (test n) (some_below_lem n test i (omega arith) e))
    ]

-- two tests are equal where each fails with the other
pub fail_together : (a b : Bool) → (a ≡ false → b ≡ false) → (b ≡ false → a ≡ false) → a ≡ b
fail_together true true f g = refl
fail_together true false f g = g refl
fail_together false b f g = sym (f refl)

-- none of two tests is true: both are false
pub none_of : (a b : Bool) → a ≡ false → b ≡ false → (a || b) ≡ false
none_of a b e f = rw (e, f)

-- two tests that agree below the bound
pub same_below : (n m : ℕ) (f g : ℕ → Bool) → n ≡ m → ((i : ℕ) → i < n → f i ≡ g i) → some_below n f ≡ some_below m g
same_below n m f g e h =
    ap (λ (k : ℕ). some_below k f) e
    ∙ fail_together (some_below m f) (some_below m g)
    (λ t. all_fail m g (λ i b. sym (h i (omega arith)) ∙ none_below m f t i b))
    (λ t. all_fail m f (λ i b. h i (omega arith) ∙ none_below m g t i b))

-- it passes at 0, or at a number after one below the bound
pub first_below : (n : ℕ) (test : ℕ → Bool) → (test 0 || some_below n (λ i. test (suc i))) ≡ some_below (suc n) test
unfolding some_below
first_below zero test = fail_together (test 0 || false) (false || test 0) (λ e. (both_false (test 0) false e).0) (λ e. none_of (test 0) false e refl)
first_below (suc n) test =
    sym (or_assoc (test 0) (some_below n (λ i. test (suc i))) (test (suc n))) ∙ ap (λ b. b || test (suc n)) (first_below n test)

-- it passes at one of so many numbers from a on
pub any_in_range : (a n : ℕ) (test : ℕ → Bool) → list_any test (range_with_len a n) ≡ some_below n (λ i. test (a + i))
unfolding some_below
any_in_range a zero test = refl
any_in_range a (suc n) test =
    let rest : list_any test (range_with_len (a + 1) n) ≡ some_below n (λ i. test (a + suc i)) = any_in_range (a + 1) n test ∙ same_below n n _ (λ i. test (a + suc i)) refl (λ i h. let e : a + 1 + i ≡ a + suc i = omega arith in ap test e) in
    let zeroth : a ≡ a + 0 = omega arith in
    ap₂ ◌||◌ (ap test zeroth) rest ∙ first_below n (λ i. test (a + i))
