-- Laws: the tests of the lent hours, as the code makes them. Assumes nothing.
use Rattle.std.specs.Prelude.{◌≡◌, refl, true, false, ◌||◌, List, ℕ, zero, suc, ◌+◌, ◌*◌, ◌/◌, ◌≤◌, ◌<◌, eqb, ltb, get_or, drop}
use Rattle.std.specs.List.{list_any}
use Rattle.std.specs.Simd.{first_chunks}
use Rattle.std.proofs.Common.{ap, ◌∙◌, add-one}
use Rattle.std.proofs.Math.Path.{ap₂}
use Rattle.std.proofs.lemmas.List.{get_or-take, get_or-drop}
use Rattle.std.proofs.Math.Bool.{not}
use native.Mathlib.Omega.{arith}
use borrow.Author.Tests.{ltb-false, le-ltb, eqb-true, eq-eqb, ne_eqb, not-false}
use Rattle.std.proofs.Math.ListN.{length}
use Rattle.base.specs.laws.TestLaws.{both_false, true_first, next_test}
use Rattle.calendar.specs.rules.Hours.{opening, closing, some_below, pair_wrong, hours_wrong}
use Rattle.calendar.proofs.laws.SomeBelow.{some_below_lem, fail_together, none_of, same_below, first_below}
use Rattle.calendar.specs.laws.HoursLaws.{some_pair_wrong}

-- the two tests of the code are enough
pub pair_tested : (opens closes : ℕ) → (ltb 96 closes || ltb closes opens) ≡ pair_wrong opens closes
unfolding pair_wrong
pair_tested opens closes =
    fail_together (ltb 96 closes || ltb closes opens) (ltb 96 opens || ltb 96 closes || ltb closes opens)
    (λ e.
    let t = both_false (ltb 96 closes) (ltb closes opens) e in
    let o : opens ≤ 96 = omega (arith, ltb-false 96 closes t.0, ltb-false closes opens t.1) in
    none_of (ltb 96 opens || ltb 96 closes) (ltb closes opens) (none_of (ltb 96 opens) (ltb 96 closes) (le-ltb 96 opens o) t.0) t.1)
    (λ e.
    let t = both_false (ltb 96 opens || ltb 96 closes) (ltb closes opens) e in
    none_of (ltb 96 closes) (ltb closes opens) (both_false (ltb 96 opens) (ltb 96 closes) t.0).1 t.1)

-- none of no pairs is wrong, and a right one leaves it so
pub no_pairs : (hours : List ℕ) → some_pair_wrong hours 0 ≡ false
unfolding some_pair_wrong some_below
no_pairs hours = refl

pub right_pair : (hours : List ℕ) (pair : ℕ) → some_pair_wrong hours pair ≡ false → pair_wrong (get_or hours (2 * pair) 0) (get_or hours (2 * pair + 1) 0) ≡ false
    → some_pair_wrong hours (pair + 1) ≡ false
unfolding some_pair_wrong some_below opening closing
right_pair hours pair e f = rw (add-one pair) (none_of _ _ e f)

pub wrong_pair : (hours : List ℕ) (pair pairs : ℕ) → pair < pairs → pair_wrong (get_or hours (2 * pair) 0) (get_or hours (2 * pair + 1) 0) ≡ true → some_pair_wrong hours pairs ≡ true
unfolding some_pair_wrong opening closing
wrong_pair hours pair pairs h e = some_below_lem pairs _ pair h e

module _ (wards : ℕ) (hours : List ℕ) where
  pub other_length : (length hours ≡ 14 * wards → ⊥) → true ≡ hours_wrong wards hours
  unfolding hours_wrong
  other_length d = true_first (not (eqb (length hours) (14 * wards))) _ (ap not (ne_eqb (length hours) (14 * wards) d))

  pub right_length : length hours ≡ 14 * wards → some_pair_wrong hours (length hours / 2) ≡ hours_wrong wards hours
  unfolding hours_wrong some_pair_wrong
  right_length e =
      let p : length hours / 2 ≡ 7 * wards = omega arith in
      next_test _ (not (eqb (length hours) (14 * wards))) _ (ap not (eq-eqb (length hours) (14 * wards) e)) (ap (some_pair_wrong hours) p)

  pub pairs_there : hours_wrong wards hours ≡ false → length hours ≡ 14 * wards
  unfolding hours_wrong
  pairs_there e = eqb-true _ _ (not-false _ (both_false (not (eqb (length hours) (14 * wards))) _ e).0)

-- the pairs as the code takes them, the first two numbers off a list and so on
pub any_pair : (n : ℕ) (hours : List ℕ) → list_any (λ pair. pair_wrong (get_or pair 0 0) (get_or pair 1 0)) (first_chunks 2 n hours) ≡ some_pair_wrong hours n
unfolding some_pair_wrong some_below opening closing
any_pair zero hours = refl
any_pair (suc n) hours =
    ap₂ ◌||◌
    (ap₂ pair_wrong (get_or-take 2 hours 0 0 (omega arith)) (get_or-take 2 hours 1 0 (omega arith)))
    (any_pair n (drop 2 hours) ∙ same_below n n _ (λ pair. pair_wrong (get_or hours (2 * suc pair) 0) (get_or hours (2 * suc pair + 1) 0)) refl (λ pair h.
    let e : 2 + 2 * pair ≡ 2 * suc pair = omega arith in
    let f : 2 + (2 * pair + 1) ≡ 2 * suc pair + 1 = omega arith in
    ap₂ pair_wrong (get_or-drop 2 hours (2 * pair) 0 ∙ ap (λ (k : ℕ). get_or hours k 0) e) (get_or-drop 2 hours (2 * pair + 1) 0 ∙ ap (λ (k : ℕ). get_or hours k 0) f)))
    ∙ first_below n (λ pair. pair_wrong (get_or hours (2 * pair) 0) (get_or hours (2 * pair + 1) 0))
