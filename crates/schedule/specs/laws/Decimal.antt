-- Laws of a number in decimal: the digits that `io::decimal` writes are those of the log, and they are at most 20. Assumes nothing.
use Rattle.std.specs.Prelude.{◌≡◌, List, [], ◌∷◌, ◌++◌, ℕ, zero, suc, ◌+◌, ◌-◌, ◌*◌, ◌/◌, ◌%◌, ◌^◌, ◌≤◌, ◌<◌}
use Rattle.std.proofs.Common.{sym, ◌∙◌, ap, pow-suc, mod-eq_of_lt, sub-one, arith, lt-ltb}
use Rattle.std.proofs.Math.Nat.{one-le-pow, pow-le-pow_right}
use Rattle.base.specs.laws.ChoiceLaws.{choose_lt, choose_ge, by_lt}
use Rattle.io.specs.Digits.{hex_digit_ascii, last_digits, IsDigitCount}
use Rattle.schedule.specs.rules.Text.{decimal_within, decimal}

glyph_digit : (d : ℕ) → d < 10 → hex_digit_ascii d ≡ 48 + d
glyph_digit d h = rw (lt-ltb d 10 h)

-- the digits of a number that has j + 1 of them
digits_within : (j steps n : ℕ) → n < steps → n < 10 ^ suc j → (0 < j → 10 ^ j ≤ n) → last_digits 10 (suc j) n ≡ decimal_within steps n
unfolding decimal_within
digits_within j zero n s h l = absurd (omega arith)
digits_within zero (suc steps) n s h l =
    ap (λ (d : ℕ). hex_digit_ascii d ∷ []) (mod-eq_of_lt h) ∙ ap (λ (d : ℕ). d ∷ []) (glyph_digit n h)
    ∙ sym (choose_lt n 10 ((48 + n) ∷ []) (decimal_within steps (n / 10) ++ ((48 + n % 10) ∷ [])) h)
digits_within (suc i) (suc steps) n s h l =
    let low : 10 ^ i * 10 ≤ n = rw (pow-suc 10 i) at (l (omega arith)) in
    let high : n < 10 ^ suc i * 10 = rw (pow-suc 10 (suc i)) at h in
    let some : 1 ≤ 10 ^ i = one-le-pow i 10 (omega arith) in
    let same : last_digits 10 (suc i) (n / 10) ≡ decimal_within steps (n / 10) = digits_within i steps (n / 10) (omega arith) (omega arith) (λ _. omega arith) in
    ap (λ (z : List ℕ). z ++ (hex_digit_ascii (n % 10) ∷ [])) same
    ∙ ap (λ (d : ℕ). decimal_within steps (n / 10) ++ (d ∷ [])) (glyph_digit (n % 10) (omega arith))
    ∙ sym (choose_ge n 10 ((48 + n) ∷ []) (decimal_within steps (n / 10) ++ ((48 + n % 10) ∷ [])) (omega arith))

pub digits_decimal : (n k : ℕ) → IsDigitCount 10 1 n k → last_digits 10 k n ≡ decimal n
unfolding decimal
digits_decimal n zero f = absurd (omega (arith, f.0))
digits_decimal n (suc j) f = digits_within j (suc n) n (omega arith) f.1 (λ p. rw (sub-one (suc j)) at (f.2 (omega arith)))

-- at most 20 digits for a number of 64 bits
pub fewest_short : (n k : ℕ) → n < 2 ^ 64 → IsDigitCount 10 1 n k → k ≤ 20
fewest_short n k h f =
    by_lt k 21
    (λ p. omega arith)
    (λ p.
    let low : 10 ^ (k - 1) ≤ n = f.2 (omega arith) in
    let far : 20 ≤ k - 1 = omega arith in
    let base : 0 < 10 = omega arith in
    let more : 10 ^ 20 ≤ 10 ^ (k - 1) = pow-le-pow_right base far in
    absurd (omega arith))
