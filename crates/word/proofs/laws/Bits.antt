-- Laws of the bits of a word: which there are, that a word is its bits, and what `&`, `|` and `!` do to bit b. Assumes nothing.
use Rattle.std.specs.Prelude.{◌≡◌, refl, ◌⊎◌, ◌↔◌, ℕ, zero, suc, ◌+◌, ◌-◌, ◌*◌, ◌/◌, ◌%◌, ◌^◌, ◌≤◌, ◌<◌, min, max}
use Rattle.std.proofs.Common.{sym, ap, ap₂, ◌∙◌, subst, inl, inr, ⊎_elim, mod-lt, div-add-mod', div-one, lt_of_lt_of_le, add-one, one-add, arith, lit<, pow_pos, pow-add, pow_mono, shr_lt, shr-shr}
use Rattle.std.proofs.Math.Nat.{zero-div, div-eq_of_lt}
use Rattle.std.proofs.Math.Arith.{digits_mod, lt-one}
use Rattle.std.specs.Int.Bits.{bit_and, bit_or, and_step, or_step}
use Rattle.std.proofs.lemmas.Nat.{and_shr, or_shr}
use Rattle.std.proofs.Math.Pow.{split, high, low, ones_lt, ones_split}
use Rattle.word.specs.rules.Word.{bit}

pub bit_lt : (b w : ℕ) → bit b w < 2
unfolding bit
bit_lt b w = mod-lt _ (lit< tt)

pub bit_cases : (b w : ℕ) → (bit b w ≡ 0) ⊎ (bit b w ≡ 1)
bit_cases b w = digit (bit b w) (bit_lt b w)
  where
    digit : (n : ℕ) → n < 2 → (n ≡ 0) ⊎ (n ≡ 1)
    digit zero h = inl refl
    digit (suc zero) h = inr refl
    digit (suc (suc n)) h = absurd (omega arith)

pub bit_clear : (b w : ℕ) → (bit b w ≡ 1 → ⊥) → bit b w ≡ 0
bit_clear b w f = ⊎_elim (λ z. z) (λ o. absurd (f o)) (bit_cases b w)

-- two bits that are set under the same condition are equal
pub bit_same : {P : Type 0} (b x y : ℕ) → (bit b x ≡ 1) ↔ P → (bit b y ≡ 1) ↔ P → bit b x ≡ bit b y
bit_same b x y p q = ⊎_elim (λ z. z ∙ sym (bit_clear b y (λ o. omega (arith, p.1 (q.0 o))))) (λ o. o ∙ sym (q.1 (p.0 o))) (bit_cases b x)

-- ---- words whose bits are known

pub bit_zero : (b : ℕ) → bit b 0 ≡ 0
unfolding bit
bit_zero b = ap (λ (n : ℕ). n % 2) (zero-div (2 ^ b))

-- a word of n bits has no bit from n up
pub bit_high : (n b w : ℕ) → w < 2 ^ n → n ≤ b → bit b w ≡ 0
unfolding bit
bit_high n b w hw h = ap (λ (m : ℕ). m % 2) (div-eq_of_lt (lt_of_lt_of_le hw (pow_mono h)))

-- every bit of 2 ^ k - 1 below k is set
pub bit_ones : (k b : ℕ) → b < k → bit b (2 ^ k - 1) ≡ 1
unfolding bit
bit_ones k b h =
    let d : (k - suc b) + (1 + b) ≡ k = omega arith in
    let e : 2 ^ k - 1 ≡ ((2 ^ (k - suc b) - 1) * 2 ^ 1 + 1) * 2 ^ b + (2 ^ b - 1) =
    subst (λ (n : ℕ). 2 ^ n - 1 ≡ ((2 ^ (k - suc b) - 1) * 2 ^ 1 + 1) * 2 ^ b + (2 ^ b - 1)) d
    (ones_split (k - suc b) (1 + b) ∙ rw (pow-add 2 1 b) (digits (2 ^ (k - suc b) - 1) (2 ^ b) (pow_pos b))) in
    ap (λ (n : ℕ). n / 2 ^ b % 2) e ∙ ap (λ (n : ℕ). n % 2) (high _ b (ones_lt b)) ∙ low (2 ^ (k - suc b) - 1) 1 (lit< tt)
  where
    digits : (x p : ℕ) → 0 < p → x * (2 * p) + (2 * p - 1) ≡ (x * 2 + 1) * p + (p - 1)
    digits x p h = omega arith

-- a bit from s up is a bit of the word shifted right by s
pub bit_shr : (s b w : ℕ) → s ≤ b → bit b w ≡ bit (b - s) (w / 2 ^ s)
unfolding bit
bit_shr s b w h =
    let d : s + (b - s) ≡ b = omega arith in
    subst (λ (n : ℕ). w / 2 ^ n % 2 ≡ w / 2 ^ s / 2 ^ (b - s) % 2) d (ap (λ (n : ℕ). n % 2) (sym (shr-shr w s (b - s))))

-- two words of n bits are equal where their bits are
pub bits_ext : (n x y : ℕ) → x < 2 ^ n → y < 2 ^ n → ((b : ℕ) → b < n → bit b x ≡ bit b y) → x ≡ y
unfolding bit
bits_ext zero x y hx hy e = lt-one hx ∙ sym (lt-one hy)
bits_ext (suc n) x y hx hy e =
    let upper : x / 2 ≡ y / 2 = bits_ext n (x / 2) (y / 2) (shr_lt n 1 (rw add-one hx)) (shr_lt n 1 (rw add-one hy)) up in
    let lowest : x % 2 ≡ y % 2 = sym (ap (λ (m : ℕ). m % 2) (div-one x)) ∙ e zero (omega arith) ∙ ap (λ (m : ℕ). m % 2) (div-one y) in
    sym (div-add-mod' x 2) ∙ ap₂ (λ (q r : ℕ). q * 2 + r) upper lowest ∙ div-add-mod' y 2
  where
    half : (m b : ℕ) → m / 2 / 2 ^ b % 2 ≡ m / 2 ^ suc b % 2
    half m b = ap (λ (k : ℕ). k % 2) (shr-shr m 1 b ∙ ap (λ (k : ℕ). m / 2 ^ k) (one-add b))

    up : (b : ℕ) → b < n → bit b (x / 2) ≡ bit b (y / 2)
    up b h = half x b ∙ e (suc b) (omega arith) ∙ sym (half y b)

-- ---- bit b of `x & y`, `x | y` and `!w`

pub and_bit : (b x y : ℕ) → bit b (bit_and x y) ≡ min (bit b x) (bit b y)
unfolding bit
and_bit b x y =
    let p : x / 2 ^ b % 2 < 2 = mod-lt _ (lit< tt) in
    ap (λ (n : ℕ). n % 2) (and_shr x y b ∙ and_step (x / 2 ^ b) (y / 2 ^ b)) ∙ digits_mod _ (omega arith)

pub or_bit : (b x y : ℕ) → bit b (bit_or x y) ≡ max (bit b x) (bit b y)
unfolding bit
or_bit b x y =
    let p : x / 2 ^ b % 2 < 2 = mod-lt _ (lit< tt) in
    let q : y / 2 ^ b % 2 < 2 = mod-lt _ (lit< tt) in
    ap (λ (n : ℕ). n % 2) (or_shr x y b ∙ or_step (x / 2 ^ b) (y / 2 ^ b)) ∙ digits_mod _ (omega arith)

-- `!w` shifted right by b, where w has j + 1 bits from b up
not_shr : (j b w : ℕ) → w < 2 ^ (suc j + b) → (2 ^ (suc j + b) - 1 - w) / 2 ^ b ≡ 2 ^ suc j - 1 - w / 2 ^ b
not_shr j b w hw =
    let e : 2 ^ (suc j + b) - 1 - w ≡ (2 ^ suc j - 1 - w / 2 ^ b) * 2 ^ b + (2 ^ b - 1 - w % 2 ^ b) =
    ap₂ (λ (m n : ℕ). m - 1 - n) (pow-add 2 (suc j) b) (sym (split w b))
    ∙ parts (2 ^ suc j) (2 ^ b) (w / 2 ^ b) (w % 2 ^ b) (2 ^ suc j - 1 - w / 2 ^ b) (room (2 ^ suc j) (w / 2 ^ b) (shr_lt (suc j) b hw)) (mod-lt w (pow_pos b)) in
    ap (λ (n : ℕ). n / 2 ^ b) e ∙ high _ b (low_lt (2 ^ b) (w % 2 ^ b) (pow_pos b))
  where
    room : (n q : ℕ) → q < n → n ≡ (n - 1 - q) + q + 1
    room n q h = omega arith

    low_lt : (p r : ℕ) → 0 < p → p - 1 - r < p
    low_lt p r h = omega arith

    parts : (n p q r t : ℕ) → n ≡ t + q + 1 → r < p → n * p - 1 - (q * p + r) ≡ t * p + (p - 1 - r)
    parts n p q r t e h = let f : n * p ≡ (t + q + 1) * p = ap (λ (x : ℕ). x * p) e in omega arith

pub not_bit : (n b w : ℕ) → b < n → w < 2 ^ n → bit b (2 ^ n - 1 - w) ≡ 1 - bit b w
unfolding bit
not_bit n b w h hw =
    let j : ℕ = n - suc b in
    let d : suc j + b ≡ n = omega arith in
    let g : w < 2 ^ (suc j + b) = subst (λ (m : ℕ). w < 2 ^ m) (sym d) hw in
    let q : w / 2 ^ b < 2 ^ suc j = shr_lt (suc j) b g in
    subst (λ (m : ℕ). (2 ^ m - 1 - w) / 2 ^ b % 2 ≡ 1 - w / 2 ^ b % 2) d
    (ap (λ (m : ℕ). m % 2) (not_shr j b w g) ∙ odd (2 ^ j) (2 ^ suc j) (w / 2 ^ b) (omega arith) q)
  where
    odd : (m n q : ℕ) → n ≡ 2 * m → q < n → (n - 1 - q) % 2 ≡ 1 - q % 2
    odd m n q e l = omega arith
