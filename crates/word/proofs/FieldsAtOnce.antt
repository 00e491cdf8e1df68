-- The masked add of a whole packed word at once: `((w & lows) + (d & lows)) ^ ((w ^ d) & tops)`, where tops has the top bit of every field and
-- lows all the others. Assumes nothing.
use mathlib.Core.Path.{◌≡◌, sym, ap, ap₂, ◌∙◌, subst}
use mathlib.Core.Bool.{Bool}
use mathlib.Core.List.{List, [], ◌∷◌}
use Prim.Native.Nat.{ℕ, suc, ◌+◌, ◌-◌, ◌*◌, ◌/◌, ◌%◌, ◌^◌, ◌≤◌, ◌<◌}
use native.Mathlib.Nat.{mod-lt, mod-eq_of_lt, lt_of_lt_of_le, le_of_eq, add-mod, add_comm, pow-suc}
use native.Mathlib.Numerals.{one-add}
use native.Mathlib.Omega.{arith}
use lib.Pow.{pow_pos, pow_mono, split, high, low, shr_lt, mod-pow-add, ones_lt, add-lt-pow}
use lib.Bits.{bit_and, bit_xor, and_mask, and_block, xor_block, and_zero_r, xor_zero_r, and_lt, xor_lt}
use lib.Dec.{T, eqb, eqb→eq}
use Rattle.base.specs.laws.Every.{every, every_at}
use Rattle.word.specs.rules.Word.{add_fields}
use Rattle.word.proofs.laws.AddFields.{sum}

-- the top bit of each field, and the bits below it; a field has at least one bit, and j is its width less one
unfoldable pub tops : List ℕ → ℕ
tops [] = 0
tops (j ∷ js) = tops js * 2 ^ suc j + 2 ^ j

unfoldable pub lows : List ℕ → ℕ
lows [] = 0
lows (j ∷ js) = lows js * 2 ^ suc j + (2 ^ j - 1)

unfoldable pub widths : List ℕ → List ℕ
widths [] = []
widths (j ∷ js) = suc j ∷ widths js

-- three digits, by a table
same : ℕ → ℕ → ℕ → Bool
same c p q = eqb (bit_xor c (bit_xor p q)) ((p + q + c) % 2)

xor_digits : (c p q : ℕ) → c < 2 → p < 2 → q < 2 → bit_xor c (bit_xor p q) ≡ (p + q + c) % 2
unfolding every same
xor_digits c p q hc hp hq =
    let all_q : T (every 2 0 (λ p. every 2 0 (same c p))) = every_at 2 0 (λ c. every 2 0 (λ p. every 2 0 (same c p))) tt c (omega arith) hc in
    eqb→eq _ _ (every_at 2 0 (same c p) (every_at 2 0 (λ p. every 2 0 (same c p)) all_q p (omega arith) hp) q (omega arith) hq)

-- one field: its top bit is the `^` of the two top bits and of the carry into it
module _ (j x y : ℕ) (hx : x < 2 ^ suc j) (hy : y < 2 ^ suc j) where
  one_field : bit_xor (x % 2 ^ j + y % 2 ^ j) (bit_and (bit_xor x y) (2 ^ j)) ≡ (x + y) % 2 ^ suc j
  one_field =
      let p : ℕ = x / 2 ^ j in
      let q : ℕ = y / 2 ^ j in
      let a : ℕ = x % 2 ^ j in
      let b : ℕ = y % 2 ^ j in
      let c : ℕ = (a + b) / 2 ^ j in
      let s : ℕ = (a + b) % 2 ^ j in
      let ha : a < 2 ^ j = mod-lt x (pow_pos j) in
      let hb : b < 2 ^ j = mod-lt y (pow_pos j) in
      let hs : s < 2 ^ j = mod-lt (a + b) (pow_pos j) in
      let e : suc j ≡ 1 + j = sym (one-add j) in
      let hp : p < 2 = shr_lt 1 j (subst (λ (n : ℕ). x < 2 ^ n) e hx) in
      let hq : q < 2 = shr_lt 1 j (subst (λ (n : ℕ). y < 2 ^ n) e hy) in
      let hc : c < 2 = shr_lt 1 j (subst (λ (n : ℕ). a + b < 2 ^ n) e (add-lt-pow j ha hb)) in
      let top : 2 ^ j ≡ 1 * 2 ^ j + 0 = omega arith in
      let tail : bit_and (bit_xor x y) (2 ^ j) ≡ bit_xor p q * 2 ^ j + 0 =
      ap₂ bit_and (ap₂ bit_xor (sym (split x j)) (sym (split y j)) ∙ xor_block j p q a b ha hb) top
      ∙ and_block j (bit_xor p q) 1 (bit_xor a b) 0 (xor_lt j a b ha hb) (pow_pos j)
      ∙ ap₂ (λ (m n : ℕ). m * 2 ^ j + n) (and_mask (bit_xor p q) 1 ∙ mod-eq_of_lt (xor_lt 1 p q hp hq)) (and_zero_r (bit_xor a b)) in
      let both : x + y ≡ (p + q + c) * 2 ^ j + s =
      ap₂ (λ (m n : ℕ). m + n) (sym (split x j)) (sym (split y j)) ∙ gather p q a b c s (2 ^ j) (split (a + b) j) in
      ap₂ bit_xor (sym (split (a + b) j)) tail
      ∙ xor_block j c (bit_xor p q) s 0 hs (pow_pos j)
      ∙ ap₂ (λ (m n : ℕ). m * 2 ^ j + n) (xor_digits c p q hc hp hq) (xor_zero_r s)
      ∙ sym (ap₂ (λ (n m : ℕ). n % 2 ^ m) both e ∙ mod-pow-add _ 1 j ∙ ap₂ (λ (m n : ℕ). (m % 2) * 2 ^ j + n) (high (p + q + c) j hs) (low (p + q + c) j hs))
    where
      gather : (p q a b c s t : ℕ) → c * t + s ≡ a + b → (p * t + a) + (q * t + b) ≡ (p + q + c) * t + s
      gather p q a b c s t e = omega arith

-- all of them
pub fields_at_once : (js : List ℕ) (d w : ℕ) → w < 2 ^ sum (widths js) → bit_xor (bit_and w (lows js) + bit_and d (lows js)) (bit_and (bit_xor w d) (tops js)) ≡ add_fields (widths js) d w
unfolding tops lows widths add_fields
fields_at_once [] d w h = ap₂ bit_xor (ap₂ (λ (m n : ℕ). m + n) (and_zero_r w) (and_zero_r d)) (and_zero_r (bit_xor w d)) ∙ none_above w h
  where
    none_above : (w : ℕ) → w < 2 ^ 0 → 0 ≡ w
    none_above w h = omega arith
fields_at_once (j ∷ js) d w h =
    let k : ℕ = suc j in
    let x : ℕ = w % 2 ^ k in
    let y : ℕ = d % 2 ^ k in
    let w_above : ℕ = w / 2 ^ k in
    let d_above : ℕ = d / 2 ^ k in
    let hx : x < 2 ^ k = mod-lt w (pow_pos k) in
    let hy : y < 2 ^ k = mod-lt d (pow_pos k) in
    let up : j ≤ k = omega arith in
    let ho : 2 ^ j - 1 < 2 ^ k = lt_of_lt_of_le (ones_lt j) (pow_mono up) in
    let ht : 2 ^ j < 2 ^ k = lt_of_lt_of_le (under_double (2 ^ j) (pow_pos j)) (le_of_eq (sym (pow-suc 2 j))) in
    let part : (n : ℕ) → bit_and n (lows js * 2 ^ k + (2 ^ j - 1)) ≡ bit_and (n / 2 ^ k) (lows js) * 2 ^ k + n % 2 ^ k % 2 ^ j =
    λ n. ap (λ (m : ℕ). bit_and m (lows js * 2 ^ k + (2 ^ j - 1))) (sym (split n k))
    ∙ and_block k (n / 2 ^ k) (lows js) (n % 2 ^ k) (2 ^ j - 1) (mod-lt n (pow_pos k)) ho
    ∙ ap (λ (m : ℕ). bit_and (n / 2 ^ k) (lows js) * 2 ^ k + m) (and_mask (n % 2 ^ k) j) in
    let a : ℕ = bit_and w_above (lows js) in
    let b : ℕ = bit_and d_above (lows js) in
    let sums : bit_and w (lows js * 2 ^ k + (2 ^ j - 1)) + bit_and d (lows js * 2 ^ k + (2 ^ j - 1)) ≡ (a + b) * 2 ^ k + (x % 2 ^ j + y % 2 ^ j) =
    ap₂ (λ (m n : ℕ). m + n) (part w) (part d) ∙ regroup a b (x % 2 ^ j) (y % 2 ^ j) (2 ^ k) in
    let high_bits : bit_and (bit_xor w d) (tops js * 2 ^ k + 2 ^ j) ≡ bit_and (bit_xor w_above d_above) (tops js) * 2 ^ k + bit_and (bit_xor x y) (2 ^ j) =
    ap (λ (m : ℕ). bit_and m (tops js * 2 ^ k + 2 ^ j)) (ap₂ bit_xor (sym (split w k)) (sym (split d k)) ∙ xor_block k w_above d_above x y hx hy)
    ∙ and_block k (bit_xor w_above d_above) (tops js) (bit_xor x y) (2 ^ j) (xor_lt k x y hx hy) ht in
    ap₂ bit_xor sums high_bits
    ∙ xor_block k (a + b) (bit_and (bit_xor w_above d_above) (tops js)) (x % 2 ^ j + y % 2 ^ j) (bit_and (bit_xor x y) (2 ^ j))
    (add-lt-pow j (mod-lt x (pow_pos j)) (mod-lt y (pow_pos j))) (and_lt k (bit_xor x y) (2 ^ j) (xor_lt k x y hx hy) ht)
    ∙ ap₂ (λ (m n : ℕ). m * 2 ^ k + n) (fields_at_once js d_above w_above (shr_lt (sum (widths js)) k (subst (λ (n : ℕ). w < 2 ^ n) (add_comm k (sum (widths js))) h))) (one_field j x y hx hy ∙ sym (add-mod w d (2 ^ k)))
  where
    under_double : (p : ℕ) → 0 < p → p < p * 2
    under_double p h = omega arith

    regroup : (a b m n p : ℕ) → (a * p + m) + (b * p + n) ≡ (a + b) * p + (m + n)
    regroup a b m n p = omega arith
