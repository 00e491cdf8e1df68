-- What the code's masks and shifts compute, at any place and width: s is the shift of a field, k its width. Assumes nothing.
use mathlib.Core.Path.{◌≡◌, sym, ap, ap₂, ◌∙◌}
use Prim.Native.Nat.{ℕ, ◌+◌, ◌-◌, ◌*◌, ◌/◌, ◌%◌, ◌^◌, ◌≤◌, ◌<◌}
use native.Mathlib.Nat.{mod-lt, mod-eq_of_lt, add-mod-mod, lt_of_lt_of_le}
use native.Mathlib.Omega.{arith}
use lib.Pow.{pow_pos, pow-lt, pow_mono, split, mod-mod-pow, shr_mod, shl_lt, shl_exact, ones_lt, ones_split, high}
use lib.Bits.{bit_and, bit_or, and_mask, mask_lt, and_block, or_block, or_zero_r, or_shifted_r}
use Rattle.word.specs.rules.Word.{field, put_field, add_field, leaf_bits}
use Rattle.word.proofs.laws.Leaf.{leaf_shl}

-- `1 << k` is 2 ^ k
pub one_shl : (k : ℕ) → k < 64 → (1 * 2 ^ k) % 2 ^ 64 ≡ 2 ^ k
one_shl k h = let l : 2 ^ k < 2 ^ 64 = pow-lt h in mod-eq_of_lt (omega arith) ∙ omega arith

-- the mask of a field, shifted to its place, loses nothing
mask_shl : (s k : ℕ) → k + s ≤ 64 → ((2 ^ k - 1) * 2 ^ s) % 2 ^ 64 ≡ (2 ^ k - 1) * 2 ^ s
mask_shl s k h = shl_exact k s 64 (ones_lt k) h

-- all but the field: the bits above it, and those below
not_mask : (j s k : ℕ) → (2 ^ (j + (k + s)) - 1) - (2 ^ k - 1) * 2 ^ s ≡ (2 ^ j - 1) * 2 ^ (k + s) + (2 ^ s - 1)
not_mask j s k = rw (ones_split j (k + s), ones_split k s) (less ((2 ^ j - 1) * 2 ^ (k + s)) ((2 ^ k - 1) * 2 ^ s) (2 ^ s - 1))
  where
    less : (a m r : ℕ) → (a + (m + r)) - m ≡ a + r
    less a m r = omega arith

-- `w & !mask` clears the field
and_not : (n s k w : ℕ) → k + s ≤ n → w < 2 ^ n → bit_and w ((2 ^ n - 1) - (2 ^ k - 1) * 2 ^ s) ≡ put_field s k 0 w
unfolding put_field
and_not n s k w h hw =
    let j : ℕ = n - (k + s) in
    let d : j + (k + s) ≡ n = omega arith in
    ap (λ (m : ℕ). bit_and w ((2 ^ m - 1) - (2 ^ k - 1) * 2 ^ s)) (sym d)
    ∙ ap₂ bit_and (sym (split w (k + s))) (not_mask j s k)
    ∙ and_block (k + s) (w / 2 ^ (k + s)) (2 ^ j - 1) (w % 2 ^ (k + s)) (2 ^ s - 1)
    (mod-lt w (pow_pos (k + s))) (lt_of_lt_of_le (ones_lt s) (pow_mono (omega arith)))
    ∙ ap₂ (λ (a b : ℕ). a * 2 ^ (k + s) + b)
    (and_mask (w / 2 ^ (k + s)) j ∙ shr_mod j (k + s) (rw d hw)) (and_mask (w % 2 ^ (k + s)) s ∙ mod-mod-pow w k s)
    ∙ omega arith

-- and `| v << s` puts v there
or_put : (s k v w : ℕ) → v < 2 ^ k → bit_or (put_field s k 0 w) (v * 2 ^ s) ≡ put_field s k v w
unfolding put_field
or_put s k v w hv =
    let q : ℕ = w / 2 ^ (k + s) in
    let r : ℕ = w % 2 ^ s in
    let l : q * 2 ^ (k + s) + (0 * 2 ^ s + r) ≡ q * 2 ^ (k + s) + r = omega arith in
    let m : v * 2 ^ s ≡ 0 * 2 ^ (k + s) + v * 2 ^ s = omega arith in
    ap₂ bit_or l m
    ∙ or_block (k + s) q 0 r (v * 2 ^ s) (lt_of_lt_of_le (mod-lt w (pow_pos s)) (pow_mono (omega arith))) (shl_lt k s hv)
    ∙ ap₂ (λ (a b : ℕ). a * 2 ^ (k + s) + b) (or_zero_r q) (or_shifted_r v s r (mod-lt w (pow_pos s)))

-- the whole of a masked add
pub added : (s k d w : ℕ) → k + s ≤ 64 → w < 2 ^ 64
    → bit_or (bit_and w ((2 ^ 64 - 1) - ((2 ^ k - 1) * 2 ^ s) % 2 ^ 64))
    ((bit_and (bit_and (w / 2 ^ s) (2 ^ k - 1) + bit_and d (2 ^ k - 1)) (2 ^ k - 1) * 2 ^ s) % 2 ^ 64) ≡ add_field s k d w
unfolding add_field field
added s k d w h hw =
    let x : ℕ = bit_and (w / 2 ^ s) (2 ^ k - 1) + bit_and d (2 ^ k - 1) in
    ap₂ bit_or (ap (λ (m : ℕ). bit_and w ((2 ^ 64 - 1) - m)) (mask_shl s k h) ∙ and_not 64 s k w h hw) (shl_exact k s 64 (mask_lt x k) h)
    ∙ or_put s k (bit_and x (2 ^ k - 1)) w (mask_lt x k)
    ∙ ap (λ (n : ℕ). put_field s k n w)
    (and_mask x k ∙ ap₂ (λ (m n : ℕ). (m + n) % 2 ^ k) (and_mask (w / 2 ^ s) k) (and_mask d k) ∙ add-mod-mod (w / 2 ^ s % 2 ^ k) d (2 ^ k))

-- `u64::MAX >> (64 - k)` is k ones, also at 64
max_shr : (k : ℕ) → k ≤ 64 → (2 ^ 64 - 1) / 2 ^ (64 - k) ≡ 2 ^ k - 1
max_shr k h =
    let d : k + (64 - k) ≡ 64 = omega arith in
    ap (λ (n : ℕ). (2 ^ n - 1) / 2 ^ (64 - k)) (sym d)
    ∙ ap (λ (n : ℕ). n / 2 ^ (64 - k)) (ones_split k (64 - k))
    ∙ high (2 ^ k - 1) (64 - k) (ones_lt (64 - k))

-- as many ones as there are wanted bits, shifted left by `low`, are those bits
ones_made : (low high : ℕ) → low < high → high ≤ 64 → ((2 ^ (high - low) - 1) * 2 ^ low) % 2 ^ 64 ≡ leaf_bits low high
ones_made low high h g = mask_shl low (high - low) (omega arith) ∙ sym (leaf_shl low high)

-- so `u64::MAX >> (64 - (high - low))` shifted left by `low` gives them
pub leaf_made : (low high : ℕ) → low < high → high ≤ 64 → ((2 ^ 64 - 1) / 2 ^ (64 - (high - low)) * 2 ^ low) % 2 ^ 64 ≡ leaf_bits low high
leaf_made low high h g = ap (λ (n : ℕ). (n * 2 ^ low) % 2 ^ 64) (max_shr (high - low) (omega arith)) ∙ ones_made low high h g
