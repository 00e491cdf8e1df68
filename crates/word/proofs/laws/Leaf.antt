-- Laws of the wanted bits of a leaf: which bits they are. Assumes nothing.
use Rattle.std.specs.Prelude.{◌≡◌, ◌↔◌, ℕ, ◌+◌, ◌-◌, ◌*◌, ◌%◌, ◌^◌, ◌≤◌, ◌<◌}
use Rattle.std.proofs.Math.Path.{sym, ap}
use Rattle.std.proofs.Common.{◌∙◌, pow_mono}
use Rattle.std.proofs.Math.Nat.{mul-mod_left, zero-mod, lt_of_lt_of_le}
use native.Mathlib.Omega.{arith}
use Rattle.std.proofs.Math.Pow.{pow_pos, high_ones}
use Rattle.std.proofs.lemmas.Nat.{shl-shr}
use Rattle.base.specs.laws.ChoiceLaws.{by_lt}
use Rattle.word.specs.rules.Word.{bit, leaf_bits, wanted_bits, PartBits}
use Rattle.word.proofs.laws.Fields.{below}
use Rattle.word.proofs.laws.Bits.{bit_same, bit_zero, bit_high, bit_ones, bit_shr, bits_ext}

-- ---- the bits low up to high, high not among them; none where high is not above low

module _ (low high : ℕ) where
  -- as many ones, shifted to their place
  pub leaf_shl : leaf_bits low high ≡ (2 ^ (high - low) - 1) * 2 ^ low
  unfolding leaf_bits
  leaf_shl = by_lt high low none (λ h. ap (λ (n : ℕ). 2 ^ n - 2 ^ low) (sym (up h)) ∙ high_ones (high - low) low)
    where
      up : low ≤ high → (high - low) + low ≡ high
      up h = omega arith

      none : high < low → 2 ^ high - 2 ^ low ≡ (2 ^ (high - low) - 1) * 2 ^ low
      none h =
          let d : high - low ≡ 0 = omega arith in
          let m : 2 ^ high ≤ 2 ^ low = pow_mono (omega arith) in
          rw d (omega arith)

  leaf_lt_pow : leaf_bits low high < 2 ^ high
  unfolding leaf_bits
  leaf_lt_pow = omega (arith, pow_pos low, pow_pos high)

  leaf_inside : (b : ℕ) → low ≤ b → b < high → bit b (leaf_bits low high) ≡ 1
  leaf_inside b h l =
      ap (bit b) leaf_shl ∙ bit_shr low b _ h ∙ ap (bit (b - low)) (shl-shr (2 ^ (high - low) - 1) low) ∙ bit_ones (high - low) (b - low) (omega arith)

  leaf_below : (b : ℕ) → b < low → bit b (leaf_bits low high) ≡ 0
  unfolding bit
  leaf_below b h =
      let none : leaf_bits low high % 2 ^ low ≡ 0 % 2 ^ low =
      ap (λ (n : ℕ). n % 2 ^ low) leaf_shl ∙ mul-mod_left (2 ^ (high - low) - 1) (2 ^ low) ∙ sym (zero-mod (2 ^ low)) in
      below (leaf_bits low high) 0 low b 1 (omega arith) none ∙ bit_zero b

  leaf_exactly : (b : ℕ) → (bit b (leaf_bits low high) ≡ 1) ↔ ((low ≤ b) × (b < high))
  leaf_exactly b = (
    λ e. (
      by_lt b low (λ h. absurd (omega (arith, leaf_below b h))) (λ h. h),
      by_lt b high (λ h. h) (λ h. absurd (omega (arith, bit_high high b _ leaf_lt_pow h))),
    ),
    λ i. leaf_inside b i.0 i.1,
  )

-- ---- the wanted bits of the leaf whose first unit is `edge`, for any window [l, r)

module _ (edge l r : ℕ) where
  -- "Bit b is set exactly when unit b is in the part."
  pub wanted_exactly : PartBits edge l r (wanted_bits edge l r)
  unfolding wanted_bits
  wanted_exactly b h =
      (λ e. let i = (leaf_exactly _ _ b).0 e in (omega (arith, i.0), omega (arith, i.1)), λ i. (leaf_exactly _ _ b).1 (omega (arith, i.0), omega (arith, i.1)))

  pub wanted_lt : wanted_bits edge l r < 2 ^ 64
  unfolding wanted_bits
  wanted_lt = lt_of_lt_of_le (leaf_lt_pow _ _) (pow_mono {j = 64} (omega arith))

  -- and of no other word of 64 bits is it so
  pub wanted_only : (w : ℕ) → w < 2 ^ 64 → PartBits edge l r w → w ≡ wanted_bits edge l r
  wanted_only w hw part = bits_ext 64 w _ hw wanted_lt (λ b h. bit_same b w _ (part b h) (wanted_exactly b h))
