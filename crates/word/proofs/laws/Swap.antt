-- Laws of the masked compare-and-swap, bit by bit, and of the two by which a leaf's bits are taken and given back. Assumes nothing.
use Rattle.std.specs.Prelude.{◌≡◌, refl, true, false, ◌↔◌}
use Rattle.std.proofs.Math.Path.{sym, ap, ap₂}
use Rattle.std.proofs.Common.{◌∙◌, ⊎_elim, lt_of_le_of_lt, arith}
use Prim.Native.Nat.{ℕ, ◌-◌, ◌^◌, ◌<◌, min, max}
use borrow.Author.Tests.{eqb-true, eq-eqb}
use Rattle.std.specs.Int.Bits.{bit_and, or_lt}
use Rattle.std.proofs.lemmas.Nat.{and_le_r}
use Rattle.std.proofs.Math.Pow.{ones_sub-lt}
use Rattle.base.specs.rules.Choice.{choose}
use Rattle.base.specs.laws.ChoiceLaws.{on_choose}
use Rattle.word.specs.rules.Word.{bit, matches, replaced, masked_swap, take_bits, give_bits}
use Rattle.word.proofs.laws.Bits.{bit_lt, bit_cases, bit_zero, bits_ext, and_bit, or_bit, not_bit}

and_mask_lt : (x mask : ℕ) → mask < 2 ^ 64 → bit_and x mask < 2 ^ 64
and_mask_lt x mask h = lt_of_le_of_lt (and_le_r x mask) h

-- ---- "compares .. only the bits under its masks"

module _ (mask expected w : ℕ) (h : mask < 2 ^ 64) where
  pub matches_bits : (matches mask expected w ≡ true) ↔ ((b : ℕ) → b < 64 → bit b mask ≡ 1 → bit b w ≡ bit b expected)
  unfolding matches
  matches_bits = (
    λ t b l. one b (eqb-true _ _ t),
    λ e. eq-eqb _ _ (bits_ext 64 _ _ (and_mask_lt w mask h) (and_mask_lt expected mask h) (all e)),
  )
    where
      one : (b : ℕ) → bit_and w mask ≡ bit_and expected mask → bit b mask ≡ 1 → bit b w ≡ bit b expected
      one b e m = omega (arith, and_bit b w mask, ap (bit b) e, and_bit b expected mask, bit_lt b w, bit_lt b expected)

      all : ((b : ℕ) → b < 64 → bit b mask ≡ 1 → bit b w ≡ bit b expected)
          → (b : ℕ) → b < 64 → bit b (bit_and w mask) ≡ bit b (bit_and expected mask)
      all e b l =
          let p = and_bit b w mask in
          let q = and_bit b expected mask in
          ⊎_elim (λ z. omega arith) (λ o. omega (arith, e b l o)) (bit_cases b mask)

-- ---- "sets only the bits under its masks"

module _ (mask value w : ℕ) (h : mask < 2 ^ 64) where
  replaced_bit : (b : ℕ) → b < 64 → bit b (replaced mask value w) ≡ max (min (bit b w) (1 - bit b mask)) (min (bit b value) (bit b mask))
  unfolding replaced
  replaced_bit b l = or_bit b _ _ ∙ ap₂ max (and_bit b w (2 ^ 64 - 1 - mask) ∙ ap (min (bit b w)) (not_bit 64 b mask l h)) (and_bit b value mask)

  pub replaced_under : (b : ℕ) → b < 64 → bit b mask ≡ 1 → bit b (replaced mask value w) ≡ bit b value
  replaced_under b l m = omega (arith, replaced_bit b l, bit_lt b value)

  pub replaced_outside : (b : ℕ) → b < 64 → bit b mask ≡ 0 → bit b (replaced mask value w) ≡ bit b w
  replaced_outside b l m = omega (arith, replaced_bit b l, bit_lt b w)

  pub replaced_lt : replaced mask value w < 2 ^ 64
  unfolding replaced
  replaced_lt = or_lt 64 _ _ (and_mask_lt w (2 ^ 64 - 1 - mask) (ones_sub-lt 64 mask)) (and_mask_lt value mask h)

-- ---- the whole of it

module _ (compared expected swapped value w : ℕ) where
  pub swap_done : matches compared expected w ≡ true
      → record { done = true; word = replaced swapped value w } ≡ masked_swap compared expected swapped value w
  unfolding masked_swap choose
  swap_done t = sym (rw t)

  pub swap_failed : matches compared expected w ≡ false
      → record { done = false; word = w } ≡ masked_swap compared expected swapped value w
  unfolding masked_swap choose
  swap_failed t = sym (rw t)

-- ---- one mask for both

module _ (mask expected value w : ℕ) (h : mask < 2 ^ 64) where
  swap_under : (masked_swap mask expected mask value w).done ≡ true
      → (b : ℕ) → b < 64 → bit b mask ≡ 1 → bit b (masked_swap mask expected mask value w).word ≡ bit b value
  unfolding masked_swap choose
  swap_under t b l m = ap (λ s. bit b (choose s (replaced mask value w) w)) t ∙ replaced_under mask value w h b l m

  swap_outside : (b : ℕ) → b < 64 → bit b mask ≡ 0 → bit b (masked_swap mask expected mask value w).word ≡ bit b w
  unfolding masked_swap
  swap_outside b l m =
      on_choose (λ (n : ℕ). bit b n ≡ bit b w) (matches mask expected w) _ _ (λ _. replaced_outside mask value w h b l m) (λ _. refl)

  swap_kept : (masked_swap mask expected mask value w).done ≡ false → (masked_swap mask expected mask value w).word ≡ w
  unfolding masked_swap choose
  swap_kept t = ap (λ s. choose s (replaced mask value w) w) t

  swap_lt : w < 2 ^ 64 → (masked_swap mask expected mask value w).word < 2 ^ 64
  unfolding masked_swap
  swap_lt hw = on_choose (λ (n : ℕ). n < 2 ^ 64) (matches mask expected w) _ _ (λ _. replaced_lt mask value w h) (λ _. hw)

-- ---- taking a leaf's bits, "from all 0 to all 1", and giving them back, "from all 1 to all 0"

module _ (bits w : ℕ) (h : bits < 2 ^ 64) where
  -- done exactly where they were all 0
  pub take_done : ((take_bits bits w).done ≡ true) ↔ ((b : ℕ) → b < 64 → bit b bits ≡ 1 → bit b w ≡ 0)
  unfolding take_bits masked_swap
  take_done = (
    λ t b l m. (matches_bits bits 0 w h).0 t b l m ∙ bit_zero b,
    λ e. (matches_bits bits 0 w h).1 (λ b l m. e b l m ∙ sym (bit_zero b)),
  )

  pub take_inside : (take_bits bits w).done ≡ true → (b : ℕ) → b < 64 → bit b bits ≡ 1 → bit b (take_bits bits w).word ≡ 1
  unfolding take_bits
  take_inside t b l m = swap_under bits 0 bits w h t b l m ∙ m

  pub take_outside : (b : ℕ) → b < 64 → bit b bits ≡ 0 → bit b (take_bits bits w).word ≡ bit b w
  unfolding take_bits
  take_outside = swap_outside bits 0 bits w h

  pub take_failed : (take_bits bits w).done ≡ false → (take_bits bits w).word ≡ w
  unfolding take_bits
  take_failed = swap_kept bits 0 bits w h

  pub take_lt : w < 2 ^ 64 → (take_bits bits w).word < 2 ^ 64
  unfolding take_bits
  take_lt = swap_lt bits 0 bits w h

  -- done exactly where they were all 1
  pub give_done : ((give_bits bits w).done ≡ true) ↔ ((b : ℕ) → b < 64 → bit b bits ≡ 1 → bit b w ≡ 1)
  unfolding give_bits masked_swap
  give_done = (
    λ t b l m. (matches_bits bits bits w h).0 t b l m ∙ m,
    λ e. (matches_bits bits bits w h).1 (λ b l m. e b l m ∙ sym m),
  )

  pub give_inside : (give_bits bits w).done ≡ true → (b : ℕ) → b < 64 → bit b bits ≡ 1 → bit b (give_bits bits w).word ≡ 0
  unfolding give_bits
  give_inside t b l m = swap_under bits bits 0 w h t b l m ∙ bit_zero b

  pub give_outside : (b : ℕ) → b < 64 → bit b bits ≡ 0 → bit b (give_bits bits w).word ≡ bit b w
  unfolding give_bits
  give_outside = swap_outside bits bits 0 w h

  pub give_failed : (give_bits bits w).done ≡ false → (give_bits bits w).word ≡ w
  unfolding give_bits
  give_failed = swap_kept bits bits 0 w h

  pub give_lt : w < 2 ^ 64 → (give_bits bits w).word < 2 ^ 64
  unfolding give_bits
  give_lt = swap_lt bits bits 0 w h
