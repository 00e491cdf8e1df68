-- Laws of `little`: a number of bytes by its two halves, and its bound. Assumes nothing.
use Rattle.std.specs.Prelude.{◌≡◌, List, get_or}
use Rattle.std.proofs.Common.{sym, add-zero, zero-add, suc-add}
use Prim.Native.Nat.{ℕ, zero, suc, ◌+◌, ◌*◌, ◌^◌, ◌≤◌, ◌<◌}
use Rattle.std.proofs.Math.Nat.{add-suc, mul_assoc, pow-succ', pow-le-pow_right}
use Rattle.std.proofs.Math.Numerals.{add-one}
use native.Mathlib.Omega.{arith}
use Rattle.schedule.specs.rules.Format.{little}

module _ (bytes : List ℕ) where
  -- the low m bytes, and the others above them
  pub little_split : (m n i : ℕ) → little (m + n) bytes i ≡ little m bytes i + 256 ^ m * little n bytes (i + m)
  unfolding little
  little_split zero n i = rw (zero-add, add-zero) (omega arith)
  little_split (suc m) n i =
      let above = little n bytes (suc (i + m)) in
      let rest : little (m + n) bytes (suc i) ≡ little m bytes (suc i) + 256 ^ m * above = rw (suc-add i m) at (little_split m n (suc i)) in
      let power : 256 ^ suc m * above ≡ 256 * (256 ^ m * above) = rw (pow-succ' 256 m, mul_assoc 256 (256 ^ m) above) in
      rw (suc-add m n, add-suc i m) (omega arith)

  pub little_two : (i : ℕ) → get_or bytes i 0 + 256 * get_or bytes (i + 1) 0 ≡ little 2 bytes i
  unfolding little
  little_two i = rw add-one (omega arith)

  pub little_four : (i : ℕ) → little 2 bytes i + 65536 * little 2 bytes (i + 2) ≡ little 4 bytes i
  little_four i = sym (little_split 2 2 i)

  pub little_eight : (i : ℕ) → little 4 bytes i + 4294967296 * little 4 bytes (i + 4) ≡ little 8 bytes i
  little_eight i = sym (little_split 4 4 i)

  -- one byte more, below those that are read
  pub little_next : (n m i j : ℕ) → m ≡ suc n → j ≡ suc i → 256 * little n bytes j + get_or bytes i 0 ≡ little m bytes i
  unfolding little
  little_next n m i j e f = rw (e, f) (omega arith)

  -- bytes are below 256
  pub little_below : ((j : ℕ) → get_or bytes j 0 < 256) → (k i : ℕ) → little k bytes i < 256 ^ k
  unfolding little
  little_below small zero i = omega arith
  little_below small (suc k) i =
      let rest = little_below small k (suc i) in
      rw (pow-succ' 256 k) (omega (arith, small i))

  -- seven bytes, and one more below them, fit 64 bits
  pub little_fits : ((j : ℕ) → get_or bytes j 0 < 256) → (k i : ℕ) → k ≤ 7 → 256 * little k bytes i + 255 < 2 ^ 64
  little_fits small k i h =
      let base : 0 < 256 = omega arith in
      let most : 256 ^ k ≤ 256 ^ 7 = pow-le-pow_right base h in
      omega (arith, little_below small k i)
