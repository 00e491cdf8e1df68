-- How many levels above the leaves two units lie in one node, from the highest bit in which their leaves' places differ. Its laws: proofs/laws/Rise.antt. Assumes nothing.
use Prim.Native.Nat.{ℕ, ◌-◌, ◌/◌}
use Rattle.std.specs.Int.Bits.{bit_xor}
use Rattle.std.specs.Int.Count.{count_leading_zeros}

unfoldable pub rise : ℕ → ℕ → ℕ
rise l u = (65 - count_leading_zeros 64 (bit_xor (l / 64) (u / 64))) / 2
