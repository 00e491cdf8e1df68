-- To be believed: the words of the tree as the numbers that they are, and what one access does to a word. Quotations are of document 01, if no other is named.
-- Assumes nothing.
use Rattle.std.specs.Prelude.{◌≡◌, ◌↔◌, Bool, true, false, Option, Some, None, List, [], ◌∷◌, ℕ, ◌+◌, ◌-◌, ◌*◌, ◌/◌, ◌%◌, ◌^◌, ◌≤◌, ◌<◌, min, max, eqb}
use Rattle.std.specs.Int.Bits.{bit_and, bit_or}
use Rattle.base.specs.rules.Choice.{choose}

-- ---- "Leaf word: bit b (0 is lowest) is unit b of the leaf."

unfoldable pub bit : ℕ → ℕ → ℕ
bit b w = w / 2 ^ b % 2

-- ---- a field: how many bits stand below it, and how many it has

-- a field of 1 to 63 bits that lies in a word of 64
pub record Place (shift width : ℕ) : Type 0 where
  pub some : 0 < width
  pub short : width < 64
  pub inside : width + shift ≤ 64

-- the number in the field
unfoldable pub field : ℕ → ℕ → ℕ → ℕ
field shift width w = w / 2 ^ shift % 2 ^ width

-- w with v in the field: the bits above it as they were, v, the bits below it as they were
unfoldable pub put_field : ℕ → ℕ → ℕ → ℕ → ℕ
put_field shift width v w = w / 2 ^ (width + shift) * 2 ^ (width + shift) + (v * 2 ^ shift + w % 2 ^ shift)

-- "A masked fetch-add adds within a field": w after delta is added there. The sum wraps, and no other bit changes.
unfoldable pub add_field : ℕ → ℕ → ℕ → ℕ → ℕ
add_field shift width delta w = put_field shift width ((field shift width w + delta) % 2 ^ width) w

-- ---- "Inner word, from bit 63 down: Exp 1 bit, Occ 1, TCnt 15, TMax 15, DCnt 16, DMax 16."

abbrev pub exp : ℕ → ℕ
exp = field 63 1

abbrev pub occ : ℕ → ℕ
occ = field 62 1

abbrev pub tcnt : ℕ → ℕ
tcnt = field 47 15

abbrev pub tmax : ℕ → ℕ
tmax = field 32 15

abbrev pub dcnt : ℕ → ℕ
dcnt = field 16 16

abbrev pub dmax : ℕ → ℕ
dmax = field 0 16

-- the masked fetch-adds, of a delta and a word; none of Exp, which "is kept as found and never consulted"
abbrev pub add_occ : ℕ → ℕ → ℕ
add_occ = add_field 62 1

abbrev pub add_tcnt : ℕ → ℕ → ℕ
add_tcnt = add_field 47 15

abbrev pub add_tmax : ℕ → ℕ → ℕ
add_tmax = add_field 32 15

abbrev pub add_dcnt : ℕ → ℕ → ℕ
add_dcnt = add_field 16 16

abbrev pub add_dmax : ℕ → ℕ → ℕ
add_dmax = add_field 0 16

-- the widths of the six fields, from the lowest up
abbrev pub layout : List ℕ
layout = 16 ∷ 16 ∷ 15 ∷ 15 ∷ 1 ∷ 1 ∷ []

-- every field of two words added: "each field wraps by itself and nothing is carried into its neighbour"; what stands above the fields stays
unfoldable pub add_fields : List ℕ → ℕ → ℕ → ℕ
add_fields [] deltas w = w
add_fields (width ∷ above) deltas w = add_fields above (deltas / 2 ^ width) (w / 2 ^ width) * 2 ^ width + (w + deltas) % 2 ^ width

-- the deltas of the six fields in one word, each where its field is
abbrev pub deltas : (in_exp in_occ in_tcnt in_tmax in_dcnt in_dmax : ℕ) → ℕ
deltas in_exp in_occ in_tcnt in_tmax in_dcnt in_dmax = in_exp * 2 ^ 63 + (in_occ * 2 ^ 62 + (in_tcnt * 2 ^ 47 + (in_tmax * 2 ^ 32 + (in_dcnt * 2 ^ 16 + in_dmax))))

-- ---- "A masked compare-and-swap compares and sets only the bits under its masks."

unfoldable pub matches : ℕ → ℕ → ℕ → Bool
matches mask expected w = eqb (bit_and w mask) (bit_and expected mask)

unfoldable pub replaced : ℕ → ℕ → ℕ → ℕ
replaced mask value w = bit_or (bit_and w (2 ^ 64 - 1 - mask)) (bit_and value mask)

-- whether it was done, and the word that it leaves
pub record Swap : Type 0 where
  pub done : Bool
  pub word : ℕ

unfoldable pub masked_swap : ℕ → ℕ → ℕ → ℕ → ℕ → Swap
masked_swap compared expected swapped value w =
    record { done = matches compared expected w; word = choose (matches compared expected w) (replaced swapped value w) w }

-- ---- "for a leaf .. only the wanted bits are taken"

-- the bits low up to high, high not among them
unfoldable pub leaf_bits : ℕ → ℕ → ℕ
leaf_bits low high = 2 ^ high - 2 ^ low

-- the wanted bits of the leaf whose first unit is `edge`, for the window [l, r), whose edges are clipped to the leaf
unfoldable pub wanted_bits : ℕ → ℕ → ℕ → ℕ
wanted_bits edge l r = leaf_bits (max l edge - edge) (min r (edge + 64) - edge)

-- document 02, request 2.5, of "a leaf's part of a window": "Bit b is set exactly when unit b is in the part." Unit b of the leaf is edge + b. The wanted bits
-- are these, and no other word is: `wanted_exactly` and `wanted_only` in laws/Leaf.antt.
abbrev pub PartBits : ℕ → ℕ → ℕ → ℕ → Type 0
PartBits edge l r bits = (b : ℕ) → b < 64 → (bit b bits ≡ 1) ↔ ((l ≤ edge + b) × (edge + b < r))

-- claim: "swap the wanted bits from all 0 to all 1"
unfoldable pub take_bits : ℕ → ℕ → Swap
take_bits bits w = masked_swap bits 0 bits bits w

-- returning: "Leaf bits taken: swap them from all 1 to all 0"
unfoldable pub give_bits : ℕ → ℕ → Swap
give_bits bits w = masked_swap bits bits bits 0 w

-- returning: "Occ set: Occ - 1 and TCnt + 1 in one add". Occ has one bit, so that less 1 is plus 2 ^ 1 - 1, which is 1.
unfoldable pub return_occ : ℕ → ℕ
return_occ w = add_occ 1 (add_tcnt 1 w)

-- the swap of an answer for the word w: the word that it left, or none where w stayed
abbrev pub swap_of : Option ℕ → ℕ → Swap
swap_of None w = record { done = false; word = w }
swap_of (Some v) w = record { done = true; word = v }
