-- To be believed: document 01, section "The schedule program": a text as the bytes that are written, its words and its numbers, and a text in
-- lent bytes. Assumes nothing.
use Rattle.std.specs.Prelude.{◌≡◌, List, [], ◌∷◌, ◌++◌, ℕ, zero, suc, ◌+◌, ◌/◌, ◌%◌, ◌≤◌, ◌<◌, ltb, length, take}
use Prim.Native.Char.{code}
use Prim.Native.String.{String, [] as nothing, ◌∷◌ as ◌then◌}
use Rattle.base.specs.rules.Choice.{choose}

-- the bytes of an ASCII text: the code of each of its characters, in order. (A character outside ASCII would have several bytes; no text here has one.)
abbrev pub text : String → List ℕ
text nothing = []
text (character then rest) = code character ∷ text rest

-- a number in decimal digits, the highest first, with no zero in front. The first argument bounds the digits, and n is enough.
unfoldable pub decimal_within : ℕ → ℕ → List ℕ
decimal_within zero n = []
decimal_within (suc steps) n = choose (ltb n 10) ((code "0" + n) ∷ []) (decimal_within steps (n / 10) ++ ((code "0" + n % 10) ∷ []))

unfoldable pub decimal : ℕ → List ℕ
decimal n = decimal_within (suc n) n

-- a space and a number
abbrev pub spaced : ℕ → List ℕ
spaced n = text " " ++ decimal n

-- a text in lent bytes: of bytes lent with room enough the first `count` are the text afterwards, and what stands behind them is free; with less room nothing is
-- done
pub record PutInto (room : ℕ) (whole lent after : List ℕ) (count : ℕ) : Type 0 where
  pub text_put : room ≤ length lent → take count after ≡ whole
  pub short : length lent < room → (count ≡ 0) × (after ≡ lent)
