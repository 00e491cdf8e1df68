-- A call as the code reads it, and the laws by which the reading and the tests of the calls are proved. Assumes nothing.
use Rattle.std.specs.Prelude.{◌≡◌, Bool, false, ◌&&◌, ◌||◌, List, ◌∷◌, eqb, ltb, length, get_or, take, drop, map}
use Rattle.std.specs.List.{list_any}
use Rattle.std.specs.Simd.{first_chunks}
use Rattle.std.proofs.Math.Path.{refl, ap, ap₂}
use Rattle.std.proofs.Common.{sym, ◌∙◌, add-zero, get_or-take, get_or-drop, drop-drop}
use Rattle.std.proofs.Math.Bool.{or_assoc, or-false}
use Prim.Native.Nat.{ℕ, zero, suc, ◌+◌, ◌*◌, ◌≤◌, ◌<◌}
use native.Mathlib.Omega.{arith}
use Rattle.base.specs.rules.Choice.{choose}
use Rattle.base.specs.laws.ChoiceLaws.{choose_unless}
use Rattle.lock.specs.declared.Call.{Call as CallStruct}
use Rattle.lock.specs.rules.Unreadable.{differ}
use Rattle.lock.specs.rules.ByValue.{call_of}
use Rattle.lock.specs.rules.Table.{Call}
use Rattle.schedule.specs.declared.format.Header.{Header}
use Rattle.schedule.specs.rules.Format.{little, settings_in, clients_in, count_in, offset_in, place_of, kind_in, client_in, a_in, b_in, call_in, calls_from, calls_in, call_wrong, any_wrong}

-- ---- the header, and a call, as the code has them

abbrev pub header_in : List ℕ → Header
header_in bytes = record { settings = settings_in bytes; clients = clients_in bytes; count = count_in bytes; offset = offset_in bytes }

-- the call that 24 bytes have
unfoldable pub call_of_bytes : List ℕ → Call
call_of_bytes bytes = call_of (get_or bytes 0 0) (little 2 bytes 2) (little 8 bytes 8) (little 8 bytes 16)

-- each call's bytes, as the code takes them out of the file
abbrev pub chunks_in : List ℕ → List (List ℕ)
chunks_in bytes = first_chunks 24 (count_in bytes) (drop (offset_in bytes) bytes)

module _ (bytes : List ℕ) (header : Header) (e : header ≡ header_in bytes) where
  -- "offset plus 24 × calls"
  pub calls_end : header.offset + 24 * header.count ≡ place_of bytes (count_in bytes)
  unfolding place_of
  calls_end = ap (λ (h : Header). h.offset + 24 * h.count) e

  pub calls_behind : (calls : List (List ℕ)) → calls ≡ first_chunks 24 header.count (drop header.offset bytes) → calls ≡ chunks_in bytes
  calls_behind calls f = f ∙ ap (λ (h : Header). first_chunks 24 h.count (drop h.offset bytes)) e

-- a call's 24 bytes, as the code reads them
pub record CallRead (bytes : List ℕ) (c : CallStruct) : Type 0 where
  pub kind : c.kind ≡ get_or bytes 0 0
  pub client : c.client ≡ little 2 bytes 2
  pub a : c.a ≡ little 8 bytes 8
  pub b : c.b ≡ little 8 bytes 16

pub call_read : (bytes : List ℕ) (c : CallStruct) → CallRead bytes c → call_of c.kind c.client c.a c.b ≡ call_of_bytes bytes
unfolding call_of_bytes
call_read bytes c r = rw (r.kind, r.client, r.a, r.b)

-- ---- the calls as chunks of 24 bytes

pub take_chunks : (n k m : ℕ) (xs : List ℕ) → k ≤ m → take k (first_chunks n m xs) ≡ first_chunks n k xs
take_chunks n zero m xs h = refl
take_chunks n (suc k) zero xs h = absurd (omega arith)
take_chunks n (suc k) (suc m) xs h = ap (λ l. take n xs ∷ l) (take_chunks n k m (drop n xs) (omega arith))

pub count_chunks : (n k : ℕ) (xs : List ℕ) → length (first_chunks n k xs) ≡ k
count_chunks n zero xs = refl
count_chunks n (suc k) xs = ap (λ (j : ℕ). suc j) (count_chunks n k (drop n xs))

-- ---- the tests of a call

-- over the bytes from `at` on
unfoldable pub wrong_at : List ℕ → ℕ → Bool
wrong_at bytes at =
    ltb 3 (get_or bytes at 0) || differ (get_or bytes (at + 1) 0) 0 || differ (little 4 bytes (at + 4)) 0
    || choose (eqb (get_or bytes at 0) 0) false (differ (little 8 bytes (at + 16)) 0 || choose (eqb (get_or bytes at 0) 1) false (differ (little 8 bytes (at + 8)) 0))

-- a call's 24 bytes alone
abbrev pub wrong : List ℕ → Bool
wrong call = wrong_at call 0

pub wrong_at_place : (bytes : List ℕ) (k at : ℕ) → at ≡ place_of bytes k → wrong_at bytes at ≡ call_wrong bytes k
unfolding wrong_at call_wrong kind_in b_in a_in
wrong_at_place bytes k at e = rw e

-- as the code asks it, of the numbers that it reads
pub wrong_tested : (bytes : List ℕ) (at kind one four a b : ℕ) → kind ≡ get_or bytes at 0 → one ≡ get_or bytes (at + 1) 0 → four ≡ little 4 bytes (at + 4)
    → a ≡ little 8 bytes (at + 8) → b ≡ little 8 bytes (at + 16)
    → (ltb 3 kind || differ one 0 || differ four 0 || (differ kind 0 && (differ b 0 || (differ kind 1 && differ a 0)))) ≡ wrong_at bytes at
unfolding wrong_at
wrong_tested bytes at kind one four a b ek e1 e4 ea eb =
    (λ i. ltb 3 kind || differ one 0 || differ four 0 || (differ kind 0 && (differ b 0 || choose_unless (eqb kind 1) (differ a 0) i)))
    ∙ (λ i. ltb 3 kind || differ one 0 || differ four 0 || choose_unless (eqb kind 0) (differ b 0 || choose (eqb kind 1) false (differ a 0)) i)
    ∙ (λ i. ltb 3 (ek i) || differ (e1 i) 0 || differ (e4 i) 0 || choose (eqb (ek i) 0) false (differ (eb i) 0 || choose (eqb (ek i) 1) false (differ (ea i) 0)))

-- ---- a chunk's bytes are those of the file from the chunk's place on

module _ (bytes : List ℕ) (at : ℕ) where
  abbrev chunk : List ℕ
  chunk = take 24 (drop at bytes)

  byte_in : (i : ℕ) → i < 24 → get_or chunk i 0 ≡ get_or bytes (at + i) 0
  byte_in i h = get_or-take 24 (drop at bytes) i 0 h ∙ get_or-drop at bytes i 0

  little_in : (n i : ℕ) → i + n ≤ 24 → little n chunk i ≡ little n bytes (at + i)
  unfolding little
  little_in zero i h = refl
  little_in (suc n) i h =
      let next : at + suc i ≡ suc (at + i) = omega arith in
      ap₂ (λ (x y : ℕ). x + 256 * y) (byte_in i (omega arith)) (little_in n (suc i) (omega arith) ∙ ap (little n bytes) next)

  wrong_in : wrong_at chunk 0 ≡ wrong_at bytes at
  unfolding wrong_at
  wrong_in = rw (byte_in 0 (omega arith), byte_in 1 (omega arith), little_in 4 4 (omega arith), little_in 8 8 (omega arith), little_in 8 16 (omega arith), add-zero)

  call_in_chunk : call_of_bytes chunk ≡ call_of (get_or bytes at 0) (little 2 bytes (at + 2)) (little 8 bytes (at + 8)) (little 8 bytes (at + 16))
  unfolding call_of_bytes
  call_in_chunk = rw (byte_in 0 (omega arith), little_in 2 2 (omega arith), little_in 8 8 (omega arith), little_in 8 16 (omega arith), add-zero)

module _ (bytes : List ℕ) where
  -- the chunks from call k on
  abbrev pub chunks_from : ℕ → ℕ → List (List ℕ)
  chunks_from k n = first_chunks 24 n (drop (place_of bytes k) bytes)

  behind : (k : ℕ) → drop 24 (drop (place_of bytes k) bytes) ≡ drop (place_of bytes (suc k)) bytes
  unfolding place_of
  behind k = drop-drop 24 (place_of bytes k) bytes ∙ ap (λ (n : ℕ). drop n bytes) (omega arith)

  calls_read : (k n : ℕ) → map call_of_bytes (chunks_from k n) ≡ calls_from bytes k n
  unfolding calls_from call_in kind_in client_in a_in b_in
  calls_read k zero = refl
  calls_read k (suc n) =
      ap₂ (λ (c : Call) (cs : List Call). c ∷ cs) (call_in_chunk bytes (place_of bytes k))
      (ap (λ (l : List ℕ). map call_of_bytes (first_chunks 24 n l)) (behind k) ∙ calls_read (suc k) n)

  pub chunks_calls : map call_of_bytes (chunks_in bytes) ≡ calls_in bytes
  unfolding calls_in place_of
  chunks_calls =
      let first : offset_in bytes ≡ offset_in bytes + 24 * 0 = omega arith in
      ap (λ (n : ℕ). map call_of_bytes (first_chunks 24 (count_in bytes) (drop n bytes))) first ∙ calls_read 0 (count_in bytes)

  any_read : (k n : ℕ) → any_wrong bytes (k + n) ≡ (any_wrong bytes k || list_any wrong (chunks_from k n))
  unfolding any_wrong
  any_read k zero = rw add-zero (sym (or-false (any_wrong bytes k)))
  any_read k (suc n) =
      let next : k + suc n ≡ suc k + n = omega arith in
      ap (any_wrong bytes) next ∙ any_read (suc k) n ∙ or_assoc (any_wrong bytes k) (call_wrong bytes k) (list_any wrong (chunks_from (suc k) n))
      ∙ ap₂ (λ (x y : Bool). any_wrong bytes k || (x || y)) (sym (wrong_at_place bytes k (place_of bytes k) refl) ∙ sym (wrong_in bytes (place_of bytes k)))
      (ap (λ (l : List ℕ). list_any wrong (first_chunks 24 n l)) (sym (behind k)))

  -- whether one of the calls is wrong
  pub any_chunk : list_any wrong (chunks_in bytes) ≡ any_wrong bytes (count_in bytes)
  unfolding place_of any_wrong
  any_chunk =
      let first : offset_in bytes ≡ offset_in bytes + 24 * 0 = omega arith in
      let all : 0 + count_in bytes ≡ count_in bytes = omega arith in
      ap (λ (n : ℕ). list_any wrong (first_chunks 24 (count_in bytes) (drop n bytes))) first ∙ sym (any_read 0 (count_in bytes)) ∙ ap (any_wrong bytes) all
