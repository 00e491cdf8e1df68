-- Laws: what a leaf word holds is what the records own of it, unit by unit, and every effect of a call keeps it so. Assumes nothing.
use Rattle.std.specs.Prelude.{◌≡◌, refl, ◌⊎◌, true, List, ℕ, ◌+◌, ◌-◌, ◌*◌, ◌/◌, ◌%◌, ◌^◌, ◌≤◌, ◌<◌, length, get_or, set}
use Rattle.std.proofs.Common.{ap, ◌∙◌, inl, inr, ⊎_elim, arith}
use Rattle.base.specs.laws.ChoiceLaws.{choose_le, choose_gt, choose_lt, choose_ge, by_lt}
use Rattle.base.specs.laws.Sum.{sum_by, sum_set}
use Rattle.word.specs.rules.Word.{bit, take_bits, give_bits, PartBits}
use Rattle.word.proofs.laws.Bits.{bit_clear}
use Rattle.word.proofs.laws.Leaf.{wanted_exactly, wanted_lt}
use Rattle.word.proofs.laws.Swap.{take_done, take_inside, take_outside, give_done, give_inside, give_outside}
use Rattle.tree.specs.rules.Tree.{units, leaf, left, level, leftmost}
use Rattle.tree.proofs.laws.Range.{leaf_level}
use Rattle.lock.specs.declared.Record.{Record}
use Rattle.lock.specs.declared.Settings.{Settings}
use Rattle.lock.specs.rules.Steps.{wanted}
use Rattle.lock.proofs.claim.Owned.{reaches, owns_unit, reaches_yes, reaches_no}
use Rattle.lock.proofs.claim.Effect.{in_window, Grips}
use Rattle.lock.proofs.claim.InnerWords.{nobody}

-- the bit of unit u in its leaf's word w is what the records own of it
abbrev pub LeafBit : Settings → List Record → ℕ → ℕ → Type 0
LeafBit s rs u w = bit (u % 64) w ≡ sum_by (owns_unit s u) rs

pub in_window_lem : (r : Record) (u v : ℕ) → r.left ≤ u → u < r.right → in_window r u v ≡ v
unfolding in_window
in_window_lem r u v a b = choose_le r.left u _ 0 a ∙ choose_lt u r.right v 0 b

pub out_window : (r : Record) (u v : ℕ) → (u < r.left) ⊎ (r.right ≤ u) → in_window r u v ≡ 0
unfolding in_window
out_window r u v =
    ⊎_elim (λ a. choose_gt r.left u _ 0 a)
    (λ a. by_lt u r.left (λ b. choose_gt r.left u _ 0 b) (λ b. choose_le r.left u _ 0 b ∙ choose_ge u r.right v 0 a))

leaf_left : (h u : ℕ) → 1 ≤ h → u < units h → left h (leaf h u) ≡ 64 * (u / 64)
unfolding left leftmost
leaf_left h u a b =
    let z : h - level (leaf h u) ≡ 0 = omega (arith, leaf_level h u a b) in
    let e : leftmost (h - level (leaf h u)) (leaf h u) ≡ leaf h u = ap (λ (k : ℕ). leftmost k (leaf h u)) z in
    omega arith

module _ (s : Settings) (u : ℕ) (levels : 1 ≤ s.levels) (fits : u < units s.levels) (w : ℕ) (rs : List Record) (kept : LeafBit s rs u w) (c : ℕ) (q : Record) (lt : c < length rs) where
  abbrev r : Record
  r = get_or rs c nobody

  abbrev x : ℕ
  x = leaf s.levels u

  -- nothing of the unit changes hands
  pub leaf_same : owns_unit s u q ≡ owns_unit s u r → LeafBit s (set rs c q) u w
  leaf_same e = omega (arith, kept, sum_set (owns_unit s u) rs c q nobody lt)

  -- the bit stands at u - edge
  edge_is : left s.levels x + u % 64 ≡ u
  edge_is = omega (arith, leaf_left s.levels u levels fits)

  bits_lt : wanted s r x < 2 ^ 64
  bits_lt = wanted_lt (left s.levels x) r.left r.right

  part : PartBits (left s.levels x) r.left r.right (wanted s r x)
  part = wanted_exactly (left s.levels x) r.left r.right

  inside : r.left ≤ u → u < r.right → bit (u % 64) (wanted s r x) ≡ 1
  inside a b = (part (u % 64) (omega arith)).1 (omega (arith, edge_is), omega (arith, edge_is))

  outside : (u < r.left) ⊎ (r.right ≤ u) → bit (u % 64) (wanted s r x) ≡ 0
  outside o =
      bit_clear (u % 64) (wanted s r x)
      (λ e. let i = (part (u % 64) (omega arith)).0 e in ⊎_elim (λ a. omega (arith, edge_is, i.0)) (λ a. omega (arith, edge_is, i.1)) o)

  -- cases: the unit is in the window, or not
  window_cases : {P : Type 0} → (r.left ≤ u → u < r.right → P) → ((u < r.left) ⊎ (r.right ≤ u) → P) → P
  window_cases f g = by_lt u r.left (λ a. g (inl a)) (λ a. by_lt u r.right (λ b. f a b) (λ b. g (inr b)))

  pub leaf_took : Grips s r q x 0 3 → (take_bits (wanted s r x) w).done ≡ true → LeafBit s (set rs c q) u (take_bits (wanted s r x) w).word
  leaf_took g done =
      let sum = sum_set (owns_unit s u) rs c q nobody lt in
      let before = g.units_before u refl in
      let after = g.units_after u refl in
      window_cases
      (λ a b. let i = inside a b in
      omega (
        arith,
        kept,
        sum,
        before,
        after,
        in_window_lem r u (reaches 3 0) a b,
        in_window_lem r u (reaches 3 3) a b,
        reaches_no 3 0 (omega arith),
        reaches_yes 3 3 (omega arith),
        (take_done (wanted s r x) w bits_lt).0 done (u % 64) (omega arith) i,
        take_inside (wanted s r x) w bits_lt done (u % 64) (omega arith) i,
      ))
      (λ o. omega (arith, kept, sum, before, after, out_window r u (reaches 3 0) o, out_window r u (reaches 3 3) o, take_outside (wanted s r x) w bits_lt (u % 64) (omega arith) (outside o)))

  pub leaf_gave : Grips s r q x 3 0 → (give_bits (wanted s r x) w).done ≡ true → LeafBit s (set rs c q) u (give_bits (wanted s r x) w).word
  leaf_gave g done =
      let sum = sum_set (owns_unit s u) rs c q nobody lt in
      let before = g.units_before u refl in
      let after = g.units_after u refl in
      window_cases
      (λ a b. let i = inside a b in
      omega (
        arith,
        kept,
        sum,
        before,
        after,
        in_window_lem r u (reaches 3 0) a b,
        in_window_lem r u (reaches 3 3) a b,
        reaches_no 3 0 (omega arith),
        reaches_yes 3 3 (omega arith),
        (give_done (wanted s r x) w bits_lt).0 done (u % 64) (omega arith) i,
        give_inside (wanted s r x) w bits_lt done (u % 64) (omega arith) i,
      ))
      (λ o. omega (arith, kept, sum, before, after, out_window r u (reaches 3 0) o, out_window r u (reaches 3 3) o, give_outside (wanted s r x) w bits_lt (u % 64) (omega arith) (outside o)))
