-- Laws: how many levels above the leaves two units lie in one node, from the highest bit in which their leaves' places differ. Assumes nothing.
use Rattle.std.specs.Prelude.{◌≡◌}
use Rattle.std.proofs.Common.{sym, ap, ap₂, ◌∙◌, arith, mod-lt, div-add-mod', pow_pos}
use Rattle.std.proofs.Math.Path.{subst}
use Prim.Native.Nat.{ℕ, suc, ◌+◌, ◌*◌, ◌/◌, ◌%◌, ◌^◌, ◌≤◌, ◌<◌}
use Rattle.std.proofs.Math.Nat.{div-eq_of_lt}
use Rattle.std.specs.Int.Bits.{bit_xor, xor_add_and, xor_self}
use Rattle.std.proofs.lemmas.Nat.{and_le_l, and_le_r, xor_shr, xor_lt}
use Rattle.std.specs.Int.Count.{leading_length}
use Rattle.std.proofs.Math.Pow.{pow_mono}
use Rattle.base.specs.laws.ChoiceLaws.{by_lt}
use Rattle.tree.proofs.laws.Closed.{four}
use Rattle.cover.specs.laws.Rise.{rise}

xor_zero : (a b : ℕ) → bit_xor a b ≡ 0 → a ≡ b
xor_zero a b e = omega (arith, xor_add_and a b, and_le_l a b, and_le_r a b)

-- the parts of two numbers from bit 2 * k on are equal exactly where they differ in lower bits only
differ_low : (a b k : ℕ) → a / 4 ^ k ≡ b / 4 ^ k → bit_xor a b < 4 ^ k
differ_low a b k e =
    let x = bit_xor a b in
    let s : x / 2 ^ (2 * k) ≡ 0 = xor_shr a b (2 * k) ∙ ap₂ bit_xor (ap (λ (p : ℕ). a / p) (four k) ∙ e) (ap (λ (p : ℕ). b / p) (four k)) ∙ xor_self (b / 4 ^ k) in
    let t : x / 2 ^ (2 * k) * 2 ^ (2 * k) + x % 2 ^ (2 * k) ≡ x = div-add-mod' x (2 ^ (2 * k)) in
    let m : x % 2 ^ (2 * k) < 2 ^ (2 * k) = mod-lt x (pow_pos (2 * k)) in
    let z : x / 2 ^ (2 * k) * 2 ^ (2 * k) ≡ 0 = ap (λ (q : ℕ). q * 2 ^ (2 * k)) s ∙ omega arith in
    subst (λ (p : ℕ). x < p) (four k) (omega arith)

low_differ : (a b k : ℕ) → bit_xor a b < 4 ^ k → a / 4 ^ k ≡ b / 4 ^ k
low_differ a b k h =
    let g : bit_xor a b < 2 ^ (2 * k) = subst (λ (p : ℕ). bit_xor a b < p) (sym (four k)) h in
    let e : a / 2 ^ (2 * k) ≡ b / 2 ^ (2 * k) = xor_zero (a / 2 ^ (2 * k)) (b / 2 ^ (2 * k)) (sym (xor_shr a b (2 * k)) ∙ div-eq_of_lt g) in
    ap (λ (p : ℕ). a / p) (sym (four k)) ∙ e ∙ ap (λ (p : ℕ). b / p) (four k)

module _ (l u : ℕ) (hl : l < 2 ^ 64) (hu : u < 2 ^ 64) where
  differ_lt : bit_xor (l / 64) (u / 64) < 2 ^ 64
  differ_lt = xor_lt 64 (l / 64) (u / 64) (omega arith) (omega arith)

  -- `rise` levels up the two lie in one node
  pub rise_meets : l / 64 / 4 ^ rise l u ≡ u / 64 / 4 ^ rise l u
  unfolding rise
  rise_meets =
      let x = bit_xor (l / 64) (u / 64) in
      let m = leading_length 64 x differ_lt in
      let k = rise l u in
      let b : m.0 ≤ 2 * k = omega (arith, m.1) in
      low_differ (l / 64) (u / 64) k (subst (λ (p : ℕ). x < p) (four k) (omega (arith, m.2, pow_mono {i = m.0} {j = 2 * k} b)))

  -- and at no fewer
  pub rise_least : (k : ℕ) → l / 64 / 4 ^ k ≡ u / 64 / 4 ^ k → rise l u ≤ k
  unfolding rise
  rise_least k e =
      let x = bit_xor (l / 64) (u / 64) in
      let m = leading_length 64 x differ_lt in
      let d : x < 2 ^ (2 * k) = subst (λ (p : ℕ). x < p) (sym (four k)) (differ_low (l / 64) (u / 64) k e) in
      let b : m.0 ≤ 2 * k = by_lt (2 * k) m.0 (λ q. absurd (omega (arith, m.3, pow_mono {i = suc (2 * k)} {j = m.0} q))) (λ q. q) in
      omega (arith, m.1)
