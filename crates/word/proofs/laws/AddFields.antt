-- Laws of the masked add over all fields of a packed word at once. Assumes nothing.
use Rattle.std.specs.Prelude.{◌≡◌, refl, List, [], ◌∷◌, ◌++◌, ℕ, ◌+◌, ◌*◌, ◌/◌, ◌%◌, ◌^◌, ◌<◌}
use Rattle.std.proofs.Common.{sym, ap, ap₂, ◌∙◌, mod-lt, mod-eq_of_lt, add_comm, add-zero, mul_assoc, div-one, arith, pow_pos, pow-add, shr-shr}
use Rattle.std.proofs.Math.Nat.{add-mod, div-eq_of_lt}
use Rattle.std.proofs.Math.Pow.{split, high, low}
use Rattle.std.proofs.lemmas.Nat.{mod-pow-add}
use Rattle.word.specs.rules.Word.{field, put_field, add_field, add_fields}

-- how many bits fields of these widths have together
abbrev pub sum : List ℕ → ℕ
sum [] = 0
sum (k ∷ ks) = k + sum ks

-- in the field of width k that stands above those of `lower`: the sum of the two words' fields, wrapped
pub field_add_fields : (lower : List ℕ) (k : ℕ) (upper : List ℕ) (deltas w : ℕ)
    → field (sum lower) k (add_fields (lower ++ (k ∷ upper)) deltas w) ≡ (field (sum lower) k w + field (sum lower) k deltas) % 2 ^ k
unfolding add_fields field
field_add_fields [] k upper d w =
    ap (λ (n : ℕ). n % 2 ^ k) (div-one _) ∙ low _ k (mod-lt (w + d) (pow_pos k)) ∙ add-mod w d (2 ^ k)
    ∙ ap₂ (λ (m n : ℕ). (m % 2 ^ k + n % 2 ^ k) % 2 ^ k) (sym (div-one w)) (sym (div-one d))
field_add_fields (b ∷ lower) k upper d w =
    ap (λ (n : ℕ). n % 2 ^ k) (sym (shr-shr _ b (sum lower)) ∙ ap (λ (n : ℕ). n / 2 ^ sum lower) (high _ b (mod-lt (w + d) (pow_pos b))))
    ∙ field_add_fields lower k upper (d / 2 ^ b) (w / 2 ^ b)
    ∙ ap₂ (λ (m n : ℕ). (m % 2 ^ k + n % 2 ^ k) % 2 ^ k) (shr-shr w b (sum lower)) (shr-shr d b (sum lower))

-- what stands above the fields stays
pub add_fields_above : (widths : List ℕ) (deltas w : ℕ) → add_fields widths deltas w / 2 ^ sum widths ≡ w / 2 ^ sum widths
unfolding add_fields
add_fields_above [] d w = refl
add_fields_above (k ∷ ks) d w =
    sym (shr-shr _ k (sum ks))
    ∙ ap (λ (n : ℕ). n / 2 ^ sum ks) (high _ k (mod-lt (w + d) (pow_pos k)))
    ∙ add_fields_above ks (d / 2 ^ k) (w / 2 ^ k)
    ∙ shr-shr w k (sum ks)

-- with no deltas the word stays
add_nothing : (widths : List ℕ) (w : ℕ) → add_fields widths 0 w ≡ w
unfolding add_fields
add_nothing [] w = refl
add_nothing (k ∷ ks) w =
    ap₂ (λ (m n : ℕ). m * 2 ^ k + n % 2 ^ k) (ap (λ (d : ℕ). add_fields ks d (w / 2 ^ k)) (div-eq_of_lt (pow_pos k)) ∙ add_nothing ks (w / 2 ^ k)) (add-zero w) ∙ split w k

-- a field stands as in the bits from b up, where b bits stand below it
lifted : (b s k d w : ℕ) → add_field s k d (w / 2 ^ b) * 2 ^ b + w % 2 ^ b ≡ add_field (b + s) k d w
unfolding add_field put_field field
lifted b s k d w =
    let e : (k + s) + b ≡ k + (b + s) = omega arith in
    let f : s + b ≡ b + s = omega arith in
    let v : ℕ = (w / 2 ^ b / 2 ^ s % 2 ^ k + d) % 2 ^ k in
    let high_part : w / 2 ^ b / 2 ^ (k + s) * 2 ^ (k + s) * 2 ^ b ≡ w / 2 ^ (k + (b + s)) * 2 ^ (k + (b + s)) =
    rearrange (w / 2 ^ b / 2 ^ (k + s)) (2 ^ (k + s)) (2 ^ b) (2 ^ ((k + s) + b)) (sym (pow-add 2 (k + s) b))
    ∙ ap₂ (λ (m n : ℕ). m * 2 ^ n) (shr-shr w b (k + s) ∙ ap (λ (n : ℕ). w / 2 ^ n) (let g : b + (k + s) ≡ k + (b + s) = omega arith in g)) e in
    let middle : v * 2 ^ s * 2 ^ b ≡ v * 2 ^ (b + s) = rearrange v (2 ^ s) (2 ^ b) (2 ^ (s + b)) (sym (pow-add 2 s b)) ∙ ap (λ (n : ℕ). v * 2 ^ n) f in
    let low_part : w / 2 ^ b % 2 ^ s * 2 ^ b + w % 2 ^ b ≡ w % 2 ^ (b + s) = sym (mod-pow-add w s b) ∙ ap (λ (n : ℕ). w % 2 ^ n) f in
    spread (w / 2 ^ b / 2 ^ (k + s) * 2 ^ (k + s)) (v * 2 ^ s) (w / 2 ^ b % 2 ^ s) (2 ^ b) (w % 2 ^ b)
    ∙ ap₂ (λ (m n : ℕ). m + n) high_part (ap₂ (λ (m n : ℕ). m + n) middle low_part)
    ∙ ap (λ (n : ℕ). w / 2 ^ (k + (b + s)) * 2 ^ (k + (b + s)) + ((n % 2 ^ k + d) % 2 ^ k * 2 ^ (b + s) + w % 2 ^ (b + s))) (shr-shr w b s)
  where
    rearrange : (x p q n : ℕ) → p * q ≡ n → x * p * q ≡ x * n
    rearrange x p q n e = mul_assoc x p q ∙ ap (λ (m : ℕ). x * m) e

    spread : (x y z p u : ℕ) → (x + (y + z)) * p + u ≡ x * p + (y * p + (z * p + u))
    spread x y z p u = omega arith

-- deltas in one field alone: the masked add within it
pub add_in_field : (lower : List ℕ) (k : ℕ) (upper : List ℕ) (d w : ℕ) → d < 2 ^ k → add_fields (lower ++ (k ∷ upper)) (d * 2 ^ sum lower) w ≡ add_field (sum lower) k d w
unfolding add_fields add_field put_field field
add_in_field [] k upper d w h =
    let one : d * 2 ^ 0 ≡ d = omega arith in
    ap (λ (n : ℕ). add_fields upper (n / 2 ^ k) (w / 2 ^ k) * 2 ^ k + (w + n) % 2 ^ k) one
    ∙ ap₂ (λ (m n : ℕ). m * 2 ^ k + n) (ap (λ (n : ℕ). add_fields upper n (w / 2 ^ k)) (div-eq_of_lt h) ∙ add_nothing upper (w / 2 ^ k))
    (add-mod w d (2 ^ k) ∙ ap (λ (n : ℕ). (w % 2 ^ k + n) % 2 ^ k) (mod-eq_of_lt h))
    ∙ ap₂ (λ (m n : ℕ). w / 2 ^ m * 2 ^ m + n) (let e : k ≡ k + 0 = omega arith in e)
    (ap (λ (n : ℕ). (n % 2 ^ k + d) % 2 ^ k) (sym (div-one w)) ∙ last ((w / 2 ^ 0 % 2 ^ k + d) % 2 ^ k) (w % 2 ^ 0) (mod-lt w (pow_pos 0)))
  where
    last : (v z : ℕ) → z < 2 ^ 0 → v ≡ v * 2 ^ 0 + z
    last v z h = omega arith
add_in_field (b ∷ lower) k upper d w h =
    let p : ℕ = d * 2 ^ sum lower in
    let e : d * 2 ^ (b + sum lower) ≡ p * 2 ^ b = ap (λ (n : ℕ). d * n) (ap (λ (n : ℕ). 2 ^ n) (add_comm b (sum lower)) ∙ pow-add 2 (sum lower) b) ∙ sym (mul_assoc d (2 ^ sum lower) (2 ^ b)) in
    ap (λ (n : ℕ). add_fields (lower ++ (k ∷ upper)) (n / 2 ^ b) (w / 2 ^ b) * 2 ^ b + (w + n) % 2 ^ b) e
    ∙ ap₂ (λ (m n : ℕ). m * 2 ^ b + n)
    (ap (λ (n : ℕ). add_fields (lower ++ (k ∷ upper)) n (w / 2 ^ b)) (shifted p) ∙ add_in_field lower k upper d (w / 2 ^ b) h)
    (add-mod w (p * 2 ^ b) (2 ^ b) ∙ ap (λ (n : ℕ). (w % 2 ^ b + n) % 2 ^ b) (nothing_below p) ∙ ap (λ (n : ℕ). n % 2 ^ b) (add-zero (w % 2 ^ b)) ∙ mod-eq_of_lt (mod-lt w (pow_pos b)))
    ∙ lifted b (sum lower) k d w
  where
    shifted : (p : ℕ) → p * 2 ^ b / 2 ^ b ≡ p
    shifted p = ap (λ (n : ℕ). n / 2 ^ b) (sym (add-zero (p * 2 ^ b))) ∙ high p b (pow_pos b)

    nothing_below : (p : ℕ) → p * 2 ^ b % 2 ^ b ≡ 0
    nothing_below p = ap (λ (n : ℕ). n % 2 ^ b) (sym (add-zero (p * 2 ^ b))) ∙ low p b (pow_pos b)
