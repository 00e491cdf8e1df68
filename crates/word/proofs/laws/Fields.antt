-- Laws of a field, whatever its place and its width: s is its shift, k its width, w the word. Assumes nothing.
use Rattle.std.specs.Prelude.{◌≡◌, ◌⊎◌, ℕ, ◌+◌, ◌-◌, ◌*◌, ◌/◌, ◌%◌, ◌^◌, ◌≤◌, ◌<◌}
use Rattle.std.proofs.Common.{sym, ap₂, ◌∙◌, subst, mod-eq_of_lt, arith, pow_pos, pow-add, shr-shr}
use Rattle.std.proofs.Math.Path.{ap}
use Rattle.std.proofs.Math.Logic.{⊎_elim}
use Rattle.std.proofs.Math.Nat.{mod-lt, mod_self, add-mod_right}
use Rattle.std.proofs.Math.Arith.{digits_lt}
use Rattle.std.proofs.Math.Pow.{split, high, low, mod-mod-pow}
use Rattle.std.proofs.Math.Pow as P
use Rattle.word.specs.rules.Word.{field, put_field, add_field}

-- words that agree from bit a up agree from any higher bit up
above : (x y a t : ℕ) → a ≤ t → x / 2 ^ a ≡ y / 2 ^ a → x / 2 ^ t ≡ y / 2 ^ t
above x y a t h e =
    let d : a + (t - a) ≡ t = omega arith in
    subst (λ (n : ℕ). x / 2 ^ n ≡ y / 2 ^ n) d (sym (shr-shr x a (t - a)) ∙ ap (λ (q : ℕ). q / 2 ^ (t - a)) e ∙ shr-shr y a (t - a))

-- words that agree below bit a agree in every field below it
pub below : (x y a t j : ℕ) → j + t ≤ a → x % 2 ^ a ≡ y % 2 ^ a → x / 2 ^ t % 2 ^ j ≡ y / 2 ^ t % 2 ^ j
below x y a t j h e =
    let d : (a - (j + t)) + (j + t) ≡ a = omega arith in
    let cut : (n : ℕ) → n % 2 ^ a % 2 ^ (j + t) ≡ n % 2 ^ (j + t) =
    λ n. subst (λ (m : ℕ). n % 2 ^ m % 2 ^ (j + t) ≡ n % 2 ^ (j + t)) d (mod-mod-pow n (a - (j + t)) (j + t)) in
    sym (P.field x j t) ∙ ap (λ (n : ℕ). n / 2 ^ t) (sym (cut x) ∙ ap (λ (n : ℕ). n % 2 ^ (j + t)) e ∙ cut y) ∙ P.field y j t

-- ---- a field that is put

module _ (s k v w : ℕ) where
  -- the two upper parts together, and then the lower one
  put_upper : put_field s k v w ≡ (w / 2 ^ (k + s) * 2 ^ k + v) * 2 ^ s + w % 2 ^ s
  unfolding put_field
  put_upper = rw (pow-add 2 k s) (omega arith)

  put_below : put_field s k v w % 2 ^ s ≡ w % 2 ^ s
  put_below = ap (λ (n : ℕ). n % 2 ^ s) put_upper ∙ low _ s (mod-lt w (pow_pos s))

  put_shr : put_field s k v w / 2 ^ s ≡ w / 2 ^ (k + s) * 2 ^ k + v
  put_shr = ap (λ (n : ℕ). n / 2 ^ s) put_upper ∙ high _ s (mod-lt w (pow_pos s))

  module _ (hv : v < 2 ^ k) where
    lower_lt : v * 2 ^ s + w % 2 ^ s < 2 ^ (k + s)
    lower_lt = rw (pow-add 2 k s) (digits_lt hv (mod-lt w (pow_pos s)))

    put_above : put_field s k v w / 2 ^ (k + s) ≡ w / 2 ^ (k + s)
    unfolding put_field
    put_above = high (w / 2 ^ (k + s)) (k + s) lower_lt

    -- the field is what was put there
    pub field_put : field s k (put_field s k v w) ≡ v
    unfolding field
    field_put = ap (λ (n : ℕ). n % 2 ^ k) put_shr ∙ low (w / 2 ^ (k + s)) k hv

    -- a field that lies above or below is as it was
    pub field_put_other : (t j : ℕ) → (s + k ≤ t) ⊎ (t + j ≤ s) → field t j (put_field s k v w) ≡ field t j w
    unfolding field
    field_put_other t j =
        ⊎_elim (λ h. ap (λ (n : ℕ). n % 2 ^ j) (above _ _ (k + s) t (omega arith) put_above)) (λ h. below _ _ s t j (omega arith) put_below)

-- ---- a field that is added to

module _ (s k delta w : ℕ) where
  new_lt : (field s k w + delta) % 2 ^ k < 2 ^ k
  new_lt = mod-lt (field s k w + delta) (pow_pos k)

  pub field_add : field s k (add_field s k delta w) ≡ (field s k w + delta) % 2 ^ k
  unfolding add_field
  field_add = field_put s k _ w new_lt

  pub field_add_other : (t j : ℕ) → (s + k ≤ t) ⊎ (t + j ≤ s) → field t j (add_field s k delta w) ≡ field t j w
  unfolding add_field
  field_add_other = field_put_other s k _ w new_lt

  -- what stands above the field stays
  pub add_above : (n : ℕ) → s + k ≤ n → add_field s k delta w / 2 ^ n ≡ w / 2 ^ n
  unfolding add_field
  add_above n h = above _ _ (k + s) n (omega arith) (put_above s k _ w new_lt)

-- ---- the numbers of a field

module _ (s k w : ℕ) where
  pub field_lt : field s k w < 2 ^ k
  unfolding field
  field_lt = mod-lt _ (pow_pos k)

  -- one more, where there is room
  pub field_more : field s k w + 1 < 2 ^ k → field s k (add_field s k 1 w) ≡ field s k w + 1
  field_more h = field_add s k 1 w ∙ mod-eq_of_lt h

  -- the largest wraps to 0
  pub field_wraps : field s k w + 1 ≡ 2 ^ k → field s k (add_field s k 1 w) ≡ 0
  field_wraps e = field_add s k 1 w ∙ ap (λ (n : ℕ). n % 2 ^ k) e ∙ mod_self (2 ^ k)

  -- 2 ^ k - 1 more is one less
  pub field_less : 0 < field s k w → field s k (add_field s k (2 ^ k - 1) w) ≡ field s k w - 1
  field_less h =
      let e : field s k w + (2 ^ k - 1) ≡ (field s k w - 1) + 2 ^ k = omega (arith, pow_pos k) in
      let l : field s k w - 1 < 2 ^ k = omega (arith, field_lt) in
      field_add s k (2 ^ k - 1) w ∙ ap (λ (n : ℕ). n % 2 ^ k) e ∙ add-mod_right (field s k w - 1) (2 ^ k) ∙ mod-eq_of_lt l

-- words that agree in a field and above it agree from that field up
pub same_from : (s k x y : ℕ) → field s k x ≡ field s k y → x / 2 ^ (s + k) ≡ y / 2 ^ (s + k) → x / 2 ^ s ≡ y / 2 ^ s
unfolding field
same_from s k x y e u =
    sym (split (x / 2 ^ s) k) ∙ ap₂ (λ (q r : ℕ). q * 2 ^ k + r) (shr-shr x s k ∙ u ∙ sym (shr-shr y s k)) e ∙ split (y / 2 ^ s) k
