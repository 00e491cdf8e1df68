-- Laws: the closed forms that the code computes in place of steps up and down, and the bounds that keep them small. Assumes nothing.
use Rattle.std.specs.Prelude.{◌≡◌, refl, ℕ, zero, suc, ◌+◌, ◌-◌, ◌*◌, ◌/◌, ◌%◌, ◌^◌, ◌≤◌, ◌<◌}
use Rattle.std.proofs.Common.{sym, ap, ◌∙◌, subst, arith, mod-lt, div-add-mod', pow_mono}
use Rattle.std.proofs.Math.Nat.{div-eq_of_lt, mul-add-div_right}
use Rattle.base.specs.laws.ChoiceLaws.{by_lt}
use Rattle.tree.specs.rules.Tree.{climb, leftmost, first, level, Node, left, leaf, holder}
use Rattle.tree.proofs.laws.Climb.{pow4, left_shift, left_mono, left_first, first_pos, first_closed, first_mono, climb_to}
use Rattle.tree.proofs.laws.Level.{level_pos, level_range}

-- a shift by 2 * k bits is a step of k levels
pub four : (k : ℕ) → 2 ^ (2 * k) ≡ 4 ^ k
four zero = refl
four (suc k) =
    let e : 2 * suc k ≡ suc (suc (2 * k)) = omega arith in
    ap (λ (x : ℕ). 2 ^ x) e ∙ omega (arith, four k)

pub first_is : (d : ℕ) → 1 ≤ d → 4 ^ (d - 1) / 3 + 1 ≡ first d
first_is d h =
    let e : suc (d - 1) ≡ d = omega arith in
    let c : 3 * first d ≡ 4 ^ (d - 1) + 2 = subst (λ (x : ℕ). 3 * first x ≡ 4 ^ (d - 1) + 2) e (first_closed (d - 1)) in
    omega arith

pub left_is : (k n : ℕ) → 1 ≤ n → leftmost k n ≡ (n - 1) * 4 ^ k + first (suc k)
unfolding first
left_is k n h =
    let e : n ≡ 1 + (n - 1) = omega arith in
    ap (leftmost k) e ∙ left_shift k 1 (n - 1) (omega arith) ∙ omega arith

-- the count of the nodes before a level loses two bits at each level up
pub first_up : (h k : ℕ) → k < h → (first h - 1) / 4 ^ k ≡ first (h - k) - 1
first_up h k b =
    let d = h - k in
    let e : k + d ≡ h = omega arith in
    let l : first h ≡ (first d - 1) * 4 ^ k + first (suc k) = sym (left_first k d (omega arith) ∙ ap first e) ∙ left_is k (first d) (first_pos d) in
    let c : first h - 1 ≡ (first d - 1) * 4 ^ k + (first (suc k) - 1) = omega (arith, first_pos (suc k)) in
    ap (λ (x : ℕ). x / 4 ^ k) c ∙ mul-add-div_right (pow4 k) (first d - 1) (first (suc k) - 1) ∙ omega (arith, div-eq_of_lt {n = first (suc k) - 1} {m = 4 ^ k} (omega (arith, first_closed k, pow4 k)))

pub climb_is : (k n : ℕ) → 1 ≤ n → k < level n → climb k n ≡ (n - first (suc k)) / 4 ^ k + 1
climb_is k n h b =
    let q = (n - first (suc k)) / 4 ^ k in
    let r = (n - first (suc k)) % 4 ^ k in
    let s : q * 4 ^ k + r ≡ n - first (suc k) = div-add-mod' (n - first (suc k)) (4 ^ k) in
    let t : r < 4 ^ k = mod-lt (n - first (suc k)) (pow4 k) in
    let l : leftmost k (q + 1) ≡ q * 4 ^ k + first (suc k) = left_is k (q + 1) (omega arith) ∙ ap (λ (x : ℕ). x * 4 ^ k + first (suc k)) (let z : q + 1 - 1 ≡ q = omega arith in z) in
    let f : first (suc k) ≤ n = omega (arith, (level_range n h).0, first_mono (suc k) (level n) (omega arith) b) in
    climb_to k (q + 1) n (omega arith) (omega arith) (omega arith)

-- the node of level d that stands for unit u, and a node's left edge, by the place in the level
pub holder_is : (h d u : ℕ) → 1 ≤ d → d ≤ h → holder h d u ≡ first d + u / 64 / 4 ^ (h - d)
unfolding holder
holder_is h d u a b =
    let k = h - d in
    let q = u / 64 / 4 ^ k in
    let e : k + d ≡ h = omega arith in
    let s : q * 4 ^ k + u / 64 % 4 ^ k ≡ u / 64 = div-add-mod' (u / 64) (4 ^ k) in
    let t : u / 64 % 4 ^ k < 4 ^ k = mod-lt (u / 64) (pow4 k) in
    let l : leftmost k (first d + q) ≡ first h + 4 ^ k * q = left_shift k (first d) q (first_pos d) ∙ ap (λ (x : ℕ). x + 4 ^ k * q) (left_first k d a ∙ ap first e) in
    climb_to k (first d + q) (leaf h u) (omega (arith, first_pos d)) (omega arith) (omega arith)

pub left_edge_is : (h d q : ℕ) → 1 ≤ d → d ≤ h → level (first d + q) ≡ d → left h (first d + q) ≡ 64 * (4 ^ (h - d) * q)
unfolding left
left_edge_is h d q a b v =
    let k = h - d in
    let e : k + d ≡ h = omega arith in
    let l : leftmost k (first d + q) ≡ first h + 4 ^ k * q = left_shift k (first d) q (first_pos d) ∙ ap (λ (x : ℕ). x + 4 ^ k * q) (left_first k d a ∙ ap first e) in
    ap (λ (x : ℕ). 64 * (leftmost (h - x) (first d + q) - first h)) v ∙ omega arith

-- the level from the highest set bit j of 3 * n - 2: the numbers of level d are those with 4 ^ (d - 1) ≤ 3 * n - 2 < 4 ^ d
pub level_is_log : (n j : ℕ) → 1 ≤ n → 2 ^ j ≤ 3 * n - 2 → 3 * n - 2 < 2 ^ suc j → level n ≡ (j + 2) / 2
level_is_log n j h lo hi =
    let d = level n in
    let p = level_pos n in
    let r = level_range n h in
    let e : suc (d - 1) ≡ d = omega arith in
    let a : 3 * first d ≡ 2 ^ (2 * (d - 1)) + 2 = subst (λ (x : ℕ). 3 * first x ≡ 2 ^ (2 * (d - 1)) + 2) e (first_closed (d - 1) ∙ ap (λ (x : ℕ). x + 2) (sym (four (d - 1)))) in
    let b : 3 * first (suc d) ≡ 2 ^ (2 * d) + 2 = first_closed d ∙ ap (λ (x : ℕ). x + 2) (sym (four d)) in
    let u : 2 * (d - 1) < suc j = exponent (2 * (d - 1)) (suc j) (omega (arith, r.0)) in
    let v : j < 2 * d = exponent j (2 * d) (omega (arith, r.1)) in
    omega arith
  where
    exponent : (a b : ℕ) → 2 ^ a < 2 ^ b → a < b
    exponent a b l = by_lt a b (λ q. q) (λ q. absurd (omega (arith, pow_mono {i = b} {j = a} q)))

-- ---- bounds

pub first13 : first 13 ≡ 5592406
unfolding first leftmost
first13 = refl

pub first_small : (d : ℕ) → 1 ≤ d → d ≤ 13 → first d ≤ 5592406
first_small d a b = omega (arith, first_mono d 13 a b, first13)

pub node_small : (n : ℕ) → Node 12 n → n < 5592406
node_small n v = omega (arith, (level_range n v.some).1, first_small (suc (level n)) (omega arith) (omega (arith, v.inside)))

pub left_small : (k n : ℕ) → 1 ≤ n → level n + k ≤ 12 → leftmost k n < 5592406
left_small k n h b =
    let e : k + suc (level n) ≡ suc (level n + k) = omega arith in
    let m = left_mono k (n + 1) (first (suc (level n))) (omega (arith, (level_range n h).1)) in
    let f : leftmost k (first (suc (level n))) ≡ first (suc (level n + k)) = left_first k (suc (level n)) (omega arith) ∙ ap first e in
    omega (arith, left_shift k n 1 h, pow4 k, first_small (suc (level n + k)) (omega arith) (omega arith))
