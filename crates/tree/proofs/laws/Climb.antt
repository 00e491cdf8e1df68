-- Laws of `climb`, `leftmost` and `first`: the steps up and down the tree. Assumes nothing.
use Rattle.std.specs.Prelude.{◌≡◌, refl, ℕ, zero, suc, ◌+◌, ◌-◌, ◌*◌, ◌^◌, ◌≤◌, ◌<◌}
use Rattle.std.proofs.Common.{sym, ap, ◌∙◌, arith, zero-lt-suc, add-suc, add-zero, pow-suc}
use Rattle.std.proofs.Math.Nat.{one-le-pow}
use Rattle.base.specs.laws.ChoiceLaws.{by_lt}
use Rattle.tree.specs.rules.Tree.{parent, child, climb, leftmost, first}

pub pow4 : (k : ℕ) → 1 ≤ 4 ^ k
pow4 k = one-le-pow k 4 (zero-lt-suc 3)

-- ---- leftmost

pub left_pos : (k n : ℕ) → 1 ≤ n → 1 ≤ leftmost k n
unfolding leftmost
left_pos zero n h = h
left_pos (suc k) n h = omega (arith, left_pos k n h)

pub left_shift : (k n i : ℕ) → 1 ≤ n → leftmost k (n + i) ≡ leftmost k n + 4 ^ k * i
unfolding leftmost
left_shift zero n i h = omega arith
left_shift (suc k) n i h = rw (pow-suc 4 k) (omega (arith, left_shift k n i h, left_pos k n h))

pub left_mono : (k m n : ℕ) → m ≤ n → leftmost k m ≤ leftmost k n
unfolding leftmost
left_mono zero m n h = h
left_mono (suc k) m n h = omega (arith, left_mono k m n h)

pub left_child : (k n : ℕ) → leftmost k (child n 0) ≡ child (leftmost k n) 0
unfolding leftmost
left_child zero n = refl
left_child (suc k) n = ap (λ (x : ℕ). child x 0) (left_child k n)

-- ---- climb

pub climb_parent : (k n : ℕ) → climb k (parent n) ≡ parent (climb k n)
unfolding climb
climb_parent zero n = refl
climb_parent (suc k) n = climb_parent k (parent n)

pub climb_add : (j k n : ℕ) → climb (j + k) n ≡ climb j (climb k n)
unfolding climb
climb_add j zero n = ap (λ (x : ℕ). climb x n) (add-zero j)
climb_add j (suc k) n = ap (λ (x : ℕ). climb x n) (add-suc j k) ∙ climb_add j k (parent n)

-- the nodes from which k steps lead to n are 4 ^ k in a row
pub climb_from : (k n x : ℕ) → 1 ≤ n → climb k x ≡ n → (leftmost k n ≤ x) × (x < leftmost k n + 4 ^ k)
unfolding climb leftmost
climb_from zero n x h e = (omega arith, omega arith)
climb_from (suc k) n x h e =
    let i = climb_from k n (parent x) h e in
    let p = left_pos k n h in
    (omega (arith, i.0, i.1), omega (arith, i.0, i.1))

pub climb_to : (k n x : ℕ) → 1 ≤ n → leftmost k n ≤ x → x < leftmost k n + 4 ^ k → climb k x ≡ n
unfolding climb leftmost
climb_to zero n x h a b = omega arith
climb_to (suc k) n x h a b = let p = left_pos k n h in climb_to k n (parent x) h (omega arith) (omega arith)

-- ---- first

pub first_next : (d : ℕ) → 1 ≤ d → first (suc d) ≡ 4 * first d - 2
unfolding first leftmost
first_next zero h = absurd (omega arith)
first_next (suc d) h = omega arith

pub first_pos : (d : ℕ) → 1 ≤ first d
unfolding first
first_pos zero = omega arith
first_pos (suc d) = left_pos d 1 (omega arith)

pub first_width : (d : ℕ) → first (suc (suc d)) ≡ first (suc d) + 4 ^ d
unfolding first leftmost
first_width zero = refl
first_width (suc d) = omega (arith, first_width d, left_pos d 1 (omega arith))

pub left_first : (k d : ℕ) → 1 ≤ d → leftmost k (first d) ≡ first (k + d)
unfolding leftmost
left_first zero d h = ap first (omega arith)
left_first (suc k) d h =
    let e : suc k + d ≡ suc (k + d) = omega arith in
    ap (λ (x : ℕ). child x 0) (left_first k d h) ∙ (let f : child (first (k + d)) 0 ≡ first (suc (k + d)) = omega (arith, first_next (k + d) (omega arith)) in f) ∙ sym (ap first e)

pub climb_mono : (k a b : ℕ) → a ≤ b → climb k a ≤ climb k b
unfolding climb
climb_mono zero a b l = l
climb_mono (suc k) a b l = climb_mono k (parent a) (parent b) (omega arith)

-- from the root, level by level: 4 ^ d nodes at level d + 1
pub first_closed : (d : ℕ) → 3 * first (suc d) ≡ 4 ^ d + 2
unfolding first leftmost
first_closed zero = refl
first_closed (suc d) = omega (arith, first_closed d)

pub first_mono : (d e : ℕ) → 1 ≤ d → d ≤ e → first d ≤ first e
first_mono d zero a b = absurd (omega arith)
first_mono d (suc e) a b =
    by_lt d (suc e)
    (λ q. omega (arith, first_mono d e a (omega arith), first_next e (omega arith), first_pos e))
    (λ q. let f : d ≡ suc e = omega arith in rw f (omega arith))

climb_zero : (k : ℕ) → climb k 0 ≡ 0
unfolding climb
climb_zero zero = refl
climb_zero (suc k) = climb_zero k

-- so a node that k steps lead up to a node is one
pub climb_some : (k n : ℕ) → 1 ≤ climb k n → 1 ≤ n
climb_some k n h = by_lt 0 n (λ q. q) (λ q. let z : n ≡ 0 = omega arith in absurd (omega (arith, ap (climb k) z, climb_zero k)))
