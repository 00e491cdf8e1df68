-- Laws of levels: which numbers a level has, and which numbers are nodes. Assumes nothing.
use Rattle.std.specs.Prelude.{◌≡◌, refl, ℕ, zero, suc, ◌+◌, ◌-◌, ◌≤◌, ◌<◌, ltb}
use Rattle.std.proofs.Common.{ap, ◌∙◌, arith, ltb→lt, nltb→le}
use Rattle.base.specs.rules.Choice.{choose}
use Rattle.base.specs.laws.ChoiceLaws.{on_choose, by_lt}
use Rattle.tree.specs.rules.Tree.{parent, climb, leftmost, first, level_within, level, Node, word_count}
use Rattle.tree.proofs.laws.Climb.{pow4, first_next, first_pos, first_mono, first_closed, climb_some}

-- two bounds on the steps that are both enough give the same level
level_within_lem : (f g n : ℕ) → n ≤ f → n ≤ g → level_within f n ≡ level_within g n
unfolding level_within
level_within_lem zero zero n a b = refl
level_within_lem zero (suc g) n a b = on_choose (λ x. 1 ≡ x) (ltb n 2) _ _ (λ _. refl) (λ t. absurd (omega (arith, nltb→le n 2 t)))
level_within_lem (suc f) zero n a b = on_choose (λ x. x ≡ 1) (ltb n 2) _ _ (λ _. refl) (λ t. absurd (omega (arith, nltb→le n 2 t)))
level_within_lem (suc f) (suc g) n a b =
    on_choose (λ x. x ≡ choose (ltb n 2) 1 (suc (level_within g (parent n)))) (ltb n 2) _ _
    (λ t. on_choose (λ x. 1 ≡ x) (ltb n 2) _ _ (λ _. refl) (λ s. absurd (omega (arith, nltb→le n 2 s, ltb→lt n 2 t))))
    (λ t. on_choose (λ x. suc (level_within f (parent n)) ≡ x) (ltb n 2) _ _ (λ s. absurd (omega (arith, nltb→le n 2 t, ltb→lt n 2 s)))
    (λ _. ap suc (level_within_lem f g (parent n) (let q = nltb→le n 2 t in omega arith) (let q = nltb→le n 2 t in omega arith))))

pub level_root : (n : ℕ) → n ≤ 1 → level n ≡ 1
unfolding level level_within
level_root zero h = refl
level_root (suc n) h = on_choose (λ x. x ≡ 1) (ltb (suc n) 2) _ _ (λ _. refl) (λ t. absurd (omega (arith, nltb→le (suc n) 2 t)))

pub level_up : (n : ℕ) → 2 ≤ n → level n ≡ suc (level (parent n))
unfolding level level_within
level_up zero h = absurd (omega arith)
level_up (suc n) h =
    on_choose (λ x. x ≡ suc (level (parent (suc n)))) (ltb (suc n) 2) _ _ (λ t. absurd (omega (arith, ltb→lt (suc n) 2 t)))
    (λ t. ap suc (level_within_lem n (parent (suc n)) (parent (suc n)) (omega arith) (omega arith)))

-- the nodes of level d are those from its first node up to that of level d + 1
pub level_is : (d n : ℕ) → 1 ≤ d → first d ≤ n → n < first (suc d) → level n ≡ d
unfolding first leftmost
level_is zero n h a b = absurd (omega arith)
level_is (suc zero) n h a b = let f : first 2 ≡ 2 = refl in level_root n (omega arith)
level_is (suc (suc d)) n h a b =
    let p = first_pos (suc d) in
    let e = first_next (suc d) (omega arith) in
    let g = first_next (suc (suc d)) (omega arith) in
    level_up n (omega arith) ∙ ap suc (level_is (suc d) (parent n) (omega arith) (omega arith) (omega arith))

pub level_pos : (n : ℕ) → 1 ≤ level n
unfolding level level_within
level_pos zero = omega arith
level_pos (suc n) = on_choose (λ x. 1 ≤ x) (ltb (suc n) 2) _ _ (λ _. omega arith) (λ _. omega arith)

pub first_one : first 1 ≡ 1
unfolding first leftmost
first_one = refl

first_two : first 2 ≡ 2
unfolding first leftmost
first_two = refl

level_range_within : (f n : ℕ) → n ≤ f → 1 ≤ n → (first (level n) ≤ n) × (n < first (suc (level n)))
level_range_within zero n b h = absurd (omega arith)
level_range_within (suc f) n b h =
    by_lt n 2
    (λ l. rw (level_root n (omega arith)) (let a = first_one in let b : first 2 ≡ 2 = first_two in (omega arith, omega arith)))
    (λ l.
    let i = level_range_within f (parent n) (omega arith) (omega arith) in
    let a = first_next (level (parent n)) (level_pos (parent n)) in
    let c = first_next (suc (level (parent n))) (omega arith) in
    let p = first_pos (level (parent n)) in
    rw (level_up n l) (omega (arith, i.0, i.1), omega (arith, i.0, i.1)))

pub level_range : (n : ℕ) → 1 ≤ n → (first (level n) ≤ n) × (n < first (suc (level n)))
level_range n = level_range_within n n (omega arith)

pub level_root_only : (n : ℕ) → 1 ≤ n → level n ≡ 1 → n ≡ 1
level_root_only n h e = by_lt n 2 (λ q. omega arith) (λ q. absurd (omega (arith, level_up n q, level_pos (parent n))))

pub level_mono : (p q : ℕ) → 1 ≤ p → p ≤ q → level p ≤ level q
level_mono p q h b =
    by_lt (level q) (level p)
    (λ l. absurd (omega (arith, (level_range p h).0, (level_range q (omega arith)).1, first_mono (suc (level q)) (level p) (omega arith) l)))
    (λ l. l)

-- k steps up are k levels up, and a node from which they lead to a is k levels below it
pub climb_level : (k n : ℕ) → 1 ≤ n → k < level n → (1 ≤ climb k n) × (level (climb k n) ≡ level n - k)
unfolding climb
climb_level zero n h b = (h, omega arith)
climb_level (suc k) n h b =
    by_lt n 2
    (λ q. absurd (omega (arith, level_root n (omega arith))))
    (λ q. let e = level_up n q in let i = climb_level k (parent n) (omega arith) (omega arith) in (i.0, omega (arith, i.1)))

pub level_below : (k a c : ℕ) → 1 ≤ a → climb k c ≡ a → level c ≡ level a + k
unfolding climb
level_below zero a c h e = ap level e ∙ (let q : level a ≡ level a + 0 = omega arith in q)
level_below (suc k) a c h e =
    let p : 1 ≤ parent c = climb_some k (parent c) (omega arith) in
    omega (arith, level_up c (omega arith), level_below k a (parent c) h e)

-- ---- the nodes are the numbers from 1 to the count of the words

pub word_count_lem : (h : ℕ) → word_count h ≡ first (suc h) - 1
unfolding word_count
word_count_lem h = omega (arith, first_closed h, pow4 h)

pub node_counted : (h n : ℕ) → Node h n → n ≤ word_count h
node_counted h n v = omega (arith, (level_range n v.some).1, word_count_lem h, first_mono (suc (level n)) (suc h) (omega arith) (omega (arith, v.inside)))

pub counted_node : (h n : ℕ) → 1 ≤ n → n ≤ word_count h → Node h n
counted_node h n a b = record {
  some = a;
  inside = by_lt h (level n)
      (λ q. absurd (omega (arith, (level_range n a).0, word_count_lem h, first_pos (suc h), first_mono (suc h) (level n) (omega arith) q)))
      (λ q. q);
}
