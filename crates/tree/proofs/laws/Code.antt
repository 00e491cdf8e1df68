-- Laws: what the shifts of the code compute. Assumes nothing.
use Rattle.std.specs.Prelude.{◌≡◌, refl, Bool, T, eqb, length, get_or}
use Rattle.std.proofs.Math.Path.{sym, ap}
use Rattle.std.proofs.Common.{◌∙◌, mod-eq_of_lt, mul-le-mul, div-le_self, eqb→eq}
use Prim.Native.Nat.{ℕ, suc, ◌+◌, ◌-◌, ◌*◌, ◌/◌, ◌%◌, ◌^◌, ◌≤◌, ◌<◌, max, min}
use native.Mathlib.Omega.{arith}
use Rattle.std.proofs.Math.Nat.{pow-le-pow_right}
use Rattle.std.specs.Int.Count.{count_leading_zeros}
use Rattle.std.proofs.lemmas.Grind.{pow_more}
use Rattle.std.proofs.lemmas.Nat.{leading_top, shr_le}
use Rattle.base.specs.rules.Choice.{choose}
use Rattle.base.specs.laws.Every.{every, every_at}
use Rattle.base.specs.laws.ChoiceLaws.{choose_le, choose_gt, by_lt}
use Rattle.tree.specs.rules.Tree.{climb, leftmost, first, last, level, Node, size, left}
use Rattle.tree.specs.rules.Lists.{ancestor, ancestors, notify_list, check_list}
use Rattle.tree.proofs.laws.Ancestors.{ancestors_count, ancestors_place}
use Rattle.tree.proofs.laws.Climb.{first_pos, first_mono}
use Rattle.tree.proofs.laws.Range.{leaves_from}
use Rattle.tree.proofs.laws.Level.{level_pos, level_range}
use Rattle.tree.proofs.laws.Closed.{four, first_is, left_is, climb_is, level_is_log, node_small, left_small}
use Rattle.tree.specs.laws.Notify.{notify_level}
use Rattle.tree.proofs.laws.Notify.{notify_count, Bounded, notify_count_lem, notify_place, notify_some, notify_higher}
use Rattle.tree.proofs.laws.Check.{check_count, check_node, check_count_lem, check_place_lem, check_is, check_level}

pub four_small : (k : ℕ) → k ≤ 12 → 4 ^ k ≤ 16777216
four_small k b = pow-le-pow_right {n = 4} (omega arith) {i = k} {j = 12} b

-- `x << (2 * k)` that drops no bit
pub shifted : (x k : ℕ) → x * 4 ^ k < 2 ^ 64 → (x * 2 ^ (2 * k)) % 2 ^ 64 ≡ x * 4 ^ k
shifted x k b = ap (λ (p : ℕ). (x * p) % 2 ^ 64) (four k) ∙ mod-eq_of_lt b

pub first_code : (d : ℕ) → 1 ≤ d → d ≤ 13 → (1 * 2 ^ (2 * (d - 1))) % 2 ^ 64 / 3 + 1 ≡ first d
first_code d a b =
    ap (λ (x : ℕ). x / 3 + 1) (shifted 1 (d - 1) (omega (arith, four_small (d - 1) (omega arith)))) ∙ omega (arith, first_is d a)

pub climb_code : (k n f : ℕ) → f ≡ first (k + 1) → 1 ≤ n → k < level n → (n - f) / 2 ^ (2 * k) + 1 ≡ climb k n
climb_code k n f e h b =
    let s : k + 1 ≡ suc k = omega arith in
    ap (λ (x : ℕ). (n - x) / 2 ^ (2 * k) + 1) (e ∙ ap first s) ∙ ap (λ (p : ℕ). (n - first (suc k)) / p + 1) (four k) ∙ sym (climb_is k n h b)

-- the nodes above the level of n that is k levels up come before n
pub climb_from : (k n : ℕ) → 1 ≤ n → k < level n → first (k + 1) ≤ n
climb_from k n h b = omega (arith, (level_range n h).0, first_mono (k + 1) (level n) (omega arith) (omega arith))

pub left_code : (k n f : ℕ) → f ≡ first (k + 1) → 1 ≤ n → level n + k ≤ 12 → ((n - 1) * 2 ^ (2 * k)) % 2 ^ 64 + f ≡ leftmost k n
left_code k n f e h b =
    let s : k + 1 ≡ suc k = omega arith in
    let i = left_is k n h in
    ap (λ (x : ℕ). ((n - 1) * 2 ^ (2 * k)) % 2 ^ 64 + x) (e ∙ ap first s)
    ∙ ap (λ (x : ℕ). x + first (suc k)) (shifted (n - 1) k (omega (arith, left_small k n h b))) ∙ sym i

pub level_code : (n : ℕ) → Node 12 n → (count_leading_zeros 64 (3 * n - 2) ≤ 64) × ((65 - count_leading_zeros 64 (3 * n - 2)) / 2 ≡ level n)
level_code n v =
    let t = leading_top 64 (3 * n - 2) (omega (arith, v.some)) (omega (arith, node_small n v)) in
    let l = level_is_log n t.0 v.some t.2 t.3 in
    (omega (arith, t.1), omega (arith, t.1))

-- the level by the place j of that bit
pub level_bit : (n j : ℕ) → 1 ≤ n → 2 ^ j ≤ 3 * n - 2 → 3 * n - 2 < 2 * 2 ^ j → j / 2 + 1 ≡ level n
level_bit n j a lo hi = omega (arith, level_is_log n j a lo (omega (arith, pow_more 2 j)))

pub size_code : (h n d : ℕ) → h ≤ 12 → Node h n → d ≡ level n → (64 * 2 ^ (2 * (h - d))) % 2 ^ 64 ≡ size h n
unfolding size
size_code h n d b v e =
    ap (λ (x : ℕ). (64 * 2 ^ (2 * (h - x))) % 2 ^ 64) e ∙ shifted 64 (h - level n) (omega (arith, four_small (h - level n) (omega arith)))

pub left_edge_code : (h n : ℕ) → 64 * (leftmost (h - level n) n - first h) ≡ left h n
unfolding left
left_edge_code h n = refl

pub last_code : (d f : ℕ) → f ≡ first (d + 1) → f - 1 ≡ last d
unfolding last
last_code d f e = let s : d + 1 ≡ suc d = omega arith in ap (λ (x : ℕ). x - 1) (e ∙ ap first s)

pub ancestor_code : (n d l : ℕ) → l ≡ level n → climb (l - d) n ≡ ancestor d n
unfolding ancestor
ancestor_code n d l e = ap (λ (x : ℕ). climb (x - d) n) e

pub ancestor_at_code : (n i : ℕ) → i < length (ancestors n) → climb (i + 1) n ≡ get_or (ancestors n) i 0
ancestor_at_code n i b =
    let s : i + 1 ≡ suc i = omega arith in
    ap (λ (k : ℕ). climb k n) s ∙ sym (ancestors_place n i (omega (arith, ancestors_count n)))

-- ---- the notify list

-- the bounds that a node of the highest tree meets
pub bounded : (m n : ℕ) → 1 ≤ m → m ≤ 4 → Node 12 n → Bounded m (level n)
bounded m n a b v = record { m_some = a; m_most = b; d_some = level_pos n; d_most = v.inside }

pub count_none : (m d : ℕ) → d ≤ 1 → notify_count m d ≡ 0
unfolding notify_count
count_none m d h = choose_le d 1 0 _ h

pub count_one : (m d : ℕ) → 1 < d → d ≤ m → notify_count m d ≡ 1
unfolding notify_count
count_one m d h g = choose_gt d 1 0 _ h ∙ choose_le d m 1 _ g

pub count_more : (m d : ℕ) → 1 < d → m < d → notify_count m d ≡ (d - 2) / m + 1
unfolding notify_count
count_more m d h g = choose_gt d 1 0 _ h ∙ choose_gt d m 1 _ g

-- the count by one division
abbrev pub divided : ℕ → ℕ → ℕ
divided m d = (d + m - 2) / m

abbrev counted : ℕ → ℕ → Bool
counted m d = eqb (divided m d) (notify_count m d)

all_counted : T (every 4 1 (λ m. every 12 1 (λ d. counted m d)))
unfolding every notify_count choose
all_counted = tt

pub count_code : {m n k x : ℕ} → (1 ≤ m) × (m ≤ 4) × Node 12 n → m ≡ k → x ≡ divided k (level n) → x ≡ length (notify_list m n)
count_code {m} {n} v e f =
    let d = level n in
    let t = every_at 12 1 (λ j. counted m j) (every_at 4 1 (λ i. every 12 1 (λ j. counted i j)) all_counted m v.0 (omega (arith, v.1))) d (level_pos n) (omega (arith, v.2.inside)) in
    f ∙ ap (λ (i : ℕ). divided i d) (sym e) ∙ eqb→eq _ _ t ∙ sym (notify_count_lem m n (bounded m n v.0 v.1 v.2))

pub count_small : (m n : ℕ) → Bounded m (level n) → length (notify_list m n) < 12
count_small m n b =
    let d = level n in
    let e = notify_count_lem m n b in
    by_lt 1 d
    (λ q. by_lt m d
    (λ l. omega (arith, count_more m d q l, div-le_self (d - 2) m, b.d_most))
    (λ l. omega (arith, count_one m d q l)))
    (λ q. omega (arith, count_none m d q))

pub steps_near : (m d i : ℕ) → 1 ≤ d → d ≤ m → 1 ≡ d - notify_level m d i
unfolding notify_level
steps_near m d i a b = omega (arith, choose_le d m (d - 1) (max m (d - 1 - i * m)) b)

pub steps_far : (m d i : ℕ) → m < d → d - max m (d - 1 - i * m) ≡ d - notify_level m d i
unfolding notify_level
steps_far m d i b = ap (λ (x : ℕ). d - x) (sym (choose_gt d m (d - 1) _ b))

pub place_small : (i m : ℕ) → i < 12 → m ≤ 4 → i * m ≤ 44
place_small i m a b = mul-le-mul {n₁ = i} {m₁ = m} {n₂ = 11} {m₂ = 4} (omega arith) b

-- the steps to the ancestor at place i, or to level m where that is nearer
pub steps_least : (m d i : ℕ) → m < d → min (i * m + 1) (d - m) ≡ d - notify_level m d i
steps_least m d i b = omega (arith, steps_far m d i b)

-- the steps lead to an ancestor, the one at place i
pub steps_code : {m n i d s : ℕ} → (1 ≤ m) × (m ≤ 4) × Node 12 n × (i < length (notify_list m n)) → d ≡ level n → s ≡ d - notify_level m d i
    → (s < level n) × (climb s n ≡ get_or (notify_list m n) i 0)
steps_code {m} {n} {i} {d} v e f =
    let b = bounded m n v.0 v.1 v.2 in
    let l : i < notify_count m (level n) = omega (arith, v.3, notify_count_lem m n b) in
    let g = f ∙ ap (λ (x : ℕ). x - notify_level m x i) e in (
      omega (arith, g, notify_some m (level n) i b l, notify_higher m (level n) i b l),
      ap (λ (x : ℕ). climb x n) g ∙ ancestor_code n (notify_level m (level n) i) (level n) refl ∙ sym (notify_place m n b i l),
    )

-- ---- the check list

pub check_count_m : (h m n : ℕ) → m < h - level n → first (m + 1) - 1 ≡ length (check_list h m n)
unfolding check_count
check_count_m h m n b = let e : m + 1 ≡ suc (min m (h - level n)) = omega arith in ap (λ (k : ℕ). first k - 1) e ∙ sym (check_count_lem h m n)

pub check_count_h : (h m n : ℕ) → h - level n ≤ m → first (h - level n + 1) - 1 ≡ length (check_list h m n)
unfolding check_count
check_count_h h m n b = let e : h - level n + 1 ≡ suc (min m (h - level n)) = omega arith in ap (λ (k : ℕ). first k - 1) e ∙ sym (check_count_lem h m n)

pub check_count_code : (h m n : ℕ) → first (min m (h - level n) + 1) - 1 ≡ length (check_list h m n)
unfolding check_count
check_count_code h m n = let e : min m (h - level n) + 1 ≡ suc (min m (h - level n)) = omega arith in ap (λ (k : ℕ). first k - 1) e ∙ sym (check_count_lem h m n)

module _ {h m n i : ℕ} (v : (h ≤ 12) × (1 ≤ m) × Node h n × (i < length (check_list h m n))) where
  counted_place : i < check_count h m n
  counted_place = omega (arith, v.3, check_count_lem h m n)

  place_deep : level n + (level (i + 1) - 1) ≤ 12
  place_deep =
      let e : level (suc i) ≡ level (i + 1) = ap level (omega arith) in
      omega (arith, v.0, (check_is n v.2.some h m v.1 i counted_place).inner, check_level n v.2.some i)

  pub place_node : Node 12 (i + 1)
  place_node = record { some = omega arith; inside = omega (arith, place_deep, level_pos n) }

  module _ {d : ℕ} (e : d ≡ level (i + 1)) where
    pub place_level : (1 ≤ d) × (d ≤ 12)
    place_level = (omega (arith, level_pos (i + 1)), omega (arith, place_node.inside))

    -- the code's node: as far after the first of the nodes d - 1 levels below n as node i + 1 is after the first of its level
    shift_place : ((n - 1) * 2 ^ (2 * (d - 1))) % 2 ^ 64 + i + 1 ≡ leftmost (d - 1) n + (i + 1 - first d)
    shift_place =
        let s : d ≡ d - 1 + 1 = omega (arith, place_level) in
        let l : first d ≤ i + 1 = rw e (level_range (i + 1) (omega arith)).0 in
        omega (arith, left_code (d - 1) n (first d) (ap first s) v.2.some (omega (arith, place_deep)))

    pub check_small : ((n - 1) * 2 ^ (2 * (d - 1))) % 2 ^ 64 + i + 1 < 2 ^ 64
    check_small = omega (arith, shift_place, left_small (d - 1) n v.2.some (omega (arith, place_deep)), node_small (i + 1) place_node)

    pub check_code : ((n - 1) * 2 ^ (2 * (d - 1))) % 2 ^ 64 + i + 1 ≡ get_or (check_list h m n) i 0
    unfolding check_node
    check_code =
        let s : i + 1 ≡ suc i = omega arith in
        shift_place ∙ ap (λ (x : ℕ). leftmost (x - 1) n + (i + 1 - first x)) e ∙ ap (λ (x : ℕ). leftmost (level x - 1) n + (x - first (level x))) s
        ∙ sym (check_place_lem h m n i counted_place)

-- what the check tries at each goal of the code
pub ruleset shifts = (node_small, first_pos, level_pos, left_small, shr_le, climb_from, ancestors_count, first_code, last_code, ancestor_code, ancestor_at_code, size_code, climb_code, left_code, level_bit, left_edge_code, leaves_from, count_small, bounded, steps_near, steps_least, check_count_code)
