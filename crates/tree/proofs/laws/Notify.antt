-- Laws of the notify list: its length, its nodes by place, and that it has no node twice. Assumes nothing.
use Rattle.std.specs.Prelude.{◌≡◌, refl, Bool, List, [], ◌∷◌, map, ℕ, zero, suc, ◌+◌, ◌-◌, ◌/◌, ◌≤◌, ◌<◌, length, get_or, T, eqb, leb, ltb}
use Rattle.std.proofs.Math.Path.{ap}
use Rattle.std.proofs.Common.{◌∙◌, arith, ltb→lt}
use Rattle.std.proofs.Math.ListN.{length-map}
use Rattle.std.proofs.Math.Dec.{eqb→eq}
use Rattle.base.specs.rules.Choice.{choose}
use Rattle.base.specs.laws.Every.{both, both_l, both_r, every, every_at}
use Rattle.tree.specs.rules.Tree.{level}
use Rattle.tree.specs.rules.Lists.{ancestor, notifies, notified_from, notify_levels, notify_list}
use Rattle.tree.proofs.laws.Level.{climb_level}
use Rattle.tree.specs.laws.Notify.{notify_level}

-- the list by count; by place it is `notify_level`
unfoldable pub notify_count : ℕ → ℕ → ℕ
notify_count m d = choose (leb d 1) 0 (choose (leb d m) 1 ((d - 2) / m + 1))

-- ---- one table over m of 1 .. 4 and d of 1 .. 12: the two forms agree, and the levels fall from place to place, from below d to above 0

placed : ℕ → ℕ → ℕ → Bool
placed m d i =
    both (eqb (get_or (notify_levels m d) i 0) (notify_level m d i))
    (both (ltb 0 (notify_level m d i)) (both (ltb (notify_level m d i) d) (every i 0 (λ j. ltb (notify_level m d i) (notify_level m d j)))))

listed : ℕ → ℕ → Bool
listed m d = both (eqb (length (notify_levels m d)) (notify_count m d)) (every (notify_count m d) 0 (λ i. placed m d i))

all_listed : T (every 4 1 (λ m. every 12 1 (λ d. listed m d)))
unfolding every both listed placed notify_levels notified_from notifies notify_count notify_level choose
all_listed = tt

-- the two bounds of document 01 on m and on a level
pub record Bounded (m d : ℕ) : Type 0 where
  pub m_some : 1 ≤ m
  pub m_most : m ≤ 4
  pub d_some : 1 ≤ d
  pub d_most : d ≤ 12

listed_at : (m d : ℕ) → Bounded m d → T (listed m d)
listed_at m d b =
    every_at 12 1 (λ e. listed m e) (every_at 4 1 (λ n. every 12 1 (λ e. listed n e)) all_listed m b.m_some (omega (arith, b.m_most))) d b.d_some (omega (arith, b.d_most))

levels_count : (m d : ℕ) → Bounded m d → length (notify_levels m d) ≡ notify_count m d
unfolding listed
levels_count m d b = eqb→eq _ _ (both_l _ _ (listed_at m d b))

placed_at : (m d i : ℕ) → Bounded m d → i < notify_count m d → T (placed m d i)
unfolding listed
placed_at m d i b l =
    every_at (notify_count m d) 0 (λ j. placed m d j) (both_r (eqb (length (notify_levels m d)) (notify_count m d)) _ (listed_at m d b)) i (omega arith) (omega arith)

module _ (m d i : ℕ) (b : Bounded m d) (l : i < notify_count m d) where
  levels_place : get_or (notify_levels m d) i 0 ≡ notify_level m d i
  unfolding placed
  levels_place = eqb→eq _ _ (both_l _ _ (placed_at m d i b l))

  after_place : T (both (ltb 0 (notify_level m d i)) (both (ltb (notify_level m d i) d) (every i 0 (λ j. ltb (notify_level m d i) (notify_level m d j)))))
  unfolding placed
  after_place = both_r (eqb (get_or (notify_levels m d) i 0) (notify_level m d i)) _ (placed_at m d i b l)

  pub notify_some : 1 ≤ notify_level m d i
  notify_some = ltb→lt 0 (notify_level m d i) (both_l _ _ after_place)

  pub notify_higher : notify_level m d i < d
  notify_higher = ltb→lt (notify_level m d i) d (both_l _ _ (both_r (ltb 0 (notify_level m d i)) _ after_place))

  -- a later place is a higher node: each level once, the lowest node first
  pub notify_falls : (j : ℕ) → j < i → notify_level m d i < notify_level m d j
  notify_falls j k =
      let t = both_r (ltb (notify_level m d i) d) _ (both_r (ltb 0 (notify_level m d i)) _ after_place) in
      ltb→lt (notify_level m d i) (notify_level m d j) (every_at i 0 (λ n. ltb (notify_level m d i) (notify_level m d n)) t j (omega arith) (omega arith))

-- ---- the list's length, and the node at each place

abbrev pub notify_node : ℕ → ℕ → ℕ → ℕ
notify_node m n i = ancestor (notify_level m (level n) i) n

map_place : (f : ℕ → ℕ) (l : List ℕ) (i : ℕ) → i < length l → get_or (map f l) i 0 ≡ f (get_or l i 0)
map_place f [] i b = absurd (omega arith)
map_place f (x ∷ l) zero b = refl
map_place f (x ∷ l) (suc i) b = map_place f l i (omega arith)

module _ (m n : ℕ) (b : Bounded m (level n)) where
  pub notify_count_lem : length (notify_list m n) ≡ notify_count m (level n)
  unfolding notify_list
  notify_count_lem = length-map (notify_levels m (level n)) (λ d. ancestor d n) ∙ levels_count m (level n) b

  module _ (i : ℕ) (l : i < notify_count m (level n)) where
    pub notify_place : get_or (notify_list m n) i 0 ≡ notify_node m n i
    unfolding notify_list
    notify_place =
        map_place (λ d. ancestor d n) (notify_levels m (level n)) i (omega (arith, levels_count m (level n) b))
        ∙ ap (λ (d : ℕ). ancestor d n) (levels_place m (level n) i b l)

    -- each node of the list is an ancestor, at the place's level
    pub notify_node_lem : 1 ≤ n → (1 ≤ notify_node m n i) × (level (notify_node m n i) ≡ notify_level m (level n) i)
    unfolding ancestor
    notify_node_lem some =
        let d = level n in
        let e = notify_level m d i in
        let s = notify_some m d i b l in
        let t = notify_higher m d i b l in
        let g = climb_level (d - e) n some (omega arith) in
        (g.0, omega (arith, g.1))

-- the list has no node twice
pub notify_once : (m n : ℕ) → Bounded m (level n) → 1 ≤ n → (i j : ℕ) → i < notify_count m (level n) → j < i → notify_node m n j ≡ notify_node m n i → ⊥
notify_once m n b some i j l k e =
    omega (arith, notify_falls m (level n) i b l j k, (notify_node_lem m n b i l some).1, (notify_node_lem m n b j (omega arith) some).1, ap level e)
