-- Laws of the check list: its length, its nodes by place, and which nodes it has. Assumes nothing.
use Rattle.std.specs.Prelude.{◌≡◌, refl, ◌++◌, length, get_or}
use Rattle.std.proofs.Common.{sym, ◌∙◌, length-append, get_or-append-add}
use Rattle.std.proofs.Math.Path.{ap, subst}
use Prim.Native.Nat.{ℕ, zero, suc, ◌+◌, ◌-◌, ◌*◌, ◌^◌, ◌≤◌, ◌<◌, min}
use native.Mathlib.Omega.{arith}
use Rattle.std.proofs.Math.ListN.{get_or-append}
use Rattle.base.specs.laws.ChoiceLaws.{by_lt}
use Rattle.tree.specs.rules.Tree.{climb, leftmost, first, level}
use Rattle.tree.specs.rules.Lists.{ancestor, row, descendants, nearest, check_list}
use Rattle.tree.proofs.laws.Climb.{left_pos, first_pos, first_width, first_mono, climb_from, climb_to}
use Rattle.tree.proofs.laws.Level.{first_one, level_pos, level_is, level_range, level_mono, level_below}

-- the list by count and place: the nodes below a stand in the order of the nodes 1, 2, 3, .. below the root
unfoldable pub check_count : ℕ → ℕ → ℕ → ℕ
check_count h m a = first (suc (min m (h - level a))) - 1

unfoldable pub check_node : ℕ → ℕ → ℕ
check_node a i = leftmost (level (suc i) - 1) a + (suc i - first (level (suc i)))

row_length : (count n : ℕ) → length (row count n) ≡ count
unfolding row
row_length zero n = refl
row_length (suc count) n = ap suc (row_length count (suc n))

row_place : (count n i : ℕ) → i < count → get_or (row count n) i 0 ≡ n + i
unfolding row
row_place zero n i b = absurd (omega arith)
row_place (suc count) n zero b = omega arith
row_place (suc count) n (suc i) b = row_place count (suc n) i (omega arith) ∙ (let e : suc n + i ≡ n + suc i = omega arith in e)

nearest_length : (k n : ℕ) → length (nearest k n) ≡ first (suc k) - 1
unfolding nearest descendants
nearest_length zero n = omega (arith, first_one)
nearest_length (suc k) n = length-append (nearest k n) (descendants k n) ∙ omega (arith, nearest_length k n, row_length (4 ^ k) (leftmost k n), first_width k, first_pos (suc k))

nearest_place : (k n i : ℕ) → i < first (suc k) - 1 → get_or (nearest k n) i 0 ≡ check_node n i
unfolding nearest descendants check_node
nearest_place zero n i b = absurd (omega (arith, first_one))
nearest_place (suc k) n i b =
    let s = nearest_length k n in
    by_lt i (first (suc k) - 1)
    (λ q. get_or-append (nearest k n) (descendants k n) 0 i (omega arith) ∙ nearest_place k n i q)
    (λ q.
    let j = i - (first (suc k) - 1) in
    let w = first_width k in
    let p = first_pos (suc k) in
    let e : i ≡ length (nearest k n) + j = omega arith in
    let l : level (suc i) ≡ suc k = level_is (suc k) (suc i) (omega arith) (omega arith) (omega arith) in
    ap (λ (x : ℕ). get_or (nearest k n ++ descendants k n) x 0) e ∙ get_or-append-add (nearest k n) (descendants k n) j 0
    ∙ row_place (4 ^ k) (leftmost k n) j (omega arith)
    ∙ (let z : j ≡ suc i - first (suc k) = omega arith in ap (λ (x : ℕ). leftmost k n + x) z)
    ∙ sym (ap (λ (d : ℕ). leftmost (d - 1) n + (suc i - first d)) l ∙ ap (λ (x : ℕ). leftmost x n + (suc i - first (suc k))) (let z : suc k - 1 ≡ k = omega arith in z)))

-- ---- the list's length, and the node at each place

pub check_count_lem : (h m n : ℕ) → length (check_list h m n) ≡ check_count h m n
unfolding check_list check_count
check_count_lem h m n = nearest_length (min m (h - level n)) n

pub check_place_lem : (h m n i : ℕ) → i < check_count h m n → get_or (check_list h m n) i 0 ≡ check_node n i
unfolding check_list check_count
check_place_lem h m n i b = nearest_place (min m (h - level n)) n i b

-- ---- the nodes of the list

-- c is checked by a: a itself, or an inner node below it that is fewer than m levels away
pub record Checked (h m a c : ℕ) : Type 0 where
  pub low : level a ≤ level c
  pub near : level c < level a + m
  pub inner : level c < h
  pub meets : ancestor (level a) c ≡ a

module _ (a : ℕ) (some : 1 ≤ a) where
  wide : (s : ℕ) → 4 ^ s + 2 ≤ 3 * leftmost s a
  unfolding leftmost
  wide zero = omega arith
  wide (suc s) = omega (arith, wide s)

  deeper : (s t : ℕ) → s < t → leftmost s a + 4 ^ s ≤ leftmost t a
  unfolding leftmost
  deeper s zero b = absurd (omega arith)
  deeper s (suc t) b =
      by_lt s t
      (λ q. omega (arith, deeper s t q, left_pos t a some))
      (λ q. let e : s ≡ t = omega arith in rw e (omega (arith, wide t, left_pos t a some)))

  -- where place i stands in its level
  record Spot (i : ℕ) : Type 0 where
    at : check_node a i ≡ leftmost (level (suc i) - 1) a + (suc i - first (level (suc i)))
    low : first (level (suc i)) ≤ suc i
    high : suc i < first (level (suc i)) + 4 ^ (level (suc i) - 1)

  spot : (i : ℕ) → Spot i
  unfolding check_node
  spot i =
      let r = level_range (suc i) (omega arith) in
      let d = level (suc i) in
      let e : suc (d - 1) ≡ d = omega (arith, level_pos (suc i)) in
      let w : first (suc d) ≡ first d + 4 ^ (d - 1) = subst (λ (x : ℕ). first (suc x) ≡ first x + 4 ^ (d - 1)) e (first_width (d - 1)) in
      record { at = refl; low = r.0; high = omega (arith, r.1) }

  spot_climb : (i : ℕ) → climb (level (suc i) - 1) (check_node a i) ≡ a
  spot_climb i = let s = spot i in climb_to (level (suc i) - 1) a (check_node a i) some (omega (arith, s.at)) (omega (arith, s.at, s.low, s.high))

  pub check_level : (i : ℕ) → level (check_node a i) ≡ level a + (level (suc i) - 1)
  check_level i = level_below (level (suc i) - 1) a (check_node a i) some (spot_climb i)

  -- by rising number
  pub check_rising : (i j : ℕ) → i < j → check_node a i < check_node a j
  check_rising i j b =
      let s = spot i in
      let t = spot j in
      let m = level_mono (suc i) (suc j) (omega arith) (omega arith) in
      by_lt (level (suc i)) (level (suc j))
      (λ q. omega (arith, s.at, t.at, s.high, s.low, deeper (level (suc i) - 1) (level (suc j) - 1) (omega (arith, level_pos (suc i)))))
      (λ q. let e : level (suc j) ≡ level (suc i) = omega arith in
      let l : leftmost (level (suc j) - 1) a ≡ leftmost (level (suc i) - 1) a = ap (λ (d : ℕ). leftmost (d - 1) a) e in
      let f : first (level (suc j)) ≡ first (level (suc i)) = ap first e in
      omega (arith, s.at, t.at, s.low, t.low))

  module _ (h m : ℕ) (m1 : 1 ≤ m) where
    -- each place of the list has a node that is checked
    pub check_is : (i : ℕ) → i < check_count h m a → Checked h m a (check_node a i)
    unfolding check_count ancestor
    check_is i b =
        let k = min m (h - level a) in
        let s = spot i in
        let c = first_pos (suc k) in
        let d : level (suc i) < suc k = by_lt (level (suc i)) (suc k) (λ q. q) (λ q. absurd (omega (arith, first_mono (suc k) (level (suc i)) (omega arith) q, s.low))) in
        let l = check_level i in
        let p = level_pos (suc i) in
        record {
          low = omega arith;
          near = omega arith;
          inner = omega arith;
          meets = ap (λ (e : ℕ). climb (e - level a) (check_node a i)) l ∙ ap (λ (e : ℕ). climb e (check_node a i)) (let z : level a + (level (suc i) - 1) - level a ≡ level (suc i) - 1 = omega arith in z) ∙ spot_climb i;
        }

    -- each node that is checked has a place in the list
    pub check_place : ℕ → ℕ
    check_place c = first (suc (level c - level a)) - 1 + (c - leftmost (level c - level a) a)

    pub check_all : (c : ℕ) → Checked h m a c → (check_place c < check_count h m a) × (check_node a (check_place c) ≡ c)
    unfolding check_count ancestor check_place check_node
    check_all c v =
        let s = level c - level a in
        let k = min m (h - level a) in
        let j = check_place c in
        let r = climb_from s a c some v.meets in
        let w = first_width s in
        let p = first_pos (suc s) in
        let g = first_mono (suc (suc s)) (suc k) (omega arith) (omega (arith, v.low, v.near, v.inner)) in
        let e : level (suc j) ≡ suc s = level_is (suc s) (suc j) (omega arith) (omega arith) (omega (arith, r.0, r.1)) in (
          omega (arith, r.0, r.1),
          ap (λ (d : ℕ). leftmost (d - 1) a + (suc j - first d)) e ∙ (let q : leftmost (suc s - 1) a ≡ leftmost s a = ap (λ (x : ℕ). leftmost x a) (omega arith) in omega (arith, r.0)),
        )
