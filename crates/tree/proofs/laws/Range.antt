-- Laws of ranges: a unit's holders, and two nodes with a common unit. Assumes nothing.
use Rattle.std.specs.Prelude.{◌≡◌, ◌⊎◌}
use Rattle.std.proofs.Math.Path.{sym, ap, subst}
use Rattle.std.proofs.Common.{◌∙◌, inl, inr}
use Prim.Native.Nat.{ℕ, suc, ◌+◌, ◌-◌, ◌*◌, ◌^◌, ◌≤◌, ◌<◌}
use native.Mathlib.Omega.{arith}
use Rattle.base.specs.laws.ChoiceLaws.{by_lt}
use Rattle.tree.specs.rules.Tree.{climb, leftmost, first, level, Node, units, size, left, right, Holds, leaf, holder, Above}
use Rattle.tree.proofs.laws.Climb.{pow4, left_mono, left_shift, left_first, first_pos, first_width, climb_add, climb_from, climb_to}
use Rattle.tree.proofs.laws.Level.{first_one, level_root, level_pos, level_is, level_range, climb_level}

-- ---- a node's place among the leaves

module _ (h n : ℕ) (v : Node h n) where
  pub from : first (level n) ≤ n
  from = (level_range n v.some).0

  pub upto : n < first (suc (level n))
  upto = (level_range n v.some).1

  -- its leaves are among the tree's leaves
  pub leaves_from : first h ≤ leftmost (h - level n) n
  leaves_from =
      let e : (h - level n) + level n ≡ h = omega (arith, v.inside) in
      let a = left_mono (h - level n) (first (level n)) n from in
      let b = left_first (h - level n) (level n) (level_pos n) in
      subst (λ (x : ℕ). first x ≤ leftmost (h - level n) n) e (omega arith)

  pub leaves_to : leftmost (h - level n) n + 4 ^ (h - level n) ≤ first (suc h)
  leaves_to =
      let e : (h - level n) + suc (level n) ≡ suc h = omega (arith, v.inside) in
      let a = left_mono (h - level n) (n + 1) (first (suc (level n))) (omega (arith, upto)) in
      let b = left_first (h - level n) (suc (level n)) (omega arith) in
      let c = left_shift (h - level n) n 1 v.some in
      subst (λ (x : ℕ). leftmost (h - level n) n + 4 ^ (h - level n) ≤ first x) e (omega arith)

  pub size_pos : 64 ≤ size h n
  unfolding size
  size_pos = omega (arith, pow4 (h - level n))

  pub right_in : 1 ≤ h → right h n ≤ units h
  unfolding size left units
  right_in g =
      let e : suc (suc (h - 1)) ≡ suc h = omega arith in
      let e' : suc (h - 1) ≡ h = omega arith in
      let w = first_width (h - 1) in
      let w' : first (suc h) ≡ first h + 4 ^ (h - 1) = subst (λ (x : ℕ). first x ≡ first h + 4 ^ (h - 1)) e (subst (λ (x : ℕ). first (suc (suc (h - 1))) ≡ first x + 4 ^ (h - 1)) e' w) in
      omega (arith, leaves_from, leaves_to)

  pub holds_holder : (u : ℕ) → Holds h n u → holder h (level n) u ≡ n
  unfolding size left holder
  holds_holder u w = climb_to (h - level n) n (leaf h u) v.some (omega (arith, w.low, w.high, leaves_from)) (omega (arith, w.low, w.high, leaves_from))

  pub holder_holds : (u : ℕ) → holder h (level n) u ≡ n → Holds h n u
  unfolding size left holder
  holder_holds u e =
      let i = climb_from (h - level n) n (leaf h u) v.some e in
      record { low = omega (arith, i.0, i.1, leaves_from); high = omega (arith, i.0, i.1, leaves_from) }

-- ---- the node of each level that holds a unit

module _ (h u : ℕ) (hh : 1 ≤ h) (hu : u < units h) where
  pub leaf_level : level (leaf h u) ≡ h
  unfolding units
  leaf_level =
      let e : suc (suc (h - 1)) ≡ suc h = omega arith in
      let e' : suc (h - 1) ≡ h = omega arith in
      let w = first_width (h - 1) in
      let w' : first (suc h) ≡ first h + 4 ^ (h - 1) = subst (λ (x : ℕ). first x ≡ first h + 4 ^ (h - 1)) e (subst (λ (x : ℕ). first (suc (suc (h - 1))) ≡ first x + 4 ^ (h - 1)) e' w) in
      level_is h (leaf h u) hh (omega arith) (omega arith)

  pub leaf_some : 1 ≤ leaf h u
  leaf_some = omega (arith, first_pos h)

  pub holder_level : (d : ℕ) → 1 ≤ d → d ≤ h → level (holder h d u) ≡ d
  unfolding holder
  holder_level d a b = omega (arith, (climb_level (h - d) (leaf h u) leaf_some (omega (arith, leaf_level))).1, leaf_level)

  pub holder_some : (d : ℕ) → 1 ≤ d → d ≤ h → 1 ≤ holder h d u
  unfolding holder
  holder_some d a b = (climb_level (h - d) (leaf h u) leaf_some (omega (arith, leaf_level))).0

  pub holder_node : (d : ℕ) → 1 ≤ d → d ≤ h → Node h (holder h d u)
  holder_node d a b = record { some = holder_some d a b; inside = omega (arith, holder_level d a b) }

  pub holder_own : (d : ℕ) → 1 ≤ d → d ≤ h → Holds h (holder h d u) u
  holder_own d a b = holder_holds h (holder h d u) (holder_node d a b) u (ap (λ (e : ℕ). holder h e u) (holder_level d a b))

  -- the holder of a higher level is above
  pub holder_climb : (d e : ℕ) → 1 ≤ d → d ≤ e → e ≤ h → climb (e - d) (holder h e u) ≡ holder h d u
  unfolding holder
  holder_climb d e a b c = sym (climb_add (e - d) (h - e) (leaf h u)) ∙ ap (λ (k : ℕ). climb k (leaf h u)) (omega arith)

-- two nodes with a common unit are equal, or one is a strict ancestor of the other
pub nested : (h p q u : ℕ) → 1 ≤ h → u < units h → Node h p → Node h q → Holds h p u → Holds h q u → (p ≡ q) ⊎ (Above p q ⊎ Above q p)
nested h p q u hh hu vp vq wp wq =
    by_lt (level p) (level q)
    (λ t. inr (inl (record { higher = t; meets = above p q vp vq wp wq t })))
    (λ t. by_lt (level q) (level p)
    (λ s. inr (inr (record { higher = s; meets = above q p vq vp wq wp s })))
    (λ s. let e : level p ≡ level q = omega arith in
    inl (sym (holds_holder h p vp u wp) ∙ ap (λ (d : ℕ). holder h d u) e ∙ holds_holder h q vq u wq)))
  where
    above : (a b : ℕ) → Node h a → Node h b → Holds h a u → Holds h b u → level a < level b → climb (level b - level a) b ≡ a
    above a b va vb wa wb l =
        ap (climb (level b - level a)) (sym (holds_holder h b vb u wb))
        ∙ holder_climb h u hh hu (level a) (level b) (level_pos a) (omega arith) vb.inside
        ∙ holds_holder h a va u wa

-- ---- the root stands for all units

module _ (h : ℕ) (hh : 1 ≤ h) where
  pub root_node : Node h 1
  root_node = record { some = omega arith; inside = omega (arith, level_root 1 (omega arith)) }

  pub root_left : left h 1 ≡ 0
  unfolding left
  root_left =
      let e : leftmost (h - level 1) 1 ≡ first h =
      ap (λ (d : ℕ). leftmost (h - d) 1) (level_root 1 (omega arith)) ∙ ap (leftmost (h - 1)) (sym first_one) ∙ left_first (h - 1) 1 (omega arith) ∙ ap first (let z : h - 1 + 1 ≡ h = omega arith in z) in
      omega arith

  pub root_size : size h 1 ≡ units h
  unfolding size units
  root_size = ap (λ (d : ℕ). 64 * 4 ^ (h - d)) (level_root 1 (omega arith))
