-- Laws of the lowest node that has all of a window. Assumes nothing.
use Rattle.std.specs.Prelude.{◌≡◌, ◌⊎◌, ◌≢◌, ℕ, ◌+◌, ◌-◌, ◌/◌, ◌^◌, ◌≤◌, ◌<◌}
use Rattle.std.proofs.Math.Path.{sym, subst}
use Rattle.std.proofs.Common.{ap, ◌∙◌, inl, inr, ⊎_elim, arith}
use Rattle.std.proofs.Math.Nat.{div-eq_of_lt}
use Rattle.tree.specs.rules.Tree.{holder, level, left, right, units, first, Node, Holds}
use Rattle.tree.proofs.laws.Level.{level_pos}
use Rattle.tree.proofs.laws.Range.{holder_level, holder_node, holder_own, holds_holder, nested}
use Rattle.tree.proofs.laws.Within.{Within, within_above}
use Rattle.tree.proofs.laws.Closed.{holder_is}
use Rattle.cover.specs.laws.Rise.{rise}
use Rattle.cover.proofs.laws.Rise.{rise_meets, rise_least}
use Rattle.cover.proofs.laws.Over.{units_small}
use Rattle.cover.specs.laws.Lowest.{lowest, Window}

-- the whole of [l, r) lies in n
pub record Has (h l r n : ℕ) : Type 0 where
  pub node : Node h n
  pub low : left h n ≤ l
  pub high : r ≤ right h n

module _ (h l r : ℕ) (w : Window h l r) where
  small : r < 2 ^ 64
  small = omega (arith, units_small h w.most, w.fits)

  abbrev k : ℕ
  k = rise l (r - 1)

  -- two units in one node have one place in its level, and the other way round
  same_place : (d : ℕ) → 1 ≤ d → d ≤ h → holder h d l ≡ holder h d (r - 1) → l / 64 / 4 ^ (h - d) ≡ (r - 1) / 64 / 4 ^ (h - d)
  same_place d a b e = omega (arith, sym (holder_is h d l a b) ∙ e ∙ holder_is h d (r - 1) a b)

  same_node : (d : ℕ) → 1 ≤ d → d ≤ h → l / 64 / 4 ^ (h - d) ≡ (r - 1) / 64 / 4 ^ (h - d) → holder h d l ≡ holder h d (r - 1)
  same_node d a b e = holder_is h d l a b ∙ ap (λ (q : ℕ). first d + q) e ∙ sym (holder_is h d (r - 1) a b)

  -- at the root both edges meet
  pub rise_le : rise l (r - 1) ≤ h - 1
  unfolding units
  rise_le =
      rise_least l (r - 1) (omega (arith, small, w.some)) (omega (arith, small)) (h - 1)
      (div-eq_of_lt (omega (arith, w.some, w.fits)) ∙ sym (div-eq_of_lt (omega (arith, w.some, w.fits))))

  low_is_r : lowest h l r ≡ holder h (h - k) (r - 1)
  unfolding lowest
  low_is_r =
      let e : h - (h - k) ≡ k = omega (arith, rise_le, w.levels) in
      same_node (h - k) (omega (arith, rise_le, w.levels)) (omega arith)
      (subst (λ (j : ℕ). l / 64 / 4 ^ j ≡ (r - 1) / 64 / 4 ^ j) (sym e) (rise_meets l (r - 1) (omega (arith, small, w.some)) (omega (arith, small))))

  pub low_level : level (lowest h l r) ≡ h - rise l (r - 1)
  unfolding lowest
  low_level = holder_level h l w.levels (omega (arith, w.some, w.fits)) (h - k) (omega (arith, rise_le, w.levels)) (omega arith)

  pub low_has : Has h l r (lowest h l r)
  unfolding lowest
  low_has =
      let d = h - k in
      let a : 1 ≤ d = omega (arith, rise_le, w.levels) in
      let v = holder_node h l w.levels (omega (arith, w.some, w.fits)) d a (omega arith) in
      let x = holder_own h l w.levels (omega (arith, w.some, w.fits)) d a (omega arith) in
      let z = subst (λ (n : ℕ). Holds h n (r - 1)) (sym low_is_r) (holder_own h (r - 1) w.levels (omega (arith, w.some, w.fits)) d a (omega arith)) in
      record { node = v; low = x.low; high = omega (arith, z.high, w.some) }

  -- a level at which the edges lie in one node is as high
  least : (d : ℕ) → 1 ≤ d → d ≤ h → holder h d l ≡ holder h d (r - 1) → k ≤ h - d
  least d a b e = rise_least l (r - 1) (omega (arith, small, w.some)) (omega (arith, small)) (h - d) (same_place d a b e)

  -- every node that has the window is that one, or has that one within
  pub low_least : (p : ℕ) → Has h l r p → (p ≡ lowest h l r) ⊎ Within h (lowest h l r) p
  low_least p q =
      let n = lowest h l r in
      let v = low_has in
      let a : Holds h p l = record { low = q.low; high = omega (arith, q.high, w.some) } in
      let b : Holds h p (r - 1) = record { low = omega (arith, q.low, w.some); high = omega (arith, q.high, w.some) } in
      let y = least (level p) (level_pos p) q.node.inside (holds_holder h p q.node l a ∙ sym (holds_holder h p q.node (r - 1) b)) in
      ⊎_elim (λ e. inl e)
      (⊎_elim (λ x. inr (within_above h n p v.node x)) (λ x. absurd (omega (arith, x.higher, low_level, rise_le))))
      (nested h p n l w.levels (omega (arith, w.some, w.fits)) q.node v.node a (record { low = v.low; high = omega (arith, v.high, w.some) }))

  -- below it, the edges lie in different nodes
  pub low_apart : (d : ℕ) → level (lowest h l r) < d → d ≤ h → holder h d l ≢ holder h d (r - 1)
  low_apart d a b e = omega (arith, least d (omega arith) b e, low_level, rise_le)
