-- The law a piece: how many steps a leaf, an inner node and the root need on an otherwise idle tree, in H, m and level; and the sum over a window's pieces. That a run alone makes
-- so many is shown in claim/StepsToHeld.antt. Assumes nothing.
use Rattle.std.specs.Prelude.{◌≡◌, [], ◌∷◌}
use Rattle.std.proofs.Math.Path.{refl, sym, ap}
use Rattle.std.proofs.Common.{◌∙◌, arith}
use Prim.Native.Nat.{ℕ, suc, ◌+◌, ◌-◌, ◌≤◌, ◌<◌, min}
use Rattle.std.proofs.Math.ListN.{length}
use Rattle.base.specs.laws.ChoiceLaws.{choose_eq, choose_ne, by_eq}
use Rattle.base.specs.laws.Sum.{sum_by}
use Rattle.tree.specs.rules.Tree.{level, first, leftmost}
use Rattle.tree.specs.rules.Lists.{notify_list, check_list}
use Rattle.tree.proofs.laws.Climb.{first_mono}
use Rattle.tree.proofs.laws.Level.{level_pos, level_root}
use Rattle.tree.proofs.laws.Ancestors.{ancestors_count}
use Rattle.tree.proofs.laws.Notify.{notify_count, Bounded, notify_count_lem}
use Rattle.tree.proofs.laws.Code.{bounded, count_none, count_small}
use Rattle.tree.proofs.laws.Check.{check_count, check_count_lem}
use Rattle.lock.specs.laws.PieceSteps.{claim_steps, piece_steps, cover_steps, pieces_steps}

pub pieces_one : (h m n second : ℕ) → second ≡ 0 → piece_steps h m n ≡ pieces_steps h m n second
unfolding pieces_steps sum_by
pieces_one h m n second e = (let q : piece_steps h m n ≡ piece_steps h m n + 0 = omega arith in q) ∙ sym (ap (cover_steps h m) (choose_eq second 0 (n ∷ []) (n ∷ second ∷ []) e))

pub pieces_two : (h m n second : ℕ) → (second ≡ 0 → ⊥) → piece_steps h m n + piece_steps h m second ≡ pieces_steps h m n second
unfolding pieces_steps sum_by
pieces_two h m n second d =
    (let q : piece_steps h m n + piece_steps h m second ≡ piece_steps h m n + (piece_steps h m second + 0) = omega arith in q)
    ∙ sym (ap (cover_steps h m) (choose_ne second 0 (n ∷ []) (n ∷ second ∷ []) d))

-- ---- as the code works it out: a step for each ancestor and one for the claim are as many as the level

module _ (h m n : ℕ) where
  claim_code : claim_steps m n ≡ level n + length (notify_list m n)
  unfolding claim_steps
  claim_code = omega (arith, ancestors_count n, level_pos n)

  pub leaf_code : level n ≡ h → level n + length (notify_list m n) ≡ piece_steps h m n
  unfolding piece_steps
  leaf_code e = sym (choose_eq (level n) h _ _ e ∙ claim_code)

  pub inner_code : (level n ≡ h → ⊥) → level n + length (notify_list m n) + 3 + length (check_list h m n) ≡ piece_steps h m n
  unfolding piece_steps
  inner_code d = (let q : level n + length (notify_list m n) + 3 + length (check_list h m n) ≡ 2 + claim_steps m n + 1 + length (check_list h m n) = omega (arith, claim_code) in q) ∙ sym (choose_ne (level n) h _ _ d)

-- ---- in H, m and level

module _ (h m n : ℕ) (at_most : Bounded m (level n)) where
  claim_steps_lem : claim_steps m n ≡ level n + notify_count m (level n)
  claim_steps_lem = omega (arith, claim_code h m n, notify_count_lem m n at_most)

  -- a leaf
  pub leaf_steps : level n ≡ h → piece_steps h m n ≡ h + notify_count m h
  unfolding piece_steps
  leaf_steps e = choose_eq (level n) h _ _ e ∙ claim_steps_lem ∙ ap (λ (d : ℕ). d + notify_count m d) e

  -- an inner node: of the levels that it checks there are m, or as many as are left above the leaves
  pub inner_steps : (level n ≡ h → ⊥) → piece_steps h m n ≡ level n + notify_count m (level n) + 3 + (first (suc (min m (h - level n))) - 1)
  unfolding piece_steps check_count
  inner_steps d = choose_ne (level n) h _ _ d ∙ omega (arith, claim_steps_lem, check_count_lem h m n)

  -- no piece needs as many as 250
  pub steps_few : piece_steps h m n < 250
  unfolding first leftmost
  steps_few =
      let k = suc (min m (h - level n)) in
      let most : first 5 ≡ 86 = refl in
      by_eq (level n) h
      (λ e. omega (arith, leaf_steps e, at_most.d_most, ap (notify_count m) e, count_small m n at_most, notify_count_lem m n at_most))
      (λ d. omega (arith, inner_steps d, at_most.d_most, count_small m n at_most, notify_count_lem m n at_most, first_mono k 5 (omega arith) (omega (arith, at_most.m_most))))

  pub claim_few : level n + length (notify_list m n) < 250
  claim_few = omega (arith, at_most.d_most, count_small m n at_most)

-- the root, which has no ancestors
pub root_steps : (h m : ℕ) → 1 ≤ m → m ≤ 4 → 2 ≤ h → piece_steps h m 1 ≡ 4 + (first (suc (min m (h - 1))) - 1)
root_steps h m m1 m4 h2 =
    let e = level_root 1 (omega arith) in
    let z = count_none m (level 1) (omega arith) in
    let same : first (suc (min m (h - level 1))) ≡ first (suc (min m (h - 1))) = ap (λ (d : ℕ). first (suc (min m (h - d)))) e in
    omega (arith, inner_steps h m 1 (bounded m 1 m1 m4 (record { some = omega arith; inside = omega arith })) (λ f. omega arith))
