-- Laws of what is asked of the first clients of a table: of one client more, and how far the count goes. Assumes nothing.
use Rattle.std.specs.Prelude.{◌≡◌, refl, Bool, ◌||◌, eqb, length, get_or, take}
use Rattle.std.proofs.Math.Path.{sym, ap}
use Rattle.std.proofs.Common.{◌∙◌, add-one, arith}
use Rattle.std.proofs.Math.Bool.{or-false, or_assoc}
use Rattle.std.proofs.lemmas.List.Recursion.{same_from_clauses, is_sum_by}
use Rattle.std.specs.List.{list_any, sum_by}
use mathlib.Core.List.{List, [], ◌∷◌}
use Prim.Native.Nat.{ℕ, zero, suc, ◌+◌, ◌≤◌, ◌<◌}
use Rattle.base.specs.laws.ChoiceLaws.{on_choose}
use Rattle.lock.specs.declared.Client.{Client}
use Rattle.lock.specs.declared.Settings.{Settings}
use Rattle.lock.specs.rules.Unreadable.{unreadable}
use Rattle.pages.specs.rules.Pages.{any_unreadable, in_phase9, held_count}

-- ---- whether one is unreadable

module _ (s : Settings) where
  abbrev pub unreadable_one : Client → Bool
  unreadable_one c = unreadable s c.«record» c.clock

  any_suc : (l : List Client) (i : ℕ) (d : Client) → i < length l → (any_unreadable s (take i l) || unreadable_one (get_or l i d)) ≡ any_unreadable s (take (suc i) l)
  unfolding any_unreadable
  any_suc [] i d h = absurd (omega arith)
  any_suc (c ∷ cs) zero d h = sym (or-false (unreadable_one c))
  any_suc (c ∷ cs) (suc i) d h =
      or_assoc (unreadable_one c) (any_unreadable s (take i cs)) (unreadable_one (get_or cs i d)) ∙ ap (λ (b : Bool). unreadable_one c || b) (any_suc cs i d (omega arith))

  pub any_next : (l : List Client) (i : ℕ) (d : Client) → i < length l → (any_unreadable s (take i l) || unreadable_one (get_or l i d)) ≡ any_unreadable s (take (i + 1) l)
  any_next l i d h = any_suc l i d h ∙ ap (λ (k : ℕ). any_unreadable s (take k l)) (sym (add-one i))

  -- it is the library's `list_any` of this test
  pub any_listed : (l : List Client) → list_any unreadable_one l ≡ any_unreadable s l
  unfolding any_unreadable
  any_listed l = same_from_clauses (list_any unreadable_one) (any_unreadable s) (λ c b. unreadable_one c || b) refl (λ _ _. refl) (λ _ _. refl) l

-- ---- how many are in phase 9

pub phase_9_most : (phase : ℕ) → in_phase9 phase ≤ 1
unfolding in_phase9
phase_9_most phase = on_choose (λ n. n ≤ 1) (eqb phase 9) 1 0 (λ _. omega arith) (λ _. omega arith)

abbrev pub in_phase_9 : Client → ℕ
in_phase_9 c = in_phase9 c.«record».phase

-- it is the library's sum of these
pub held_summed : (l : List Client) → sum_by in_phase_9 l ≡ held_count l
unfolding held_count
held_summed l = sym (is_sum_by held_count in_phase_9 refl (λ _ _. refl) l)

-- no more than there are
pub held_most : (l : List Client) (i : ℕ) → held_count (take i l) ≤ i
unfolding held_count
held_most l zero = omega arith
held_most [] (suc i) = omega arith
held_most (c ∷ cs) (suc i) = omega (arith, phase_9_most c.«record».phase, held_most cs i)

held_suc : (l : List Client) (i : ℕ) (d : Client) → i < length l → held_count (take i l) + in_phase9 (get_or l i d).«record».phase ≡ held_count (take (suc i) l)
unfolding held_count
held_suc [] i d h = absurd (omega arith)
held_suc (c ∷ cs) zero d h = omega arith
held_suc (c ∷ cs) (suc i) d h = omega (arith, held_suc cs i d (omega arith))

pub held_next : (l : List Client) (i : ℕ) (d : Client) → i < length l → held_count (take i l) + in_phase9 (get_or l i d).«record».phase ≡ held_count (take (i + 1) l)
held_next l i d h = held_suc l i d h ∙ ap (λ (k : ℕ). held_count (take k l)) (sym (add-one i))
