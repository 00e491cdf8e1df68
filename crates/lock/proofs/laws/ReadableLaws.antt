-- Laws of the unreadable clauses, as the code meets them. Assumes nothing.
use Rattle.std.specs.Prelude.{◌≡◌, refl, Bool, ◌&&◌, ℕ, suc, ◌≤◌, ◌<◌, eqb, leb, ltb}
use Rattle.std.proofs.Common.{sym, subst, arith, eqb-true}
use Rattle.std.proofs.Math.Path.{ap}
use Rattle.std.proofs.Math.Bool.{false}
use Rattle.std.proofs.lemmas.Bool.{not-false}
use Rattle.std.proofs.Math.ListN.{length}
use Rattle.base.specs.rules.Choice.{choose}
use Rattle.base.specs.laws.ChoiceLaws.{choose_eq, choose_ne}
use Rattle.tree.specs.rules.Tree.{Node}
use Rattle.tree.specs.rules.Lists.{ancestors, notify_list, check_list}
use Rattle.lock.specs.declared.Record.{Record}
use Rattle.lock.specs.declared.Settings.{Settings}
use Rattle.lock.specs.rules.Records.{phase_of, pieces, piece_at, current_piece, is_leaf, is_root, notices_of}
use Rattle.lock.specs.rules.Unreadable.{nonzero, differ, list_length, place_past, phase_elsewhere, lacks_grip}
use Rattle.lock.proofs.laws.Phases.{on_phase}
use Rattle.lock.specs.laws.ReadableLaws.{Begun}

pub same_number : (m n : ℕ) → differ m n ≡ false → m ≡ n
same_number m n e = eqb-true m n (not-false (eqb m n) e)

-- ---- what the clauses after the cover and the current piece stand on

module _ (s : Settings) (r : Record) (v : Begun s r) (i n : ℕ) (b : i < length (pieces r)) (e : n ≡ piece_at r i) where
  pub piece_node : Node s.levels n
  piece_node = subst (λ (m : ℕ). Node s.levels m) (sym e) (v.node i b)

  pub piece_node_12 : Node 12 n
  piece_node_12 = record { some = piece_node.some; inside = omega (arith, piece_node.inside, v.settled.levels_most) }

-- ---- the place

-- "a place past its list (0 where none is walked)", of a list of n nodes
unfoldable pub past_list : ℕ → ℕ → Bool
past_list n place = choose (eqb n 0) (nonzero place) (leb n place)

pub past_none : (place : ℕ) → nonzero place ≡ past_list 0 place
unfolding past_list
past_none place = sym (choose_eq 0 0 (nonzero place) _ refl)

pub past_some : (n place : ℕ) → (n ≡ 0 → ⊥) → leb n place ≡ past_list n place
unfolding past_list
past_some n place d = sym (choose_ne n 0 (nonzero place) _ d)

module _ (s : Settings) (r : Record) where
  pub place_is : (n : ℕ) → n ≡ list_length s r (phase_of r.phase) → past_list n r.place ≡ place_past s r
  unfolding place_past past_list
  place_is n e = ap (λ (m : ℕ). past_list m r.place) e

  module _ (p : ℕ) where
    -- ---- the list by phase
    pub list_climbing : 3 ≤ p → p < 5 → length (ancestors (current_piece r)) ≡ list_length s r (phase_of p)
    unfolding list_length
    list_climbing a b =
        on_phase p (λ f. length (ancestors (current_piece r)) ≡ list_length s r f)
        (λ e. absurd (omega arith)) (λ e. absurd (omega arith)) (λ e. absurd (omega arith)) (λ e. refl) (λ e. refl) (λ e. absurd (omega arith))
        (λ e. absurd (omega arith)) (λ e. absurd (omega arith)) (λ e. absurd (omega arith)) (λ e. absurd (omega arith)) (λ e. absurd (omega arith)) (λ e. absurd (omega arith))

    pub list_notifying : p ≡ 6 → length (notify_list s.distance (current_piece r)) ≡ list_length s r (phase_of p)
    unfolding list_length phase_of choose
    list_notifying e = ap (λ (n : ℕ). list_length s r (phase_of n)) (sym e)

    pub list_checking : p ≡ 8 → length (check_list s.levels s.distance (current_piece r)) ≡ list_length s r (phase_of p)
    unfolding list_length phase_of choose
    list_checking e = ap (λ (n : ℕ). list_length s r (phase_of n)) (sym e)

    pub list_returning : p ≡ 10 → suc (notices_of s r r.giving) ≡ list_length s r (phase_of p)
    unfolding list_length phase_of choose
    list_returning e = ap (λ (n : ℕ). list_length s r (phase_of n)) (sym e)

    pub list_none : (3 ≤ p → p < 5 → ⊥) → (p ≡ 6 → ⊥) → (p ≡ 8 → ⊥) → (p ≡ 10 → ⊥) → 0 ≡ list_length s r (phase_of p)
    unfolding list_length
    list_none a d6 d8 d10 =
        on_phase p (λ f. 0 ≡ list_length s r f) (λ e. refl) (λ e. refl) (λ e. refl) (λ e. absurd (a (omega arith) (omega arith))) (λ e. absurd (a (omega arith) (omega arith)))
        (λ e. refl) (λ e. absurd (d6 e)) (λ e. refl) (λ e. absurd (d8 e)) (λ e. refl) (λ e. absurd (d10 e)) (λ e. refl)

    -- ---- where a phase may not be

    pub elsewhere_leaf : 1 ≤ p → p < 9 → (3 ≤ p → p < 7 → ⊥) → is_leaf s (current_piece r) ≡ phase_elsewhere s r (phase_of p)
    unfolding phase_elsewhere
    elsewhere_leaf a b c =
        on_phase p (λ f. is_leaf s (current_piece r) ≡ phase_elsewhere s r f)
        (λ e. absurd (omega arith)) (λ e. refl) (λ e. refl) (λ e. absurd (c (omega arith) (omega arith))) (λ e. absurd (c (omega arith) (omega arith))) (λ e. absurd (c (omega arith) (omega arith)))
        (λ e. absurd (c (omega arith) (omega arith))) (λ e. refl) (λ e. refl) (λ e. absurd (omega arith)) (λ e. absurd (omega arith)) (λ e. absurd (omega arith))

    pub elsewhere_root : 3 ≤ p → p < 7 → (p ≡ 5 → ⊥) → is_root (current_piece r) ≡ phase_elsewhere s r (phase_of p)
    unfolding phase_elsewhere
    elsewhere_root a b d =
        on_phase p (λ f. is_root (current_piece r) ≡ phase_elsewhere s r f)
        (λ e. absurd (omega arith)) (λ e. absurd (omega arith)) (λ e. absurd (omega arith)) (λ e. refl) (λ e. refl) (λ e. absurd (omega arith))
        (λ e. refl) (λ e. absurd (omega arith)) (λ e. absurd (omega arith)) (λ e. absurd (omega arith)) (λ e. absurd (omega arith)) (λ e. absurd (omega arith))

    pub elsewhere_none : (1 ≤ p → p < 5 → ⊥) → (6 ≤ p → p < 9 → ⊥) → false ≡ phase_elsewhere s r (phase_of p)
    unfolding phase_elsewhere
    elsewhere_none c d =
        on_phase p (λ f. false ≡ phase_elsewhere s r f)
        (λ e. refl) (λ e. absurd (c (omega arith) (omega arith))) (λ e. absurd (c (omega arith) (omega arith))) (λ e. absurd (c (omega arith) (omega arith))) (λ e. absurd (c (omega arith) (omega arith))) (λ e. refl)
        (λ e. absurd (d (omega arith) (omega arith))) (λ e. absurd (d (omega arith) (omega arith))) (λ e. absurd (d (omega arith) (omega arith))) (λ e. refl) (λ e. refl) (λ e. refl)

-- ---- the grip by phase

module _ (leaf : Bool) (grip p : ℕ) where
  pub grip_ticket : p ≡ 1 → differ grip 0 ≡ lacks_grip leaf grip (phase_of p)
  unfolding lacks_grip phase_of choose
  grip_ticket e = ap (λ (n : ℕ). lacks_grip leaf grip (phase_of n)) (sym e)

  pub grip_turn : p ≡ 2 → differ grip 1 ≡ lacks_grip leaf grip (phase_of p)
  unfolding lacks_grip phase_of choose
  grip_turn e = ap (λ (n : ℕ). lacks_grip leaf grip (phase_of n)) (sym e)

  pub grip_climbing : 3 ≤ p → p < 6 → differ grip (choose leaf 0 2) ≡ lacks_grip leaf grip (phase_of p)
  unfolding lacks_grip
  grip_climbing a b =
      on_phase p (λ f. differ grip (choose leaf 0 2) ≡ lacks_grip leaf grip f)
      (λ e. absurd (omega arith)) (λ e. absurd (omega arith)) (λ e. absurd (omega arith)) (λ e. refl) (λ e. refl) (λ e. refl)
      (λ e. absurd (omega arith)) (λ e. absurd (omega arith)) (λ e. absurd (omega arith)) (λ e. absurd (omega arith)) (λ e. absurd (omega arith)) (λ e. absurd (omega arith))

  pub grip_taken : 6 ≤ p → p < 10 → differ grip 3 ≡ lacks_grip leaf grip (phase_of p)
  unfolding lacks_grip
  grip_taken a b =
      on_phase p (λ f. differ grip 3 ≡ lacks_grip leaf grip f)
      (λ e. absurd (omega arith)) (λ e. absurd (omega arith)) (λ e. absurd (omega arith)) (λ e. absurd (omega arith)) (λ e. absurd (omega arith)) (λ e. absurd (omega arith))
      (λ e. refl) (λ e. refl) (λ e. refl) (λ e. refl) (λ e. absurd (omega arith)) (λ e. absurd (omega arith))

  pub grip_returning : p ≡ 10 → choose leaf (differ grip 0 && differ grip 3) (ltb 3 grip) ≡ lacks_grip leaf grip (phase_of p)
  unfolding lacks_grip phase_of choose
  grip_returning e = ap (λ (n : ℕ). lacks_grip leaf grip (phase_of n)) (sym e)
