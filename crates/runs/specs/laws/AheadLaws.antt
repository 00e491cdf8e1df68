-- Laws of the operations posted together, phase by phase, as the code finds them; those of returning are in GivesBack.antt. Assumes nothing.
use Rattle.std.specs.Prelude.{◌≡◌, refl, ◌⊎◌, Bool, true, false}
use Rattle.std.proofs.Common.{sym, ap₂, ◌∙◌, ⊎_elim}
use Rattle.std.proofs.Math.Path.{ap, subst}
use mathlib.Core.List.{List, [], ◌∷◌}
use Prim.Native.Nat.{ℕ, suc, ◌+◌, ◌-◌, ◌≤◌, ◌<◌}
use native.Mathlib.Omega.{arith}
use Rattle.std.proofs.Math.ListN.{length, get_or}
use Rattle.base.specs.rules.Choice.{choose}
use Rattle.base.specs.laws.ChoiceLaws.{by_eq}
use Rattle.tree.specs.rules.Tree.{level}
use Rattle.tree.specs.rules.Lists.{notify_list, check_list}
use Rattle.tree.proofs.laws.Ancestors.{ancestors_count}
use Rattle.lock.specs.declared.Operation.{Operation}
use Rattle.lock.specs.declared.Record.{Record}
use Rattle.lock.specs.declared.Settings.{Settings}
use Rattle.lock.specs.rules.Records.{Phase, ticket, turn, climb, blocked, claim, notify, check, phase_of, current_piece, is_leaf}
use Rattle.lock.specs.rules.Unreadable.{list_length}
use Rattle.lock.proofs.laws.Phases.{on_phase, at_ticket, at_turn, at_climb, at_blocked, at_notify, at_check}
use Rattle.runs.specs.rules.Ahead.{standing, walk, ahead_in}
use Rattle.runs.specs.laws.Standing.{no_operation, walk_count, walk_at}

-- ---- the lists of the phases, as the code finds them

module _ (s : Settings) (r : Record) where
  pub ticket_first : (i : ℕ) → i ≡ 0 → standing s r ticket 0 ≡ get_or (ahead_in s r ticket) i no_operation
  unfolding ahead_in
  ticket_first i e = ap (λ (k : ℕ). get_or (ahead_in s r ticket) k no_operation) (sym e)

  pub ticket_later : (i : ℕ) → (i ≡ 0 → ⊥) → get_or (standing s r turn 0 ∷ walk s r climb 0) (i - 1) no_operation ≡ get_or (ahead_in s r ticket) i no_operation
  unfolding ahead_in
  ticket_later i d = ap (λ (k : ℕ). get_or (ahead_in s r ticket) k no_operation) (let e : suc (i - 1) ≡ i = omega arith in e)

  pub ticket_count : length (ahead_in s r ticket) ≡ 2 + list_length s r climb
  unfolding ahead_in
  ticket_count = omega (arith, walk_count s r climb 0)

  pub turn_count : length (ahead_in s r turn) ≡ 1 + list_length s r climb
  unfolding ahead_in
  turn_count = omega (arith, walk_count s r climb 0)

  pub blocked_count : length (ahead_in s r blocked) ≡ 1 + list_length s r climb
  unfolding ahead_in
  blocked_count = omega (arith, walk_count s r climb 0)

  -- a phase's word and a list behind it
  module _ (word list : Phase) (place i : ℕ) where
    pub behind_first : i ≡ 0 → standing s r word place ≡ get_or (standing s r word place ∷ walk s r list 0) i no_operation
    behind_first e = ap (λ (k : ℕ). get_or (standing s r word place ∷ walk s r list 0) k no_operation) (sym e)

    pub behind_later : (i ≡ 0 → ⊥) → i < suc (list_length s r list) → standing s r list (i - 1) ≡ get_or (standing s r word place ∷ walk s r list 0) i no_operation
    behind_later d b =
        ap (standing s r list) (let e : i - 1 ≡ 0 + (i - 1) = omega arith in e)
        ∙ sym (walk_at s r list 0 (i - 1) no_operation (omega arith))
        ∙ ap (λ (k : ℕ). get_or (standing s r word place ∷ walk s r list 0) k no_operation) (let e : suc (i - 1) ≡ i = omega arith in e)

  -- 5 claim
  abbrev inner_list : List Operation
  inner_list = walk s r notify 0

  pub claim_leaf : is_leaf s (current_piece r) ≡ true → ahead_in s r claim ≡ standing s r claim 0 ∷ []
  unfolding ahead_in choose
  claim_leaf e = ap (λ (b : Bool). standing s r claim 0 ∷ choose b [] inner_list) e

  pub claim_inner : is_leaf s (current_piece r) ≡ false → ahead_in s r claim ≡ standing s r claim 0 ∷ inner_list
  unfolding ahead_in choose
  claim_inner e = ap (λ (b : Bool). standing s r claim 0 ∷ choose b [] inner_list) e

  pub leaf_count : is_leaf s (current_piece r) ≡ true → 1 ≡ length (ahead_in s r claim)
  leaf_count e = sym (ap length (claim_leaf e))

  pub inner_count : is_leaf s (current_piece r) ≡ false → 1 + list_length s r notify ≡ length (ahead_in s r claim)
  inner_count e = omega (arith, walk_count s r notify 0, ap length (claim_inner e))

  pub claim_within : (i : ℕ) → i < length (ahead_in s r claim) → (i < suc (list_length s r notify)) × (get_or (standing s r claim 0 ∷ inner_list) i no_operation ≡ get_or (ahead_in s r claim) i no_operation)
  claim_within i b = by (is_leaf s (current_piece r)) refl
    where
      by : (leaf : Bool) → is_leaf s (current_piece r) ≡ leaf → (i < suc (list_length s r notify)) × (get_or (standing s r claim 0 ∷ inner_list) i no_operation ≡ get_or (ahead_in s r claim) i no_operation)
      by true e =
          let z : i ≡ 0 = omega (arith, leaf_count e) in
          (omega arith, ap (λ (k : ℕ). get_or (standing s r claim 0 ∷ inner_list) k no_operation) z ∙ ap₂ (λ (l : List Operation) (k : ℕ). get_or l k no_operation) (sym (claim_leaf e)) (sym z))
      by false e = (omega (arith, inner_count e), ap (λ (l : List Operation). get_or l i no_operation) (sym (claim_inner e)))

  -- a phase that walks on
  abbrev WalksOn : ℕ → Phase → Type 0
  WalksOn i q = i < length (ahead_in s r q) → (i < list_length s r q - r.place) × (ahead_in s r q ≡ walk s r q r.place)

  pub walks_on : (i : ℕ) → (r.phase ≡ 1 → ⊥) → (r.phase ≡ 2 → ⊥) → (r.phase ≡ 4 → ⊥) → (r.phase ≡ 5 → ⊥) → (r.phase ≡ 10 → ⊥) → WalksOn i (phase_of r.phase)
  unfolding ahead_in
  walks_on i d1 d2 d4 d5 d10 =
      on_phase r.phase (WalksOn i) (λ _ b. absurd (omega arith)) (λ e. absurd (d1 e)) (λ e. absurd (d2 e)) (λ _ b. (omega (arith, walk_count s r climb r.place), refl)) (λ e. absurd (d4 e)) (λ e. absurd (d5 e))
      (λ _ b. (omega (arith, walk_count s r notify r.place), refl)) (λ _ b. absurd (omega arith)) (λ _ b. (omega (arith, walk_count s r check r.place), refl)) (λ _ b. absurd (omega arith)) (λ e. absurd (d10 e)) (λ _ b. absurd (omega arith))

  -- 1 to 4, by the level of the piece
  module _ (d : ℕ) (e : d ≡ level (current_piece r)) (b : 1 ≤ d) where
    ancestors_below : list_length s r climb ≡ d - 1
    unfolding list_length
    ancestors_below = ancestors_count (current_piece r) ∙ ap (λ (k : ℕ). k - 1) (sym e)

    pub ticket_length : r.phase ≡ 1 → 1 + d ≡ length (ahead_in s r (phase_of r.phase))
    ticket_length p = omega (arith, ancestors_below, ticket_count, ap (λ (q : Phase). length (ahead_in s r q)) (at_ticket r.phase p))

    pub climb_length : r.phase ≡ 3 → d - 1 - r.place ≡ length (ahead_in s r (phase_of r.phase))
    unfolding ahead_in
    climb_length p = omega (arith, ancestors_below, walk_count s r climb r.place, ap (λ (q : Phase). length (ahead_in s r q)) (at_climb r.phase p))

    pub other_length : (r.phase ≡ 2) ⊎ (r.phase ≡ 4) → d ≡ length (ahead_in s r (phase_of r.phase))
    other_length p =
        ⊎_elim (λ f. omega (arith, ancestors_below, turn_count, ap (λ (q : Phase). length (ahead_in s r q)) (at_turn r.phase f)))
        (λ f. omega (arith, ancestors_below, blocked_count, ap (λ (q : Phase). length (ahead_in s r q)) (at_blocked r.phase f))) p

  pub notify_length : r.phase ≡ 6 → length (notify_list s.distance (current_piece r)) - r.place ≡ length (ahead_in s r (phase_of r.phase))
  unfolding ahead_in list_length
  notify_length p = omega (arith, walk_count s r notify r.place, ap (λ (q : Phase). length (ahead_in s r q)) (at_notify r.phase p))

  pub check_length : r.phase ≡ 8 → length (check_list s.levels s.distance (current_piece r)) - r.place ≡ length (ahead_in s r (phase_of r.phase))
  unfolding ahead_in list_length
  check_length p = omega (arith, walk_count s r check r.place, ap (λ (q : Phase). length (ahead_in s r q)) (at_check r.phase p))

  -- a phase that posts nothing
  pub none_length : (r.phase ≡ 1 → ⊥) → (r.phase ≡ 2 → ⊥) → (r.phase ≡ 3 → ⊥) → (r.phase ≡ 4 → ⊥) → (r.phase ≡ 5 → ⊥) → (r.phase ≡ 6 → ⊥) → (r.phase ≡ 8 → ⊥) → (r.phase ≡ 10 → ⊥)
      → 0 ≡ length (ahead_in s r (phase_of r.phase))
  unfolding ahead_in
  none_length d1 d2 d3 d4 d5 d6 d8 d10 =
      on_phase r.phase (λ q. 0 ≡ length (ahead_in s r q)) (λ _. refl) (λ e. absurd (d1 e)) (λ e. absurd (d2 e)) (λ e. absurd (d3 e)) (λ e. absurd (d4 e)) (λ e. absurd (d5 e)) (λ e. absurd (d6 e)) (λ _. refl)
      (λ e. absurd (d8 e)) (λ _. refl) (λ e. absurd (d10 e)) (λ _. refl)

  -- an idle record has none
  pub phase_some : (i : ℕ) → i < length (ahead_in s r (phase_of r.phase)) → 0 < r.phase
  unfolding ahead_in phase_of choose
  phase_some i b = by_eq r.phase 0 (λ e. absurd (let c = subst (λ (p : ℕ). i < length (ahead_in s r (phase_of p))) e b in omega (arith, c))) (λ d. omega arith)
