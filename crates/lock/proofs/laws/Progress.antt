-- Laws: how many steps a record has made on its way to held, where nothing has hindered it; and each step that nothing hinders is one more. Assumes nothing.
use Rattle.std.specs.Prelude.{◌≡◌, ◌≢◌, true, List, ℕ, suc, ◌+◌, ◌≤◌, length, get_or}
use Rattle.std.proofs.Math.Path.{refl, ap}
use Rattle.std.proofs.Common.{sym, ◌∙◌, eq-eqb, ne_eqb}
use native.Mathlib.Omega.{arith}
use Rattle.base.specs.rules.Choice.{choose}
use Rattle.base.specs.laws.ChoiceLaws.{choose_eq, choose_ne, by_eq}
use Rattle.base.specs.laws.Sum.{sum_to, to_same}
use Rattle.word.specs.rules.Word.{occ, tcnt, dcnt, dmax, take_bits}
use Rattle.tree.specs.rules.Tree.{level}
use Rattle.tree.specs.rules.Lists.{ancestors, notify_list, check_list}
use Rattle.lock.specs.declared.Record.{Record}
use Rattle.lock.specs.declared.Settings.{Settings}
use Rattle.lock.specs.rules.Records.{Phase, idle, ticket, turn, climb, blocked, claim, notify, wait, check, held, returning, unknown, phase_of, pieces, piece_at, current_piece, is_leaf}
use Rattle.lock.specs.rules.Steps.{start_phase, begin, wanted}
use Rattle.lock.proofs.laws.Phases.{at_ticket, at_climb}
use Rattle.lock.specs.laws.PieceSteps.{claim_steps, piece_steps}
use Rattle.lock.proofs.laws.StepLaws.{start_leaf, start_inner}

-- ---- steps made

-- before an inner node climbs it has made two steps, for ticket and turn
unfoldable pub steps_before : Settings → ℕ → ℕ
steps_before s n = choose (is_leaf s n) 0 2

-- the steps that the current piece has made
unfoldable pub made_in : Settings → Record → Phase → ℕ
made_in s r idle = 0
made_in s r ticket = 0
made_in s r turn = 1
made_in s r climb = steps_before s (current_piece r) + r.place
made_in s r blocked = 0
made_in s r claim = steps_before s (current_piece r) + length (ancestors (current_piece r))
made_in s r notify = steps_before s (current_piece r) + length (ancestors (current_piece r)) + 1 + r.place
made_in s r wait = steps_before s (current_piece r) + claim_steps s.distance (current_piece r)
made_in s r check = steps_before s (current_piece r) + claim_steps s.distance (current_piece r) + 1 + r.place
made_in s r held = piece_steps s.levels s.distance (current_piece r)
made_in s r returning = 0
made_in s r unknown = 0

-- what piece i needs
abbrev pub steps_at : Settings → Record → ℕ → ℕ
steps_at s r i = piece_steps s.levels s.distance (piece_at r i)

-- with all steps of the pieces before it
unfoldable pub made : Settings → Record → ℕ
made s r = sum_to r.current (steps_at s r) + made_in s r (phase_of r.phase)

-- all that its pieces need
unfoldable pub all_steps : Settings → Record → ℕ
all_steps s r = sum_to (length (pieces r)) (steps_at s r)

-- on the way to held, or there
pub record Going (r : Record) : Type 0 where
  pub some : 1 ≤ r.phase
  pub most : r.phase ≤ 9
  pub unblocked : r.phase ≢ 4

-- the word that a step finds does not hinder it
pub record Free (s : Settings) (r : Record) (w : ℕ) : Type 0 where
  pub turn_come : r.phase ≡ 2 → tcnt w ≡ r.ticket
  pub unclaimed : r.phase ≡ 3 → occ w ≢ 1
  pub bits_clear : r.phase ≡ 5 → level (current_piece r) ≡ s.levels → (take_bits (wanted s r (current_piece r)) w).done ≡ true
  pub answered : r.phase ≡ 8 → dcnt w ≡ dmax w

-- q is one step further than r
pub record Advanced (s : Settings) (r q : Record) : Type 0 where
  pub pieces_same : pieces q ≡ pieces r
  pub going : Going q
  pub one_more : made s q ≡ suc (made s r)

pub same_steps : (s : Settings) (r q : Record) → pieces q ≡ pieces r → (i : ℕ) → steps_at s q i ≡ steps_at s r i
unfolding piece_at
same_steps s r q e i = ap (λ (c : List ℕ). piece_steps s.levels s.distance (get_or c i 0)) e

-- a number of a phase on the way
pub going_at : (r : Record) (p : ℕ) → r.phase ≡ p → 1 ≤ p → p ≤ 9 → p ≢ 4 → Going r
going_at r p e a b d = record { some = omega arith; most = omega arith; unblocked = λ z. d (sym e ∙ z) }

module _ (s : Settings) (r : Record) where
  abbrev n : ℕ
  n = current_piece r

  abbrev climbs : ℕ
  climbs = length (ancestors n)

  abbrev notices : ℕ
  notices = length (notify_list s.distance n)

  abbrev checks : ℕ
  checks = length (check_list s.levels s.distance n)

  pub claim_is : claim_steps s.distance n ≡ climbs + 1 + notices
  unfolding claim_steps
  claim_is = refl

  pub leaf_before : level n ≡ s.levels → steps_before s n ≡ 0
  unfolding steps_before is_leaf
  leaf_before e = choose_eq (level n) s.levels 0 2 e

  pub inner_before : level n ≢ s.levels → steps_before s n ≡ 2
  unfolding steps_before is_leaf
  inner_before d = choose_ne (level n) s.levels 0 2 d

  pub leaf_all : level n ≡ s.levels → steps_at s r r.current ≡ climbs + 1 + notices
  unfolding piece_steps
  leaf_all e = choose_eq (level n) s.levels _ _ e ∙ claim_is

  pub inner_all : level n ≢ s.levels → steps_at s r r.current ≡ 2 + (climbs + 1 + notices) + 1 + checks
  unfolding piece_steps
  inner_all d = choose_ne (level n) s.levels _ _ d ∙ (let c = claim_is in omega arith)

  -- the current piece is a leaf or an inner node
  pub either : {P : Type 0} → (steps_before s (current_piece r) ≡ 0 → steps_at s r r.current ≡ length (ancestors (current_piece r)) + 1 + length (notify_list s.distance (current_piece r))
      → level (current_piece r) ≡ s.levels → P)
      → (steps_before s (current_piece r) ≡ 2 → steps_at s r r.current
      ≡ 2 + (length (ancestors (current_piece r)) + 1 + length (notify_list s.distance (current_piece r))) + 1 + length (check_list s.levels s.distance (current_piece r)) → P) → P
  either f g = by_eq (level (current_piece r)) s.levels (λ e. f (leaf_before e) (leaf_all e) e) (λ e. g (inner_before e) (inner_all e))

  pub made_at : (p : Phase) → phase_of r.phase ≡ p → made s r ≡ sum_to r.current (steps_at s r) + made_in s r p
  unfolding made
  made_at p e = ap (λ (x : Phase). sum_to r.current (steps_at s r) + made_in s r x) e

  -- the same piece, one step further
  pub further : (q : Record) → pieces q ≡ pieces r → q.current ≡ r.current → Going q
      → made_in s q (phase_of q.phase) ≡ suc (made_in s r (phase_of r.phase)) → Advanced s r q
  unfolding made
  further q p c v e =
      let sums : sum_to q.current (steps_at s q) ≡ sum_to r.current (steps_at s r) = ap (λ (k : ℕ). sum_to k (steps_at s q)) c ∙ to_same _ _ r.current (λ i _. same_steps s r q p i) in
      record { pieces_same = p; going = v; one_more = omega arith }

-- ---- beginning a piece, no step of it is made

pub begin_phase : (s : Settings) (r : Record) (i : ℕ) → (begin s r i).phase ≡ start_phase s (current_piece (begin s r i))
unfolding begin pieces piece_at
begin_phase s r i = refl

pub start_made : (s : Settings) (q : Record) → q.place ≡ 0 → q.phase ≡ start_phase s (current_piece q) → Going q × (made_in s q (phase_of q.phase) ≡ 0)
unfolding made_in is_leaf
start_made s q z e =
    by_eq (level (current_piece q)) s.levels
    (λ f. let p : q.phase ≡ 3 = e ∙ start_leaf s (current_piece q) (eq-eqb (level (current_piece q)) s.levels f) in
    (going_at q 3 p (omega arith) (omega arith) (λ x. omega arith), ap (made_in s q) (at_climb q.phase p) ∙ (let b = leaf_before s q f in omega arith)))
    (λ d. let p : q.phase ≡ 1 = e ∙ start_inner s (current_piece q) (ne_eqb (level (current_piece q)) s.levels d) in
    (going_at q 1 p (omega arith) (omega arith) (λ x. omega arith), ap (made_in s q) (at_ticket q.phase p)))
