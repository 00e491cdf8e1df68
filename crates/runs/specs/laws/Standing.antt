-- Laws of a record at a phase and a place: its operation there, the list of a phase by its length and its places, and that it stands soundly at each of them. Assumes nothing.
use Rattle.std.specs.Prelude.{◌≡◌, ◌⊎◌, map, ℕ, zero, suc, ◌+◌, ◌-◌, ◌≤◌, ◌<◌, length, get_or}
use Rattle.std.proofs.Math.Path.{refl, ap₂, subst}
use Rattle.std.proofs.Common.{ap, ◌∙◌}
use Rattle.std.proofs.Math.Logic.{⊎_elim}
use native.Mathlib.Omega.{arith}
use Rattle.base.specs.rules.Choice.{choose}
use Rattle.base.specs.laws.ChoiceLaws.{by_lt}
use Rattle.tree.specs.rules.Lists.{ancestors, notify_list, check_list, row}
use Rattle.tree.proofs.laws.Ancestors.{ancestors_count}
use Rattle.tree.proofs.laws.Code.{bounded}
use Rattle.lock.specs.declared.Operation.{Operation}
use Rattle.lock.specs.declared.Record.{Record}
use Rattle.lock.specs.declared.Settings.{Settings}
use Rattle.lock.specs.rules.Records.{Phase, idle, ticket, turn, climb, blocked, claim, notify, wait, check, held, returning, unknown, phase_of, pieces, piece_at, current_piece, grip_of, notices_of, change, with_place}
use Rattle.lock.specs.rules.Unreadable.{list_length}
use Rattle.lock.specs.rules.Steps.{none, touched_in, access_in, claim_access, return_access, own_word_access}
use Rattle.lock.specs.rules.Operations.{operation_at}
use Rattle.lock.specs.laws.Active.{Settled}
use Rattle.lock.specs.laws.Placed.{Placed}
use Rattle.lock.proofs.laws.Placed.{pieced}
use Rattle.lock.proofs.laws.Pieces.{notices_before, notices_current}
use Rattle.lock.proofs.laws.PieceSteps.{claim_few}
use Rattle.lock.proofs.laws.StepLaws.{check_small}
use Rattle.runs.specs.rules.Ahead.{standing, walk}

abbrev pub no_operation : Operation
no_operation = operation_at 0 none

-- ---- numbers in a row, mapped

row_count : {A : Type 0} (f : ℕ → A) (count n : ℕ) → length (map f (row count n)) ≡ count
unfolding row
row_count f zero n = refl
row_count f (suc count) n = ap suc (row_count f count (suc n))

row_at : {A : Type 0} (f : ℕ → A) (count n i : ℕ) (d : A) → i < count → get_or (map f (row count n)) i d ≡ f (n + i)
unfolding row
row_at f zero n i d b = absurd (omega arith)
row_at f (suc count) n zero d b = ap f (let e : n ≡ n + 0 = omega arith in e)
row_at f (suc count) n (suc i) d b = row_at f count (suc n) i d (omega arith) ∙ ap f (let e : suc n + i ≡ n + suc i = omega arith in e)

-- ---- a record at a phase and a place

abbrev pub standing_at : ℕ → ℕ → Record → Record
standing_at p i r = change r p r.outcome r.current r.giving r.grip r.ticket i r.notices r.t1 r.t0 r.taken

module _ (s : Settings) (r : Record) where
  module _ (p i : ℕ) where
    touched_same : (q : Phase) → touched_in s (standing_at p i r) q ≡ touched_in s (with_place i r) q
    unfolding touched_in piece_at pieces
    touched_same idle = refl
    touched_same ticket = refl
    touched_same turn = refl
    touched_same climb = refl
    touched_same blocked = refl
    touched_same claim = refl
    touched_same notify = refl
    touched_same wait = refl
    touched_same check = refl
    touched_same held = refl
    touched_same returning = refl
    touched_same unknown = refl

    access_same : (q : Phase) → access_in s (standing_at p i r) q ≡ access_in s (with_place i r) q
    unfolding access_in claim_access return_access own_word_access piece_at pieces grip_of
    access_same idle = refl
    access_same ticket = refl
    access_same turn = refl
    access_same climb = refl
    access_same blocked = refl
    access_same claim = refl
    access_same notify = refl
    access_same wait = refl
    access_same check = refl
    access_same held = refl
    access_same returning = refl
    access_same unknown = refl

    pub stands_as : operation_at (touched_in s (standing_at p i r) (phase_of p)) (access_in s (standing_at p i r) (phase_of p)) ≡ standing s r (phase_of p) i
    unfolding standing
    stands_as = ap₂ operation_at (touched_same (phase_of p)) (access_same (phase_of p))

  -- ---- the list of a phase from a place on

  module _ (p : Phase) (i : ℕ) where
    pub walk_count : length (walk s r p i) ≡ list_length s r p - i
    unfolding walk
    walk_count = row_count (standing s r p) (list_length s r p - i) i

    pub walk_at : (j : ℕ) (d : Operation) → j < list_length s r p - i → get_or (walk s r p i) j d ≡ standing s r p (i + j)
    unfolding walk
    walk_at j d b = row_at (standing s r p) (list_length s r p - i) i j d b

  module _ (v : Settled s) (g : Placed s r) where
    notified_few : (i : ℕ) → i < length (pieces r) → length (notify_list s.distance (piece_at r i)) < 250
    notified_few i b =
        omega (arith, claim_few s.levels s.distance (piece_at r i) (bounded s.distance (piece_at r i) v.distance_some v.distance_most ((pieced s r v g).nodes i b)))

    pub notices_few : (i : ℕ) → i ≤ r.current → notices_of s r i < 250
    notices_few i b =
        by_lt i r.current (λ c. omega (arith, notices_before s r i c, notified_few i (omega (arith, g.exists))))
        (λ c. omega (arith, notices_current s r i c, g.noticed, notified_few r.current g.exists))

    ancestors_few : length (ancestors (current_piece r)) < 250
    ancestors_few =
        let n = current_piece r in
        omega (arith, ancestors_count n, claim_few s.levels s.distance n (bounded s.distance n v.distance_some v.distance_most ((pieced s r v g).nodes r.current g.exists)))

    -- no list is long
    pub list_short : (p : Phase) → list_length s r p < 6000000
    unfolding list_length
    list_short idle = omega arith
    list_short ticket = omega arith
    list_short turn = omega arith
    list_short climb = omega (arith, ancestors_few)
    list_short blocked = omega (arith, ancestors_few)
    list_short claim = omega arith
    list_short notify = omega (arith, notified_few r.current g.exists)
    list_short wait = omega arith
    list_short check = omega (arith, check_small s.levels s.distance (current_piece r) v.levels_most v.distance_some)
    list_short held = omega arith
    list_short returning = omega (arith, notices_few r.giving g.giving_begun)
    list_short unknown = omega arith

  -- ---- it stands soundly at a place of the list of a phase, and at the word of one without a list

  module _ (g : Placed s r) where
    module _ (p i : ℕ) where
      abbrev Within : Phase → Type 0
      Within q = i < list_length s r q

      at_phase : ((p ≡ 3) ⊎ (p ≡ 4) → i < length (ancestors (current_piece r))) → (p ≡ 6 → i < length (notify_list s.distance (current_piece r)))
          → (p ≡ 8 → i < length (check_list s.levels s.distance (current_piece r))) → (p ≡ 10 → i ≤ notices_of s r r.giving) → Placed s (standing_at p i r)
      unfolding piece_at pieces notices_of
      at_phase a b c d = record {
        exists = g.exists;
        meets = g.meets;
        climbing = a;
        notifying = b;
        checking = c;
        returning = d;
        noticed = g.noticed;
        giving_begun = g.giving_begun;
      }

      pub stands_in : Within (phase_of p) → Placed s (standing_at p i r)
      unfolding list_length phase_of choose
      stands_in w =
          let at : (k : ℕ) → p ≡ k → Within (phase_of k) = λ k e. subst (λ (q : ℕ). Within (phase_of q)) e w in
          at_phase (λ e. ⊎_elim (λ f. at 3 f) (λ f. at 4 f) e) (λ e. at 6 e) (λ e. at 8 e) (λ e. omega (arith, at 10 e))

    -- a phase that walks no list
    pub stands_first : (p i : ℕ) → (p ≡ 3 → ⊥) → (p ≡ 4 → ⊥) → (p ≡ 6 → ⊥) → (p ≡ 8 → ⊥) → (p ≡ 10 → ⊥) → Placed s (standing_at p i r)
    stands_first p i d3 d4 d6 d8 d10 =
        at_phase p i (λ e. absurd (⊎_elim d3 d4 e)) (λ e. absurd (d6 e)) (λ e. absurd (d8 e)) (λ e. absurd (d10 e))
