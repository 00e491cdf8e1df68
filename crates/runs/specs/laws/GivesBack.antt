-- Laws of the operations posted together in returning: the piece that is given back, and the one behind it. Assumes nothing.
use Rattle.std.specs.Prelude.{◌≡◌, Bool, ℕ, suc, ◌+◌, ◌-◌, ◌≤◌, ◌<◌, eqb}
use Rattle.std.proofs.Math.Path.{refl, sym, ap}
use Rattle.std.proofs.Common.{ap₂, ◌∙◌, subst, length-append}
use Rattle.std.proofs.Math.Logic.{⊎_elim}
use Rattle.std.proofs.Math.Bool.{true, false}
use mathlib.Core.List.{List, [], ◌++◌, append-nil}
use native.Mathlib.Omega.{arith}
use Rattle.std.proofs.Math.ListN.{length, get_or, get_or-append}
use Rattle.std.proofs.Math.Seq.{get_or-append-add}
use Rattle.base.specs.rules.Choice.{choose}
use Rattle.base.specs.laws.ChoiceLaws.{choose_eq, choose_ne, by_lt}
use Rattle.lock.specs.declared.Operation.{Operation}
use Rattle.lock.specs.declared.Record.{Record}
use Rattle.lock.specs.declared.Settings.{Settings}
use Rattle.lock.specs.rules.Records.{returning, phase_of, pieces, piece_at, grip_of, notices_of, with_giving, with_place}
use Rattle.lock.specs.rules.Unreadable.{list_length}
use Rattle.lock.specs.laws.Placed.{Placed}
use Rattle.lock.proofs.laws.Pieces.{few_pieces, grip_after}
use Rattle.runs.specs.rules.Ahead.{standing, walk, gives_back, ahead_in}
use Rattle.runs.specs.laws.Standing.{no_operation, standing_at, stands_in, walk_count, walk_at}

-- a piece with a grip was begun
pub gripped_begun : (r : Record) (i : ℕ) → (grip_of r i ≡ 0 → ⊥) → i ≤ r.current
gripped_begun r i d = by_lt r.current i (λ b. absurd (d (grip_after r i b))) (λ b. b)

module _ (s : Settings) (r : Record) where
  -- ---- 10 returning: the piece that is given back, and the one behind it

  abbrev pub next_piece : Record
  next_piece = with_place 0 (with_giving (suc r.giving) r)

  abbrev behind : List Operation
  behind = choose (eqb (grip_of r (suc r.giving)) 0) [] (walk s next_piece returning 0)

  abbrev pub left : ℕ
  left = suc (notices_of s r r.giving) - r.place

  neither : (b : Bool) → choose {A = List Operation} b [] [] ≡ []
  unfolding choose
  neither true = refl
  neither false = refl

  one_back : grip_of r (suc r.giving) ≡ 0 → gives_back 1 s r ≡ walk s r returning r.place ++ behind
  unfolding gives_back
  one_back e = ap (λ (l : List Operation). walk s r returning r.place ++ l) (neither _ ∙ sym (choose_eq (grip_of r (suc r.giving)) 0 [] _ e))

  two_back : gives_back 2 s r ≡ walk s r returning r.place ++ behind
  unfolding gives_back
  two_back =
      ap (λ (l : List Operation). walk s r returning r.place ++ choose (eqb (grip_of r (suc r.giving)) 0) [] l)
      (ap (λ (l : List Operation). walk s next_piece returning 0 ++ l) (neither _) ∙ append-nil (walk s next_piece returning 0))

  module _ (g : Placed s r) where
    pub gives_back_lem : ahead_in s r returning ≡ walk s r returning r.place ++ behind
    unfolding ahead_in
    gives_back_lem =
        by_lt 1 (length (pieces r)) (λ b. ap (λ (k : ℕ). gives_back k s r) (let e : length (pieces r) ≡ 2 = omega (arith, few_pieces r) in e) ∙ two_back)
        (λ b. ap (λ (k : ℕ). gives_back k s r) (let e : length (pieces r) ≡ 1 = omega (arith, g.exists) in e) ∙ one_back (grip_after r (suc r.giving) (omega (arith, g.exists))))

    front_count : length (walk s r returning r.place) ≡ left
    unfolding list_length
    front_count = walk_count s r returning r.place

    pub last_count : grip_of r (suc r.giving) ≡ 0 → left ≡ length (ahead_in s r returning)
    last_count e =
        sym (ap length gives_back_lem ∙ length-append (walk s r returning r.place) behind ∙ omega (arith, front_count, ap length (choose_eq (grip_of r (suc r.giving)) 0 [] (walk s next_piece returning 0) e)))

    back_count : (grip_of r (suc r.giving) ≡ 0 → ⊥) → length behind ≡ suc (notices_of s r (suc r.giving))
    unfolding list_length notices_of piece_at pieces
    back_count d = ap length (choose_ne (grip_of r (suc r.giving)) 0 [] (walk s next_piece returning 0) d) ∙ walk_count s next_piece returning 0 ∙ omega arith

    pub both_count : (grip_of r (suc r.giving) ≡ 0 → ⊥) → left + notices_of s r (suc r.giving) + 1 ≡ length (ahead_in s r returning)
    both_count d = sym (ap length gives_back_lem ∙ length-append (walk s r returning r.place) behind ∙ omega (arith, front_count, back_count d))

    module _ (i : ℕ) where
      pub front_at : i < left → standing s r returning (r.place + i) ≡ get_or (ahead_in s r returning) i no_operation
      unfolding list_length
      front_at b =
          sym (ap (λ (l : List Operation). get_or l i no_operation) gives_back_lem ∙ get_or-append (walk s r returning r.place) behind no_operation i (omega (arith, front_count)) ∙ walk_at s r returning r.place i no_operation b)

      -- the piece behind was begun
      pub second_begun : left ≤ i → i < length (ahead_in s r returning) → (grip_of r (suc r.giving) ≡ 0 → ⊥) × (suc r.giving ≤ r.current)
      second_begun b c =
          let d : grip_of r (suc r.giving) ≡ 0 → ⊥ = λ e. omega (arith, last_count e) in
          (d, gripped_begun r (suc r.giving) d)

      module _ (b : left ≤ i) (c : i < length (ahead_in s r returning)) where
        back_within : i - left < list_length s next_piece returning - 0
        unfolding list_length notices_of piece_at pieces
        back_within = omega (arith, both_count (second_begun b c).0)

        back_at : standing s (with_giving (suc r.giving) r) returning (i - left) ≡ get_or (ahead_in s r returning) i no_operation
        unfolding standing
        back_at =
            let front = walk s r returning r.place in
            sym
            (ap (λ (l : List Operation). get_or l i no_operation) gives_back_lem
            ∙ ap (λ (k : ℕ). get_or (front ++ behind) k no_operation) (let e : i ≡ length front + (i - left) = omega (arith, front_count) in e)
            ∙ get_or-append-add front behind (i - left) no_operation
            ∙ ap (λ (l : List Operation). get_or l (i - left) no_operation) (choose_ne (grip_of r (suc r.giving)) 0 [] (walk s next_piece returning 0) (second_begun b c).0)
            ∙ walk_at s next_piece returning 0 (i - left) no_operation back_within
            ∙ ap (standing s next_piece returning) (let e : 0 + (i - left) ≡ i - left = omega arith in e))

        back_stands : Placed s (standing_at 10 (i - left) (with_giving (suc r.giving) r))
        unfolding notices_of piece_at pieces
        back_stands = record {
          exists = g.exists;
          meets = g.meets;
          climbing = λ e. ⊎_elim (λ f. absurd (omega arith)) (λ f. absurd (omega arith)) e;
          notifying = λ e. absurd (omega arith);
          checking = λ e. absurd (omega arith);
          returning = λ e. omega (arith, both_count (second_begun b c).0);
          noticed = g.noticed;
          giving_begun = (second_begun b c).1;
        }

        -- as the code counts them
        module _ (k h : ℕ) (e : k ≡ left) (f : h ≡ suc r.giving) where
          pub back_stands_by : Placed s (standing_at 10 (i - k) (with_giving h r))
          back_stands_by =
              subst (λ (m : ℕ). Placed s (standing_at 10 (i - m) (with_giving h r))) (sym e) (subst (λ (m : ℕ). Placed s (standing_at 10 (i - left) (with_giving m r))) (sym f) back_stands)

          pub back_at_by : standing s (with_giving h r) returning (i - k) ≡ get_or (ahead_in s r returning) i no_operation
          back_at_by = ap₂ (λ (l m : ℕ). standing s (with_giving m r) returning (i - l)) e f ∙ back_at

      pub front_stands : i < left → Placed s (standing_at 10 (r.place + i) r)
      unfolding list_length phase_of choose
      front_stands b = stands_in s r g 10 (r.place + i) (omega arith)
