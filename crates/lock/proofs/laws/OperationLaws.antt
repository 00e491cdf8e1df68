-- Laws of operations: one for each way through their rules, as the code meets them; and what the first tests of the calls by value give. Assumes nothing.
use Rattle.std.specs.Prelude.{◌≡◌, Bool, ℕ, ◌≤◌, eqb, ltb}
use Rattle.std.proofs.Math.Path.{refl, sym, ap, subst}
use Rattle.std.proofs.Common.{◌∙◌, arith}
use Rattle.std.proofs.Math.Bool.{true, false, not}
use mathlib.Core.List.{[], ◌∷◌, ◌++◌}
use borrow.Author.Tests.{eq-eqb, ne_eqb, ltb-false, le-ltb}
use Rattle.std.proofs.Math.Dec.{T}
use Rattle.base.specs.rules.Choice.{choose}
use Rattle.base.specs.laws.ChoiceLaws.{choose_no, choose_eq, choose_ne}
use Rattle.word.specs.rules.Word.{deltas}
use Rattle.lock.specs.declared.Client.{Client}
use Rattle.lock.specs.declared.Operation.{Operation}
use Rattle.lock.specs.declared.Record.{Record}
use Rattle.lock.specs.declared.Settings.{Settings}
use Rattle.lock.specs.declared.Stepped.{Stepped}
use Rattle.lock.specs.rules.Records.{phase_of, current_piece, given_piece, is_leaf, grip_of, client_with}
use Rattle.lock.specs.rules.Unreadable.{differ, unreadable}
use Rattle.lock.specs.rules.Steps.{Moved, wanted, Access, none, read, add, swap, applied, claim_access, own_word_access, return_access, access_in, out_of_patience, access, touched, completed, moved}
use Rattle.lock.specs.rules.Calls.{Tests, first_cause, settings_outside, answered}
use Rattle.lock.specs.rules.Operations.{operation_at, refused_operation, access_of, post_tests, operation_answer, completed_tests, completed_answer}
use Rattle.lock.proofs.laws.CallLaws.{cause_hit, cause_skip, answer_accepted, refused_by}
use Rattle.lock.proofs.laws.Phases.{on_phase}
use Rattle.lock.proofs.laws.Rows.{Nine, moved_nine}

-- ---- the rows

module _ (s : Settings) (r : Record) where
  abbrev claimed : ℕ
  claimed = wanted s r (current_piece r)

  abbrev given : ℕ
  given = wanted s r (given_piece r)

  pub claim_swap : is_leaf s (current_piece r) ≡ true → claim_access s r ≡ swap claimed 0 claimed claimed
  unfolding claim_access choose
  claim_swap e = ap (λ (b : Bool). choose b (swap claimed 0 claimed claimed) (add (deltas 0 1 0 0 0 0))) e

  pub claim_add : is_leaf s (current_piece r) ≡ false → claim_access s r ≡ add (deltas 0 1 0 0 0 0)
  unfolding claim_access choose
  claim_add e = ap (λ (b : Bool). choose b (swap claimed 0 claimed claimed) (add (deltas 0 1 0 0 0 0))) e

  abbrev inner : Access
  inner = choose (eqb (grip_of r r.giving) 3) (add (deltas 0 1 1 0 0 0)) (choose (eqb (grip_of r r.giving) 2) (add (deltas 0 0 1 0 0 0)) read)

  pub own_swap : is_leaf s (given_piece r) ≡ true → own_word_access s r ≡ swap given given given 0
  unfolding own_word_access choose
  own_swap e = ap (λ (b : Bool). choose b (swap given given given 0) inner) e

  module _ (e : is_leaf s (given_piece r) ≡ false) where
    own_inner : own_word_access s r ≡ inner
    unfolding own_word_access choose
    own_inner = ap (λ (b : Bool). choose b (swap given given given 0) inner) e

    pub own_occ : grip_of r r.giving ≡ 3 → own_word_access s r ≡ add (deltas 0 1 1 0 0 0)
    own_occ g = own_inner ∙ choose_eq (grip_of r r.giving) 3 _ _ g

    pub own_turn : grip_of r r.giving ≡ 2 → own_word_access s r ≡ add (deltas 0 0 1 0 0 0)
    own_turn g = own_inner ∙ choose_ne (grip_of r r.giving) 3 _ _ (λ f. omega arith) ∙ choose_eq (grip_of r r.giving) 2 _ _ g

    pub own_read : (grip_of r r.giving ≡ 3 → ⊥) → (grip_of r r.giving ≡ 2 → ⊥) → own_word_access s r ≡ read
    own_read d f = own_inner ∙ choose_ne (grip_of r r.giving) 3 _ _ d ∙ choose_ne (grip_of r r.giving) 2 _ _ f

  pub return_own : r.place ≡ 0 → return_access s r ≡ own_word_access s r
  unfolding return_access
  return_own e = choose_eq r.place 0 _ _ e

  pub return_notice : (r.place ≡ 0 → ⊥) → return_access s r ≡ add (deltas 0 0 0 0 1 0)
  unfolding return_access
  return_notice d = choose_ne r.place 0 _ _ d

  -- a phase that touches nothing
  pub access_none : (r.phase ≡ 1 → ⊥) → (r.phase ≡ 2 → ⊥) → (r.phase ≡ 3 → ⊥) → (r.phase ≡ 4 → ⊥) → (r.phase ≡ 5 → ⊥)
      → (r.phase ≡ 6 → ⊥) → (r.phase ≡ 8 → ⊥) → (r.phase ≡ 10 → ⊥) → access_in s r (phase_of r.phase) ≡ none
  unfolding access_in
  access_none d1 d2 d3 d4 d5 d6 d8 d10 =
      on_phase r.phase (λ p. access_in s r p ≡ none) (λ _. refl) (λ e. absurd (d1 e)) (λ e. absurd (d2 e)) (λ e. absurd (d3 e)) (λ e. absurd (d4 e))
      (λ e. absurd (d5 e)) (λ e. absurd (d6 e)) (λ _. refl) (λ e. absurd (d8 e)) (λ _. refl) (λ e. absurd (d10 e)) (λ _. refl)

  -- by patience
  pub patient_access : (t : ℕ) → out_of_patience s r t ≡ false → access s r t ≡ access_in s r (phase_of r.phase)
  patient_access t e = choose_no (out_of_patience s r t) _ _ (subst (λ (b : Bool). T (not b)) (sym e) tt)

  pub impatient_access : (t : ℕ) → out_of_patience s r t ≡ true → access s r t ≡ none
  unfolding choose
  impatient_access t e = ap (λ (b : Bool). choose b none (access_in s r (phase_of r.phase))) e

-- ---- what an operation does, by its kind

module _ (o : Operation) where
  abbrev exchange : Access
  exchange = swap o.compared o.expected o.swapped o.value

  pub kind_add : o.kind ≡ 2 → access_of o ≡ add o.value
  unfolding access_of
  kind_add e = choose_ne o.kind 1 _ _ (λ f. omega arith) ∙ choose_eq o.kind 2 _ _ e

  pub kind_swap : o.kind ≡ 3 → access_of o ≡ exchange
  unfolding access_of
  kind_swap e = choose_ne o.kind 1 _ _ (λ f. omega arith) ∙ choose_ne o.kind 2 _ _ (λ f. omega arith) ∙ choose_eq o.kind 3 _ _ e

  -- any other leaves the word as it was found
  pub kind_leaves : (w : ℕ) → (o.kind ≡ 2 → ⊥) → (o.kind ≡ 3 → ⊥) → applied (access_of o) w ≡ w
  unfolding access_of applied choose
  kind_leaves w d e =
      ap (λ (b : Bool). applied (choose (eqb o.kind 1) read (choose b (add o.value) (choose (eqb o.kind 3) exchange none))) w) (ne_eqb o.kind 2 d)
      ∙ ap (λ (b : Bool). applied (choose (eqb o.kind 1) read (choose b exchange none)) w) (ne_eqb o.kind 3 e)
      ∙ either (eqb o.kind 1)
    where
      either : (b : Bool) → applied (choose b read none) w ≡ w
      either true = refl
      either false = refl

-- reading an operation back
pub access_back : (n : ℕ) (a : Access) → access_of (operation_at n a) ≡ a
unfolding access_of operation_at choose
access_back n none = refl
access_back n read = refl
access_back n (add d) = refl
access_back n (swap c e w v) = refl

-- ---- 1, 5 and 6

-- what their test in code gives: 0 and all passed, or a number that any chain behind them has too
pub record PostTested (s : Settings) (c : Client) (clock n : ℕ) : Type 0 where
  pub refused : (n ≡ 0 → ⊥) → (ts : Tests) → first_cause (post_tests s c clock ++ ts) ≡ n
  pub passed : n ≡ 0 → (ts : Tests) → first_cause (post_tests s c clock ++ ts) ≡ first_cause ts
  pub settings : n ≡ 0 → settings_outside s ≡ false
  pub onward : n ≡ 0 → c.clock ≤ clock
  pub readable : n ≡ 0 → unreadable s c.«record» c.clock ≡ false

module _ (s : Settings) (c : Client) (clock : ℕ) where
  abbrev unread : Bool
  unread = unreadable s c.«record» c.clock

  module _ (ts : Tests) where
    hit_1 : settings_outside s ≡ true → first_cause (post_tests s c clock ++ ts) ≡ 1
    unfolding post_tests
    hit_1 e = cause_hit (settings_outside s) 1 _ e

    hit_5 : settings_outside s ≡ false → ltb clock c.clock ≡ true → first_cause (post_tests s c clock ++ ts) ≡ 5
    unfolding post_tests
    hit_5 e f = cause_skip (settings_outside s) 1 _ e ∙ cause_hit (ltb clock c.clock) 5 _ f

    hit_6 : settings_outside s ≡ false → ltb clock c.clock ≡ false → unread ≡ true → first_cause (post_tests s c clock ++ ts) ≡ 6
    unfolding post_tests
    hit_6 e f g = cause_skip (settings_outside s) 1 _ e ∙ cause_skip (ltb clock c.clock) 5 _ f ∙ cause_hit unread 6 _ g

    hit_none : settings_outside s ≡ false → ltb clock c.clock ≡ false → unread ≡ false → first_cause (post_tests s c clock ++ ts) ≡ first_cause ts
    unfolding post_tests
    hit_none e f g = cause_skip (settings_outside s) 1 _ e ∙ cause_skip (ltb clock c.clock) 5 _ f ∙ cause_skip unread 6 _ g

  -- the four ways through the test in code
  pub cause_1 : settings_outside s ≡ true → 1 ≡ first_cause (post_tests s c clock)
  unfolding post_tests
  cause_1 e = sym (hit_1 [] e)

  pub cause_5 : settings_outside s ≡ false → ltb clock c.clock ≡ true → 5 ≡ first_cause (post_tests s c clock)
  unfolding post_tests
  cause_5 e f = sym (hit_5 [] e f)

  pub cause_6 : settings_outside s ≡ false → ltb clock c.clock ≡ false → unread ≡ true → 6 ≡ first_cause (post_tests s c clock)
  unfolding post_tests
  cause_6 e f g = sym (hit_6 [] e f g)

  pub cause_0 : settings_outside s ≡ false → ltb clock c.clock ≡ false → unread ≡ false → 0 ≡ first_cause (post_tests s c clock)
  unfolding post_tests first_cause
  cause_0 e f g = sym (hit_none [] e f g)

  tested_by : (outside back unread' : Bool) → settings_outside s ≡ outside → ltb clock c.clock ≡ back → unread ≡ unread'
      → PostTested s c clock (first_cause ((outside, 1) ∷ (back, 5) ∷ (unread', 6) ∷ []))
  unfolding first_cause choose
  tested_by true b u e f g = record {
    refused = λ d ts. hit_1 ts e;
    passed = λ z. absurd (omega arith);
    settings = λ z. absurd (omega arith);
    onward = λ z. absurd (omega arith);
    readable = λ z. absurd (omega arith);
  }
  tested_by false true u e f g = record {
    refused = λ d ts. hit_5 ts e f;
    passed = λ z. absurd (omega arith);
    settings = λ z. absurd (omega arith);
    onward = λ z. absurd (omega arith);
    readable = λ z. absurd (omega arith);
  }
  tested_by false false true e f g = record {
    refused = λ d ts. hit_6 ts e f g;
    passed = λ z. absurd (omega arith);
    settings = λ z. absurd (omega arith);
    onward = λ z. absurd (omega arith);
    readable = λ z. absurd (omega arith);
  }
  tested_by false false false e f g = record {
    refused = λ d ts. absurd (d refl);
    passed = λ z ts. hit_none ts e f g;
    settings = λ _. e;
    onward = λ _. ltb-false clock c.clock f;
    readable = λ _. g;
  }

  pub post_tested : (n : ℕ) → n ≡ first_cause (post_tests s c clock) → PostTested s c clock n
  unfolding post_tests
  post_tested n e = subst (PostTested s c clock) (sym e) (tested_by _ _ _ refl refl refl)

-- the calls that touch no word have no clock, and 5 is never the cause by the last one
module _ (s : Settings) (c : Client) (n : ℕ) (e : n ≡ first_cause (post_tests s c c.clock)) (ts : Tests) where
  abbrev unless5 : ℕ
  unless5 = first_cause ((settings_outside s, 1) ∷ (unreadable s c.«record» c.clock, 6) ∷ ts)

  skip_5 : first_cause (post_tests s c c.clock ++ ts) ≡ unless5
  unfolding post_tests first_cause choose
  skip_5 =
      ap (λ (b : Bool). first_cause ((settings_outside s, 1) ∷ (b, 5) ∷ (unreadable s c.«record» c.clock, 6) ∷ ts)) (le-ltb c.clock c.clock (omega arith))

  pub own_refused : (n ≡ 0 → ⊥) → unless5 ≡ n
  own_refused d = sym skip_5 ∙ (post_tested s c c.clock n e).refused d ts

  pub own_answered : n ≡ 0 → (next : Client) (x : Stepped) → x ≡ answered (first_cause ts) c next → x ≡ answered unless5 c next
  own_answered z next x q = q ∙ ap (λ (k : ℕ). answered k c next) (sym (sym skip_5 ∙ (post_tested s c c.clock n e).passed z ts))

-- ---- the answers

module _ (s : Settings) (c : Client) (clock n : ℕ) (e : n ≡ first_cause (post_tests s c clock)) where
  pub operation_refused : (n ≡ 0 → ⊥) → refused_operation n ≡ operation_answer s c clock
  unfolding operation_answer
  operation_refused d =
      ap refused_operation e ∙ sym (choose_ne (first_cause (post_tests s c clock)) 0 _ _ (λ z. d (e ∙ z)))

  pub operation_found : n ≡ 0 → operation_at (touched s c.«record» clock) (access s c.«record» clock) ≡ operation_answer s c clock
  unfolding operation_answer
  operation_found z = sym (choose_eq (first_cause (post_tests s c clock)) 0 _ _ (sym e ∙ z))

  module _ (found : ℕ) where
    abbrev next : Client
    next = client_with clock (completed s c.«record» found clock).next

    pub completed_refused : (n ≡ 0 → ⊥) → record { number = n; next = c } ≡ completed_answer s c clock found
    unfolding completed_answer completed_tests
    completed_refused d = refused_by _ c next n ((post_tested s c clock n e).refused d _) d

    module _ (z : n ≡ 0) (m : Moved) (f : m ≡ moved s c.«record» found clock) where
      behind : first_cause (completed_tests s c clock found) ≡ first_cause ((differ m.number 0, 9) ∷ [])
      unfolding completed_tests
      behind = (post_tested s c clock n e).passed z _ ∙ ap (λ (x : Moved). first_cause ((differ x.number 0, 9) ∷ [])) (sym f)

      pub completed_clear : (m.number ≡ 0 → ⊥) → record { number = 9; next = c } ≡ completed_answer s c clock found
      unfolding completed_answer
      completed_clear d = refused_by _ c next 9 (behind ∙ cause_hit _ 9 [] (ap not (ne_eqb m.number 0 d))) (λ y. omega arith)

      pub completed_nine : (m.number ≡ 0 → ⊥) → record { number = m.number; next = c } ≡ completed_answer s c clock found
      unfolding completed_answer
      completed_nine d =
          let nine : m.number ≡ 9 = subst Nine (sym f) (moved_nine s c.«record» found clock) d in
          refused_by _ c next m.number (behind ∙ cause_hit _ 9 [] (ap not (ne_eqb m.number 0 d)) ∙ sym nine) d

      pub completed_taken : m.number ≡ 0 → record { number = 0; next = client_with clock m.next } ≡ completed_answer s c clock found
      unfolding completed_answer first_cause
      completed_taken y =
          ap (λ (x : Moved). record { number = 0; next = client_with clock x.next }) f
          ∙ sym (answer_accepted _ c next (behind ∙ cause_skip _ 9 [] (ap not (eq-eqb m.number 0 y))))
