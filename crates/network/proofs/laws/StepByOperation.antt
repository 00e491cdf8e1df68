-- A step over the table is, after the tests of the table and the client, the operation found, applied to its word, and completed: the equation, for every lent state. Assumes nothing.
use Rattle.std.specs.Prelude.{◌≡◌, ◌≢◌, false, ℕ, zero, suc, length, set}
use Rattle.std.proofs.Math.Path.{refl, sym, ap, ap₂}
use Rattle.std.proofs.Common.{◌∙◌, arith, eq-eqb, ne_eqb}
use Rattle.std.proofs.Math.Bool.{not}
use mathlib.Core.List.{List, [], ◌∷◌, ◌++◌}
use Rattle.std.proofs.lemmas.List.{set-get_or}
use Rattle.base.specs.laws.ChoiceLaws.{on_choose, choose_eq, choose_ne, by_eq}
use Rattle.tree.specs.rules.Tree.{word_count}
use Rattle.lock.specs.declared.Client.{Client}
use Rattle.lock.specs.declared.Operation.{Operation}
use Rattle.lock.specs.declared.Record.{Record}
use Rattle.lock.specs.declared.Settings.{Settings}
use Rattle.lock.specs.declared.Stepped.{Stepped}
use Rattle.lock.specs.rules.Records.{Phase, idle, ticket, turn, climb, blocked, claim, notify, wait, check, held, returning, unknown, phase_of, word_at, written, client_with}
use Rattle.lock.specs.rules.Unreadable.{differ}
use Rattle.lock.specs.rules.Steps.{Moved, Access, none, read, add, swap, applied, touched, access, moved, completed}
use Rattle.lock.specs.rules.Calls.{Tests, first_cause, settings_outside, tree_tests, client_tests, step_tests, answered, step_number, step_answer, step_words}
use Rattle.lock.specs.rules.Operations.{operation_at, refused_operation, access_of, post_tests, operation_answer, completed_tests, completed_answer}
use Rattle.lock.specs.rules.Table.{State, step, client_of, client_at, call}
use Rattle.lock.specs.rules.ByValue.{answer_to, words_after}
use Rattle.lock.proofs.laws.CallLaws.{cause_hit, cause_skip, tree_passed, cause_tested, answer_refused}
use Rattle.lock.proofs.laws.OperationLaws.{access_back, PostTested, post_tested, operation_refused, operation_found}
use Rattle.lock.specs.laws.Rows.{claim_piece, return_bits, return_inner, give_back, moved_in}
use Rattle.lock.proofs.laws.Rows.{on_moved}
use Rattle.table.specs.laws.Causes.{table_cause}
use Rattle.table.specs.laws.CauseLaws.{both_none}
use Rattle.table.specs.laws.CallLaws.{table_refuses, table_takes}
use Rattle.network.specs.rules.ByOperation.{by_operation}

-- ---- a returning leaf that finds a wanted bit clear leaves its word

module _ (s : Settings) (r : Record) (w t : ℕ) where
  abbrev Left : Moved → Type 0
  Left m = m.number ≢ 0 → m.word ≡ w

  row_left : (p : Phase) → Left (moved_in s r w t p)
  unfolding moved_in claim_piece give_back return_bits return_inner
  row_left idle = λ _. refl
  row_left ticket = λ d. absurd (d refl)
  row_left turn = λ _. refl
  row_left climb = λ _. refl
  row_left blocked = λ _. refl
  row_left claim = on_choose Left _ _ _ (λ _ d. absurd (d refl)) (λ _ d. absurd (d refl))
  row_left notify = λ d. absurd (d refl)
  row_left wait = λ _. refl
  row_left check = λ _. refl
  row_left held = λ _. refl
  row_left returning =
      on_choose Left _ _ _
      (λ _. on_choose Left _ _ _ (λ _. on_choose Left _ _ _ (λ _ d. absurd (d refl)) (λ _ _. refl))
      (λ _. on_choose Left _ _ _ (λ _ d. absurd (d refl)) (λ _. on_choose Left _ _ _ (λ _ d. absurd (d refl)) (λ _ _. refl)))) (λ _ d. absurd (d refl))
  row_left unknown = λ _. refl

  pub refused_leaves : Left (moved s r w t)
  refused_leaves = on_moved s r w Left t (λ _. refl) (row_left (phase_of r.phase))

-- what stands there, written again, changes nothing
pub written_same : (words : List ℕ) (n : ℕ) → written words n (word_at words n) ≡ words
unfolding written word_at
written_same words zero = refl
written_same words (suc i) = set-get_or words i 0

pub node_at : (n : ℕ) (a : Access) → (operation_at n a).node ≡ n
unfolding operation_at
node_at n none = refl
node_at n read = refl
node_at n (add d) = refl
node_at n (swap c e x v) = refl

no_test : first_cause [] ≡ 0
unfolding first_cause
no_test = refl

-- ---- on one client, where the settings are inside and the words are the tree's

module _ (s : Settings) (c : Client) (words : List ℕ) (t : ℕ) (inside : settings_outside s ≡ false) (count : length words ≡ word_count s.levels) where
  abbrev r : Record
  r = c.«record»

  abbrev o : Operation
  o = operation_answer s c t

  abbrev w : ℕ
  w = word_at words o.node

  abbrev own : ℕ
  own = word_at words (touched s r t)

  abbrev nine : Tests
  nine = (differ (moved s r own t).number 0, 9) ∷ []

  number_behind : step_number s c words t ≡ first_cause (post_tests s c t ++ nine)
  unfolding step_number step_tests post_tests
  number_behind = tree_passed s (length words) (step_tests s r words c.clock t) inside count ∙ sym (cause_skip (settings_outside s) 1 _ inside)

  abbrev Equal : Type 0
  Equal = (step_answer s c words t ≡ completed_answer s c t w) × (step_words s c words t ≡ written words o.node (applied (access_of o) w))

  module _ (n : ℕ) (e : n ≡ first_cause (post_tests s c t)) where
    abbrev v : PostTested s c t n
    v = post_tested s c t n e

    -- refused by 1, 5 or 6: nothing is posted, and all stays
    when_refused : n ≢ 0 → Equal
    unfolding step_answer step_words completed_answer completed_tests written
    when_refused d =
        let a : step_number s c words t ≡ n = number_behind ∙ v.refused d nine in
        let b = v.refused d ((differ (completed s r w t).number 0, 9) ∷ []) in
        let f : o ≡ refused_operation n = sym (operation_refused s c t n e d) in (
          answer_refused (step_number s c words t) c _ (λ z. d (sym a ∙ z)) ∙ ap (λ (k : ℕ). record { number = k; next = c }) (a ∙ sym b) ∙ sym (answer_refused _ c _ (λ z. d (sym b ∙ z))),
          choose_ne (step_number s c words t) 0 _ words (λ z. d (sym a ∙ z)) ∙ ap (λ (p : Operation). written words p.node (applied (access_of p) (word_at words p.node))) (sym f),
        )

    when_found : n ≡ 0 → Equal
    unfolding step_answer step_words completed_answer completed_tests
    when_found z =
        let f : o ≡ operation_at (touched s r t) (access s r t) = sym (operation_found s c t n e z) in
        let node : o.node ≡ touched s r t = ap (λ (p : Operation). p.node) f ∙ node_at (touched s r t) (access s r t) in
        let same : w ≡ own = ap (word_at words) node in
        let a : step_number s c words t ≡ first_cause nine = number_behind ∙ v.passed z nine in
        let b : first_cause (completed_tests s c t w) ≡ first_cause nine = v.passed z _ ∙ ap (λ (x : ℕ). first_cause ((differ (completed s r x t).number 0, 9) ∷ [])) same in
        let put : written words o.node (applied (access_of o) w) ≡ written words (touched s r t) (moved s r own t).word =
        ap₂ (λ (p : ℕ) (x : ℕ). written words p x) node (ap₂ applied (ap access_of f ∙ access_back (touched s r t) (access s r t)) same) in (
          ap₂ (λ (k : ℕ) (x : ℕ). answered k c (client_with t (completed s r x t).next)) (a ∙ sym b) (sym same),
          by_eq (moved s r own t).number 0
              (λ q. choose_eq (step_number s c words t) 0 _ words (a ∙ cause_skip _ 9 [] (ap not (eq-eqb (moved s r own t).number 0 q)) ∙ no_test) ∙ sym put)
              (λ q. choose_ne (step_number s c words t) 0 _ words (λ y. omega (arith, y, a, cause_hit _ 9 [] (ap not (ne_eqb (moved s r own t).number 0 q))))
              ∙ sym (put ∙ ap (written words (touched s r t)) (refused_leaves s r own t q) ∙ written_same words (touched s r t))),
        )

  pub equal : Equal
  equal = by_eq (first_cause (post_tests s c t)) 0 (λ z. when_found _ refl z) (λ d. when_refused _ refl d)

-- ---- over the table, for every lent state

pub step_by_operation : (s : Settings) (st : State) (c t : ℕ) → call s st (step c t) ≡ by_operation s st c t
unfolding by_operation table_cause answer_to words_after client_of
step_by_operation s st c t =
    let cause = table_cause s (length st.words) (length st.clients) c in
    by_eq cause 0
    (λ z.
    let tested = cause_tested s (length st.words) _ refl in
    let none = both_none (tree_tests s (length st.words)) (client_tests (length st.clients) c) z in
    let q = equal s (client_at st c) st.words t (tested.settings none) (tested.count_right none) in
    sym (table_takes s st.clients st.words (step c t) c refl z)
    ∙ ap₂ (λ (a : Stepped) (ws : List ℕ). record { number = a.number; state = record { words = ws; clients = set st.clients c a.next } }) q.0 q.1
    ∙ sym (choose_eq cause 0 _ _ z))
    (λ d. sym (table_refuses s st.clients st.words (step c t) cause refl d) ∙ sym (choose_ne cause 0 _ _ d))
