-- Laws of the call by value that the number of a kind names, and of its answer as C has it: the first tests, and what is left of a step. Assumes nothing.
use Rattle.std.specs.Prelude.{◌≡◌, Bool, true, false, ◌&&◌, ℕ, ◌≤◌, eqb, ltb, length}
use Rattle.std.proofs.Math.Path.{refl, sym, ap}
use Rattle.std.proofs.Common.{◌∙◌, arith, eq-eqb, ne_eqb, ltb-false, eqb→eq}
use Rattle.std.proofs.Math.Bool.{not}
use mathlib.Core.List.{List, [], ◌∷◌}
use Rattle.base.specs.laws.ChoiceLaws.{choose_eq, choose_ne, by_eq, on_choose}
use Rattle.tree.specs.rules.Tree.{word_count}
use Rattle.lock.specs.declared.Call.{Call as Asked}
use Rattle.lock.specs.declared.Client.{Client}
use Rattle.lock.specs.declared.Record.{Record}
use Rattle.lock.specs.declared.Settings.{Settings}
use Rattle.lock.specs.declared.Stepped.{Stepped}
use Rattle.lock.specs.rules.Records.{word_at, written, client_with}
use Rattle.lock.specs.rules.Unreadable.{unreadable}
use Rattle.lock.specs.rules.Steps.{Moved, out_of_patience, touched, moved, given_up}
use Rattle.lock.specs.laws.Rows.{leaves}
use Rattle.lock.specs.rules.Calls.{first_cause, tree_tests, answered}
use Rattle.lock.specs.rules.Table.{Call}
use Rattle.lock.specs.rules.ByValue.{call_of, answer_to, words_after}
use Rattle.lock.specs.laws.Active.{Settled}
use Rattle.lock.proofs.laws.SettledLaws.{settled}
use Rattle.lock.proofs.laws.PatienceLaws.{sent_back_touched, sent_back_moved}
use Rattle.lock.proofs.laws.CallLaws.{TreeTested, cause_tested, cause_hit, cause_skip, tree_passed, answer_accepted, refused_by}
use Rattle.lock.specs.laws.ByKind.{clear_bit, left_by}
use Rattle.lock.proofs.laws.ByKind.{kind_step, back_of, rest_of, number_by, refused_call, next_by, words_by, left_call}

pub back_of_kind : (kind client a b last : ℕ) → (eqb kind 1 && ltb a last) ≡ back_of last (call_of kind client a b)
unfolding back_of call_of
back_of_kind kind client a b last =
    by_eq kind 1 (λ e. ap (λ (x : Bool). x && ltb a last) (eq-eqb kind 1 e) ∙ ap (back_of last) (sym (kind_step kind client a b e)))
    (λ d. ap (λ (x : Bool). x && ltb a last) (ne_eqb kind 1 d)
    ∙ on_choose (λ (k : Call). false ≡ back_of last k) (eqb kind 0) _ _ (λ _. refl)
    (λ _. on_choose (λ (k : Call). false ≡ back_of last k) (eqb kind 1) _ _ (λ t. absurd (d (eqb→eq kind 1 t))) (λ _. on_choose (λ (k : Call). false ≡ back_of last k) (eqb kind 2) _ _ (λ _. refl) (λ _. refl))))

pub step_onward : (kind clock last : ℕ) → kind ≡ 1 → (eqb kind 1 && ltb clock last) ≡ false → last ≤ clock
step_onward kind clock last e h = ltb-false clock last (sym (ap (λ (x : Bool). x && ltb clock last) (eq-eqb kind 1 e)) ∙ h)

-- a call in code: `n` is what the tests of 1 and 2 give
module _ (s : Settings) (own : Client) (words : List ℕ) (c : Asked) (kind n : ℕ) (t : n ≡ first_cause (tree_tests s (length words))) where
  abbrev k : Call
  k = call_of kind c.client c.a c.b

  abbrev Gives : Stepped → List ℕ → Type 0
  Gives x vs = (x ≡ answer_to s own words k) × (vs ≡ words_after s own words k)

  abbrev back : Bool
  back = eqb kind 1 && ltb c.a own.clock

  abbrev unread : Bool
  unread = unreadable s own.«record» own.clock

  tested : TreeTested s (length words) n
  tested = cause_tested s (length words) n t

  pub refuses_tree : {x : Stepped} → (n ≡ 0 → ⊥) → x ≡ record { number = n; next = own } → Gives x words
  refuses_tree d q = refused_call s own words k n _ (tested.refused d _) d q

  module _ (z : n ≡ 0) where
    pub settles : Settled s
    settles = settled s (tested.settings z)

    pub counts : length words ≡ word_count s.levels
    counts = tested.count_right z

    behind_tree : number_by s own words k ≡ first_cause ((back, 5) ∷ (unread, 6) ∷ rest_of s own words k)
    behind_tree =
        tree_passed s (length words) _ (tested.settings z) counts
        ∙ ap (λ (x : Bool). first_cause ((x, 5) ∷ (unread, 6) ∷ rest_of s own words k)) (sym (back_of_kind kind c.client c.a c.b own.clock))

    pub refuses_back : {x : Stepped} → back ≡ true → x ≡ record { number = 5; next = own } → Gives x words
    refuses_back e q = refused_call s own words k 5 _ (behind_tree ∙ cause_hit back 5 _ e) (λ f. omega arith) q

    module _ (b : back ≡ false) where
      pub refuses_unreadable : {x : Stepped} → unread ≡ true → x ≡ record { number = 6; next = own } → Gives x words
      refuses_unreadable e q = refused_call s own words k 6 _ (behind_tree ∙ cause_skip back 5 _ b ∙ cause_hit unread 6 _ e) (λ f. omega arith) q

      pub gives : {x : Stepped} {vs : List ℕ} (j : Call) → unread ≡ false → k ≡ j → x ≡ answered (first_cause (rest_of s own words j)) own (next_by s own words j)
          → vs ≡ words_by s own words j → Gives x vs
      gives j u i q w =
          let rest = behind_tree ∙ cause_skip back 5 _ b ∙ cause_skip unread 6 _ u in
          let a = left_call s own words j _ _ (ap (number_by s own words) (sym i) ∙ rest ∙ ap (λ (m : Call). first_cause (rest_of s own words m)) i) q w in
          (a.0 ∙ ap (answer_to s own words) (sym i), a.1 ∙ ap (words_after s own words) (sym i))

-- ---- what is left of a step

module _ (s : Settings) (own : Client) (words : List ℕ) (clock : ℕ) where
  abbrev before : Record
  before = own.«record»

  abbrev made : Moved
  made = moved s before (word_at words (touched s before clock)) clock

  abbrev StepGives : Stepped → List ℕ → Type 0
  StepGives x vs = (x ≡ answered (clear_bit s before words clock) own (client_with clock made.next)) × (vs ≡ left_by s before words clock)

  module _ (m : Moved) (e : m ≡ made) where
    pub step_refused : (x : Stepped) → (m.number ≡ 0 → ⊥) → x ≡ record { number = 9; next = own } → StepGives x words
    step_refused x d q =
        let nine : clear_bit s before words clock ≡ 9 = cause_hit _ 9 [] (ap not (ne_eqb made.number 0 (λ z. d (ap (λ y. y.number) e ∙ z)))) in
        (q ∙ refused_by _ own _ 9 nine (λ z. omega arith), sym (choose_ne (clear_bit s before words clock) 0 _ words (λ z. omega arith)))

    pub step_taken : (vs : List ℕ) → m.number ≡ 0 → vs ≡ written words (touched s before clock) m.word → StepGives (record { number = 0; next = client_with clock m.next }) vs
    unfolding first_cause
    step_taken vs z q =
        let none : clear_bit s before words clock ≡ 0 = cause_skip _ 9 [] (ap not (eq-eqb made.number 0 (sym (ap (λ y. y.number) e) ∙ z))) in (
          ap (λ (y : Record). record { number = 0; next = client_with clock y }) (ap (λ y. y.next) e) ∙ sym (answer_accepted _ own _ none),
          q ∙ ap (λ (y : ℕ). written words (touched s before clock) y) (ap (λ y. y.word) e) ∙ sym (choose_eq (clear_bit s before words clock) 0 _ words none),
        )

  -- patience has run out
  pub step_sent_back : out_of_patience s before clock ≡ true → (q : Record) → q ≡ given_up before → StepGives (record { number = 0; next = client_with clock q }) words
  unfolding written
  step_sent_back e q f =
      let w = word_at words (touched s before clock) in
      step_taken (leaves w q) (ap (leaves w) f ∙ sym (sent_back_moved s before clock e w)) words refl (sym (ap (λ (n : ℕ). written words n w) (sent_back_touched s before clock e)))
