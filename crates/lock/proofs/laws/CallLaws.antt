-- Laws of the calls by value: the first cause of a chain of tests, and what each way out of the code meets. Assumes nothing.
use Rattle.std.specs.Prelude.{◌≡◌, ◌≢◌, ◌⊎◌, Bool, [], ◌∷◌, ◌++◌, ℕ, T}
use Rattle.std.proofs.Math.Path.{refl, subst}
use Rattle.std.proofs.Common.{sym, ap, ◌∙◌, ⊎_elim, arith}
use Rattle.std.proofs.Math.Bool.{true, false, not}
use borrow.Author.Tests.{eq-eqb, ne_eqb, eqb-true, eqb-false, not-true, not-false}
use Rattle.std.specs.Prelude.{Result, Ok, Err}
use Rattle.base.specs.declared.Refusal.{Refusal}
use Rattle.base.specs.rules.Refusals.{number_of}
use Rattle.base.specs.laws.RefusalLaws.{some_number}
use Rattle.base.specs.rules.Choice.{choose}
use Rattle.base.specs.laws.ChoiceLaws.{on_choose, choose_eq, choose_ne}
use Rattle.tree.specs.rules.Tree.{word_count}
use Rattle.lock.specs.declared.Client.{Client}
use Rattle.lock.specs.declared.Settings.{Settings}
use Rattle.lock.specs.rules.Unreadable.{differ}
use Rattle.lock.specs.rules.Calls.{Tests, first_cause, settings_outside, tree_tests, answered, stepped_by}

-- ---- the first cause

pub cause_hit : (b : Bool) (k : ℕ) (ts : Tests) → b ≡ true → first_cause ((b, k) ∷ ts) ≡ k
unfolding first_cause choose
cause_hit b k ts e = ap (λ (x : Bool). choose x k (first_cause ts)) e

pub cause_skip : (b : Bool) (k : ℕ) (ts : Tests) → b ≡ false → first_cause ((b, k) ∷ ts) ≡ first_cause ts
unfolding first_cause choose
cause_skip b k ts e = ap (λ (x : Bool). choose x k (first_cause ts)) e

-- no test of the chain is true
unfoldable pub NoneTrue : Tests → Type 0
NoneTrue [] = Unit
NoneTrue (test ∷ tests) = (test.0 ≡ false) × NoneTrue tests

pub none_true : (ts : Tests) → NoneTrue ts → first_cause ts ≡ 0
unfolding NoneTrue first_cause
none_true [] v = refl
none_true (test ∷ tests) v = cause_skip test.0 test.1 tests v.0 ∙ none_true tests v.1

-- every test of the chain has another number than x, or is false
unfoldable pub NotNamed : ℕ → Tests → Type 0
NotNamed x [] = Unit
NotNamed x (test ∷ tests) = ((test.1 ≢ x) ⊎ (test.0 ≡ false)) × NotNamed x tests

pub never_named : (x : ℕ) (ts : Tests) → x ≢ 0 → NotNamed x ts → first_cause ts ≢ x
unfolding NotNamed first_cause
never_named x [] d v = λ e. d (sym e)
never_named x (test ∷ tests) d v =
    let rest = never_named x tests d v.1 in
    on_choose (λ (k : ℕ). k ≢ x) test.0 test.1 (first_cause tests)
    (λ t. ⊎_elim (λ other. other) (λ false_now. absurd (subst T false_now t)) v.0) (λ _. rest)

-- 1 and 2 come first
module _ (s : Settings) (count : ℕ) (ts : Tests) where
  pub tree_settings : settings_outside s ≡ true → first_cause (tree_tests s count ++ ts) ≡ 1
  unfolding tree_tests
  tree_settings e = cause_hit (settings_outside s) 1 _ e

  pub tree_count : settings_outside s ≡ false → (count ≡ word_count s.levels → ⊥) → first_cause (tree_tests s count ++ ts) ≡ 2
  unfolding tree_tests
  tree_count e d = cause_skip (settings_outside s) 1 _ e ∙ cause_hit (differ count (word_count s.levels)) 2 ts (ap not (ne_eqb count (word_count s.levels) d))

  pub tree_passed : settings_outside s ≡ false → count ≡ word_count s.levels → first_cause (tree_tests s count ++ ts) ≡ first_cause ts
  unfolding tree_tests
  tree_passed e f = cause_skip (settings_outside s) 1 _ e ∙ cause_skip (differ count (word_count s.levels)) 2 ts (ap not (eq-eqb count (word_count s.levels) f))

-- what the test of 1 alone in code gives
module _ (s : Settings) where
  refused_at : (b : Bool) → settings_outside s ≡ b → (n : ℕ) (ts : Tests) → n ≡ first_cause ((settings_outside s, 1) ∷ []) → (n ≡ 0 → ⊥) → first_cause ((settings_outside s, 1) ∷ ts) ≡ n
  unfolding first_cause choose
  refused_at true f n ts e d = cause_hit (settings_outside s) 1 ts f ∙ sym (e ∙ cause_hit (settings_outside s) 1 [] f)
  refused_at false f n ts e d = absurd (d (e ∙ cause_skip (settings_outside s) 1 [] f))

  pub settings_refused : (n : ℕ) (ts : Tests) → n ≡ first_cause ((settings_outside s, 1) ∷ []) → (n ≡ 0 → ⊥) → first_cause ((settings_outside s, 1) ∷ ts) ≡ n
  settings_refused = refused_at (settings_outside s) refl

  passed_at : (b : Bool) → settings_outside s ≡ b → 0 ≡ first_cause ((settings_outside s, 1) ∷ []) → settings_outside s ≡ false
  passed_at true f e = let z : 0 ≡ 1 = e ∙ cause_hit (settings_outside s) 1 [] f in absurd (omega (arith, z))
  passed_at false f e = f

  pub settings_passed : 0 ≡ first_cause ((settings_outside s, 1) ∷ []) → settings_outside s ≡ false
  settings_passed = passed_at (settings_outside s) refl

-- what the test of 1 and 2 in code gives: 0 and both passed, or a number that any chain behind them has too
pub record TreeTested (s : Settings) (count n : ℕ) : Type 0 where
  pub refused : (n ≡ 0 → ⊥) → (ts : Tests) → first_cause (tree_tests s count ++ ts) ≡ n
  pub settings : n ≡ 0 → settings_outside s ≡ false
  pub count_right : n ≡ 0 → count ≡ word_count s.levels

module _ (s : Settings) (count : ℕ) where
  tested_by : (outside other : Bool) → settings_outside s ≡ outside → differ count (word_count s.levels) ≡ other
      → TreeTested s count (first_cause ((outside, 1) ∷ (other, 2) ∷ []))
  unfolding first_cause choose
  tested_by true other e f =
      record { refused = λ d ts. tree_settings s count ts e; settings = λ z. absurd (omega arith); count_right = λ z. absurd (omega arith) }
  tested_by false true e f =
      let other = eqb-false count (word_count s.levels) (not-true _ f) in
      record { refused = λ z ts. tree_count s count ts e other; settings = λ z. absurd (omega arith); count_right = λ z. absurd (omega arith) }
  tested_by false false e f =
      record { refused = λ d ts. absurd (d refl); settings = λ _. e; count_right = λ _. eqb-true count (word_count s.levels) (not-false _ f) }

  pub cause_tested : (n : ℕ) → n ≡ first_cause (tree_tests s count) → TreeTested s count n
  unfolding tree_tests
  cause_tested n e = subst (TreeTested s count) (sym e) (tested_by _ _ refl refl)

-- ---- the answer

module _ (number : ℕ) (c next : Client) where
  pub answer_refused : (number ≡ 0 → ⊥) → answered number c next ≡ record { number = number; next = c }
  unfolding answered
  answer_refused d = choose_ne number 0 _ _ d

  pub answer_accepted : number ≡ 0 → answered number c next ≡ record { number = 0; next = next }
  unfolding answered
  answer_accepted e = choose_eq number 0 _ _ e

  -- refused by the cause k, where the chain says so
  pub refused_by : (k : ℕ) → number ≡ k → (k ≡ 0 → ⊥) → record { number = k; next = c } ≡ answered number c next
  refused_by k e d = sym (answer_refused (λ z. d (sym e ∙ z)) ∙ ap (λ (x : ℕ). record { number = x; next = c }) e)

-- ---- the answer of a call in code

pub cause_some : (e : Refusal) → number_of e ≡ 0 → ⊥
cause_some e z = omega (arith, z, some_number e)

module _ (number : ℕ) (c next : Client) where
  pub accepted_by : (y : Client) → 0 ≡ number → y ≡ next → stepped_by c (Ok y) ≡ answered number c next
  accepted_by y e f = ap (λ (x : Client). record { number = 0; next = x }) f ∙ sym (answer_accepted number c next (sym e))

  -- at the exit of a `?`
  pub refused_as : (x : Result Client Refusal) (y e : Refusal) → x ≡ Err y → y ≡ e → number_of e ≡ number → stepped_by c x ≡ answered number c next
  refused_as x y e f g h = ap (stepped_by c) (f ∙ ap Err g) ∙ refused_by number c next (number_of e) (sym h) (cause_some e)
