-- Laws of the chains of tests: a chain that goes on behind another, and the causes that the functions of this crate find. Assumes nothing.
use Rattle.std.specs.Prelude.{◌≡◌, refl, Bool, not, ℕ, ◌<◌, ◌≤◌, T, leb}
use Rattle.std.proofs.Math.Path.{sym}
use Rattle.std.proofs.Common.{◌∙◌, arith}
use Rattle.std.proofs.Math.Bool.{true, false}
use mathlib.Core.List.{[], ◌∷◌, ◌++◌}
use Rattle.std.proofs.Math.Dec.{nleb→lt}
use Rattle.base.specs.declared.Refusal.{Refusal}
use Rattle.base.specs.rules.Choice.{choose}
use Rattle.base.specs.rules.Refusals.{number_of}
use Rattle.base.specs.laws.ChoiceLaws.{choose_le, choose_gt}
use Rattle.lock.specs.declared.Settings.{Settings}
use Rattle.lock.specs.rules.Calls.{Tests, first_cause, tree_tests, clients_outside, client_tests}
use Rattle.lock.specs.rules.Table.{opening_number}
use Rattle.lock.proofs.laws.CallLaws.{TreeTested, tree_passed, cause_hit, cause_skip, cause_some}
use Rattle.table.specs.laws.Causes.{table_cause}

-- ---- a chain behind another

-- every test of a chain has a number of its own that is not 0
abbrev pub Numbered : Tests → Type 0
Numbered [] = Unit {0}
Numbered (test ∷ tests) = (test.1 ≡ 0 → ⊥) × Numbered tests

one_hit : (b : Bool) (n x y : ℕ) → ((x ≡ 0 → ⊥) → y ≡ x) → (choose b n x ≡ 0 → ⊥) → choose b n y ≡ choose b n x
unfolding choose
one_hit true n x y f h = refl
one_hit false n x y f h = f h

-- a cause of the first chain is the cause of both
pub first_hits : (ts us : Tests) → (first_cause ts ≡ 0 → ⊥) → first_cause (ts ++ us) ≡ first_cause ts
unfolding first_cause
first_hits [] us h = absurd (h refl)
first_hits (t ∷ ts) us h = one_hit t.0 t.1 (first_cause ts) (first_cause (ts ++ us)) (first_hits ts us) h

one_passes : (b : Bool) (n x y z : ℕ) → (n ≡ 0 → ⊥) → (x ≡ 0 → y ≡ z) → choose b n x ≡ 0 → choose b n y ≡ z
unfolding choose
one_passes true n x y z d f h = absurd (d h)
one_passes false n x y z d f h = f h

-- where the first chain has none, the second decides
pub first_passes : (ts us : Tests) → Numbered ts → first_cause ts ≡ 0 → first_cause (ts ++ us) ≡ first_cause us
unfolding first_cause
first_passes [] us d h = refl
first_passes (t ∷ ts) us d h = one_passes t.0 t.1 (first_cause ts) (first_cause (ts ++ us)) (first_cause us) d.0 (first_passes ts us d.1) h

one_none : (b : Bool) (n x y : ℕ) → (x ≡ 0 → y ≡ 0) → choose b n x ≡ 0 → choose b n y ≡ 0
unfolding choose
one_none true n x y f h = h
one_none false n x y f h = f h

-- where both have none, the first has none
pub both_none : (ts us : Tests) → first_cause (ts ++ us) ≡ 0 → first_cause ts ≡ 0
unfolding first_cause
both_none [] us h = refl
both_none (t ∷ ts) us h = one_none t.0 t.1 (first_cause (ts ++ us)) (first_cause ts) (both_none ts us) h

-- ---- a test alone, and a chain whose first part is a function's and whose second stands behind its `?`

module _ (b : Bool) (k : ℕ) where
  pub one_true : b ≡ true → k ≡ first_cause ((b, k) ∷ [])
  one_true e = sym (cause_hit b k [] e)

  pub one_false : b ≡ false → 0 ≡ first_cause ((b, k) ∷ [])
  unfolding first_cause
  one_false e = sym (cause_skip b k [] e)

module _ (ts us : Tests) where
  pub refused_first : (r : Refusal) → number_of r ≡ first_cause ts → number_of r ≡ first_cause (ts ++ us)
  refused_first r e = e ∙ sym (first_hits ts us (λ z. cause_some r (e ∙ z)))

  pub passed_first : Numbered ts → 0 ≡ first_cause ts → (n : ℕ) → n ≡ first_cause us → n ≡ first_cause (ts ++ us)
  passed_first v z n e = e ∙ sym (first_passes ts us v (sym z))

-- ---- causes 1 to 3

module _ (s : Settings) (words clients n : ℕ) (t : TreeTested s words n) where
  pub opening_tree : (n ≡ 0 → ⊥) → n ≡ opening_number s words clients
  unfolding opening_number
  opening_tree d = sym (t.refused d _)

  module _ (z : n ≡ 0) where
    pub opening_clients : clients_outside clients ≡ true → 3 ≡ opening_number s words clients
    unfolding opening_number
    opening_clients e = sym (tree_passed s words _ (t.settings z) (t.count_right z) ∙ cause_hit (clients_outside clients) 3 [] e)

    pub opening_passed : clients_outside clients ≡ false → 0 ≡ opening_number s words clients
    unfolding opening_number first_cause
    opening_passed e = sym (tree_passed s words _ (t.settings z) (t.count_right z) ∙ cause_skip (clients_outside clients) 3 [] e)

-- ---- causes 1 to 4

module _ (s : Settings) (words clients client : ℕ) where
  -- the chain of 1 to 3, and the test of 4 behind it
  abbrev opening_tests : Tests
  opening_tests = tree_tests s words ++ ((clients_outside clients, 3) ∷ [])

  abbrev client_test : Tests
  client_test = (leb clients client, 4) ∷ []

  pub table_opening : (opening_number s words clients ≡ 0 → ⊥) → opening_number s words clients ≡ table_cause s words clients client
  unfolding opening_number table_cause tree_tests client_tests
  table_opening d = sym (first_hits opening_tests client_test d)

  behind_opening : opening_number s words clients ≡ 0 → table_cause s words clients client ≡ first_cause client_test
  unfolding opening_number table_cause tree_tests client_tests
  behind_opening z = first_passes opening_tests client_test ((λ e. omega (arith, e)), ((λ e. omega (arith, e)), ((λ e. omega (arith, e)), tt))) z

  pub table_client : opening_number s words clients ≡ 0 → clients ≤ client → 4 ≡ table_cause s words clients client
  unfolding first_cause
  table_client z h = sym (behind_opening z ∙ choose_le clients client 4 0 h)

  pub table_passed : opening_number s words clients ≡ 0 → client < clients → 0 ≡ table_cause s words clients client
  unfolding first_cause
  table_passed z h = sym (behind_opening z ∙ choose_gt clients client 4 0 h)

  four_none : (b : Bool) → first_cause ((b, 4) ∷ []) ≡ 0 → T (not b)
  unfolding first_cause choose
  four_none true h = absurd (omega (arith, h))
  four_none false h = tt

  opening_none_of : table_cause s words clients client ≡ 0 → opening_number s words clients ≡ 0
  unfolding opening_number table_cause tree_tests client_tests
  opening_none_of z = both_none opening_tests client_test z

  -- a client that passed
  pub client_below : table_cause s words clients client ≡ 0 → client < clients
  client_below z = nleb→lt clients client (four_none (leb clients client) (sym (behind_opening (opening_none_of z)) ∙ z))
