-- Laws of the causes that the pages find by counts alone: what each way out of the code meets, and what has been passed where none of them is. Assumes nothing.
use Rattle.std.specs.Prelude.{◌≡◌, true, false, ℕ, ◌≤◌, ◌<◌, leb}
use Rattle.std.proofs.Math.Path.{sym}
use Rattle.std.proofs.Common.{ap, ◌∙◌, arith}
use Rattle.std.proofs.Math.Bool.{not}
use mathlib.Core.List.{[], ◌∷◌}
use borrow.Author.Tests.{eq-eqb, ne_eqb, le-leb, lt-leb, leb-false}
use Rattle.lock.specs.declared.Settings.{Settings}
use Rattle.lock.specs.rules.Unreadable.{differ}
use Rattle.lock.specs.rules.Calls.{first_cause, settings_outside, clients_outside, client_tests}
use Rattle.lock.specs.laws.Active.{Settled}
use Rattle.lock.proofs.laws.SettledLaws.{settled}
use Rattle.lock.proofs.laws.ReadableLaws.{same_number}
use Rattle.lock.proofs.laws.CallLaws.{cause_hit, cause_skip}
use Rattle.lock.proofs.laws.Accepted.{test_passed}
use Rattle.pages.specs.laws.Causes.{planners_cause, run_cause}

-- ---- planners: 1, 2, 3

module _ (s : Settings) (rows clients : ℕ) where
  pub planners_settings : settings_outside s ≡ true → 1 ≡ planners_cause s rows clients
  unfolding planners_cause
  planners_settings e = sym (cause_hit (settings_outside s) 1 _ e)

  module _ (e : settings_outside s ≡ false) where
    pub planners_rows : (rows ≡ clients → ⊥) → 2 ≡ planners_cause s rows clients
    unfolding planners_cause
    planners_rows d = sym (cause_skip (settings_outside s) 1 _ e ∙ cause_hit (differ rows clients) 2 _ (ap not (ne_eqb rows clients d)))

    module _ (f : rows ≡ clients) where
      behind_rows : planners_cause s rows clients ≡ first_cause ((clients_outside clients, 3) ∷ [])
      unfolding planners_cause
      behind_rows = cause_skip (settings_outside s) 1 _ e ∙ cause_skip (differ rows clients) 2 _ (ap not (eq-eqb rows clients f))

      pub planners_clients : clients_outside clients ≡ true → 3 ≡ planners_cause s rows clients
      planners_clients g = sym (behind_rows ∙ cause_hit (clients_outside clients) 3 [] g)

      pub planners_passed : clients_outside clients ≡ false → 0 ≡ planners_cause s rows clients
      unfolding first_cause
      planners_passed g = sym (behind_rows ∙ cause_skip (clients_outside clients) 3 [] g)

  -- none of them: the settings are within their ranges, and there is a row for each client
  pub planners_tested : planners_cause s rows clients ≡ 0 → Settled s × (rows ≡ clients)
  unfolding planners_cause
  planners_tested z =
      let a = test_passed (settings_outside s) 1 ((differ rows clients, 2) ∷ (clients_outside clients, 3) ∷ []) (omega arith) z in
      let b = test_passed (differ rows clients) 2 ((clients_outside clients, 3) ∷ []) (omega arith) a.1 in
      (settled s a.0, same_number rows clients b.0)

-- ---- a run: 1, 3, 4

module _ (s : Settings) (clients client : ℕ) where
  pub run_settings : settings_outside s ≡ true → 1 ≡ run_cause s clients client
  unfolding run_cause
  run_settings e = sym (cause_hit (settings_outside s) 1 _ e)

  module _ (e : settings_outside s ≡ false) where
    pub run_clients : clients_outside clients ≡ true → 3 ≡ run_cause s clients client
    unfolding run_cause client_tests
    run_clients f = sym (cause_skip (settings_outside s) 1 _ e ∙ cause_hit (clients_outside clients) 3 _ f)

    module _ (f : clients_outside clients ≡ false) where
      behind_clients : run_cause s clients client ≡ first_cause ((leb clients client, 4) ∷ [])
      unfolding run_cause client_tests
      behind_clients = cause_skip (settings_outside s) 1 _ e ∙ cause_skip (clients_outside clients) 3 _ f

      pub run_client : clients ≤ client → 4 ≡ run_cause s clients client
      run_client h = sym (behind_clients ∙ cause_hit (leb clients client) 4 [] (le-leb clients client h))

      pub run_passed : client < clients → 0 ≡ run_cause s clients client
      unfolding first_cause
      run_passed h = sym (behind_clients ∙ cause_skip (leb clients client) 4 [] (lt-leb clients client h))

  -- none of them: the settings are within their ranges, and the client is in the table
  pub run_tested : run_cause s clients client ≡ 0 → Settled s × (client < clients)
  unfolding run_cause client_tests
  run_tested z =
      let a = test_passed (settings_outside s) 1 ((clients_outside clients, 3) ∷ (leb clients client, 4) ∷ []) (omega arith) z in
      let b = test_passed (clients_outside clients) 3 ((leb clients client, 4) ∷ []) (omega arith) a.1 in
      let c = test_passed (leb clients client) 4 [] (omega arith) b.1 in
      (settled s a.0, leb-false clients client c.0)
