-- The numbers of the tests that ask for counts alone: the beginnings of the pages' chains. Assumes nothing.
use Rattle.std.specs.Prelude.{[], ◌∷◌, ℕ}
use Rattle.lock.specs.declared.Settings.{Settings}
use Rattle.lock.specs.rules.Unreadable.{differ}
use Rattle.lock.specs.rules.Calls.{first_cause, settings_outside, clients_outside, client_tests}

unfoldable pub planners_cause : Settings → ℕ → ℕ → ℕ
planners_cause s rows clients = first_cause ((settings_outside s, 1) ∷ (differ rows clients, 2) ∷ (clients_outside clients, 3) ∷ [])

unfoldable pub run_cause : Settings → ℕ → ℕ → ℕ
run_cause s clients client = first_cause ((settings_outside s, 1) ∷ client_tests clients client)
