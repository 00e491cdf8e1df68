-- To be believed: document 01, section "The schedule program": the opening of a schedule's table, and the table that its calls leave. Assumes nothing.
use Rattle.std.specs.Prelude.{List, ℕ}
use Rattle.lock.specs.rules.Table.{State, Out, opening}
use Rattle.lock.specs.rules.History.{run}
use Rattle.schedule.specs.rules.Format.{settings_in, clients_in, calls_in, lent_for}

-- "A refused opening prints its number": the opening, by the settings and the clients of the header
unfoldable pub opening_in : List ℕ → Out
opening_in bytes = opening (settings_in bytes) (lent_for (settings_in bytes) (clients_in bytes))

-- document 02, request 2.1, "after the last call": the table then
unfoldable pub after_calls : List ℕ → State
after_calls bytes = run (settings_in bytes) (opening_in bytes).state (calls_in bytes)
