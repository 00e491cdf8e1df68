-- The calls of a file are a history of demand 3: after them, and after each beginning of them, no two clients hold windows that overlap, if their accepted steps have true moments
-- (request 2.3). Assumes nothing.
use Rattle.std.specs.Prelude.{◌≡◌, refl, List, ◌∷◌, ◌++◌, ℕ, suc}
use Rattle.lock.specs.declared.Settings.{Settings}
use Rattle.lock.specs.rules.Table.{State, Call, client_of, record_at, call}
use Rattle.lock.specs.rules.History.{event, Demand3}
use Rattle.lock.proofs.claim.Demand3.{demand_3}
use Rattle.schedule.specs.rules.Format.{settings_in, clients_in, calls_from, lent_for}
use Rattle.schedule.specs.rules.Running.{opening_in}
use Rattle.schedule.specs.rules.Log.{line, lines}

-- the first n calls of a file whose opening is accepted
pub file_demand_3 : (bytes : List ℕ) → (opening_in bytes).number ≡ 0 → (n : ℕ) → Demand3 (settings_in bytes) (opening_in bytes).state (calls_from bytes 0 n)
unfolding opening_in
file_demand_3 bytes e n = demand_3 (settings_in bytes) (lent_for (settings_in bytes) (clients_in bytes)) e (calls_from bytes 0 n)

-- each line of the log is of an event of that history: its call, its number, and the client's record in the phase that the event has
pub line_event : (s : Settings) (st : State) (k : ℕ) (c : Call) (cs : List Call)
    → (lines s st k (c ∷ cs) ≡ line k (event s st c).made (event s st c).number (record_at (call s st c).state (client_of c)) ++ lines s (call s st c).state (suc k) cs)
    × ((record_at (call s st c).state (client_of c)).phase ≡ (event s st c).phase)
unfolding lines
line_event s st k c cs = (refl, refl)
