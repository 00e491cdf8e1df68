-- To be believed: document 01, section "Phases", and document 02, request 2.3: what is lent to a call over the table, and what comes back of it. What the call does is said
-- in the crate `lock`, rules/Table.antt. Assumes nothing.
use Rattle.std.specs.Prelude.{List, ℕ}
use Rattle.lock.specs.declared.Client.{Client}
use Rattle.lock.specs.rules.Table.{State, Out}

-- "The client table is lent as a list", now of clients, each its last clock and its record. "H, m and wait T .. travel beside it.": what a call is made on
abbrev pub lent : List Client → List ℕ → State
lent clients words = record { words = words; clients = clients }

-- what comes back of a call: its number, and the clients and words that were lent
abbrev pub left_with : ℕ → List Client → List ℕ → Out
left_with number clients words = record { number = number; state = lent clients words }
