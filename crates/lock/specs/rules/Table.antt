-- To be believed: document 01, sections "Refused calls" and "Histories", and document 02, request 2.3: the calls over the client table, and opening. Each call's tests stand
-- in one chain; a refused call leaves words, records and clocks as they were. Assumes nothing.
use Rattle.std.specs.Prelude.{List, [], ◌∷◌, ◌++◌, ℕ, eqb, length, get_or, set, replicate}
use Rattle.base.specs.rules.Choice.{choose}
use Rattle.lock.specs.declared.Client.{Client}
use Rattle.lock.specs.declared.Record.{Record}
use Rattle.lock.specs.declared.Settings.{Settings}
use Rattle.lock.specs.rules.Records.{word_at, written, client_with, idle_client}
use Rattle.lock.specs.rules.Steps.{touched, moved}
use Rattle.lock.specs.rules.Calls.{Tests, first_cause, tree_tests, clients_outside, client_tests, request_tests, step_tests, release_tests, cancel_tests, requested, released, cancelled}

-- the words, and the client table: each client's record with its last clock beside it
pub record State : Type 0 where
  pub words : List ℕ
  pub clients : List Client

-- "each a request, step, release or cancel, with any client, edges and clock"
pub data Call : Type 0 where
  request : (client left right : ℕ) → Call
  step : (client clock : ℕ) → Call
  release : (client : ℕ) → Call
  cancel : (client : ℕ) → Call

unfoldable pub client_of : Call → ℕ
client_of (request c l r) = c
client_of (step c t) = c
client_of (release c) = c
client_of (cancel c) = c

unfoldable pub client_at : State → ℕ → Client
client_at st c = get_or st.clients c idle_client

-- that client's record, and "that client's last clock"
abbrev pub record_at : State → ℕ → Record
record_at st c = (client_at st c).«record»

abbrev pub clock_at : State → ℕ → ℕ
clock_at st c = (client_at st c).clock

-- a number (0 accepted), and the state after the call
pub record Out : Type 0 where
  pub number : ℕ
  pub state : State

-- the tests of a call: request 1, 2, 3, 4, 6, 7, 8; step 1, 2, 3, 4, 5, 6, 9; release and cancel 1, 2, 3, 4, 6, 8
unfoldable pub own_tests : Settings → State → Call → Tests
own_tests s st (request c l r) = request_tests s (record_at st c) (clock_at st c) l r
own_tests s st (step c t) = step_tests s (record_at st c) st.words (clock_at st c) t
own_tests s st (release c) = release_tests s (record_at st c) (clock_at st c)
own_tests s st (cancel c) = cancel_tests s (record_at st c) (clock_at st c)

unfoldable pub number_of : Settings → State → Call → ℕ
number_of s st k = first_cause (tree_tests s (length st.words) ++ (client_tests (length st.clients) (client_of k) ++ own_tests s st k))

-- the words and one client after a call
abbrev pub with_client : State → List ℕ → ℕ → ℕ → Record → State
with_client st words c clock r = record { words = words; clients = set st.clients c (client_with clock r) }

-- what an accepted call leaves; "An accepted step sets the last clock", that client's, and no other call does
unfoldable pub after : Settings → State → Call → State
after s st (request c l r) = with_client st st.words c (clock_at st c) (requested s l r)
after s st (step c t) =
    with_client st (written st.words (touched s (record_at st c) t) (moved s (record_at st c) (word_at st.words (touched s (record_at st c) t)) t).word) c t
    (moved s (record_at st c) (word_at st.words (touched s (record_at st c) t)) t).next
after s st (release c) = with_client st st.words c (clock_at st c) (released (record_at st c))
after s st (cancel c) = with_client st st.words c (clock_at st c) (cancelled (record_at st c))

unfoldable pub call : Settings → State → Call → Out
call s st k = record { number = number_of s st k; state = choose (eqb (number_of s st k) 0) (after s st k) st }

-- "Opening tests 1 to 3, then zeroes words, records and clock", every client's; 2.3, "cleared by opening only". The tests ask only how many words and how many clients are lent
unfoldable pub opening_number : Settings → ℕ → ℕ → ℕ
opening_number s words clients = first_cause (tree_tests s words ++ ((clients_outside clients, 3) ∷ []))

unfoldable pub opened : State → State
opened st = record { words = replicate (length st.words) 0; clients = replicate (length st.clients) idle_client }

unfoldable pub opening : Settings → State → Out
opening s st = record {
  number = opening_number s (length st.words) (length st.clients);
  state = choose (eqb (opening_number s (length st.words) (length st.clients)) 0) (opened st) st;
}
