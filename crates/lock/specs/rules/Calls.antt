-- To be believed: document 01, section "Refused calls" and the last paragraph of "Phases", and document 02, requests 2.2 and 2.3: the tests of each call in their order, and
-- what an accepted call makes of the client, its clock and its record, and of the words. The calls are by value, on one client; Table.antt has the same over the table. `last`
-- is the client's last clock. Assumes nothing.
use Rattle.std.specs.Prelude.{Bool, ◌||◌, List, [], ◌∷◌, ◌++◌, ℕ, eqb, leb, ltb, length, get_or, Result, Ok, Err}
use Rattle.base.specs.declared.Refusal.{Refusal}
use Rattle.base.specs.rules.Refusals.{number_of}
use Rattle.base.specs.rules.Choice.{choose}
use Rattle.tree.specs.rules.Tree.{word_count}
use Rattle.cover.specs.rules.Answer.{levels_outside, window_outside}
use Rattle.lock.specs.declared.Client.{Client}
use Rattle.lock.specs.declared.Record.{Record}
use Rattle.lock.specs.declared.Settings.{Settings}
use Rattle.lock.specs.declared.Stepped.{Stepped}
use Rattle.lock.specs.rules.Records.{cover_of, windowed, grip_of, word_at, written, sent_back, idle_with, client_with}
use Rattle.lock.specs.rules.Unreadable.{differ, unreadable}
use Rattle.lock.specs.rules.Steps.{touched, moved, start_phase}

-- ---- "Refused calls, in order of testing": the number of the first test that is true, 0 if none is

abbrev pub Tests : Type 0
Tests = List (Bool × ℕ)

unfoldable pub first_cause : Tests → ℕ
first_cause [] = 0
first_cause (test ∷ tests) = choose test.0 test.1 (first_cause tests)

-- "H, m or T outside its range": "m (1..4)"
abbrev pub levels_or_distance_outside : ℕ → ℕ → Bool
levels_or_distance_outside h m = levels_outside h || ltb m 1 || ltb 4 m

-- "T (1..2^32 - 1)"; 2.2, "a patience P (1..2^32 - 1, tested with cause 1)"
unfoldable pub settings_outside : Settings → Bool
settings_outside s =
    levels_or_distance_outside s.levels s.distance || ltb s.wait 1 || ltb 4294967295 s.wait || ltb s.patience 1 || ltb 4294967295 s.patience

-- 1 and 2, "word count not the tree's"
unfoldable pub tree_tests : Settings → ℕ → Tests
tree_tests s count = (settings_outside s, 1) ∷ (differ count (word_count s.levels), 2) ∷ []

-- 3, "no clients, or over 32,767", and 4, "client not below the table's count"
unfoldable pub clients_outside : ℕ → Bool
clients_outside count = eqb count 0 || ltb 32767 count

unfoldable pub client_tests : ℕ → ℕ → Tests
client_tests count client = (clients_outside count, 3) ∷ (leb count client, 4) ∷ []

-- request: 6, 7, 8
unfoldable pub request_tests : Settings → Record → ℕ → ℕ → ℕ → Tests
request_tests s r last a b = (unreadable s r last, 6) ∷ (window_outside s.levels a b, 7) ∷ (differ r.phase 0, 8) ∷ []

-- step: 5, 6, 9; "Only a step tests 5 and 9"; 2.3, "Cause 5 now compares with that client's last clock"
unfoldable pub step_tests : Settings → Record → List ℕ → ℕ → ℕ → Tests
step_tests s r words last clock =
    (ltb clock last, 5) ∷ (unreadable s r last, 6) ∷ (differ (moved s r (word_at words (touched s r clock)) clock).number 0, 9) ∷ []

-- release: 6, 8, "release when not held"
unfoldable pub release_tests : Settings → Record → ℕ → Tests
release_tests s r last = (unreadable s r last, 6) ∷ (differ r.phase 9, 8) ∷ []

-- cancel: 6, 8, "cancel in 0, 9 or 10"
unfoldable pub cancel_tests : Settings → Record → ℕ → Tests
cancel_tests s r last = (unreadable s r last, 6) ∷ (eqb r.phase 0 || eqb r.phase 9 || eqb r.phase 10, 8) ∷ []

-- ---- what an accepted call makes of the record

-- "A request sets window and pieces, zeroes the rest, and sets phase 1 for an inner first piece and 3 for a leaf."
unfoldable pub requested : Settings → ℕ → ℕ → Record
requested s a b =
    windowed (start_phase s (get_or (cover_of s a b) 0 0)) a b (get_or (cover_of s a b) 0 0) (get_or (cover_of s a b) 1 0)

-- "Release (from 9) and cancel (from 1..8) touch no word and set outcome 1 or 3 and phase 10; a cancel with nothing to give back makes the record
-- idle with outcome 3."
unfoldable pub released : Record → Record
released r = sent_back 1 r

unfoldable pub cancelled : Record → Record
cancelled r = choose (eqb (grip_of r 0) 0) (idle_with 3) (sent_back 3 r)

-- ---- a call by value: its number, the client after it, and the words

-- "As it was": a refused call gives its number, and the client as it was
unfoldable pub answered : ℕ → Client → Client → Stepped
answered number c next = choose (eqb number 0) (record { number = 0; next = next }) (record { number = number; next = c })

-- the same of a call in code: the client after it, or the cause of its refusal
abbrev pub stepped_by : Client → Result Client Refusal → Stepped
stepped_by c (Ok next) = record { number = 0; next = next }
stepped_by c (Err refusal) = record { number = number_of refusal; next = c }

unfoldable pub request_number : Settings → Client → List ℕ → ℕ → ℕ → ℕ
request_number s c words a b = first_cause (tree_tests s (length words) ++ request_tests s c.«record» c.clock a b)

unfoldable pub request_answer : Settings → Client → List ℕ → ℕ → ℕ → Stepped
request_answer s c words a b = answered (request_number s c words a b) c (client_with c.clock (requested s a b))

unfoldable pub release_answer : Settings → Client → List ℕ → Stepped
release_answer s c words =
    answered (first_cause (tree_tests s (length words) ++ release_tests s c.«record» c.clock)) c (client_with c.clock (released c.«record»))

unfoldable pub cancel_answer : Settings → Client → List ℕ → Stepped
cancel_answer s c words =
    answered (first_cause (tree_tests s (length words) ++ cancel_tests s c.«record» c.clock)) c (client_with c.clock (cancelled c.«record»))

unfoldable pub step_number : Settings → Client → List ℕ → ℕ → ℕ
step_number s c words clock = first_cause (tree_tests s (length words) ++ step_tests s c.«record» words c.clock clock)

-- "An accepted step sets the last clock.", its client's
unfoldable pub step_answer : Settings → Client → List ℕ → ℕ → Stepped
step_answer s c words clock =
    answered (step_number s c words clock) c (client_with clock (moved s c.«record» (word_at words (touched s c.«record» clock)) clock).next)

unfoldable pub step_words : Settings → Client → List ℕ → ℕ → List ℕ
step_words s c words clock =
    choose (eqb (step_number s c words clock) 0)
    (written words (touched s c.«record» clock) (moved s c.«record» (word_at words (touched s c.«record» clock)) clock).word) words
