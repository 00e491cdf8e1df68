-- To be believed: the calls of a run whose words are in another machine's memory, by value: which operation it posts, what the operation leaves of the word found, and what becomes of its client
-- when that word comes back. They are a step's, with the same tests in the same order, but for those of what is lent: 2, 3 and 4. Assumes nothing.
use Rattle.std.specs.Prelude.{[], ◌∷◌, ◌++◌, ℕ, eqb, ltb, Result, Ok, Err}
use Rattle.base.specs.declared.Refusal.{Refusal}
use Rattle.base.specs.rules.Refusals.{number_of}
use Rattle.base.specs.rules.Choice.{choose}
use Rattle.lock.specs.declared.Client.{Client}
use Rattle.lock.specs.declared.Operation.{Operation}
use Rattle.lock.specs.declared.Settings.{Settings}
use Rattle.lock.specs.declared.Stepped.{Stepped}
use Rattle.lock.specs.rules.Records.{client_with}
use Rattle.lock.specs.rules.Unreadable.{differ, unreadable}
use Rattle.lock.specs.rules.Steps.{Access, none, read, add, swap, touched, access, completed}
use Rattle.lock.specs.rules.Calls.{Tests, first_cause, settings_outside, request_tests, release_tests, cancel_tests, requested, released, cancelled, answered}

-- ---- an operation: the node, and what is done there

-- the kind (0 none, 1 read, 2 masked add, 3 masked compare-and-swap) and the values of each; 0 for what a kind does not have
unfoldable pub operation_at : ℕ → Access → Operation
operation_at n none = record { number = 0; kind = 0; node = n; compared = 0; expected = 0; swapped = 0; value = 0 }
operation_at n read = record { number = 0; kind = 1; node = n; compared = 0; expected = 0; swapped = 0; value = 0 }
operation_at n (add deltas) = record { number = 0; kind = 2; node = n; compared = 0; expected = 0; swapped = 0; value = deltas }
operation_at n (swap compared expected swapped value) = record { number = 0; kind = 3; node = n; compared = compared; expected = expected; swapped = swapped; value = value }

abbrev pub refused_operation : ℕ → Operation
refused_operation number = record { number = number; kind = 0; node = 0; compared = 0; expected = 0; swapped = 0; value = 0 }

-- the answer of a call in code: an operation, or the cause of a refusal
abbrev pub operation_by : Result Operation Refusal → Operation
operation_by (Ok operation) = operation
operation_by (Err refusal) = refused_operation (number_of refusal)

-- and what an operation does, by its kind; another number than these is none
unfoldable pub access_of : Operation → Access
access_of o =
    choose (eqb o.kind 1) read (choose (eqb o.kind 2) (add o.value) (choose (eqb o.kind 3) (swap o.compared o.expected o.swapped o.value) none))

-- ---- "which operation do I post now"

-- 1, 5, 6
unfoldable pub post_tests : Settings → Client → ℕ → Tests
post_tests s c clock = (settings_outside s, 1) ∷ (ltb clock c.clock, 5) ∷ (unreadable s c.«record» c.clock, 6) ∷ []

unfoldable pub operation_answer : Settings → Client → ℕ → Operation
operation_answer s c clock =
    let number = first_cause (post_tests s c clock) in
    choose (eqb number 0) (operation_at (touched s c.«record» clock) (access s c.«record» clock)) (refused_operation number)

-- ---- "what becomes of my record when the old word comes back"

-- 1, 5, 6, 9
unfoldable pub completed_tests : Settings → Client → ℕ → ℕ → Tests
completed_tests s c clock found = post_tests s c clock ++ ((differ (completed s c.«record» found clock).number 0, 9) ∷ [])

unfoldable pub completed_answer : Settings → Client → ℕ → ℕ → Stepped
completed_answer s c clock found =
    answered (first_cause (completed_tests s c clock found)) c (client_with clock (completed s c.«record» found clock).next)

-- ---- the calls that touch no word: request 1, 6, 7, 8; release and cancel 1, 6, 8

unfoldable pub own_request_answer : Settings → Client → ℕ → ℕ → Stepped
own_request_answer s c a b =
    answered (first_cause ((settings_outside s, 1) ∷ request_tests s c.«record» c.clock a b)) c (client_with c.clock (requested s a b))

unfoldable pub own_release_answer : Settings → Client → Stepped
own_release_answer s c =
    answered (first_cause ((settings_outside s, 1) ∷ release_tests s c.«record» c.clock)) c (client_with c.clock (released c.«record»))

unfoldable pub own_cancel_answer : Settings → Client → Stepped
own_cancel_answer s c =
    answered (first_cause ((settings_outside s, 1) ∷ cancel_tests s c.«record» c.clock)) c (client_with c.clock (cancelled c.«record»))
