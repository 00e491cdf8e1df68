-- To be believed: the calls on one client by value, by the call: the number, the client and the words after it; and the call that a kind names. Assumes nothing.
use Rattle.std.specs.Prelude.{List, ℕ, eqb}
use Rattle.base.specs.rules.Choice.{choose}
use Rattle.lock.specs.declared.Client.{Client}
use Rattle.lock.specs.declared.Kind.{Kind}
use Rattle.lock.specs.declared.Kind.TheVariants.{Request, Step, Release, Cancel}
use Rattle.lock.specs.declared.Settings.{Settings}
use Rattle.lock.specs.declared.Stepped.{Stepped}
use Rattle.lock.specs.rules.Calls.{request_answer, release_answer, cancel_answer, step_answer, step_words}
use Rattle.lock.specs.rules.Table.{Call, request, step, release, cancel}

-- "u8 kind (0 request, 1 step, 2 release, 3 cancel)", "Request: a = l, b = r. Step: a = clock". A kind over 3 is a cancel too
unfoldable pub call_of : ℕ → ℕ → ℕ → ℕ → Call
call_of kind client a b =
    choose (eqb kind 0) (request client a b) (choose (eqb kind 1) (step client a) (choose (eqb kind 2) (release client) (cancel client)))

-- the same of a kind in code, which has no number over 3
abbrev pub call_by : Kind → ℕ → ℕ → ℕ → Call
call_by Request client a b = request client a b
call_by Step client a b = step client a
call_by Release client a b = release client
call_by Cancel client a b = cancel client

-- "A client record goes into a step and comes back by value", and its last clock with it: what a call gives on one client, its number and the client after it
unfoldable pub answer_to : Settings → Client → List ℕ → Call → Stepped
answer_to s c words (request d a b) = request_answer s c words a b
answer_to s c words (step d t) = step_answer s c words t
answer_to s c words (release d) = release_answer s c words
answer_to s c words (cancel d) = cancel_answer s c words

-- only a step touches a word
unfoldable pub words_after : Settings → Client → List ℕ → Call → List ℕ
words_after s c words (request d a b) = words
words_after s c words (step d t) = step_words s c words t
words_after s c words (release d) = words
words_after s c words (cancel d) = words
