-- To be believed: the operations that a run posts together, and how many of them count when the words found have come back. A card carries out what one connection posts in the order of posting, with
-- others' operations in between. Two kinds may stand in a list: certain ones, which are the next steps whatever the words found are, and reads ahead, which are the next steps if those before them are good.
-- Never a write that a word found could forbid. What each operation does is `lock`'s rules/Steps.antt. Assumes nothing.
use Rattle.std.specs.Prelude.{Bool, ◌&&◌, List, [], ◌∷◌, ◌++◌, map, ℕ, zero, suc, ◌-◌, min, eqb, length}
use Rattle.base.specs.rules.Choice.{choose}
use Rattle.tree.specs.rules.Lists.{row}
use Rattle.lock.specs.declared.Client.{Client}
use Rattle.lock.specs.declared.Operation.{Operation}
use Rattle.lock.specs.declared.Record.{Record}
use Rattle.lock.specs.declared.Settings.{Settings}
use Rattle.lock.specs.rules.Records.{Phase, idle, ticket, turn, climb, blocked, claim, notify, wait, check, held, returning, unknown, phase_of, pieces, current_piece, is_leaf, grip_of, with_giving, with_place}
use Rattle.lock.specs.rules.Unreadable.{list_length}
use Rattle.lock.specs.rules.Steps.{touched_in, access_in, out_of_patience}
use Rattle.lock.specs.rules.Calls.{first_cause}
use Rattle.lock.specs.rules.Operations.{operation_at, post_tests, operation_answer, completed_answer}
use Rattle.runs.specs.declared.Ahead.{Ahead}
use Rattle.runs.specs.declared.CompletedAll.{CompletedAll}

-- ---- the lists, by phase

-- the operation of a phase at a place of the list that it walks
unfoldable pub standing : Settings → Record → Phase → ℕ → Operation
standing s r p i = operation_at (touched_in s (with_place i r) p) (access_in s (with_place i r) p)

-- those of its list from a place on
unfoldable pub walk : Settings → Record → Phase → ℕ → List Operation
walk s r p i = map (standing s r p) (row (list_length s r p - i) i)

-- "Returning goes piece by piece, first piece first, each with its own word at place 0 and its notices after it."; "a piece with grip 0 is passed over". At most so many pieces
unfoldable pub gives_back : ℕ → Settings → Record → List Operation
gives_back zero s r = []
gives_back (suc count) s r =
    walk s r returning r.place ++ choose (eqb (grip_of r (suc r.giving)) 0) [] (gives_back count s (with_place 0 (with_giving (suc r.giving) r)))

unfoldable pub ahead_in : Settings → Record → Phase → List Operation
ahead_in s r idle = []
-- the turn's reading is certain behind a ticket; all ancestors of the climb are read ahead behind it. The root has none
ahead_in s r ticket = standing s r ticket 0 ∷ standing s r turn 0 ∷ walk s r climb 0
ahead_in s r turn = standing s r turn 0 ∷ walk s r climb 0
ahead_in s r climb = walk s r climb r.place
ahead_in s r blocked = standing s r blocked r.place ∷ walk s r climb 0
-- an inner claim and all its notices are certain; a leaf's notices only when its claim is known
ahead_in s r claim = standing s r claim 0 ∷ choose (is_leaf s (current_piece r)) [] (walk s r notify 0)
ahead_in s r notify = walk s r notify r.place
ahead_in s r wait = []
ahead_in s r check = walk s r check r.place
ahead_in s r held = []
-- certain, all but the wait for a ticket's turn: that is the reading of the last piece, and nothing stands behind it
ahead_in s r returning = gives_back (length (pieces r)) s r
ahead_in s r unknown = []

-- none where the call is refused, or where patience has run out
unfoldable pub ahead_of : Settings → Client → ℕ → List Operation
ahead_of s c clock =
    choose (eqb (first_cause (post_tests s c clock)) 0) (choose (out_of_patience s c.«record» clock) [] (ahead_in s c.«record» (phase_of c.«record».phase))) []

-- ---- "which operations do I post now": 1, 5, 6

-- a list in lent room: never more than it holds, and what is behind stays as it was
unfoldable pub laid : List Operation → List Operation → List Operation
laid [] lent = lent
laid (o ∷ os) [] = []
laid (o ∷ os) (x ∷ lent) = o ∷ laid os lent

unfoldable pub ahead_answer : Settings → Client → (clock room : ℕ) → Ahead
ahead_answer s c clock room = record { number = first_cause (post_tests s c clock); count = min room (length (ahead_of s c clock)) }

-- ---- "what becomes of my record when the words found come back": 1, 5, 6, and 9 where the first of them is refused by it

-- two operations are the same
unfoldable pub same : Operation → Operation → Bool
same o p =
    eqb o.number p.number && eqb o.kind p.kind && eqb o.node p.node && eqb o.compared p.compared && eqb o.expected p.expected && eqb o.swapped p.swapped
    && eqb o.value p.value

-- how many counted, and the client after them
pub record Counted : Type 0 where
  pub count : ℕ
  pub next : Client

abbrev pub nothing_more : Client → Counted
nothing_more c = record { count = 0; next = c }

abbrev pub one_more : Counted → Counted
one_more d = record { count = suc d.count; next = d.next }

-- an operation that was posted counts if it is the client's next step: at the first that is not, or is refused, what was read ahead behind it is dropped
unfoldable pub along : Settings → ℕ → Client → List Operation → List ℕ → Counted
along s clock c [] found = nothing_more c
along s clock c (o ∷ os) [] = nothing_more c
along s clock c (o ∷ os) (w ∷ found) =
    choose (same (operation_answer s c clock) o && eqb (completed_answer s c clock w).number 0) (one_more (along s clock (completed_answer s c clock w).next os found)) (nothing_more c)

unfoldable pub first_number : Settings → ℕ → Client → List Operation → List ℕ → ℕ
first_number s clock c [] found = first_cause (post_tests s c clock)
first_number s clock c (o ∷ os) [] = first_cause (post_tests s c clock)
first_number s clock c (o ∷ os) (w ∷ found) = (completed_answer s c clock w).number

unfoldable pub completed_all_answer : Settings → Client → ℕ → List ℕ → CompletedAll
completed_all_answer s c clock found =
    let os = ahead_of s c clock in
    record { number = first_number s clock c os found; counted = (along s clock c os found).count; next = (along s clock c os found).next }
