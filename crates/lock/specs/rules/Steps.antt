-- To be believed: document 01, section "Phases", the table: for each phase which node a step touches, which operation it makes there, and how the record goes on; and document 02,
-- requests 2.2 and 2.3: when patience has run out, and what the step does then; when a claim is late.
-- s are the settings, r the record, w the word found at the touched node, t the step's clock. Assumes nothing.
use Rattle.std.specs.Prelude.{Bool, not, ◌&&◌, ◌||◌, ℕ, suc, ◌*◌, ◌-◌, eqb, leb, ltb, length, get_or}
use Rattle.base.specs.rules.Choice.{choose}
use Rattle.word.specs.rules.Word.{occ, tcnt, tmax, dcnt, dmax, layout, add_fields, deltas, matches, masked_swap, wanted_bits}
use Rattle.tree.specs.rules.Tree.{left}
use Rattle.tree.specs.rules.Lists.{ancestors, notify_list, check_list}
use Rattle.lock.specs.declared.Record.{Record}
use Rattle.lock.specs.declared.Settings.{Settings}
use Rattle.lock.specs.rules.Records.{piece_at, Phase, idle, ticket, turn, climb, blocked, claim, notify, wait, check, held, returning, unknown, phase_of, pieces, current_piece, given_piece, is_leaf, is_root, grip_of, notices_of, change, to_phase, to_blocked, with_giving, with_grip, with_ticket, with_place, with_notices, with_t1, with_t0, with_taken, sent_back, idle_with}

-- ---- "touches at most one word": the node that a step touches, 0 for none

unfoldable pub touched_in : Settings → Record → Phase → ℕ
touched_in s r idle = 0
touched_in s r ticket = current_piece r
touched_in s r turn = current_piece r
touched_in s r climb = get_or (ancestors (current_piece r)) r.place 0
touched_in s r blocked = get_or (ancestors (current_piece r)) r.place 0
touched_in s r claim = current_piece r
touched_in s r notify = get_or (notify_list s.distance (current_piece r)) r.place 0
touched_in s r wait = 0
touched_in s r check = get_or (check_list s.levels s.distance (current_piece r)) r.place 0
touched_in s r held = 0
touched_in s r returning = choose (eqb r.place 0) (given_piece r) (get_or (notify_list s.distance (given_piece r)) (r.place - 1) 0)
touched_in s r unknown = 0

-- ---- beginning and taking a piece

-- "phase 1 for an inner first piece and 3 for a leaf"
unfoldable pub start_phase : Settings → ℕ → ℕ
start_phase s n = choose (is_leaf s n) 3 1

-- "Beginning a piece zeroes grip, ticket, notices, t1 and t0."
unfoldable pub begin : Settings → Record → ℕ → Record
begin s r i = change r (start_phase s (piece_at r i)) r.outcome i r.giving 0 0 0 0 0 0 r.taken

-- 2.2, "a third noted time, the clock at which its first piece was taken"
unfoldable pub first_noted : Record → ℕ → Record
first_noted r t = choose (eqb r.current 0) (with_taken t r) r

-- "A taken piece starts the next the same way, or gives 9."
unfoldable pub taken : Settings → Record → ℕ → Record
taken s r t =
    choose (ltb (suc r.current) (length (pieces r))) (begin s (first_noted r t) (suc r.current)) (to_phase 9 (first_noted r t))

-- ---- the next record, a row of the table each

-- 1 ticket: "old TMax is the ticket; to 2"
unfoldable pub ticket_taken : Record → ℕ → Record
ticket_taken r w = to_phase 2 (with_grip 1 (with_ticket (tmax w) r))

-- 2 turn: "TCnt equals the ticket: to 3 (root: to 5)"
unfoldable pub turn_awaited : Record → ℕ → Record
turn_awaited r w = choose (eqb (tcnt w) r.ticket) (to_phase (choose (is_root (current_piece r)) 5 3) (with_grip 2 r)) r

-- "go up, after the root to 5"
unfoldable pub go_up : Record → Record
go_up r = choose (ltb (suc r.place) (length (ancestors (current_piece r)))) (with_place (suc r.place) r) (to_phase 5 r)

-- 3 climb: "Occ set: to 4. Clear: note t1 if it is the parent; go up"
unfoldable pub climbed : Record → ℕ → ℕ → Record
climbed r w t = choose (eqb (occ w) 1) (to_blocked r) (go_up (choose (eqb r.place 0) (with_t1 t r) r))

-- 4 blocked: "Occ clear: to 3 at the parent"
unfoldable pub unblocked : Record → ℕ → Record
unblocked r w = choose (eqb (occ w) 0) (to_phase 3 r) r

-- 5 claim, leaf: "success to 6, failure to 3 at the parent"
unfoldable pub bits_claimed : Record → Bool → Record
bits_claimed r done = choose done (to_phase 6 (with_grip 3 r)) (to_phase 3 r)

-- 5 claim, inner: "note t0, to 6 (root: to 7)"
unfoldable pub occ_claimed : Record → ℕ → Record
occ_claimed r t = to_phase (choose (is_root (current_piece r)) 7 6) (with_t0 t (with_grip 3 r))

-- 2.3, "A claim is late unless 10,001 × (clock - t1) < 9,999 × T."
unfoldable pub late : Settings → Record → ℕ → Bool
late s r t = not (ltb (10001 * (t - r.t1)) (9999 * s.wait))

-- 6 notify, "After the last:" late, by 2.3's test, "gives outcome 2 and 10; else inner to 7, a leaf is taken"
unfoldable pub all_notified : Settings → Record → ℕ → Record
all_notified s r t =
    choose (late s r t) (sent_back 2 r) (choose (is_leaf s (current_piece r)) (taken s r t) (to_phase 7 r))

-- 6 notify: the next place, and as many notices
unfoldable pub notice_given : Settings → Record → ℕ → Record
notice_given s r t =
    choose (ltb (suc r.place) (length (notify_list s.distance (current_piece r))))
    (with_place (suc r.place) (with_notices (suc r.place) r))
    (all_notified s (with_notices (suc r.place) r) t)

-- 7 wait: "clock - t0 ≥ T: to 8"
unfoldable pub waited : Settings → Record → ℕ → Record
waited s r t = choose (leb s.wait (t - r.t0)) (to_phase 8 r) r

-- 8 check: "DCnt = DMax: move on; after the last the piece is taken"
unfoldable pub check_passed : Settings → Record → ℕ → ℕ → Record
check_passed s r w t =
    choose (eqb (dcnt w) (dmax w))
    (choose (ltb (suc r.place) (length (check_list s.levels s.distance (current_piece r)))) (with_place (suc r.place) r) (taken s r t))
    r

-- ---- 10 returning: "piece by piece, first piece first, each with its own word at place 0 and its notices after it"

-- the piece is given back: "a piece with grip 0 is passed over", and "The step that gives back the last word makes the record idle"
unfoldable pub piece_returned : Record → Record
piece_returned r = choose (eqb (grip_of r (suc r.giving)) 0) (idle_with r.outcome) (with_place 0 (with_giving (suc r.giving) r))

-- a word is given back: the next place, or the next piece
unfoldable pub word_returned : Settings → Record → Record
word_returned s r = choose (ltb r.place (notices_of s r r.giving)) (with_place (suc r.place) r) (piece_returned r)

-- "Grip 1: the step reads, and TCnt equal to the ticket makes the grip 2; the next step adds."
unfoldable pub turn_returned : Record → ℕ → Record
turn_returned r w = choose (eqb (tcnt w) r.ticket) (with_grip 2 r) r

-- the wanted bits of leaf n
abbrev pub wanted : Settings → Record → ℕ → ℕ
wanted s r n = wanted_bits (left s.levels n) r.left r.right

-- ---- the operation at the touched node, a row of the table each

-- what is done to one word: none, where no word is touched; a read; a masked add of the deltas of the six fields; a masked compare-and-swap
pub data Access : Type 0 where
  none read : Access
  add : (deltas : ℕ) → Access
  swap : (compared expected swapped value : ℕ) → Access

-- what it leaves of the word found
unfoldable pub applied : Access → ℕ → ℕ
applied none w = w
applied read w = w
applied (add d) w = add_fields layout d w
applied (swap compared expected swapped value) w = (masked_swap compared expected swapped value w).word

-- "leaf: swap the wanted bits from all 0 to all 1 .. Inner: Occ + 1"
unfoldable pub claim_access : Settings → Record → Access
claim_access s r =
    let bits = wanted s r (current_piece r) in
    choose (is_leaf s (current_piece r)) (swap bits 0 bits bits) (add (deltas 0 1 0 0 0 0))

-- "Leaf bits taken: swap them from all 1 to all 0. Occ set: Occ - 1 and TCnt + 1 in one add. Turn reached, Occ not set: TCnt + 1. .. Grip 1: the step reads". Occ has one bit, so that less 1 is
-- plus 1
unfoldable pub own_word_access : Settings → Record → Access
own_word_access s r =
    let bits = wanted s r (given_piece r) in
    choose (is_leaf s (given_piece r)) (swap bits bits bits 0)
    (choose (eqb (grip_of r r.giving) 3) (add (deltas 0 1 1 0 0 0)) (choose (eqb (grip_of r r.giving) 2) (add (deltas 0 0 1 0 0 0)) read))

-- the own word at place 0; "Then DCnt + 1 at each ancestor notified, in the order of notifying."
unfoldable pub return_access : Settings → Record → Access
return_access s r = choose (eqb r.place 0) (own_word_access s r) (add (deltas 0 0 0 0 1 0))

-- 1 "TMax + 1 at the piece", 6 "DMax + 1 at the next ancestor"; 2, 3, 4 and 8 read, and 0, 7 and 9 touch no word
unfoldable pub access_in : Settings → Record → Phase → Access
access_in s r idle = none
access_in s r ticket = add (deltas 0 0 0 1 0 0)
access_in s r turn = read
access_in s r climb = read
access_in s r blocked = read
access_in s r claim = claim_access s r
access_in s r notify = add (deltas 0 0 0 0 0 1)
access_in s r wait = none
access_in s r check = read
access_in s r held = none
access_in s r returning = return_access s r
access_in s r unknown = none

-- ---- the completion: what becomes of the record when the word found is known, a row of the table each

-- the number, 0 or 9, and the next record
pub record Completion : Type 0 where
  pub number : ℕ
  pub next : Record

abbrev pub goes_to : Record → Completion
goes_to r = record { number = 0; next = r }

-- a claim: whether the wanted bits of a leaf were all 0; of an inner node the clock is noted
unfoldable pub piece_claimed : Settings → Record → ℕ → ℕ → Record
piece_claimed s r w t = choose (is_leaf s (current_piece r)) (bits_claimed r (matches (wanted s r (current_piece r)) 0 w)) (occ_claimed r t)

-- "returning leaf finds a wanted bit clear" is cause 9
unfoldable pub bits_returned : Settings → Record → ℕ → Completion
bits_returned s r w =
    let bits = wanted s r (given_piece r) in
    choose (matches bits bits w) (goes_to (word_returned s r)) (record { number = 9; next = r })

-- Occ or the turn given back; a ticket waits for its turn
unfoldable pub grip_returned : Settings → Record → ℕ → Record
grip_returned s r w = choose (eqb (grip_of r r.giving) 3 || eqb (grip_of r r.giving) 2) (word_returned s r) (turn_returned r w)

unfoldable pub given_back : Settings → Record → ℕ → Completion
given_back s r w =
    choose (eqb r.place 0)
    (choose (is_leaf s (given_piece r)) (bits_returned s r w) (goes_to (grip_returned s r w)))
    (goes_to (word_returned s r))

unfoldable pub completed_in : Settings → Record → ℕ → ℕ → Phase → Completion
completed_in s r w t idle = goes_to r
completed_in s r w t ticket = goes_to (ticket_taken r w)
completed_in s r w t turn = goes_to (turn_awaited r w)
completed_in s r w t climb = goes_to (climbed r w t)
completed_in s r w t blocked = goes_to (unblocked r w)
completed_in s r w t claim = goes_to (piece_claimed s r w t)
completed_in s r w t notify = goes_to (notice_given s r t)
completed_in s r w t wait = goes_to (waited s r t)
completed_in s r w t check = goes_to (check_passed s r w t)
completed_in s r w t held = goes_to r
completed_in s r w t returning = given_back s r w
completed_in s r w t unknown = goes_to r

-- the record's phase
abbrev pub own_touched : Settings → Record → ℕ
own_touched s r = touched_in s r (phase_of r.phase)

-- ---- 2.2, "Patience between two pieces"

-- "A step in phases 1 to 8 of a second piece, with clock less that time at least P"; 2.9: "Patience runs from the first piece for every later one."
unfoldable pub out_of_patience : Settings → Record → ℕ → Bool
out_of_patience s r t = leb 1 r.phase && leb r.phase 8 && ltb 0 r.current && leb s.patience (t - r.taken)

-- "touches no word, sets outcome 4 and goes to returning instead of the phase's own work"
abbrev pub given_up : Record → Record
given_up r = sent_back 4 r

abbrev pub touched : Settings → Record → ℕ → ℕ
touched s r t = choose (out_of_patience s r t) 0 (own_touched s r)

abbrev pub access : Settings → Record → ℕ → Access
access s r t = choose (out_of_patience s r t) none (access_in s r (phase_of r.phase))

abbrev pub completed : Settings → Record → ℕ → ℕ → Completion
completed s r w t = choose (out_of_patience s r t) (goes_to (given_up r)) (completed_in s r w t (phase_of r.phase))

-- ---- a step: the operation is found, applied to the word, and completed

-- the number, 0 or 9, the word that it leaves, and the next record
pub record Moved : Type 0 where
  pub number : ℕ
  pub word : ℕ
  pub next : Record

abbrev pub moved : Settings → Record → ℕ → ℕ → Moved
moved s r w t = record { number = (completed s r w t).number; word = applied (access s r t) w; next = (completed s r w t).next }
