-- To be believed: document 01, section "Refused calls", the paragraph "Unreadable", clause by clause in its order, and what document 02's request 2.2 adds to it. Each
-- test is true where the record is unreadable by that clause; `last` is its client's last clock (2.3, "noted times belong to it"). Assumes nothing.
use Rattle.std.specs.Prelude.{Bool, false, not, ◌&&◌, ◌||◌, ℕ, suc, eqb, leb, ltb, length, get_or}
use Rattle.base.specs.rules.Choice.{choose}
use Rattle.tree.specs.rules.Lists.{ancestors, notify_list, check_list}
use Rattle.cover.specs.rules.Answer.{window_outside}
use Rattle.lock.specs.declared.Record.{Record}
use Rattle.lock.specs.declared.Settings.{Settings}
use Rattle.lock.specs.rules.Records.{cover_of, Phase, idle, ticket, turn, climb, blocked, claim, notify, wait, check, held, returning, unknown, phase_of, pieces, current_piece, is_leaf, is_root, grip_of, notices_of}

abbrev pub nonzero : ℕ → Bool
nonzero n = ltb 0 n

abbrev pub differ : ℕ → ℕ → Bool
differ m n = not (eqb m n)

-- "a phase over 10 or outcome over 3"; 2.2, "Outcomes now go to 4"
unfoldable pub number_too_large : Record → Bool
number_too_large r = ltb 10 r.phase || ltb 4 r.outcome

-- "idle with a nonzero field beside the outcome"
unfoldable pub idle_filled : Record → Bool
idle_filled r =
    nonzero r.left || nonzero r.right || nonzero r.first || nonzero r.second || nonzero r.current || nonzero r.giving
    || nonzero r.grip || nonzero r.ticket || nonzero r.place || nonzero r.notices || nonzero r.t1 || nonzero r.t0
    || nonzero r.taken

-- "a window outside the tree, pieces that aren't its cover"
unfoldable pub not_covered : Settings → Record → Bool
not_covered s r =
    window_outside s.levels r.left r.right
    || differ r.first (get_or (cover_of s r.left r.right) 0 0)
    || differ r.second (get_or (cover_of s r.left r.right) 1 0)

-- "a current piece that doesn't exist"
unfoldable pub no_current : Record → Bool
no_current r = leb (length (pieces r)) r.current

-- "a ticket over 32,767"
unfoldable pub ticket_too_large : Record → Bool
ticket_too_large r = ltb 32767 r.ticket

-- how long the list is that it walks; in 10 the own word and the notices that the piece gave
unfoldable pub list_length : Settings → Record → Phase → ℕ
list_length s r idle = 0
list_length s r ticket = 0
list_length s r turn = 0
list_length s r climb = length (ancestors (current_piece r))
list_length s r blocked = length (ancestors (current_piece r))
list_length s r claim = 0
list_length s r notify = length (notify_list s.distance (current_piece r))
list_length s r wait = 0
list_length s r check = length (check_list s.levels s.distance (current_piece r))
list_length s r held = 0
list_length s r returning = suc (notices_of s r r.giving)
list_length s r unknown = 0

-- "a place past its list (0 where none is walked)"
unfoldable pub place_past : Settings → Record → Bool
place_past s r = choose (eqb (list_length s r (phase_of r.phase)) 0) (nonzero r.place) (leb (list_length s r (phase_of r.phase)) r.place)

-- "a notice count past its list, or nonzero with grip under 3, or unlike the place in 6"
unfoldable pub notices_wrong : Settings → Record → Bool
notices_wrong s r =
    ltb (length (notify_list s.distance (current_piece r))) r.notices
    || nonzero r.notices && ltb r.grip 3
    || eqb r.phase 6 && differ r.notices r.place

-- "a noted time after the last clock", the client's own
unfoldable pub time_ahead : Record → ℕ → Bool
time_ahead r last = ltb last r.t1 || ltb last r.t0 || ltb last r.taken

-- "phase 1, 2, 7 or 8 at a leaf, 3, 4 or 6 at the root"
unfoldable pub phase_elsewhere : Settings → Record → Phase → Bool
phase_elsewhere s r idle = false
phase_elsewhere s r ticket = is_leaf s (current_piece r)
phase_elsewhere s r turn = is_leaf s (current_piece r)
phase_elsewhere s r climb = is_root (current_piece r)
phase_elsewhere s r blocked = is_root (current_piece r)
phase_elsewhere s r claim = false
phase_elsewhere s r notify = is_root (current_piece r)
phase_elsewhere s r wait = is_leaf s (current_piece r)
phase_elsewhere s r check = is_leaf s (current_piece r)
phase_elsewhere s r held = false
phase_elsewhere s r returning = false
phase_elsewhere s r unknown = false

-- "9 before the last piece"
unfoldable pub held_early : Record → Bool
held_early r = eqb r.phase 9 && ltb (suc r.current) (length (pieces r))

-- "an outcome other than 0 in 1..9 or equal to 0 in 10"
unfoldable pub outcome_wrong : Record → Bool
outcome_wrong r = choose (eqb r.phase 10) (eqb r.outcome 0) (nonzero r.outcome)

-- "a grip the phase lacks (0 in 1; 1 in 2; in 3..5 0 for a leaf, else 2; 3 in 6..9; in 10 0 or 3 for a leaf, else 0..3)"; whether the current piece is a leaf,
-- and its grip
unfoldable pub lacks_grip : Bool → ℕ → Phase → Bool
lacks_grip leaf grip idle = false
lacks_grip leaf grip ticket = differ grip 0
lacks_grip leaf grip turn = differ grip 1
lacks_grip leaf grip climb = differ grip (choose leaf 0 2)
lacks_grip leaf grip blocked = differ grip (choose leaf 0 2)
lacks_grip leaf grip claim = differ grip (choose leaf 0 2)
lacks_grip leaf grip notify = differ grip 3
lacks_grip leaf grip wait = differ grip 3
lacks_grip leaf grip check = differ grip 3
lacks_grip leaf grip held = differ grip 3
lacks_grip leaf grip returning = choose leaf (differ grip 0 && differ grip 3) (ltb 3 grip)
lacks_grip leaf grip unknown = false

abbrev pub grip_lacking : Settings → Record → Phase → Bool
grip_lacking s r phase = lacks_grip (is_leaf s (current_piece r)) r.grip phase

-- "a piece being given back that is past the current one, or nonzero outside 10, or in 10 has grip 0"
unfoldable pub giving_wrong : Record → Bool
giving_wrong r = ltb r.current r.giving || choose (eqb r.phase 10) (eqb (grip_of r r.giving) 0) (nonzero r.giving)

-- 2.2, "unreadable are also 4 in phase 10 at a first piece"
unfoldable pub out_of_patience_first : Record → Bool
out_of_patience_first r = eqb r.phase 10 && eqb r.outcome 4 && eqb r.current 0

-- 2.2, "and a nonzero time at a first piece, save in 9 or in 10 with outcome 1"
unfoldable pub taken_first : Record → Bool
taken_first r = nonzero r.taken && eqb r.current 0 && not (eqb r.phase 9 || eqb r.phase 10 && eqb r.outcome 1)

-- the clauses from the ticket on
unfoldable pub fields_wrong : Settings → Record → ℕ → Bool
fields_wrong s r last =
    ticket_too_large r || place_past s r || notices_wrong s r || time_ahead r last || phase_elsewhere s r (phase_of r.phase) || held_early r || outcome_wrong r
    || grip_lacking s r (phase_of r.phase) || giving_wrong r || out_of_patience_first r || taken_first r

unfoldable pub unreadable : Settings → Record → ℕ → Bool
unreadable s r last =
    number_too_large r
    || choose (eqb r.phase 0) (idle_filled r) (not_covered s r || no_current r || fields_wrong s r last)
