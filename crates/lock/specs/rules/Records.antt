-- To be believed: document 01, section "Phases", and document 02, requests 2.2 and 2.3: the client record's pieces, grips and lists, the changes of its fields, and the
-- clock beside it. Settings, Record and Client are the structs of src/lib.rt. Assumes nothing.
use Rattle.std.specs.Prelude.{Bool, List, [], ◌∷◌, ℕ, zero, suc, eqb, ltb, length, get_or, set}
use Rattle.base.specs.rules.Choice.{choose}
use Rattle.tree.specs.rules.Tree.{level}
use Rattle.tree.specs.rules.Lists.{notify_list}
use Rattle.cover.specs.rules.Search.{least_cover}
use Rattle.lock.specs.declared.Client.{Client}
use Rattle.lock.specs.declared.Record.{Record}
use Rattle.lock.specs.declared.Settings.{Settings}

-- the phases of the table, by number
pub data Phase : Type 0 where
  idle ticket turn climb blocked claim notify wait check held returning unknown : Phase

unfoldable pub phase_of : ℕ → Phase
phase_of p =
    choose (eqb p 0) idle (choose (eqb p 1) ticket (choose (eqb p 2) turn (choose (eqb p 3) climb
    (choose (eqb p 4) blocked (choose (eqb p 5) claim (choose (eqb p 6) notify (choose (eqb p 7) wait
    (choose (eqb p 8) check (choose (eqb p 9) held (choose (eqb p 10) returning unknown))))))))))

-- ---- pieces

-- the cover of the window [l, r), "one or two nodes"
abbrev pub cover_of : Settings → ℕ → ℕ → List ℕ
cover_of s l r = least_cover 2 s.levels l r

-- "the numbers of its two pieces (0 for none)", as a list
unfoldable pub pieces : Record → List ℕ
pieces r = choose (eqb r.second 0) (r.first ∷ []) (r.first ∷ r.second ∷ [])

unfoldable pub piece_at : Record → ℕ → ℕ
piece_at r i = get_or (pieces r) i 0

-- "the current piece (0 or 1, the last begun)"
abbrev pub current_piece : Record → ℕ
current_piece r = piece_at r r.current

-- "the piece being given back"
abbrev pub given_piece : Record → ℕ
given_piece r = piece_at r r.giving

-- "level H the leaves", and node 1 is the root
unfoldable pub is_leaf : Settings → ℕ → Bool
is_leaf s n = eqb (level n) s.levels

abbrev pub is_root : ℕ → Bool
is_root n = eqb n 1

-- "the current piece's grip (0 nothing, 1 ticket, 2 turn, 3 leaf bits or Occ)"; "A piece before the current one has grip 3"
unfoldable pub grip_of : Record → ℕ → ℕ
grip_of r i = choose (ltb i r.current) 3 (choose (eqb i r.current) r.grip 0)

-- "how many notices the current piece gave"; a piece before it gave "all its notices"
unfoldable pub notices_of : Settings → Record → ℕ → ℕ
notices_of s r i = choose (ltb i r.current) (length (notify_list s.distance (piece_at r i))) r.notices

-- ---- words by node: "Node n is word n - 1 of the lent 64-bit words"; 0 stands for no node

unfoldable pub word_at : List ℕ → ℕ → ℕ
word_at words zero = 0
word_at words (suc i) = get_or words i 0

unfoldable pub written : List ℕ → ℕ → ℕ → List ℕ
written words zero w = words
written words (suc i) w = set words i w

-- ---- changes of a record; window and pieces stay from the request on

abbrev pub change : Record → (phase outcome current giving grip own_ticket place notices t1 t0 taken : ℕ) → Record
change r phase outcome current giving grip own_ticket place notices t1 t0 taken = record {
  phase = phase;
  outcome = outcome;
  left = r.left;
  right = r.right;
  first = r.first;
  second = r.second;
  current = current;
  giving = giving;
  grip = grip;
  ticket = own_ticket;
  place = place;
  notices = notices;
  t1 = t1;
  t0 = t0;
  taken = taken;
}

-- "A change of phase sets the place to 0, except from 3 to 4."
abbrev pub to_phase : ℕ → Record → Record
to_phase p r = change r p r.outcome r.current r.giving r.grip r.ticket 0 r.notices r.t1 r.t0 r.taken

abbrev pub to_blocked : Record → Record
to_blocked r = change r 4 r.outcome r.current r.giving r.grip r.ticket r.place r.notices r.t1 r.t0 r.taken

abbrev pub with_outcome : ℕ → Record → Record
with_outcome o r = change r r.phase o r.current r.giving r.grip r.ticket r.place r.notices r.t1 r.t0 r.taken

abbrev pub with_giving : ℕ → Record → Record
with_giving g r = change r r.phase r.outcome r.current g r.grip r.ticket r.place r.notices r.t1 r.t0 r.taken

abbrev pub with_grip : ℕ → Record → Record
with_grip g r = change r r.phase r.outcome r.current r.giving g r.ticket r.place r.notices r.t1 r.t0 r.taken

abbrev pub with_ticket : ℕ → Record → Record
with_ticket k r = change r r.phase r.outcome r.current r.giving r.grip k r.place r.notices r.t1 r.t0 r.taken

abbrev pub with_place : ℕ → Record → Record
with_place p r = change r r.phase r.outcome r.current r.giving r.grip r.ticket p r.notices r.t1 r.t0 r.taken

abbrev pub with_notices : ℕ → Record → Record
with_notices n r = change r r.phase r.outcome r.current r.giving r.grip r.ticket r.place n r.t1 r.t0 r.taken

abbrev pub with_t1 : ℕ → Record → Record
with_t1 t r = change r r.phase r.outcome r.current r.giving r.grip r.ticket r.place r.notices t r.t0 r.taken

abbrev pub with_t0 : ℕ → Record → Record
with_t0 t r = change r r.phase r.outcome r.current r.giving r.grip r.ticket r.place r.notices r.t1 t r.taken

abbrev pub with_taken : ℕ → Record → Record
with_taken t r = change r r.phase r.outcome r.current r.giving r.grip r.ticket r.place r.notices r.t1 r.t0 t

-- to returning, with an outcome: a release and a cancel "set outcome 1 or 3 and phase 10", late "gives outcome 2 and 10", and 2.2 "sets outcome 4 and goes to returning"
abbrev pub sent_back : ℕ → Record → Record
sent_back o r = to_phase 10 (with_outcome o r)

-- "idle: all zero but the outcome"
abbrev pub idle_with : ℕ → Record
idle_with o = record {
  phase = 0;
  outcome = o;
  left = 0;
  right = 0;
  first = 0;
  second = 0;
  current = 0;
  giving = 0;
  grip = 0;
  ticket = 0;
  place = 0;
  notices = 0;
  t1 = 0;
  t0 = 0;
  taken = 0;
}

-- "sets window and pieces, zeroes the rest, and sets phase 1 for an inner first piece and 3 for a leaf"
abbrev pub windowed : (phase left right first second : ℕ) → Record
windowed phase left right first second = record {
  phase = phase;
  outcome = 0;
  left = left;
  right = right;
  first = first;
  second = second;
  current = 0;
  giving = 0;
  grip = 0;
  ticket = 0;
  place = 0;
  notices = 0;
  t1 = 0;
  t0 = 0;
  taken = 0;
}

-- ---- 2.3, "It is kept beside the record in the client table": a client is its last clock and its record

abbrev pub client_with : ℕ → Record → Client
client_with clock r = record { clock = clock; «record» = r }

-- as an opening leaves it
abbrev pub idle_client : Client
idle_client = client_with 0 (idle_with 0)
