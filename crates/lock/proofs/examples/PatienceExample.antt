-- Examples, closed by computing: the deadlock that document 02's request 2.2 removes. "A run held its first piece and waited for its second under an ancestor occupied by a run
-- waiting for the first." Before patience runs out no step of either changes anything but its own clock; then one gives up, and both windows are taken in the end. Assumes nothing.
use Rattle.std.specs.Prelude.{◌≡◌, false, ℕ, zero, suc, ◌-◌, ◌≤◌, ◌<◌, leb, ltb, get_or, set, take, replicate}
use Rattle.std.proofs.Math.Path.{refl}
use Rattle.std.proofs.Common.{ap, ◌∙◌, arith, le-leb, le-ltb}
use mathlib.Core.List.{List, [], ◌∷◌}
use Rattle.std.proofs.lemmas.Bool.{lt-leb}
use Rattle.base.specs.rules.Choice.{choose}
use Rattle.base.specs.laws.ChoiceLaws.{choose_eq}
use Rattle.word.specs.rules.Word.{field, matches, replaced, masked_swap, leaf_bits, wanted_bits, add_fields}
use Rattle.tree.specs.rules.Tree.{climb, leftmost, first, level, level_within, size, left, units, holder, word_count}
use Rattle.tree.specs.rules.Lists.{upward, ancestors, ancestor, notifies, notified_from, notify_levels, notify_list, row, descendants, nearest, check_list}
use Rattle.cover.specs.rules.Cover.{part, over, total, rank}
use Rattle.cover.specs.rules.Search.{before, lesser, behind, least_of, rest, search, found, least_cover}
use Rattle.cover.specs.rules.Answer.{levels_outside, window_outside}
use Rattle.lock.specs.declared.Record.{Record}
use Rattle.lock.specs.declared.Settings.{Settings}
use Rattle.lock.specs.rules.Records.{phase_of, pieces, piece_at, is_leaf, grip_of, notices_of, word_at, written, idle_with, client_with, idle_client}
use Rattle.lock.specs.rules.Unreadable.{differ, number_too_large, idle_filled, not_covered, no_current, ticket_too_large, fields_wrong, list_length, place_past, notices_wrong, time_ahead, phase_elsewhere, held_early, outcome_wrong, lacks_grip, giving_wrong, out_of_patience_first, taken_first, unreadable}
use Rattle.lock.specs.rules.Steps.{touched_in, start_phase, begin, first_noted, taken, ticket_taken, turn_awaited, go_up, climbed, unblocked, bits_claimed, occ_claimed, late, all_notified, notice_given, waited, check_passed, piece_returned, word_returned, turn_returned, own_touched, out_of_patience, touched, moved, applied, claim_access, own_word_access, return_access, access_in, piece_claimed, bits_returned, grip_returned, given_back, completed_in, given_up}
use Rattle.lock.specs.laws.Rows.{moved_in, leaves, own_moved}
use Rattle.lock.specs.rules.Calls.{first_cause, settings_outside, tree_tests, clients_outside, client_tests, request_tests, step_tests, release_tests, cancel_tests, requested, released, cancelled}
use Rattle.lock.specs.rules.History.{run}
use Rattle.lock.proofs.laws.CallLaws.{cause_skip, tree_passed}
use Rattle.lock.proofs.laws.PatienceLaws.{unmoved, sent_back_moved}
use Rattle.lock.proofs.laws.WhenReadable.{readable_later}
use Rattle.lock.proofs.examples.WholeCase.{settings, log}
use Rattle.lock.specs.rules.Table.{State, Call, request, step, release, client_of, client_at, record_at, clock_at, with_client, own_tests, number_of, after, call, opening_number, opened, opening}

-- H 2, m 1, T 5, P 20, as in the whole case; two clients
abbrev pub fresh : State
fresh = (opening settings (record { words = replicate 5 0; clients = replicate 2 idle_client })).state

-- client 0 takes the first of its two leaves at clock 1; client 1 takes the root's Occ, under which client 0's second leaf lies, and stands in its check, since client 0 has given notice at the
-- root
abbrev pub deadlock : List Call
deadlock =
    request 0 60 70 ∷ step 0 1 ∷ step 0 1 ∷ step 0 1 ∷ request 1 0 256 ∷ step 1 2 ∷ step 1 2 ∷ step 1 2 ∷ step 0 3 ∷ step 1 7 ∷ []

-- ---- a step that leaves the word as it is changes its client alone

set_same : {A : Type 0} (xs : List A) (i : ℕ) (d : A) → set xs i (get_or xs i d) ≡ xs
set_same [] i d = refl
set_same (x ∷ xs) zero d = refl
set_same (x ∷ xs) (suc i) d = ap (λ ys. x ∷ ys) (set_same xs i d)

written_same : (words : List ℕ) (n : ℕ) → written words n (word_at words n) ≡ words
unfolding written word_at
written_same words zero = refl
written_same words (suc i) = set_same words i 0

step_leaves : (s : Settings) (st : State) (c t : ℕ) (q : Record) → number_of s st (step c t) ≡ 0
    → let w = word_at st.words (touched s (record_at st c) t) in moved s (record_at st c) w t ≡ leaves w q
    → call s st (step c t) ≡ record { number = 0; state = with_client st st.words c t q }
unfolding call after
step_leaves s st c t q n e =
    let words = ap (λ m. written st.words (touched s (record_at st c) t) m.word) e ∙ written_same st.words (touched s (record_at st c) t) in
    let moved_on : after s st (step c t) ≡ with_client st st.words c t q = λ i. with_client st (words i) c t (e i).next in
    let state = choose_eq (number_of s st (step c t)) 0 (after s st (step c t)) st n ∙ moved_on in
    λ i. record { number = n i; state = state i }

-- ---- before patience runs out

-- client 0 is blocked at the root with its second piece, the leaf 3; the first, the leaf 2, was taken at clock 1
abbrev pub blocked_0 : Record
blocked_0 = record {
  phase = 4;
  outcome = 0;
  left = 60;
  right = 70;
  first = 2;
  second = 3;
  current = 1;
  giving = 0;
  grip = 0;
  ticket = 0;
  place = 0;
  notices = 0;
  t1 = 0;
  t0 = 0;
  taken = 1;
}

-- client 1 has the root, and checks there
abbrev pub checking_1 : Record
checking_1 = record {
  phase = 8;
  outcome = 0;
  left = 0;
  right = 256;
  first = 1;
  second = 0;
  current = 0;
  giving = 0;
  grip = 3;
  ticket = 0;
  place = 0;
  notices = 0;
  t1 = 0;
  t0 = 2;
  taken = 0;
}

-- by the clocks x of client 0 and y of client 1
abbrev pub waiting : ℕ → ℕ → State
waiting x y = record { words = 4611686022722355201 ∷ 17293822569102704640 ∷ 0 ∷ 0 ∷ 0 ∷ []; clients = client_with x blocked_0 ∷ client_with y checking_1 ∷ [] }

-- ---- patience has run out

-- client 0 touches no word and goes to returning with outcome 4
abbrev pub returning_0 : ℕ → ℕ → State
returning_0 x y = record { words = (waiting 0 0).words; clients = client_with x (given_up blocked_0) ∷ client_with y checking_1 ∷ [] }

-- client 0 gives back its leaf and its notice, client 1's check passes and it holds; it releases and returns, and client 0 asks again and takes both leaves
abbrev pub end : List Call
end =
    step 0 21 ∷ step 0 21 ∷ step 1 22 ∷ release 1 ∷ step 1 23 ∷ request 0 60 70 ∷ step 0 24 ∷ step 0 24 ∷ step 0 24 ∷ step 0 24 ∷ step 0 24 ∷ step 0 24 ∷ []

-- number, phase and edges after each call
abbrev pub end_lines : List (List ℕ)
end_lines =
    (0 ∷ 10 ∷ 60 ∷ 70 ∷ []) ∷ (0 ∷ 0 ∷ 0 ∷ 0 ∷ []) ∷ (0 ∷ 9 ∷ 0 ∷ 256 ∷ []) ∷ (0 ∷ 10 ∷ 0 ∷ 256 ∷ []) ∷ (0 ∷ 0 ∷ 0 ∷ 0 ∷ [])
    ∷ (0 ∷ 3 ∷ 60 ∷ 70 ∷ []) ∷ (0 ∷ 5 ∷ 60 ∷ 70 ∷ []) ∷ (0 ∷ 6 ∷ 60 ∷ 70 ∷ []) ∷ (0 ∷ 3 ∷ 60 ∷ 70 ∷ []) ∷ (0 ∷ 5 ∷ 60 ∷ 70 ∷ []) ∷ (0 ∷ 6 ∷ 60 ∷ 70 ∷ [])
    ∷ (0 ∷ 9 ∷ 60 ∷ 70 ∷ []) ∷ []

-- ---- by computing

-- what the work of its phase would leave of word and record
abbrev Stays : Record → ℕ → Type 0
Stays r t = let w = word_at (waiting 0 0).words (own_touched settings r) in own_moved settings r w t ≡ leaves w r

computed : (t : ℕ) → (run settings fresh deadlock ≡ waiting 3 7) × (unreadable settings blocked_0 3 ≡ false) × (unreadable settings checking_1 7 ≡ false) × Stays blocked_0 t × Stays checking_1 t
    × (log settings (returning_0 21 7) end ≡ end_lines) × (record_at (run settings (returning_0 21 7) (take 2 end)) 0 ≡ idle_with 4)
unfolding log run call number_of after own_tests client_at client_of opening opening_number opened first_cause settings_outside tree_tests clients_outside client_tests request_tests step_tests release_tests cancel_tests requested released cancelled touched_in start_phase begin first_noted taken ticket_taken turn_awaited go_up climbed unblocked bits_claimed occ_claimed late all_notified notice_given waited check_passed piece_returned word_returned turn_returned applied claim_access own_word_access return_access access_in piece_claimed bits_returned grip_returned given_back completed_in moved_in number_too_large idle_filled not_covered no_current ticket_too_large fields_wrong list_length place_past notices_wrong time_ahead phase_elsewhere held_early outcome_wrong lacks_grip giving_wrong out_of_patience_first taken_first unreadable phase_of pieces piece_at is_leaf grip_of notices_of word_at written levels_outside window_outside lesser behind least_of rest search found least_cover before part over total rank upward ancestors ancestor notifies notified_from notify_levels notify_list row descendants nearest check_list climb leftmost first level level_within size left units holder word_count field add_fields matches replaced masked_swap leaf_bits wanted_bits choose out_of_patience
computed t = (refl, refl, refl, refl, refl, refl, refl)

pub deadlock_reached : run settings fresh deadlock ≡ waiting 3 7
deadlock_reached = (computed 0).0

-- ---- no step of either changes anything but its own clock

none_left : first_cause [] ≡ 0
unfolding first_cause
none_left = refl

module _ (x y : ℕ) (since_0 : 3 ≤ x) (since_1 : 7 ≤ y) where
  -- a client of the two whose record is readable, and the record that its step gives back
  steps : (c l t : ℕ) (q : Record) → c < 2 → l ≤ clock_at (waiting x y) c → clock_at (waiting x y) c ≤ t → unreadable settings (record_at (waiting x y) c) l ≡ false
      → let w = word_at (waiting x y).words (touched settings (record_at (waiting x y) c) t) in moved settings (record_at (waiting x y) c) w t ≡ leaves w q
      → call settings (waiting x y) (step c t) ≡ record { number = 0; state = with_client (waiting x y) (waiting x y).words c t q }
  unfolding number_of client_tests own_tests step_tests clients_outside client_of settings_outside levels_outside word_count size first
  steps c l t q few since later readable m =
      let r = record_at (waiting x y) c in
      let last = clock_at (waiting x y) c in
      step_leaves settings (waiting x y) c t q
      (tree_passed settings 5 _ refl refl ∙ cause_skip (clients_outside 2) 3 _ refl ∙ cause_skip (leb 2 c) 4 _ (lt-leb 2 c few) ∙ cause_skip (ltb t last) 5 _ (le-ltb t last later)
      ∙ cause_skip (unreadable settings r last) 6 _ (readable_later settings r l last since readable)
      ∙ cause_skip (differ (moved settings r (word_at (waiting x y).words (touched settings r t)) t).number 0) 9 [] (ap (λ z. differ z.number 0) m) ∙ none_left)
      m

  -- "clock less that time at least P" begins at 21
  pub waits_0 : (t : ℕ) → x ≤ t → t < 21 → call settings (waiting x y) (step 0 t) ≡ record { number = 0; state = waiting t y }
  unfolding client_at out_of_patience
  waits_0 t later b = steps 0 3 t blocked_0 (omega arith) since_0 later (computed t).1 (unmoved settings blocked_0 (waiting x y).words t (lt-leb 20 (t - 1) (omega arith)) (computed t).3)

  -- a first piece has no patience that could run out
  pub waits_1 : (t : ℕ) → y ≤ t → call settings (waiting x y) (step 1 t) ≡ record { number = 0; state = waiting x t }
  unfolding client_at out_of_patience
  waits_1 t later = steps 1 7 t checking_1 (omega arith) since_1 later (computed t).2 (unmoved settings checking_1 (waiting x y).words t refl (computed t).4)

  -- ---- one goes to returning, and both windows are taken in the end

  pub runs_out : (t : ℕ) → x ≤ t → 21 ≤ t → call settings (waiting x y) (step 0 t) ≡ record { number = 0; state = returning_0 t y }
  unfolding client_at out_of_patience
  runs_out t later b = steps 0 3 t (given_up blocked_0) (omega arith) since_0 later (computed t).1 (sent_back_moved settings blocked_0 t (le-leb 20 (t - 1) (omega arith)) _)

pub both_taken : (log settings (returning_0 21 7) end ≡ end_lines) × (record_at (run settings (returning_0 21 7) (take 2 end)) 0 ≡ idle_with 4)
both_taken = ((computed 0).5, (computed 0).6)
