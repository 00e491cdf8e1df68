-- Examples, closed by computing: document 01's whole case, run on the rules from an opening, gives the numbers, phases and edges of its fourteen lines, and so
-- does the variant "With clock 6 in call 7 its phase is 10". Assumes nothing.
use Rattle.std.specs.Prelude.{◌≡◌, refl, List, [], ◌∷◌, ℕ, get_or, replicate}
use Rattle.base.specs.rules.Choice.{choose}
use Rattle.word.specs.rules.Word.{field, matches, replaced, masked_swap, leaf_bits, wanted_bits, add_fields}
use Rattle.tree.specs.rules.Tree.{climb, leftmost, first, level, level_within, size, left, units, holder, word_count}
use Rattle.tree.specs.rules.Lists.{upward, ancestors, ancestor, notifies, notified_from, notify_levels, notify_list, row, descendants, nearest, check_list}
use Rattle.cover.specs.rules.Cover.{part, over, total, rank}
use Rattle.cover.specs.rules.Search.{before, lesser, behind, least_of, rest, search, found, least_cover}
use Rattle.cover.specs.rules.Answer.{levels_outside, window_outside}
use Rattle.lock.specs.declared.Record.{Record}
use Rattle.lock.specs.declared.Settings.{Settings}
use Rattle.lock.specs.rules.Records.{phase_of, pieces, piece_at, is_leaf, grip_of, notices_of, word_at, written, idle_with, client_with}
use Rattle.lock.specs.rules.Unreadable.{number_too_large, idle_filled, not_covered, no_current, ticket_too_large, fields_wrong, list_length, place_past, notices_wrong, time_ahead, phase_elsewhere, held_early, outcome_wrong, lacks_grip, giving_wrong, out_of_patience_first, taken_first, unreadable}
use Rattle.lock.specs.rules.Steps.{touched_in, start_phase, begin, first_noted, taken, ticket_taken, turn_awaited, go_up, climbed, unblocked, bits_claimed, occ_claimed, late, all_notified, notice_given, waited, check_passed, piece_returned, word_returned, turn_returned, out_of_patience, applied, claim_access, own_word_access, return_access, access_in, piece_claimed, bits_returned, grip_returned, given_back, completed_in}
use Rattle.lock.specs.rules.Calls.{first_cause, settings_outside, tree_tests, clients_outside, client_tests, request_tests, step_tests, release_tests, cancel_tests, requested, released, cancelled}
use Rattle.lock.specs.rules.Table.{State, Call, request, step, release, client_of, client_at, record_at, own_tests, number_of, after, call, opening_number, opened, opening}

-- a line of the log without its call: number, phase after, left and right edge after
abbrev pub line : ℕ → Record → List ℕ
line number r = number ∷ r.phase ∷ r.left ∷ r.right ∷ []

unfoldable pub log : Settings → State → List Call → List (List ℕ)
log s st [] = []
log s st (k ∷ ks) = line (call s st k).number (record_at (call s st k).state (client_of k)) ∷ log s (call s st k).state ks

-- "H 2, m 1, T 5, two clients"; P 20 is chosen here
abbrev pub settings : Settings
settings = record { levels = 2; distance = 1; wait = 5; patience = 20 }

-- what is lent to the opening is of the right size, and of any content
abbrev pub lent : State
lent = record { words = replicate 5 7; clients = replicate 2 (client_with 9 (idle_with 3)) }

-- the calls, the clock of call 7 given
abbrev pub calls : ℕ → List Call
calls t =
    request 0 10 20 ∷ request 1 0 256 ∷ step 0 1 ∷ step 1 2 ∷ step 1 2 ∷ step 1 3 ∷ step 0 4 ∷ step 0 t ∷ step 1 8 ∷ step 1 8
    ∷ release 0 ∷ step 0 9 ∷ step 0 9 ∷ step 1 10 ∷ []

pub whole_case : (log settings (opening settings lent).state (calls 5) ≡
    (0 ∷ 3 ∷ 10 ∷ 20 ∷ []) ∷ (0 ∷ 1 ∷ 0 ∷ 256 ∷ []) ∷ (0 ∷ 5 ∷ 10 ∷ 20 ∷ []) ∷ (0 ∷ 2 ∷ 0 ∷ 256 ∷ []) ∷ (0 ∷ 5 ∷ 0 ∷ 256 ∷ [])
    ∷ (0 ∷ 7 ∷ 0 ∷ 256 ∷ []) ∷ (0 ∷ 6 ∷ 10 ∷ 20 ∷ []) ∷ (0 ∷ 9 ∷ 10 ∷ 20 ∷ []) ∷ (0 ∷ 8 ∷ 0 ∷ 256 ∷ []) ∷ (0 ∷ 8 ∷ 0 ∷ 256 ∷ [])
    ∷ (0 ∷ 10 ∷ 10 ∷ 20 ∷ []) ∷ (0 ∷ 10 ∷ 10 ∷ 20 ∷ []) ∷ (0 ∷ 0 ∷ 0 ∷ 0 ∷ []) ∷ (0 ∷ 9 ∷ 0 ∷ 256 ∷ []) ∷ [])
    × (get_or (log settings (opening settings lent).state (calls 6)) 7 [] ≡ 0 ∷ 10 ∷ 10 ∷ 20 ∷ [])
unfolding log call number_of after own_tests client_at client_of opening opening_number opened first_cause settings_outside tree_tests clients_outside client_tests request_tests step_tests release_tests cancel_tests requested released cancelled touched_in start_phase begin first_noted taken ticket_taken turn_awaited go_up climbed unblocked bits_claimed occ_claimed late all_notified notice_given waited check_passed piece_returned word_returned turn_returned applied claim_access own_word_access return_access access_in piece_claimed bits_returned grip_returned given_back completed_in number_too_large idle_filled not_covered no_current ticket_too_large fields_wrong list_length place_past notices_wrong time_ahead phase_elsewhere held_early outcome_wrong lacks_grip giving_wrong out_of_patience_first taken_first unreadable phase_of pieces piece_at is_leaf grip_of notices_of word_at written levels_outside window_outside lesser behind least_of rest search found least_cover before part over total rank upward ancestors ancestor notifies notified_from notify_levels notify_list row descendants nearest check_list climb leftmost first level level_within size left units holder word_count field add_fields matches replaced masked_swap leaf_bits wanted_bits choose out_of_patience
whole_case = (refl, refl)
