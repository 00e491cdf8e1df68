-- Examples, closed by computing: the planners' page in the middle of document 01's whole case, the same page lent with one row fewer than clients, and the row of a window of
-- two pieces with over-cover. Assumes nothing.
use Rattle.std.specs.Prelude.{◌≡◌, refl, [], ◌∷◌, ℕ, take}
use Rattle.base.specs.rules.Choice.{choose}
use Rattle.word.specs.rules.Word.{field, matches, replaced, masked_swap, leaf_bits, wanted_bits, add_fields}
use Rattle.tree.specs.rules.Tree.{climb, leftmost, first, level, level_within, size, left, units, holder, word_count}
use Rattle.tree.specs.rules.Lists.{upward, ancestors, ancestor, notifies, notified_from, notify_levels, notify_list, row, descendants, nearest, check_list}
use Rattle.cover.specs.rules.Cover.{part, over, total, rank}
use Rattle.cover.specs.rules.Search.{before, lesser, behind, least_of, rest, search, found, least_cover}
use Rattle.cover.specs.rules.Answer.{levels_outside, window_outside}
use Rattle.lock.specs.rules.Records.{phase_of, pieces, piece_at, is_leaf, grip_of, notices_of, word_at, written}
use Rattle.lock.specs.rules.Unreadable.{number_too_large, idle_filled, not_covered, no_current, ticket_too_large, fields_wrong, list_length, place_past, notices_wrong, time_ahead, phase_elsewhere, held_early, outcome_wrong, lacks_grip, giving_wrong, out_of_patience_first, taken_first, unreadable}
use Rattle.lock.specs.rules.Steps.{touched_in, start_phase, begin, first_noted, taken, ticket_taken, turn_awaited, go_up, climbed, bits_claimed, occ_claimed, late, all_notified, notice_given, waited, check_passed, out_of_patience, applied, claim_access, own_word_access, return_access, access_in, piece_claimed, bits_returned, grip_returned, given_back, completed_in}
use Rattle.lock.specs.rules.Calls.{first_cause, settings_outside, tree_tests, clients_outside, client_tests, request_tests, step_tests, requested}
use Rattle.lock.specs.rules.Table.{State, client_of, client_at, own_tests, number_of, after, call, opening_number, opened, opening}
use Rattle.lock.specs.rules.History.{run}
use Rattle.lock.specs.rules.StepCount.{next_clock, counted, step_count}
use Rattle.lock.proofs.examples.HistoryExample.{settings as wide}
use Rattle.lock.proofs.examples.WholeCase.{settings, lent, calls}
use Rattle.pages.specs.declared.Row.{Row}
use Rattle.pages.specs.rules.Pages.{row_of, rows_of, any_unreadable, planners_tests, planners_number, page, planners_page}

-- after call 7: client 0 holds [10, 20), and client 1 waits for [0, 256)
abbrev middle : State
middle = run settings (opening settings lent).state (take 8 (calls 5))

abbrev row_with : (phase left right first second over steps : ℕ) → Row
row_with p l r f c o k = record { phase = p; left = l; right = r; first = f; second = c; over = o; steps = k }

-- what the rows hold before the page
abbrev old : Row
old = row_with 11 12 13 14 15 16 17

pub planners_whole_case : (planners_page settings middle.clients (old ∷ old ∷ []) ≡ page 0 (row_with 9 10 20 2 0 0 3 ∷ row_with 7 0 256 1 0 0 5 ∷ []))
    × (planners_page settings middle.clients (old ∷ []) ≡ page 2 (old ∷ []))
unfolding planners_page planners_number planners_tests any_unreadable rows_of row_of step_count counted next_clock run call number_of after own_tests client_at client_of opening opening_number opened first_cause settings_outside tree_tests clients_outside client_tests request_tests step_tests requested touched_in start_phase first_noted taken ticket_taken turn_awaited go_up climbed bits_claimed occ_claimed late all_notified notice_given waited check_passed applied claim_access own_word_access return_access access_in piece_claimed bits_returned grip_returned given_back completed_in number_too_large idle_filled not_covered no_current ticket_too_large fields_wrong list_length place_past notices_wrong time_ahead phase_elsewhere held_early outcome_wrong lacks_grip giving_wrong out_of_patience_first taken_first unreadable phase_of pieces piece_at is_leaf grip_of notices_of word_at written levels_outside window_outside lesser behind least_of rest search found least_cover before part over total rank upward ancestors ancestor notifies notified_from notify_levels notify_list row descendants nearest check_list climb leftmost first level level_within size left units holder word_count field add_fields matches replaced masked_swap leaf_bits wanted_bits choose out_of_patience
planners_whole_case = (refl, refl)

-- "H = 3 for covers": "[10, 300) nodes 2 and 10, 10"; both pieces are stepped, 7 steps for the inner node and 5 for the leaf
pub row_two_pieces : row_of wide (requested wide 10 300) ≡ row_with 1 10 300 2 10 10 12
unfolding row_of step_count counted next_clock call number_of after own_tests client_at client_of first_cause settings_outside tree_tests clients_outside client_tests request_tests step_tests requested touched_in start_phase begin first_noted taken ticket_taken turn_awaited go_up climbed bits_claimed occ_claimed late all_notified notice_given waited check_passed applied claim_access own_word_access return_access access_in piece_claimed bits_returned grip_returned given_back completed_in number_too_large idle_filled not_covered no_current ticket_too_large fields_wrong list_length place_past notices_wrong time_ahead phase_elsewhere held_early outcome_wrong lacks_grip giving_wrong out_of_patience_first taken_first unreadable phase_of pieces piece_at is_leaf grip_of notices_of word_at written levels_outside window_outside lesser behind least_of rest search found least_cover before part over total rank upward ancestors ancestor notifies notified_from notify_levels notify_list row descendants nearest check_list climb leftmost first level level_within size left units holder word_count field add_fields matches replaced masked_swap leaf_bits wanted_bits choose out_of_patience
row_two_pieces = refl
