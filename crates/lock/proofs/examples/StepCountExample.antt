-- Examples, closed by computing: how many steps a leaf, the root, two leaves, an inner node and a leaf, and a leaf and an inner node need, counted in the run itself; and which cause comes
-- first. Assumes nothing.
use Rattle.std.specs.Prelude.{◌≡◌, refl}
use Rattle.base.specs.rules.Choice.{choose}
use Rattle.word.specs.rules.Word.{field, matches, replaced, masked_swap, leaf_bits, wanted_bits, add_fields}
use Rattle.tree.specs.rules.Tree.{climb, leftmost, first, level, level_within, size, left, units, holder, word_count}
use Rattle.tree.specs.rules.Lists.{upward, ancestors, ancestor, notifies, notified_from, notify_levels, notify_list, row, descendants, nearest, check_list}
use Rattle.cover.specs.rules.Cover.{part, over, total, rank}
use Rattle.cover.specs.rules.Search.{before, lesser, behind, least_of, rest, search, found, least_cover}
use Rattle.cover.specs.rules.Answer.{levels_outside, window_outside}
use Rattle.lock.specs.rules.Records.{phase_of, pieces, piece_at, is_leaf, grip_of, notices_of, word_at, written}
use Rattle.lock.specs.rules.Unreadable.{number_too_large, idle_filled, not_covered, no_current, ticket_too_large, fields_wrong, list_length, place_past, notices_wrong, time_ahead, phase_elsewhere, held_early, outcome_wrong, lacks_grip, giving_wrong, out_of_patience_first, taken_first, unreadable}
use Rattle.lock.specs.rules.Steps.{touched_in, start_phase, begin, first_noted, taken, ticket_taken, turn_awaited, go_up, climbed, unblocked, bits_claimed, occ_claimed, late, all_notified, notice_given, waited, check_passed, piece_returned, word_returned, turn_returned, out_of_patience, applied, claim_access, own_word_access, return_access, access_in, piece_claimed, bits_returned, grip_returned, given_back, completed_in}
use Rattle.lock.specs.rules.Calls.{first_cause, settings_outside, tree_tests, clients_outside, client_tests, request_tests, step_tests, requested}
use Rattle.lock.specs.rules.Table.{client_of, client_at, own_tests, number_of, after, call}
use Rattle.lock.specs.rules.StepCount.{next_clock, counted, step_count, step_count_tests, step_count_answer}

-- the two windows of document 01's whole case; then of its covers for H = 3 [60, 70), leaves 6 and 7, and [10, 300), nodes 2 and 10; then [192, 512), nodes 9 and 3
pub step_counts : (step_count 2 1 10 20 ≡ 3) × (step_count 2 1 0 256 ≡ 5) × (step_count 3 1 60 70 ≡ 10) × (step_count 3 1 10 300 ≡ 12) × (step_count 3 1 192 512 ≡ 12)
unfolding step_count_answer step_count_tests step_count counted next_clock call number_of after own_tests client_at client_of first_cause settings_outside tree_tests clients_outside client_tests request_tests step_tests requested touched_in start_phase begin first_noted taken ticket_taken turn_awaited go_up climbed unblocked bits_claimed occ_claimed late all_notified notice_given waited check_passed piece_returned word_returned turn_returned applied claim_access own_word_access return_access access_in piece_claimed bits_returned grip_returned given_back completed_in number_too_large idle_filled not_covered no_current ticket_too_large fields_wrong list_length place_past notices_wrong time_ahead phase_elsewhere held_early outcome_wrong lacks_grip giving_wrong out_of_patience_first taken_first unreadable phase_of pieces piece_at is_leaf grip_of notices_of word_at written levels_outside window_outside lesser behind least_of rest search found least_cover before part over total rank upward ancestors ancestor notifies notified_from notify_levels notify_list row descendants nearest check_list climb leftmost first level level_within size left units holder word_count field add_fields matches replaced masked_swap leaf_bits wanted_bits choose out_of_patience
step_counts = (refl, refl, refl, refl, refl)

-- "It tests 1, then 7."
pub first_tests : ((step_count_answer 13 1 5 5).number ≡ 1) × ((step_count_answer 3 5 5 5).number ≡ 1) × ((step_count_answer 3 1 5 5).number ≡ 7) × ((step_count_answer 3 1 0 1025).number ≡ 7)
unfolding step_count_answer step_count_tests first_cause levels_outside window_outside units choose
first_tests = (refl, refl, refl, refl)
