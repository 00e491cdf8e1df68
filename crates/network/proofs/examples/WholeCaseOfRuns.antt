-- Example, closed by computing: document 01's whole case as two runs make it, with lists of operations in flight that cross each other. The history that they make is that of document 01, and at its end the
-- one run holds and the other is idle. Assumes nothing.
use Rattle.std.specs.Prelude.{◌≡◌, refl, List, [], ◌∷◌, ℕ}
use Rattle.std.proofs.Common.{arith}
use Rattle.base.specs.rules.Choice.{choose}
use Rattle.word.specs.rules.Word.{field, matches, replaced, masked_swap, leaf_bits, wanted_bits, add_fields}
use Rattle.tree.specs.rules.Tree.{climb, leftmost, first, level, level_within, size, left, units, holder, word_count}
use Rattle.tree.specs.rules.Lists.{upward, ancestors, ancestor, notifies, notified_from, notify_levels, notify_list, row, descendants, nearest, check_list}
use Rattle.cover.specs.rules.Cover.{part, over, total, rank}
use Rattle.cover.specs.rules.Search.{before, lesser, behind, least_of, rest, search, found, least_cover}
use Rattle.cover.specs.rules.Answer.{levels_outside, window_outside}
use Rattle.lock.specs.rules.Records.{phase_of, pieces, piece_at, is_leaf, grip_of, notices_of, word_at, written}
use Rattle.lock.specs.rules.Unreadable.{number_too_large, idle_filled, not_covered, no_current, ticket_too_large, fields_wrong, list_length, place_past, notices_wrong, time_ahead, phase_elsewhere, held_early, outcome_wrong, lacks_grip, giving_wrong, out_of_patience_first, taken_first, unreadable}
use Rattle.lock.specs.rules.Steps.{touched_in, start_phase, begin, first_noted, taken, ticket_taken, turn_awaited, go_up, climbed, unblocked, bits_claimed, occ_claimed, late, all_notified, notice_given, waited, check_passed, piece_returned, word_returned, turn_returned, out_of_patience, applied, claim_access, own_word_access, return_access, access_in, piece_claimed, bits_returned, grip_returned, given_back, completed_in}
use Rattle.lock.specs.rules.Calls.{first_cause, settings_outside, tree_tests, clients_outside, client_tests, request_tests, step_tests, release_tests, cancel_tests, requested, released, cancelled, answered}
use Rattle.lock.specs.rules.Table.{request, step, release, client_of, client_at, own_tests, number_of, after, call, opening_number, opened, opening}
use Rattle.lock.specs.rules.Operations.{operation_at, access_of, post_tests, operation_answer, completed_tests, completed_answer, own_request_answer, own_release_answer}
use Rattle.lock.proofs.examples.WholeCase.{settings, lent, calls}
use Rattle.runs.specs.rules.Ahead.{standing, walk, gives_back, ahead_in, ahead_of, same, along, first_number, completed_all_answer}
use Rattle.network.specs.rules.Clocks.{claims, completing, TrueClock, OwnRead, ClocksRead, moment_after, InTime}
use Rattle.network.specs.rules.Network.{Network, run_at, client_on, started, Act, own, post, carry, complete, touches_none, own_next, own_calls, same_list, asks, posts, between, carries, completes, act, acts, asked_by, counts, carried_by, calls_of, history_of, HoldsOwn}

-- both clocks show the true moment; each list has room for nine operations
abbrev happened : List Act
happened =
    own (request 0 10 20) 0 ∷ own (request 1 0 256) 0
    -- 1's ticket and the reading of its turn go out together; 0's reading of the root is carried out between the two posts
    ∷ post 0 9 1 1 1 2 ∷ post 1 9 2 2 2 3 ∷ carry 0 2 ∷ carry 1 2 ∷ complete 0 ∷ carry 1 3 ∷ complete 1
    -- 1 sets Occ, 0 takes its bits: each completes by the clock that it reads when its answer is there
    ∷ post 1 9 3 3 3 3 ∷ post 0 9 3 4 3 4 ∷ carry 1 3 ∷ carry 0 4 ∷ complete 0 ∷ complete 1
    -- 0's last notice, in time: it holds
    ∷ post 0 9 4 5 4 5 ∷ carry 0 5 ∷ complete 0
    -- 1 has waited, and its check finds 0's notice
    ∷ own (step 1 8) 8 ∷ post 1 9 8 8 8 9 ∷ carry 1 8 ∷ complete 1
    -- 0 gives back its bits and its notice in one list, while 1 reads again
    ∷ own (release 0) 9 ∷ post 0 9 9 9 9 10 ∷ carry 0 9 ∷ post 1 9 10 10 10 11 ∷ carry 0 10 ∷ complete 0 ∷ carry 1 11 ∷ complete 1 ∷ []

abbrev net : Network
net = acts settings (started (opening settings lent).state) happened

pub whole_case_of_runs : (history_of settings (started (opening settings lent).state) happened ≡ calls 5) × HoldsOwn net 1 0 256 × ((client_on net 0).«record».phase ≡ 0)
unfolding call number_of after own_tests client_at client_of opening opening_number opened first_cause settings_outside tree_tests clients_outside client_tests request_tests step_tests release_tests cancel_tests requested released cancelled touched_in start_phase begin first_noted taken ticket_taken turn_awaited go_up climbed unblocked bits_claimed occ_claimed late all_notified notice_given waited check_passed piece_returned word_returned turn_returned applied claim_access own_word_access return_access access_in piece_claimed bits_returned grip_returned given_back completed_in number_too_large idle_filled not_covered no_current ticket_too_large fields_wrong list_length place_past notices_wrong time_ahead phase_elsewhere held_early outcome_wrong lacks_grip giving_wrong out_of_patience_first taken_first unreadable phase_of pieces piece_at is_leaf grip_of notices_of word_at written levels_outside window_outside lesser behind least_of rest search found least_cover before part over total rank upward ancestors ancestor notifies notified_from notify_levels notify_list row descendants nearest check_list climb leftmost first level level_within size left units holder word_count field add_fields matches replaced masked_swap leaf_bits wanted_bits choose out_of_patience operation_at access_of post_tests operation_answer completed_tests completed_answer own_request_answer own_release_answer answered run_at own_next own_calls touches_none same same_list asks posts between carries completes act acts asked_by counts carried_by calls_of history_of standing walk gives_back ahead_in ahead_of along first_number completed_all_answer
whole_case_of_runs = (refl, record { held = refl; from = refl; to = refl }, refl)

-- a clock that shows the true moment is true
pub exact : (wait : ℕ) → TrueClock wait (λ m. m)
exact wait = record { onward = λ m n b. b; not_slow = λ m n b far. omega (arith, far); not_fast = λ m n b far. omega (arith, far) }

-- and the clocks are read in time, so that what is supposed of runs can be met
pub in_time : InTime settings (λ c m. m) (started (opening settings lent).state) 0 happened
unfolding call number_of after own_tests client_at client_of opening opening_number opened first_cause settings_outside tree_tests clients_outside client_tests request_tests step_tests release_tests cancel_tests requested released cancelled touched_in start_phase begin first_noted taken ticket_taken turn_awaited go_up climbed unblocked bits_claimed occ_claimed late all_notified notice_given waited check_passed piece_returned word_returned turn_returned applied claim_access own_word_access return_access access_in piece_claimed bits_returned grip_returned given_back completed_in number_too_large idle_filled not_covered no_current ticket_too_large fields_wrong list_length place_past notices_wrong time_ahead phase_elsewhere held_early outcome_wrong lacks_grip giving_wrong out_of_patience_first taken_first unreadable phase_of pieces piece_at is_leaf grip_of notices_of word_at written levels_outside window_outside lesser behind least_of rest search found least_cover before part over total rank upward ancestors ancestor notifies notified_from notify_levels notify_list row descendants nearest check_list climb leftmost first level level_within size left units holder word_count field add_fields matches replaced masked_swap leaf_bits wanted_bits choose out_of_patience operation_at access_of post_tests operation_answer completed_tests completed_answer own_request_answer own_release_answer answered run_at own_next own_calls touches_none same same_list asks posts between carries completes act acts asked_by counts carried_by calls_of history_of standing walk gives_back ahead_in ahead_of along first_number completed_all_answer claims completing OwnRead ClocksRead moment_after InTime
in_time =
    (tt, omega arith, (tt, omega arith, ((refl, refl), omega arith, ((refl, refl), omega arith, (tt, omega arith, (tt, omega arith, (tt, omega arith, (tt, omega arith, (tt, omega arith, ((refl, refl), omega arith, ((refl, refl), omega arith, (tt, omega arith, (tt, omega arith, (tt, omega arith, (tt, omega arith, ((refl, refl), omega arith, (tt, omega arith, (tt, omega arith, (refl, omega arith, ((refl, refl), omega arith, (tt, omega arith, (tt, omega arith, (tt, omega arith, ((refl, refl), omega arith, (tt, omega arith, ((refl, refl), omega arith, (tt, omega arith, (tt, omega arith, (tt, omega arith, (tt, omega arith, tt))))))))))))))))))))))))))))))
