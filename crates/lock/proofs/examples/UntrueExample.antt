-- The supposition of 2.3 is needed. By computing: a history in which one client's clock stands still while the other's goes on, after which the two hold overlapping windows.
-- No moments are true of it. Assumes nothing.
use Rattle.std.specs.Prelude.{◌≡◌, refl, List, [], ◌∷◌, ℕ, take, drop, replicate}
use Rattle.std.proofs.Common.{sym, subst, inl, arith}
use Rattle.base.specs.laws.Every.{both}
use Rattle.base.specs.rules.Choice.{choose}
use Rattle.base.specs.rules.Overlap.{Overlap}
use Rattle.word.specs.rules.Word.{field, matches, replaced, masked_swap, leaf_bits, wanted_bits, add_fields}
use Rattle.tree.specs.rules.Tree.{climb, leftmost, first, level, level_within, size, left, units, holder, word_count}
use Rattle.tree.specs.rules.Lists.{upward, ancestors, ancestor, notifies, notified_from, notify_levels, notify_list, row, descendants, nearest, check_list}
use Rattle.cover.specs.rules.Cover.{part, over, total, rank}
use Rattle.cover.specs.rules.Search.{before, lesser, behind, least_of, rest, search, found, least_cover}
use Rattle.cover.specs.rules.Answer.{levels_outside, window_outside}
use Rattle.lock.specs.rules.Records.{phase_of, pieces, piece_at, is_leaf, grip_of, notices_of, word_at, written, idle_with, client_with}
use Rattle.lock.specs.rules.Unreadable.{number_too_large, idle_filled, not_covered, no_current, ticket_too_large, fields_wrong, list_length, place_past, notices_wrong, time_ahead, phase_elsewhere, held_early, outcome_wrong, lacks_grip, giving_wrong, out_of_patience_first, taken_first, unreadable}
use Rattle.lock.specs.rules.Steps.{touched_in, start_phase, begin, first_noted, taken, ticket_taken, turn_awaited, go_up, climbed, unblocked, bits_claimed, occ_claimed, late, all_notified, notice_given, waited, check_passed, piece_returned, word_returned, turn_returned, out_of_patience, applied, claim_access, own_word_access, return_access, access_in, piece_claimed, bits_returned, grip_returned, given_back, completed_in}
use Rattle.lock.specs.rules.Calls.{first_cause, settings_outside, tree_tests, clients_outside, client_tests, request_tests, step_tests, release_tests, cancel_tests, requested, released, cancelled}
use Rattle.lock.specs.rules.Table.{State, Call, request, step, client_of, client_at, own_tests, number_of, after, call, opening_number, opened, opening}
use Rattle.lock.specs.declared.Settings.{Settings}
use Rattle.lock.specs.rules.History.{run, Event, events, Some, RequestOf, StepOf, ReleaseOf, GaveBackIn, Holds, At, TrueMoments}
use Rattle.lock.proofs.examples.Seen.{seen, is_request, is_release, is_request_lem, is_release_lem, none_of, none, later}

-- H 2, m 1, T 2, P 20, two clients
abbrev pub settings : Settings
settings = record { levels = 2; distance = 1; wait = 2; patience = 20 }

abbrev pub lent : State
lent = record { words = replicate 5 7; clients = replicate 2 (client_with 9 (idle_with 3)) }

abbrev pub fresh : State
fresh = (opening settings lent).state

-- client 0 reads the root and takes its bits; client 1 claims the root, waits by its own clock, finds no notice and holds; then client 0, whose clock has not moved, notifies and
-- is not late
abbrev pub calls : List Call
calls = request 0 0 10 ∷ step 0 0 ∷ step 0 0 ∷ request 1 0 256 ∷ step 1 0 ∷ step 1 0 ∷ step 1 0 ∷ step 1 2 ∷ step 1 2 ∷ step 0 0 ∷ []

abbrev events_seen : List Event
events_seen =
    seen (request 0 0 10) 0 3 ∷ seen (step 0 0) 0 5 ∷ seen (step 0 0) 0 6 ∷ seen (request 1 0 256) 0 1 ∷ seen (step 1 0) 0 2 ∷ seen (step 1 0) 0 5 ∷ seen (step 1 0) 0 7
    ∷ seen (step 1 2) 0 8 ∷ seen (step 1 2) 0 9 ∷ seen (step 0 0) 0 9 ∷ []

computed : ((opening settings lent).number ≡ 0) × (events settings fresh calls ≡ events_seen)
unfolding run events call number_of after own_tests client_at client_of opening opening_number opened first_cause settings_outside tree_tests clients_outside client_tests request_tests step_tests release_tests cancel_tests requested released cancelled touched_in start_phase begin first_noted taken ticket_taken turn_awaited go_up climbed unblocked bits_claimed occ_claimed late all_notified notice_given waited check_passed piece_returned word_returned turn_returned applied claim_access own_word_access return_access access_in piece_claimed bits_returned grip_returned given_back completed_in number_too_large idle_filled not_covered no_current ticket_too_large fields_wrong list_length place_past notices_wrong time_ahead phase_elsewhere held_early outcome_wrong lacks_grip giving_wrong out_of_patience_first taken_first unreadable phase_of pieces piece_at is_leaf grip_of notices_of word_at written levels_outside window_outside lesser behind least_of rest search found least_cover before part over total rank upward ancestors ancestor notifies notified_from notify_levels notify_list row descendants nearest check_list climb leftmost first level level_within size left units holder word_count field add_fields matches replaced masked_swap leaf_bits wanted_bits choose out_of_patience
computed = (refl, refl)

holds_0 : Holds events_seen 0 0 10
unfolding none_of both is_request is_release Some StepOf
holds_0 = record {
  since = drop 1 events_seen;
  asked = record {
    before = [];
    asked = seen (request 0 0 10) 0 3;
    whole = refl;
    accepted = refl;
    edges = refl;
    last = none (RequestOf 0) (is_request 0) (is_request_lem 0) (drop 1 events_seen) tt;
  };
  taken = later (GaveBackIn 9 (StepOf 0)) 8 (drop 1 events_seen) (inl ((refl, refl), refl));
  kept = none (ReleaseOf 0) (is_release 0) (is_release_lem 0) (drop 1 events_seen) tt;
}

holds_1 : Holds events_seen 1 0 256
unfolding none_of both is_request is_release Some StepOf
holds_1 = record {
  since = drop 4 events_seen;
  asked = record {
    before = take 3 events_seen;
    asked = seen (request 1 0 256) 0 1;
    whole = refl;
    accepted = refl;
    edges = refl;
    last = none (RequestOf 1) (is_request 1) (is_request_lem 1) (drop 4 events_seen) tt;
  };
  taken = later (GaveBackIn 9 (StepOf 1)) 4 (drop 4 events_seen) (inl ((refl, refl), refl));
  kept = none (ReleaseOf 1) (is_release 1) (is_release_lem 1) (drop 4 events_seen) tt;
}

pub both_hold : ((opening settings lent).number ≡ 0) × Holds (events settings fresh calls) 0 0 10 × Holds (events settings fresh calls) 1 0 256 × Overlap 0 10 0 256
both_hold = (
  computed.0,
  subst (λ h. Holds h 0 0 10) (sym computed.1) holds_0,
  subst (λ h. Holds h 1 0 256) (sym computed.1) holds_1,
  record { unit = 0; low = omega arith; high = omega arith; other_low = omega arith; other_high = omega arith },
)

-- the steps at the places 1 and 9 are of client 0 by one clock, so that no time lies between them; but by client 1's clock, at the places 4 and 7, two ticks do
pub untrue : (moment : ℕ → ℕ) → TrueMoments (events settings fresh calls) moment → ⊥
unfolding At
untrue moment v =
    let w = subst (λ h. TrueMoments h moment) computed.1 v in
    omega (
      arith,
      (w.steady 1 9 0 0 0 (omega arith) (refl, refl) (refl, refl)).0,
      (w.steady 4 7 1 0 2 (omega arith) (refl, refl) (refl, refl)).1,
      w.never_back 1 4 0 1 0 0 (omega arith) (refl, refl) (refl, refl),
      w.never_back 7 9 1 0 2 0 (omega arith) (refl, refl) (refl, refl),
    )
