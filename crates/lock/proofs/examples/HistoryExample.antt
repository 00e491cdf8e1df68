-- Examples, closed by computing: from an accepted opening a history after which two clients hold two windows, and a longer one after which both are idle and
-- the words are clean. Their clocks have different offsets and rates: DriftExample.antt has the true moments. So neither half of demand 3 speaks of nothing. Assumes nothing.
use Rattle.std.specs.Prelude.{◌≡◌, refl, List, [], ◌∷◌, ◌++◌, ℕ, zero, suc, ◌+◌, ◌*◌, ◌<◌, T, take, drop, replicate}
use Rattle.std.proofs.Common.{sym, subst, inl, inr, arith}
use Rattle.base.specs.laws.Every.{both}
use Rattle.base.specs.rules.Choice.{choose}
use Rattle.base.specs.laws.Sum.{get_d_fresh}
use Rattle.word.specs.rules.Word.{field, matches, replaced, masked_swap, leaf_bits, wanted_bits, add_fields}
use Rattle.tree.specs.rules.Tree.{climb, leftmost, first, level, level_within, size, left, units, holder, word_count}
use Rattle.tree.specs.rules.Lists.{upward, ancestors, ancestor, notifies, notified_from, notify_levels, notify_list, row, descendants, nearest, check_list}
use Rattle.cover.specs.rules.Cover.{part, over, total, rank}
use Rattle.cover.specs.rules.Search.{before, lesser, behind, least_of, rest, search, found, least_cover}
use Rattle.cover.specs.rules.Answer.{levels_outside, window_outside}
use Rattle.lock.specs.rules.Records.{phase_of, pieces, piece_at, is_leaf, grip_of, notices_of, word_at, written, idle_with, client_with}
use Rattle.lock.specs.rules.Unreadable.{number_too_large, idle_filled, not_covered, no_current, ticket_too_large, fields_wrong, list_length, place_past, notices_wrong, time_ahead, phase_elsewhere, held_early, outcome_wrong, lacks_grip, giving_wrong, out_of_patience_first, taken_first, unreadable}
use Rattle.lock.specs.rules.Steps.{touched_in, start_phase, begin, first_noted, taken, ticket_taken, turn_awaited, go_up, climbed, unblocked, bits_claimed, occ_claimed, late, all_notified, notice_given, waited, check_passed, piece_returned, word_returned, turn_returned, out_of_patience, applied, claim_access, own_word_access, return_access, access_in, piece_claimed, bits_returned, grip_returned, given_back, completed_in}
use Rattle.lock.specs.rules.Calls.{first_cause, settings_outside, tree_tests, clients_outside, client_tests, request_tests, step_tests, release_tests, cancel_tests, requested, released, cancelled}
use Rattle.lock.specs.rules.Table.{State, Call, request, step, release, client_of, client_at, own_tests, number_of, after, call, opening_number, opened, opening}
use Rattle.lock.specs.declared.Settings.{Settings}
use Rattle.lock.specs.rules.History.{run, Event, events, Some, CallOf, RequestOf, StepOf, ReleaseOf, GaveBackIn, LastRequest, Holds, Idle, CleanInner, Clean}
use Rattle.lock.proofs.examples.Seen.{seen, is_request, is_release, is_request_lem, is_release_lem, none_of, none, later}

-- ---- the calls

-- H 3, m 1, T 20,000, P 20, two clients; what is lent to the opening is of the right size, and of any content
abbrev pub settings : Settings
settings = record { levels = 3; distance = 1; wait = 20000; patience = 20 }

abbrev pub lent : State
lent = record { words = replicate 21 7; clients = replicate 2 (client_with 9 (idle_with 3)) }

-- client 1 takes [300, 310), in the leaf 10, and client 0 [0, 256), the inner node 2; a second request of client 0 is refused by 8
abbrev pub holding : List Call
holding =
    request 0 0 256 ∷ request 1 300 310 ∷ step 1 1000000 ∷ step 1 1000000 ∷ step 1 1000000 ∷ step 1 1000000 ∷ step 1 1010001
    ∷ step 0 7 ∷ step 0 7 ∷ step 0 7 ∷ step 0 7 ∷ step 0 7 ∷ step 0 20007 ∷ step 0 20007 ∷ request 0 0 64 ∷ []

-- both give back
abbrev pub returned : List Call
returned = holding ++ (release 0 ∷ step 0 20008 ∷ step 0 20008 ∷ release 1 ∷ step 1 1040004 ∷ step 1 1040004 ∷ step 1 1040004 ∷ [])

abbrev pub fresh : State
fresh = (opening settings lent).state

-- ---- what is seen of them: the call, its number and the phase after

abbrev pub events_holding : List Event
events_holding =
    seen (request 0 0 256) 0 1 ∷ seen (request 1 300 310) 0 3 ∷ seen (step 1 1000000) 0 3 ∷ seen (step 1 1000000) 0 5 ∷ seen (step 1 1000000) 0 6
    ∷ seen (step 1 1000000) 0 6 ∷ seen (step 1 1010001) 0 9 ∷ seen (step 0 7) 0 2 ∷ seen (step 0 7) 0 3 ∷ seen (step 0 7) 0 5 ∷ seen (step 0 7) 0 6
    ∷ seen (step 0 7) 0 7 ∷ seen (step 0 20007) 0 8 ∷ seen (step 0 20007) 0 9 ∷ seen (request 0 0 64) 8 9 ∷ []

abbrev pub events_returned : List Event
events_returned =
    events_holding ++ (seen (release 0) 0 10 ∷ seen (step 0 20008) 0 10 ∷ seen (step 0 20008) 0 0
    ∷ seen (release 1) 0 10 ∷ seen (step 1 1040004) 0 10 ∷ seen (step 1 1040004) 0 10 ∷ seen (step 1 1040004) 0 0 ∷ [])

-- the leaves are 0; the root has two notices given and given back, node 2 one ticket, node 3 one notice
abbrev words_returned : List ℕ
words_returned = (2 * 65536 + 2) ∷ (140737488355328 + 4294967296) ∷ (65536 + 1) ∷ replicate 18 0

pub computed : ((opening settings lent).number ≡ 0) × (events settings fresh holding ≡ events_holding)
    × (events settings fresh returned ≡ events_returned) × ((run settings fresh returned).words ≡ words_returned)
unfolding run events call number_of after own_tests client_at client_of opening opening_number opened first_cause settings_outside tree_tests clients_outside client_tests request_tests step_tests release_tests cancel_tests requested released cancelled touched_in start_phase begin first_noted taken ticket_taken turn_awaited go_up climbed unblocked bits_claimed occ_claimed late all_notified notice_given waited check_passed piece_returned word_returned turn_returned applied claim_access own_word_access return_access access_in piece_claimed bits_returned grip_returned given_back completed_in number_too_large idle_filled not_covered no_current ticket_too_large fields_wrong list_length place_past notices_wrong time_ahead phase_elsewhere held_early outcome_wrong lacks_grip giving_wrong out_of_patience_first taken_first unreadable phase_of pieces piece_at is_leaf grip_of notices_of word_at written levels_outside window_outside lesser behind least_of rest search found least_cover before part over total rank upward ancestors ancestor notifies notified_from notify_levels notify_list row descendants nearest check_list climb leftmost first level level_within size left units holder word_count field add_fields matches replaced masked_swap leaf_bits wanted_bits choose out_of_patience
computed = (refl, refl, refl, refl)

-- ---- both hold

-- each client's only accepted request, `rest` after it
module _ (rest : List Event) where
  asked_0 : T (none_of (is_request 0) rest) → LastRequest (seen (request 0 0 256) 0 1 ∷ rest) 0 0 256 rest
  asked_0 t = record {
    before = [];
    asked = seen (request 0 0 256) 0 1;
    whole = refl;
    accepted = refl;
    edges = refl;
    last = none (RequestOf 0) (is_request 0) (is_request_lem 0) rest t;
  }

  asked_1 : (before : List Event) → T (none_of (is_request 1) rest) → LastRequest (before ++ (seen (request 1 300 310) 0 3 ∷ rest)) 1 300 310 rest
  asked_1 before t = record {
    before = before;
    asked = seen (request 1 300 310) 0 3;
    whole = refl;
    accepted = refl;
    edges = refl;
    last = none (RequestOf 1) (is_request 1) (is_request_lem 1) rest t;
  }

holds_0 : Holds events_holding 0 0 256
unfolding none_of both is_request is_release Some StepOf
holds_0 = record {
  since = drop 1 events_holding;
  asked = asked_0 (drop 1 events_holding) tt;
  taken = later (GaveBackIn 9 (StepOf 0)) 12 (drop 1 events_holding) (inl ((refl, refl), refl));
  kept = none (ReleaseOf 0) (is_release 0) (is_release_lem 0) (drop 1 events_holding) tt;
}

holds_1 : Holds events_holding 1 300 310
unfolding none_of both is_request is_release Some StepOf
holds_1 = record {
  since = drop 2 events_holding;
  asked = asked_1 (drop 2 events_holding) (take 1 events_holding) tt;
  taken = later (GaveBackIn 9 (StepOf 1)) 4 (drop 2 events_holding) (inl ((refl, refl), refl));
  kept = none (ReleaseOf 1) (is_release 1) (is_release_lem 1) (drop 2 events_holding) tt;
}

pub both_hold : ((opening settings lent).number ≡ 0) × Holds (events settings fresh holding) 0 0 256 × Holds (events settings fresh holding) 1 300 310
both_hold = (computed.0, subst (λ h. Holds h 0 0 256) (sym computed.1) holds_0, subst (λ h. Holds h 1 300 310) (sym computed.1) holds_1)

-- ---- both are idle, and the words clean

idle_0 : Idle events_returned 0
unfolding none_of both is_request Some client_of
idle_0 = inr (record {
  left = 0;
  right = 256;
  since = drop 1 events_returned;
  asked = asked_0 (drop 1 events_returned) tt;
  returned = later (GaveBackIn 0 (CallOf 0)) 16 (drop 1 events_returned) (inl ((refl, refl), refl));
})

idle_1 : Idle events_returned 1
unfolding none_of both is_request Some client_of
idle_1 = inr (record {
  left = 300;
  right = 310;
  since = drop 2 events_returned;
  asked = asked_1 (drop 2 events_returned) (take 1 events_returned) tt;
  returned = later (GaveBackIn 0 (CallOf 1)) 19 (drop 2 events_returned) (inl ((refl, refl), refl));
})

leaf_clean : (n : ℕ) → level n ≡ 3 → word_at words_returned n ≡ 0
unfolding word_at level level_within choose
leaf_clean zero e = refl
leaf_clean (suc zero) e = absurd (omega arith)
leaf_clean (suc (suc zero)) e = absurd (omega arith)
leaf_clean (suc (suc (suc zero))) e = absurd (omega arith)
leaf_clean (suc (suc (suc (suc i)))) e = get_d_fresh 18 i 0

inner_clean : (n : ℕ) → level n < 3 → CleanInner (word_at words_returned n)
unfolding word_at field
inner_clean zero b = record { exp_clear = refl; occ_clear = refl; tickets = refl; notices = refl }
inner_clean (suc zero) b = record { exp_clear = refl; occ_clear = refl; tickets = refl; notices = refl }
inner_clean (suc (suc zero)) b = record { exp_clear = refl; occ_clear = refl; tickets = refl; notices = refl }
inner_clean (suc (suc (suc zero))) b = record { exp_clear = refl; occ_clear = refl; tickets = refl; notices = refl }
inner_clean (suc (suc (suc (suc i)))) b = subst CleanInner (sym (get_d_fresh 18 i 0)) (record { exp_clear = refl; occ_clear = refl; tickets = refl; notices = refl })

returned_clean : Clean settings words_returned
returned_clean = record { leaf = λ n v e. leaf_clean n e; inner = λ n v b. inner_clean n b }

pub both_return : Idle (events settings fresh returned) 0 × Idle (events settings fresh returned) 1 × Clean settings (run settings fresh returned).words
both_return = (
  subst (λ h. Idle h 0) (sym computed.2) idle_0,
  subst (λ h. Idle h 1) (sym computed.2) idle_1,
  subst (Clean settings) (sym computed.3) returned_clean,
)
