-- Examples, closed by computing: tables of readable records, each left by a history of two clients. In two of them the other client has another window, another phase and another clock, the
-- run's clock and record and the number of clients in phase 9 are the same, and so is the run's page. In the third the other client holds too: that number differs, and so does the page.
-- And the page goes by the run's own clock: with an earlier one beside it, the same record is unreadable. Assumes nothing.
use Rattle.std.specs.Prelude.{◌≡◌, refl, false, List, [], ◌∷◌, ◌++◌, ℕ, length, get_or, set}
use Rattle.std.proofs.Common.{sym, ap, ◌∙◌, arith}
use Rattle.base.specs.rules.Choice.{choose}
use Rattle.word.specs.rules.Word.{field, matches, replaced, masked_swap, leaf_bits, wanted_bits, add_fields}
use Rattle.tree.specs.rules.Tree.{climb, leftmost, first, level, level_within, size, left, units, holder, word_count}
use Rattle.tree.specs.rules.Lists.{upward, ancestors, ancestor, notifies, notified_from, notify_levels, notify_list, row, descendants, nearest, check_list}
use Rattle.cover.specs.rules.Cover.{part, over, total, rank}
use Rattle.cover.specs.rules.Search.{before, lesser, behind, least_of, rest, search, found, least_cover}
use Rattle.cover.specs.rules.Answer.{levels_outside, window_outside}
use Rattle.lock.specs.rules.Records.{phase_of, pieces, piece_at, is_leaf, grip_of, notices_of, word_at, written, client_with, idle_client}
use Rattle.lock.specs.rules.Unreadable.{number_too_large, idle_filled, not_covered, no_current, ticket_too_large, fields_wrong, list_length, place_past, notices_wrong, time_ahead, phase_elsewhere, held_early, outcome_wrong, lacks_grip, giving_wrong, out_of_patience_first, taken_first, unreadable}
use Rattle.lock.specs.rules.Steps.{touched_in, start_phase, begin, first_noted, taken, ticket_taken, turn_awaited, go_up, climbed, unblocked, bits_claimed, occ_claimed, late, all_notified, notice_given, waited, check_passed, piece_returned, word_returned, turn_returned, out_of_patience, applied, claim_access, own_word_access, return_access, access_in, piece_claimed, bits_returned, grip_returned, given_back, completed_in}
use Rattle.lock.specs.rules.Calls.{first_cause, settings_outside, tree_tests, clients_outside, client_tests, request_tests, step_tests, release_tests, cancel_tests, requested, released, cancelled}
use Rattle.lock.specs.rules.Table.{Call, request, step, client_of, client_at, own_tests, number_of, after, call, opening_number, opened, opening}
use Rattle.lock.specs.declared.Client.{Client}
use Rattle.lock.specs.rules.History.{run}
use Rattle.lock.proofs.examples.HistoryExample.{settings, fresh}
use Rattle.pages.specs.declared.RunPage.{RunPage}
use Rattle.pages.specs.rules.Pages.{any_unreadable, in_phase9, held_count, own_client, run_tests, run_number, run_page}
use Rattle.pages.proofs.laws.Isolation.{isolation}

-- ---- the histories, with the settings of lock's HistoryExample.antt and two clients

-- the run, client 0, takes [0, 64), the leaf 6
abbrev taking : List Call
taking = request 0 0 64 ∷ step 0 1 ∷ step 0 1 ∷ step 0 1 ∷ step 0 1 ∷ step 0 1 ∷ []

-- client 1 climbs from the leaf 10; it has a ticket of the inner node 4, by a clock that is far ahead; it holds the leaf 10
abbrev climbing : List Call
climbing = taking ++ (request 1 300 310 ∷ step 1 1 ∷ [])

abbrev ticketed : List Call
ticketed = taking ++ (request 1 512 768 ∷ step 1 900 ∷ [])

abbrev holding : List Call
holding = climbing ++ (step 1 1 ∷ step 1 1 ∷ step 1 1 ∷ step 1 1 ∷ [])

-- the clients that a history leaves
abbrev pub table : List Call → List Client
table calls = (run settings fresh calls).clients

-- the run's page of them
abbrev pub seen : List Call → RunPage
seen calls = run_page settings (table calls) 0

-- clock, phase and window of the other client
abbrev pub other : List Client → List ℕ
other clients = let c = get_or clients 1 idle_client in let r = c.«record» in c.clock ∷ r.phase ∷ r.left ∷ r.right ∷ []

-- a table whose run has a clock of 0
abbrev pub set_back : List Client → List Client
set_back clients = set clients 0 (client_with 0 (own_client clients 0).«record»)

-- ---- what comes out of them

computed :
    (any_unreadable settings (table climbing) ≡ false) × (any_unreadable settings (table ticketed) ≡ false) × (any_unreadable settings (table holding) ≡ false)
    × (other (table climbing) ≡ 1 ∷ 3 ∷ 300 ∷ 310 ∷ []) × (other (table ticketed) ≡ 900 ∷ 2 ∷ 512 ∷ 768 ∷ []) × (other (table holding) ≡ 1 ∷ 9 ∷ 300 ∷ 310 ∷ [])
    × (length (table climbing) ≡ length (table ticketed)) × (own_client (table climbing) 0 ≡ own_client (table ticketed) 0) × (held_count (table climbing) ≡ held_count (table ticketed))
    × (own_client (table climbing) 0 ≡ own_client (table holding) 0)
    × ((seen climbing).number ≡ 0) × ((seen climbing).held ≡ 1) × ((seen holding).number ≡ 0) × ((seen holding).held ≡ 2)
    × ((own_client (set_back (table climbing)) 0).«record» ≡ (own_client (table climbing) 0).«record») × ((run_page settings (set_back (table climbing)) 0).number ≡ 6)
unfolding run call number_of after own_tests client_at client_of opening opening_number opened first_cause settings_outside tree_tests clients_outside client_tests request_tests step_tests release_tests cancel_tests requested released cancelled touched_in start_phase begin first_noted taken ticket_taken turn_awaited go_up climbed unblocked bits_claimed occ_claimed late all_notified notice_given waited check_passed piece_returned word_returned turn_returned applied claim_access own_word_access return_access access_in piece_claimed bits_returned grip_returned given_back completed_in number_too_large idle_filled not_covered no_current ticket_too_large fields_wrong list_length place_past notices_wrong time_ahead phase_elsewhere held_early outcome_wrong lacks_grip giving_wrong out_of_patience_first taken_first unreadable phase_of pieces piece_at is_leaf grip_of notices_of word_at written levels_outside window_outside lesser behind least_of rest search found least_cover before part over total rank upward ancestors ancestor notifies notified_from notify_levels notify_list row descendants nearest check_list climb leftmost first level level_within size left units holder word_count field add_fields matches replaced masked_swap leaf_bits wanted_bits choose any_unreadable in_phase9 held_count run_tests run_number run_page out_of_patience
computed = (refl, refl, refl, refl, refl, refl, refl, refl, refl, refl, refl, refl, refl, refl, refl, refl)

-- ---- the same page of tables that differ, and pages that differ

pub same_page : ((seen climbing).number ≡ 0) × (seen climbing ≡ seen ticketed) × (table climbing ≡ table ticketed → ⊥)
same_page = (
  computed.10,
  isolation settings (table climbing) (table ticketed) 0 computed.6 (ap (λ (c : Client). c.clock) computed.7) (ap (λ (c : Client). c.«record») computed.7) computed.8,
  λ e. omega (arith, ap (λ (l : List ℕ). get_or l 0 0) (sym computed.3 ∙ ap other e ∙ computed.4)),
)

pub other_page : ((seen holding).number ≡ 0) × (own_client (table climbing) 0 ≡ own_client (table holding) 0) × (seen climbing ≡ seen holding → ⊥)
other_page = (computed.12, computed.9, λ e. omega (arith, sym computed.11 ∙ ap (λ (p : RunPage). p.held) e ∙ computed.13))

pub own_clock_page : ((own_client (set_back (table climbing)) 0).«record» ≡ (own_client (table climbing) 0).«record»)
    × ((run_page settings (set_back (table climbing)) 0).number ≡ 6) × (seen climbing ≡ run_page settings (set_back (table climbing)) 0 → ⊥)
own_clock_page = (computed.14, computed.15, λ e. omega (arith, sym computed.10 ∙ ap (λ (p : RunPage). p.number) e ∙ computed.15))
