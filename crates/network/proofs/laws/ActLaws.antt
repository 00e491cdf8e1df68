-- Each act of the network is its calls on the state that is shown: an own call is that call, an operation that is carried out and counts is a step, and the others change nothing that is shown. Assumes nothing.
use Rattle.std.specs.Prelude.{◌≡◌, Bool, ℕ, zero, suc, eqb, length, get_or, take}
use Rattle.std.proofs.Math.Path.{refl, sym, ap, subst}
use Rattle.std.proofs.Common.{ap₂, ◌∙◌, arith, length-set}
use Rattle.std.proofs.Math.Bool.{true, false}
use mathlib.Core.List.{List, [], ◌∷◌, ◌++◌}
use borrow.Author.Tests.{eqb-true}
use Rattle.std.proofs.Math.ListN.{set}
use Rattle.base.specs.rules.Choice.{choose}
use Rattle.base.specs.laws.ChoiceLaws.{on_choose, by_lt}
use Rattle.base.specs.laws.TestLaws.{both_true}
use Rattle.lock.specs.declared.Client.{Client}
use Rattle.lock.specs.declared.Settings.{Settings}
use Rattle.lock.specs.declared.Stepped.{Stepped}
use Rattle.lock.specs.rules.Records.{word_at, written, idle_client}
use Rattle.lock.specs.rules.Steps.{applied}
use Rattle.lock.specs.rules.Calls.{request_answer, release_answer, cancel_answer}
use Rattle.lock.specs.rules.Operations.{access_of, operation_answer, completed_answer, own_request_answer, own_release_answer, own_cancel_answer}
use Rattle.lock.specs.rules.Table.{State, Call, request, step, release, cancel, client_of, client_at, Out, opening_number, call}
use Rattle.lock.specs.rules.ByValue.{answer_to, words_after}
use Rattle.lock.specs.rules.History.{run}
use Rattle.lock.proofs.claim.Parts.{parts_of}
use Rattle.lock.proofs.claim.Invariant.{Invariant}
use Rattle.table.specs.laws.CauseLaws.{table_client}
use Rattle.table.specs.laws.CallLaws.{table_refuses}
use Rattle.runs.specs.rules.Ahead.{ahead_of, Counted, completed_all_answer}
use Rattle.network.specs.rules.Network.{Flight, free, flying, Run, Network, run_at, client_on, with_run, started, Act, own, post, carry, complete, touches_none, own_next, own_calls, same_list, asks, posts, between, carries, completes, act, asked_by, carried_by, calls_of, seen_by, shown}
use Rattle.network.proofs.laws.CarriedOut.{Underway, begun}
use Rattle.runs.specs.laws.AlongLaws.{no_words}
use Rattle.network.proofs.laws.SameOperation.{lists_equal}
use Rattle.network.proofs.laws.Shown.{set_past, shown_free, shown_flying, shown_with, written_count}
use Rattle.network.proofs.laws.CarryLaws.{outcome, out_shown}
use Rattle.network.proofs.laws.OnState.{request_same, release_same, cancel_same, unchanged, quiet, carried, passed, inside, count}
use Rattle.base.specs.laws.Sum.{on_set}
use Rattle.base.specs.laws.TestLaws.{test_true}

-- a list that is in flight is under way
unfoldable pub Fair : Settings → Client → Flight → Type 0
Fair s c free = Unit
Fair s c (flying u m n os found) = Underway s c u os found

-- what every act keeps beside the state that is shown
pub record Kept (s : Settings) (net : Network) : Type 0 where
  pub passed : opening_number s (length net.words) (length net.runs) ≡ 0
  pub fair : (d : ℕ) → Fair s (client_on net d) (run_at net d).flight

-- as it starts nothing is in flight
pub started_fair : (s : Settings) (words : List ℕ) (cs : List Client) (d : ℕ) → let net = started (record { words = words; clients = cs }) in Fair s (client_on net d) (run_at net d).flight
unfolding run_at Fair
started_fair s words [] d = tt
started_fair s words (c ∷ cs) zero = tt
started_fair s words (c ∷ cs) (suc d) = started_fair s words cs d

-- ---- each act

module _ (s : Settings) (net : Network) (open_passed : opening_number s (length net.words) (length net.runs) ≡ 0) where
  abbrev now : State
  now = shown s net

  -- a step that touches no word, on any client, also on one that is not there
  still_step : (d t : ℕ) → touches_none (operation_answer s (client_at now d) t) ≡ true → record { words = now.words; clients = set now.clients d (completed_answer s (client_at now d) t 0).next } ≡ (call s now (step d t)).state
  unfolding touches_none word_at written client_of
  still_step d t e =
      let o = operation_answer s (client_at now d) t in
      let node : o.node ≡ 0 = eqb-true o.node 0 (both_true (eqb o.number 0) (eqb o.node 0) e).1 in
      by_lt d (length now.clients)
      (λ below. ap (λ (n : ℕ). record { words = written now.words n (applied (access_of o) (word_at now.words n)); clients = set now.clients d (completed_answer s (client_at now d) t (word_at now.words n)).next }) (sym node)
      ∙ carried s now (passed s net open_passed) d t below)
      (λ past. ap (λ (cs : List Client). record { words = now.words; clients = cs }) (set_past now.clients d _ past)
      ∙ ap (λ (out : Out). out.state) (table_refuses s now.clients now.words (step d t) 4 (table_client s (length now.words) (length now.clients) d (passed s net open_passed) past) (λ z. omega (arith, z))))

  -- an own call, by what is in flight
  own_shown : (k : Call) (f : Flight) → (run_at net (client_of k)).flight ≡ f → shown s (asks s net k f) ≡ run s now (asked_by s net k f)
  unfolding asks asked_by own_calls own_next run client_of seen_by answer_to words_after choose
  own_shown (request d a b) free e =
      let x = client_on net d in
      shown_with s net d net.words (own_request_answer s x a b).next free
      ∙ quiet s now (passed s net open_passed) (request d a b) refl _ (ap (λ (y : Client). (request_answer s y net.words a b).next) (shown_free s net d e) ∙ ap (λ (y : Stepped). y.next) (request_same s x net.words (inside s net open_passed) (count s net open_passed) a b))
  own_shown (step d t) free e = by_touch (touches_none (operation_answer s (client_on net d) t)) refl
    where
      by_touch : (b : Bool) → touches_none (operation_answer s (client_on net d) t) ≡ b
          → shown s (with_run net net.words d (choose b (completed_answer s (client_on net d) t 0).next (client_on net d)) free) ≡ run s now (choose b (step d t ∷ []) [])
      by_touch true q =
          let z = shown_free s net d e in
          shown_with s net d net.words (completed_answer s (client_on net d) t 0).next free
          ∙ ap (λ (x : Client). record { words = now.words; clients = set now.clients d (completed_answer s x t 0).next }) (sym z)
          ∙ still_step d t (ap (λ (x : Client). touches_none (operation_answer s x t)) z ∙ q)
      by_touch false q = shown_with s net d net.words (client_on net d) free ∙ unchanged s now (passed s net open_passed) d (client_on net d) (sym (shown_free s net d e))
  own_shown (release d) free e =
      let x = client_on net d in
      shown_with s net d net.words (own_release_answer s x).next free
      ∙ quiet s now (passed s net open_passed) (release d) refl _ (ap (λ (y : Client). (release_answer s y net.words).next) (shown_free s net d e) ∙ ap (λ (y : Stepped). y.next) (release_same s x net.words (inside s net open_passed) (count s net open_passed)))
  own_shown (cancel d) free e =
      let x = client_on net d in
      shown_with s net d net.words (own_cancel_answer s x).next free
      ∙ quiet s now (passed s net open_passed) (cancel d) refl _ (ap (λ (y : Client). (cancel_answer s y net.words).next) (shown_free s net d e) ∙ ap (λ (y : Stepped). y.next) (cancel_same s x net.words (inside s net open_passed) (count s net open_passed)))
  own_shown k (flying u m n os found) e = refl

  post_shown : (c room t u m n : ℕ) (f : Flight) → (run_at net c).flight ≡ f → shown s (posts s net c room t u m n f) ≡ now
  unfolding posts seen_by completed_all_answer
  post_shown c room t u m n free e =
      let x = client_on net c in
      on_choose (λ (y : Network). shown s y ≡ now) (same_list (ahead_of s x t) (ahead_of s x u)) _ _
      (λ _. shown_with s net c net.words x (flying u m n (take room (ahead_of s x t)) [])
      ∙ unchanged s now (passed s net open_passed) c _ (ap (λ (d : Counted). d.next) (no_words s u x (ahead_of s x u)) ∙ sym (shown_free s net c e))) (λ _. refl)
  post_shown c room t u m n (flying v p q os found) e = refl

  complete_shown : (c : ℕ) (f : Flight) → (run_at net c).flight ≡ f → shown s (completes s net c f) ≡ now
  unfolding completes seen_by
  complete_shown c free e = refl
  complete_shown c (flying u m n [] found) e =
      let x = (completed_all_answer s (client_on net c) u found).next in
      shown_with s net c net.words x free ∙ unchanged s now (passed s net open_passed) c x (sym (shown_flying s net c u m n [] found e))
  complete_shown c (flying u m n (o ∷ os) found) e = refl

  carry_shown : (inv : Invariant s (parts_of now)) (c at : ℕ) (f : Flight) → (run_at net c).flight ≡ f → Fair s (client_on net c) f → shown s (carries s net c at f) ≡ run s now (carried_by s net c at f)
  unfolding carries carried_by run Fair
  carry_shown inv c at free e v = refl
  carry_shown inv c at (flying u m n [] found) e v = refl
  carry_shown inv c at (flying u m n (o ∷ os) found) e v = out_shown s net open_passed inv c u m n o os found e v (between m at n)

  -- ---- the counts stay

  module _ (words : List ℕ) (c : ℕ) (x : Client) (f : Flight) where
    with_passed : length words ≡ length net.words → opening_number s (length (with_run net words c x f).words) (length (with_run net words c x f).runs) ≡ 0
    with_passed e = ap₂ (λ (m n : ℕ). opening_number s m n) e (length-set net.runs c (record { client = x; flight = f })) ∙ open_passed

    -- and what is in flight is under way
    with_fair : Fair s x f → ((d : ℕ) → Fair s (client_on net d) (run_at net d).flight) → (d : ℕ) → Fair s (client_on (with_run net words c x f) d) (run_at (with_run net words c x f) d).flight
    unfolding run_at
    with_fair v all d =
        let nobody : Run = record { client = idle_client; flight = free } in
        by_lt c (length net.runs)
        (λ below. on_set (λ (y : Run). Fair s y.client y.flight) net.runs c d (record { client = x; flight = f }) nobody below (λ _. v) (λ _. all d))
        (λ past. subst (λ (l : List Run). Fair s (get_or l d nobody).client (get_or l d nobody).flight) (sym (set_past net.runs c _ past)) (all d))

  module _ (all : (d : ℕ) → Fair s (client_on net d) (run_at net d).flight) where
    same_kept : Kept s net
    same_kept = record { passed = open_passed; fair = all }

    with_kept : (words : List ℕ) (c : ℕ) (x : Client) (f : Flight) → length words ≡ length net.words → Fair s x f → Kept s (with_run net words c x f)
    with_kept words c x f e v = record { passed = with_passed words c x f e; fair = with_fair words c x f v all }

    own_kept : (k : Call) (f : Flight) → Kept s (asks s net k f)
    unfolding asks Fair
    own_kept k free = with_kept net.words (client_of k) _ free refl tt
    own_kept k (flying u m n os found) = same_kept

    post_kept : (c room t u m n : ℕ) (f : Flight) → Kept s (posts s net c room t u m n f)
    unfolding posts Fair
    post_kept c room t u m n free =
        let x = client_on net c in
        on_choose (Kept s) (same_list (ahead_of s x t) (ahead_of s x u)) _ _
        (λ e. with_kept net.words c x (flying u m n (take room (ahead_of s x t)) []) refl (begun s x u room (ahead_of s x t) (lists_equal (ahead_of s x t) (ahead_of s x u) (test_true _ e)))) (λ _. same_kept)
    post_kept c room t u m n (flying v p q os found) = same_kept

    carry_kept : (inv : Invariant s (parts_of now)) (c at : ℕ) (f : Flight) → (run_at net c).flight ≡ f → Fair s (client_on net c) f → Kept s (carries s net c at f)
    unfolding carries Fair
    carry_kept inv c at free e v = same_kept
    carry_kept inv c at (flying u m n [] found) e v = same_kept
    carry_kept inv c at (flying u m n (o ∷ os) found) e v =
        on_choose (Kept s) (between m at n) _ _
        (λ _. with_kept (written net.words o.node _) c (client_on net c) (flying u m n os (found ++ (word_at net.words o.node ∷ []))) (written_count net.words o.node _) (outcome s net open_passed inv c u m n o os found e v).1)
        (λ _. same_kept)

    complete_kept : (c : ℕ) (f : Flight) → Kept s (completes s net c f)
    unfolding completes Fair
    complete_kept c free = same_kept
    complete_kept c (flying u m n [] found) = with_kept net.words c _ free refl tt
    complete_kept c (flying u m n (o ∷ os) found) = same_kept

    pub act_kept : Invariant s (parts_of now) → (a : Act) → Kept s (act s net a)
    unfolding act
    act_kept inv (own k at) = own_kept k _
    act_kept inv (post c room t u m n) = post_kept c room t u m n _
    act_kept inv (carry c at) = carry_kept inv c at _ refl (all c)
    act_kept inv (complete c) = complete_kept c _

    pub act_shown : Invariant s (parts_of now) → (a : Act) → shown s (act s net a) ≡ run s now (calls_of s net a)
    unfolding act calls_of run
    act_shown inv (own k at) = own_shown k _ refl
    act_shown inv (post c room t u m n) = post_shown c room t u m n _ refl
    act_shown inv (carry c at) = carry_shown inv c at _ refl (all c)
    act_shown inv (complete c) = complete_shown c _ refl
