-- Runs on many machines make a history: whatever they do, in any interleaving, the words and the clients are those of `lock`'s histories. So single holding and the clean tree hold of them. Assumes
-- nothing.
use Rattle.std.specs.Prelude.{◌≡◌, refl, List, [], ◌∷◌, ◌++◌, ℕ}
use Rattle.std.proofs.Common.{sym, ap, subst, ◌∙◌, arith}
use Rattle.base.specs.rules.Overlap.{Overlap}
use Rattle.lock.specs.declared.Client.{Client}
use Rattle.lock.specs.declared.Record.{Record}
use Rattle.lock.specs.declared.Settings.{Settings}
use Rattle.lock.specs.rules.Table.{State, Call, client_at, record_at, opening, call}
use Rattle.lock.specs.rules.History.{run, events, SingleHolding, Clean}
use Rattle.lock.specs.rules.Readings.{ReadApart}
use Rattle.lock.proofs.claim.Invariant.{Invariant}
use Rattle.lock.proofs.claim.Keeping.{run_keeps}
use Rattle.lock.proofs.claim.Parts.{parts_of}
use Rattle.lock.proofs.claim.Start.{opening_invariant}
use Rattle.lock.proofs.claim.Demand3.{records_apart, read_apart_holding, records_clean}
use Rattle.network.specs.rules.Clocks.{TrueClock, InTime}
use Rattle.network.specs.rules.Network.{Network, free, run_at, client_on, started, Act, act, acts, calls_of, history_of, HoldsOwn, IdleOwn, shown}
use Rattle.network.proofs.laws.CallsInTime.{acts_read}
use Rattle.network.proofs.laws.InTimeLaws.{moments_in, started_read}
use Rattle.network.proofs.laws.ReadOnce.{Moments, moments_at, EachRead, read_apart}
use Rattle.network.proofs.laws.Shown.{shown_free, shown_started, shown_held, started_counts}
use Rattle.network.proofs.laws.ActLaws.{Kept, act_kept, act_shown, started_fair}

run_on : (s : Settings) (st : State) (ks js : List Call) → run s st (ks ++ js) ≡ run s (run s st ks) js
unfolding run
run_on s st [] js = refl
run_on s st (k ∷ ks) js = run_on s (call s st k).state ks js

-- from any network whose counts and settings are accepted by an opening, and that shows a state of a history
pub acts_shown : (s : Settings) (net : Network) (happened : List Act) → Kept s net → Invariant s (parts_of (shown s net)) → shown s (acts s net happened) ≡ run s (shown s net) (history_of s net happened)
unfolding acts history_of run
acts_shown s net [] kept inv = refl
acts_shown s net (a ∷ later) kept inv =
    let one = act_shown s net kept.passed kept.fair inv a in
    acts_shown s (act s net a) later (act_kept s net kept.passed kept.fair inv a) (subst (λ (st : State). Invariant s (parts_of st)) (sym one) (run_keeps s (shown s net) inv (calls_of s net a)))
    ∙ ap (λ (st : State). run s st (history_of s (act s net a) later)) one
    ∙ sym (run_on s (shown s net) (calls_of s net a) (history_of s (act s net a) later))

module _ (s : Settings) (lent : State) (e : (opening s lent).number ≡ 0) (happened : List Act) where
  abbrev st : State
  st = (opening s lent).state

  -- what the network is, and the history that it made
  abbrev pub net : Network
  net = acts s (started st) happened

  abbrev pub history : List Call
  history = history_of s (started st) happened

  start_kept : Kept s (started st)
  start_kept = record { passed = started_counts s lent e; fair = started_fair s st.words st.clients }

  start_invariant : Invariant s (parts_of (shown s (started st)))
  start_invariant = subst (λ (x : State). Invariant s (parts_of x)) (sym (shown_started s st)) (opening_invariant s lent e)

  -- the words are the history's, and so is every run's client, as soon as its operations are completed
  pub is_history : shown s net ≡ run s st history
  is_history = acts_shown s (started st) happened start_kept start_invariant ∙ ap (λ (x : State). run s x history) (shown_started s st)

  client_in_lem : (c : ℕ) → client_at (shown s net) c ≡ client_at (run s st history) c
  client_in_lem c = ap (λ (x : State). client_at x c) is_history

  -- of a run with nothing in flight it is the client that the run itself has
  pub client_of_history : (c : ℕ) → (run_at net c).flight ≡ free → client_on net c ≡ client_at (run s st history) c
  client_of_history c e = sym (shown_free s net c e) ∙ client_in_lem c

  record_in_lem : (c : ℕ) → (client_on net c).«record».phase ≡ 9 → record_at (run s st history) c ≡ (client_on net c).«record»
  record_in_lem c h = sym (ap (λ (v : Client). v.«record») (client_in_lem c)) ∙ shown_held s net c h

  -- ---- by clocks that are true, read in time

  module _ (clocks : ℕ → ℕ → ℕ) (true_clocks : (c : ℕ) → TrueClock s.wait (clocks c)) (in_time : InTime s clocks (started st) 0 happened) where
    abbrev moments : List Moments
    moments = moments_in s (started st) happened

    abbrev touch : ℕ → ℕ
    touch i = (moments_at moments i).touch

    abbrev reading : ℕ → ℕ
    reading i = (moments_at moments i).reading

    read_in_time : ReadApart s st history touch reading
    read_in_time =
        read_apart s clocks true_clocks 0 st history moments
        (subst (λ (x : State). EachRead s clocks 0 x history moments) (shown_started s st)
        (acts_read s clocks happened (started st) start_kept start_invariant (started_read s clocks st.words st.clients) 0 in_time))

    -- so all that is shown of histories is shown of runs: single holding by events
    pub runs_single_holding : SingleHolding (events s st history)
    runs_single_holding = read_apart_holding s lent e history touch reading read_in_time

    -- and by what the runs themselves know: no two different runs hold windows that overlap
    pub runs_apart : (c d l r k q : ℕ) → (c ≡ d → ⊥) → HoldsOwn net c l r → HoldsOwn net d k q → Overlap l r k q → ⊥
    runs_apart c d l r k q n x y o =
        let a = record_in_lem c x.held in
        let b = record_in_lem d y.held in
        records_apart s lent e history touch reading read_in_time c d n (ap (λ (v : Record). v.phase) a ∙ x.held) (ap (λ (v : Record). v.phase) b ∙ y.held)
        (record {
          unit = o.unit;
          low = omega (arith, ap (λ (v : Record). v.left) a, x.from, o.low);
          high = omega (arith, ap (λ (v : Record). v.right) a, x.to, o.high);
          other_low = omega (arith, ap (λ (v : Record). v.left) b, y.from, o.other_low);
          other_high = omega (arith, ap (λ (v : Record). v.right) b, y.to, o.other_high);
        })

  -- with any clocks, when all are idle the tree is clean
  pub runs_clean : ((c : ℕ) → IdleOwn net c) → Clean s net.words
  runs_clean idle =
      subst (Clean s) (sym (ap (λ (x : State). x.words) is_history))
      (records_clean s lent e history (λ c. ap (λ (v : Client). v.«record».phase) (sym (client_in_lem c) ∙ shown_free s net c (idle c).none) ∙ (idle c).idle))
