-- Request 2.4, proved: from every state of a history in which all clients are idle, a client whose request is accepted is held after as many accepted steps as `step_count` counts, and
-- not before, by any clocks that meet document 02's conditions. Where a later inner piece can wait for T within P there are such clocks, and no other number would do; where it can not,
-- none of them leads to held. Assumes nothing.
use Rattle.std.specs.Prelude.{◌≡◌, ◌≢◌, false, ◌||◌, ℕ, zero, suc, ◌≤◌, ◌<◌}
use Rattle.std.proofs.Math.Path.{refl, ap, subst}
use Rattle.std.proofs.Common.{sym, ◌∙◌, eq-eqb}
use Rattle.std.proofs.Math.Bool.{not}
use mathlib.Core.List.{List, [], ◌∷◌, ◌++◌}
use native.Mathlib.Omega.{arith}
use Rattle.std.proofs.Math.Dec.{ltb}
use Rattle.std.proofs.Math.ListN.{length, get_or, replicate}
use Rattle.std.proofs.lemmas.List.{length-replicate}
use Rattle.base.specs.laws.ChoiceLaws.{by_lt}
use Rattle.base.specs.laws.Sum.{sum_le, sum_to}
use Rattle.tree.specs.rules.Tree.{level, word_count}
use Rattle.tree.proofs.laws.Level.{level_pos}
use Rattle.cover.specs.rules.Answer.{window_outside}
use Rattle.lock.specs.declared.Record.{Record}
use Rattle.lock.specs.declared.Settings.{Settings}
use Rattle.lock.specs.rules.Records.{phase_of, cover_of, pieces, piece_at, current_piece, idle_with, idle_client}
use Rattle.lock.specs.rules.Unreadable.{unreadable}
use Rattle.lock.specs.rules.Steps.{start_phase}
use Rattle.lock.specs.rules.Calls.{clients_outside, client_tests, tree_tests, levels_or_distance_outside, request_tests, requested, settings_outside}
use Rattle.lock.specs.rules.Table.{State, Call, request, client_of, client_at, record_at, clock_at, own_tests, number_of, call, opening_number, opened, opening}
use Rattle.lock.specs.rules.History.{run, events, Idle}
use Rattle.lock.specs.rules.StepCount.{steps_by, accepted_in, AllOnTime, HeldAfter, counted, idle_tree, alone_with, step_count}
use Rattle.lock.proofs.laws.Accepted.{accepted, request_tested}
use Rattle.lock.specs.laws.Active.{Settled}
use Rattle.lock.proofs.laws.CallLaws.{NoneTrue, none_true}
use Rattle.lock.proofs.laws.Pieces.{piece_first}
use Rattle.lock.specs.laws.PieceSteps.{piece_steps, cover_steps}
use Rattle.lock.proofs.laws.PieceSteps.{steps_few}
use Rattle.lock.proofs.laws.Progress.{made, all_steps, Going, made_at, start_made}
use Rattle.lock.proofs.laws.PromptLaws.{Prompt, prompt_begun}
use Rattle.lock.proofs.laws.SettledLaws.{in_range}
use Rattle.lock.proofs.laws.ShortPatience.{Unwaited, Waits, unwaited_first}
use Rattle.lock.proofs.laws.StepsLeft.{all_cover}
use Rattle.lock.proofs.laws.WhenReadable.{readable_idle}
use Rattle.lock.proofs.claim.AfterCall.{record_after, own_record, on_call, count_after}
use Rattle.lock.proofs.claim.HistoryRecord.{all_idle}
use Rattle.lock.proofs.claim.Invariant.{Invariant}
use Rattle.lock.proofs.claim.Keeping.{call_keeps, run_keeps}
use Rattle.lock.proofs.claim.OnItsWay.{OnItsWay, way_fit, way_held, way_ready, way_short}
use Rattle.lock.proofs.claim.Parts.{parts_of}
use Rattle.lock.proofs.claim.PromptRun.{counted_all, prompt_clocks, prompt_all}
use Rattle.lock.proofs.claim.Stage.{piece_level}
use Rattle.lock.proofs.claim.Start.{opened_invariant, opening_idle, opening_invariant}

-- ---- after an accepted request, where all clients are idle

module _ (s : Settings) (st : State) (inv : Invariant s (parts_of st)) (idle : (d : ℕ) → (record_at st d).phase ≡ 0) (c l r : ℕ) (z : number_of s st (request c l r) ≡ 0) where
  abbrev asked : State
  asked = (call s st (request c l r)).state

  own : record_at asked c ≡ requested s l r
  unfolding record_after client_of
  own = own_record s st (request c l r) c z refl

  begun : Going (requested s l r) × (made s (requested s l r) ≡ 0)
  unfolding requested sum_to
  begun =
      let q = requested s l r in
      let v = start_made s q refl (ap (start_phase s) (sym (piece_first q))) in
      (v.0, omega (arith, made_at s q (phase_of q.phase) refl, v.1))

  prompt : (t : ℕ) → Prompt s (record_at asked c) t
  unfolding requested
  prompt t = subst (λ (q : Record). Prompt s q t) (sym own) (prompt_begun s (requested s l r) t refl (λ b. absurd (omega arith)) (ap (start_phase s) (sym (piece_first (requested s l r)))))

  way : OnItsWay s asked c
  unfolding client_of
  way =
      let a = accepted s st (request c l r) z in
      record {
        settings = a.settings;
        inv = call_keeps s st inv (request c l r);
        clients = ap clients_outside (count_after s st (request c l r)) ∙ a.clients;
        client = omega (arith, count_after s st (request c l r), a.client);
        others = λ d n. on_call s st (λ (x : Record). x.phase ≡ 0) (request c l r) d (idle d) (λ _ e. absurd (n (sym e)));
        going = subst Going (sym own) begun.0;
      }

  made_none : made s (record_at asked c) ≡ 0
  made_none = ap (made s) own ∙ begun.1

  own_pieces : pieces (record_at asked c) ≡ cover_of s l r
  unfolding requested
  own_pieces = (way_ready s asked c way).active.cover ∙ ap (λ (q : Record). cover_of s q.left q.right) own

  all_needed : all_steps s (record_at asked c) ≡ cover_steps s.levels s.distance (cover_of s l r)
  all_needed = all_cover s (record_at asked c) ∙ ap (cover_steps s.levels s.distance) own_pieces

  -- its record is readable, and not idle
  asked_readable : (last : ℕ) × (unreadable s (requested s l r) last ≡ false) × ((requested s l r).phase ≡ 0 → ⊥)
  asked_readable = (clock_at asked c, subst (λ (q : Record). unreadable s q (clock_at asked c) ≡ false) own (way_fit s asked c way).readable, λ e. omega (arith, begun.0.some))

  asked_held : (n : ℕ) → cover_steps s.levels s.distance (cover_of s l r) ≡ n → HeldAfter s asked c n
  asked_held n e clocks time =
      let held = way_held s c clocks asked way made_none time in
      (λ b. held.0 (omega (arith, all_needed)), λ b. held.1 (omega (arith, all_needed)))

  -- no window needs as many as 1,000
  all_few : cover_steps s.levels s.distance (cover_of s l r) ≤ 1000
  unfolding piece_at
  all_few =
      let q = record_at asked c in
      let g = inv.settled in
      let ready = way_ready s asked c way in
      let each : (i : ℕ) → piece_steps s.levels s.distance (get_or (pieces q) i 0) ≤ 250
      = λ i. omega (
        arith,
        steps_few s.levels s.distance (piece_at q i) (record {
          m_some = g.distance_some;
          m_most = g.distance_most;
          d_some = level_pos (piece_at q i);
          d_most = omega (arith, piece_level s q (clock_at asked c) g (way_fit s asked c way) i, g.levels_most);
        }),
      ) in
      omega (arith, sum_le (piece_steps s.levels s.distance) 250 0 (pieces q) each, ready.active.few, ap (cover_steps s.levels s.distance) own_pieces)

  counted_needed : Waits s (cover_of s l r) → counted 1000 s asked c ≡ cover_steps s.levels s.distance (cover_of s l r)
  counted_needed waits =
      omega (arith, counted_all s c 1000 asked way (subst (Waits s) (sym own_pieces) waits) (prompt (clock_at asked c)) (omega (arith, all_needed, all_few)), made_none, all_needed)

  -- clocks that are on time, of which any number is accepted until it is held
  asked_clocks : Waits s (cover_of s l r) → (k : ℕ) → k ≤ cover_steps s.levels s.distance (cover_of s l r)
      → (clocks : List ℕ) × AllOnTime s asked c clocks × (accepted_in (events s asked (steps_by c clocks)) ≡ k)
  asked_clocks waits k b =
      let met = prompt_all s c k asked way (subst (Waits s) (sym own_pieces) waits) (prompt (clock_at asked c)) (omega (arith, made_none, all_needed)) in
      (prompt_clocks k s asked c, met.0, met.1)

  -- where P is at most T, and a later piece is an inner node, no clocks that are on time lead to held
  asked_unheld : s.patience ≤ s.wait → (i : ℕ) → 0 < i → i < length (cover_of s l r) → level (get_or (cover_of s l r) i 0) ≢ s.levels
      → (clocks : List ℕ) → AllOnTime s asked c clocks → (record_at (run s asked (steps_by c clocks)) c).phase ≢ 9
  unfolding piece_at requested
  asked_unheld short i some within inner clocks time e =
      let end = run s asked (steps_by c clocks) in
      let q = record_at end c in
      let first = subst (Unwaited s) (sym own) (unwaited_first s (requested s l r) refl) in
      let v = way_short s short c clocks asked way first time in
      let same : pieces q ≡ cover_of s l r = v.2 ∙ own_pieces in
      let ready_q = way_ready s end c v.0 in
      let last : q.current ≡ i = omega (arith, ready_q.whole e, ready_q.active.exists, ready_q.active.few, ap length same) in
      let piece : current_piece q ≡ get_or (cover_of s l r) i 0 = λ j. get_or (same j) (last j) 0 in
      v.1.unheld (omega arith, λ z. inner (ap level (sym piece) ∙ z)) e

-- ---- the run in which `step_count` counts: one client, on a fresh tree

idle_alone : (h d : ℕ) → (record_at (idle_tree h) d).phase ≡ 0
unfolding client_at
idle_alone h zero = refl
idle_alone h (suc d) = refl

module _ (h m l r : ℕ) (inside : levels_or_distance_outside h m ≡ false) (window : window_outside h l r ≡ false) where
  abbrev s : Settings
  s = alone_with h m

  abbrev st : State
  st = idle_tree h

  settings_in_lem : settings_outside s ≡ false
  unfolding settings_outside
  settings_in_lem = ap (λ b. b || ltb 1 1 || ltb 4294967295 1 || ltb 4294967295 1 || ltb 4294967295 4294967295) inside

  whole : length st.words ≡ word_count h
  whole = length-replicate (word_count h) 0

  opens : opening_number s (length st.words) 1 ≡ 0
  unfolding opening_number tree_tests clients_outside NoneTrue
  opens = none_true (tree_tests s (length st.words) ++ ((clients_outside 1, 3) ∷ [])) (settings_in_lem, (ap not (eq-eqb (length st.words) (word_count h) whole), (refl, tt)))

  fresh : Invariant s (parts_of st)
  unfolding opened
  fresh = subst (λ (n : ℕ). Invariant s (parts_of (record { words = replicate n 0; clients = idle_client ∷ [] }))) whole (opened_invariant s st opens)

  request_accepted : number_of s st (request 0 l r) ≡ 0
  unfolding number_of tree_tests client_tests own_tests request_tests client_of client_at clients_outside NoneTrue
  request_accepted =
      none_true (tree_tests s (length st.words) ++ (client_tests 1 0 ++ request_tests s (idle_with 0) 0 l r))
      (settings_in_lem, (ap not (eq-eqb (length st.words) (word_count h) whole), (refl, (refl, (readable_idle s 0 0 (omega arith), (window, (refl, tt)))))))

  pub fresh_settled : Settled (alone_with h m)
  fresh_settled = fresh.settled

  pub fresh_readable : (last : ℕ) × (unreadable (alone_with h m) (requested (alone_with h m) l r) last ≡ false) × ((requested (alone_with h m) l r).phase ≡ 0 → ⊥)
  fresh_readable = asked_readable s st fresh (idle_alone h) 0 l r request_accepted

  -- the sum over the pieces of what each needs
  pub step_count_lem : step_count h m l r ≡ cover_steps h m (cover_of (alone_with h m) l r)
  unfolding step_count
  step_count_lem = counted_needed s st fresh (idle_alone h) 0 l r request_accepted (λ _ _ _ _. omega arith)

-- ---- any run alone, after any history

module _ (s : Settings) (lent : State) (e : (opening s lent).number ≡ 0) (ks : List Call)
    (all : (d : ℕ) → d < length (opening s lent).state.clients → Idle (events s (opening s lent).state ks) d)
    (c l r : ℕ) (z : number_of s (run s (opening s lent).state ks) (request c l r) ≡ 0) where
  abbrev reached : State
  reached = run s (opening s lent).state ks

  reached_keeps : Invariant s (parts_of reached)
  reached_keeps = run_keeps s (opening s lent).state (opening_invariant s lent e) ks

  reached_idle : (d : ℕ) → (record_at reached d).phase ≡ 0
  reached_idle = all_idle s (opening s lent).state ks (opening_idle s lent e) all

  reached_count : step_count s.levels s.distance l r ≡ cover_steps s.levels s.distance (cover_of s l r)
  reached_count =
      let a = accepted s reached (request c l r) z in
      step_count_lem s.levels s.distance l r (in_range s a.settings) (request_tested s reached c l r a.own).1

  -- held after so many accepted steps, and not before
  pub steps_to_held : HeldAfter s (call s reached (request c l r)).state c (step_count s.levels s.distance l r)
  steps_to_held = asked_held s reached reached_keeps reached_idle c l r z _ (sym reached_count)

  -- where a later inner piece can wait for T within P there are clocks that meet the conditions, by which just so many steps are accepted
  pub clocks_on_time : Waits s (cover_of s l r) → let asked = (call s reached (request c l r)).state in
      (clocks : List ℕ) × AllOnTime s asked c clocks × (accepted_in (events s asked (steps_by c clocks)) ≡ step_count s.levels s.distance l r)
  clocks_on_time waits = asked_clocks s reached reached_keeps reached_idle c l r z waits _ (omega (arith, reached_count))

  -- and no other number would do
  pub only_count : Waits s (cover_of s l r) → (n : ℕ) → HeldAfter s (call s reached (request c l r)).state c n → n ≡ step_count s.levels s.distance l r
  only_count waits n held =
      let k = step_count s.levels s.distance l r in
      let clocks = asked_clocks s reached reached_keeps reached_idle c l r z waits in
      by_lt n k
      (λ b. let some = clocks n (omega (arith, reached_count)) in absurd ((steps_to_held some.0 some.1).1 (omega (arith, some.2)) ((held some.0 some.1).0 (omega (arith, some.2)))))
      (λ b. by_lt k n
      (λ d. let some = clocks k (omega (arith, reached_count)) in absurd ((held some.0 some.1).1 (omega (arith, some.2)) ((steps_to_held some.0 some.1).0 (omega (arith, some.2)))))
      (λ d. omega arith))

  -- where P is at most T, and a later piece is an inner node, no clocks that are on time lead to held
  pub none_on_time : s.patience ≤ s.wait → (i : ℕ) → 0 < i → i < length (cover_of s l r) → level (get_or (cover_of s l r) i 0) ≢ s.levels
      → let asked = (call s reached (request c l r)).state in
      (clocks : List ℕ) → AllOnTime s asked c clocks → (record_at (run s asked (steps_by c clocks)) c).phase ≢ 9
  none_on_time = asked_unheld s reached reached_keeps reached_idle c l r z
