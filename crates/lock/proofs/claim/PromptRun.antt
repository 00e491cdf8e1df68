-- Laws: a run alone that loses no time has all its steps accepted and on time, where a later inner piece can wait for T within P; so it is held after as many steps as its pieces need, and
-- there are clocks that meet document 02's conditions. Assumes nothing.
use Rattle.std.specs.Prelude.{◌≡◌, refl, ◌≢◌, List, [], ◌∷◌, ◌++◌, ℕ, zero, suc, ◌+◌, ◌≤◌, length}
use Rattle.std.proofs.Common.{sym, subst, ◌∙◌, arith}
use Rattle.std.proofs.Math.Path.{ap}
use Rattle.std.proofs.Math.Bool.{not}
use borrow.Author.Tests.{eq-eqb, le-ltb, lt-leb}
use Rattle.base.specs.laws.ChoiceLaws.{on_choose, choose_eq, choose_ne, by_eq}
use Rattle.tree.specs.rules.Tree.{word_count}
use Rattle.lock.specs.declared.Record.{Record}
use Rattle.lock.specs.declared.Settings.{Settings}
use Rattle.lock.specs.rules.Records.{Phase, pieces, piece_at, word_at}
use Rattle.lock.specs.rules.Steps.{Moved, touched, moved}
use Rattle.lock.specs.laws.Rows.{claim_piece, moved_in}
use Rattle.lock.proofs.laws.Rows.{on_moved}
use Rattle.lock.specs.rules.Calls.{tree_tests, client_tests, step_tests}
use Rattle.lock.specs.rules.Table.{State, step, client_of, client_at, record_at, clock_at, own_tests, number_of, call}
use Rattle.lock.specs.rules.History.{events}
use Rattle.lock.specs.rules.StepCount.{steps_by, accepted_in, OnTime, AllOnTime, next_clock, next_step, counted}
use Rattle.lock.proofs.laws.CallLaws.{NoneTrue, none_true}
use Rattle.lock.proofs.laws.Phases.{on_phase}
use Rattle.lock.proofs.laws.Progress.{made, all_steps}
use Rattle.lock.proofs.laws.PromptLaws.{Prompt, prompt_on_time, prompt_later, prompt_step}
use Rattle.lock.proofs.laws.SettledLaws.{wait_some, patience_some}
use Rattle.lock.proofs.laws.ShortPatience.{Waits}
use Rattle.lock.proofs.laws.StepsLeft.{all_same, held_made, unheld_made}
use Rattle.lock.proofs.claim.OnItsWay.{OnItsWay, way_fit, way_ready, advances, own_next_lem, own_clock, kept, accepted_more}

-- only a record that returns finds a wanted bit clear
moved_number : (s : Settings) (r : Record) (w t : ℕ) → r.phase ≢ 10 → (moved s r w t).number ≡ 0
unfolding moved_in claim_piece
moved_number s r w t d =
    on_moved s r w (λ (m : Moved). m.number ≡ 0) t refl
    (on_phase r.phase (λ (p : Phase). (moved_in s r w t p).number ≡ 0)
    (λ _. refl) (λ _. refl) (λ _. refl) (λ _. refl) (λ _. refl) (λ _. on_choose (λ (m : Moved). m.number ≡ 0) _ _ _ (λ _. refl) (λ _. refl)) (λ _. refl) (λ _. refl) (λ _. refl)
    (λ _. refl) (λ e. absurd (d e)) (λ _. refl))

module _ (s : Settings) (st : State) (c : ℕ) (v : OnItsWay s st c) where
  abbrev r : Record
  r = record_at st c

  -- a step by a clock that does not go back is accepted
  way_accepted : (t : ℕ) → clock_at st c ≤ t → number_of s st (step c t) ≡ 0
  unfolding number_of tree_tests client_tests own_tests step_tests client_of NoneTrue
  way_accepted t b =
      let n = (moved s r (word_at st.words (touched s r t)) t).number in
      none_true (tree_tests s (length st.words) ++ (client_tests (length st.clients) c ++ step_tests s r st.words (clock_at st c) t)) (
        v.settings,
        (
          ap not (eq-eqb (length st.words) (word_count s.levels) v.inv.count),
          (
            v.clients,
            (
              lt-leb (length st.clients) c v.client,
              (le-ltb t (clock_at st c) b, ((way_fit s st c v).readable, (ap not (eq-eqb n 0 (moved_number s r _ t (λ e. omega (arith, v.going.most)))), tt))),
            ),
          ),
        ),
      )

  module _ (room : Waits s (pieces r)) (p : Prompt s r (clock_at st c)) where
    abbrev now : ℕ
    now = next_clock s (client_at st c)

    abbrev next : State
    next = (next_step s st c).state

    prompt_accepted : number_of s st (step c now) ≡ 0
    prompt_accepted = way_accepted now (prompt_later s r (clock_at st c) p)

    prompt_time : OnTime s r now
    unfolding piece_at
    prompt_time =
        prompt_on_time s r (clock_at st c) p (wait_some s v.settings) (patience_some s v.settings) (λ k. room r.current k.0 (way_ready s st c v).active.exists k.1)
        (way_ready s st c v) v.going

    prompt_kept : r.phase ≢ 9 → Prompt s (record_at next c) (clock_at next c)
    prompt_kept d =
        subst (λ (t : ℕ). Prompt s (record_at next c) t) (sym (own_clock s st c v now prompt_accepted))
        (subst (λ (x : Record). Prompt s x now) (sym (own_next_lem s st c v now prompt_accepted prompt_time)) (prompt_step s r (clock_at st c) p v.inv.settled (way_ready s st c v) _ v.going d))

-- ---- the steps counted

counted_more : (s : Settings) (st : State) (c most : ℕ) → (record_at st c).phase ≢ 9 → number_of s st (step c (next_clock s (client_at st c))) ≡ 0
    → counted (suc most) s st c ≡ suc (counted most s (next_step s st c).state c)
unfolding counted call
counted_more s st c most d z =
    let rest = counted most s (next_step s st c).state c in
    choose_ne (record_at st c).phase 9 0 _ d ∙ ap (λ (k : ℕ). k + rest) (choose_eq {A = ℕ} (number_of s st (step c (next_clock s (client_at st c)))) 0 1 0 z)
    ∙ (let e : 1 + rest ≡ suc rest = omega arith in e)

pub counted_all : (s : Settings) (c most : ℕ) (st : State) → OnItsWay s st c → Waits s (pieces (record_at st c)) → Prompt s (record_at st c) (clock_at st c)
    → all_steps s (record_at st c) ≤ made s (record_at st c) + most → made s (record_at st c) + counted most s st c ≡ all_steps s (record_at st c)
unfolding counted
counted_all s c zero st v room p b =
    let r = record_at st c in
    let g = way_ready s st c v in
    by_eq r.phase 9 (λ e. omega (arith, held_made s r (clock_at st c) g e)) (λ d. absurd (omega (arith, unheld_made s r (clock_at st c) g v.going d)))
counted_all s c (suc most) st v room p b =
    let r = record_at st c in
    by_eq r.phase 9
    (λ e. let none : counted (suc most) s st c ≡ 0 = choose_eq r.phase 9 0 _ e in omega (arith, held_made s r (clock_at st c) (way_ready s st c v) e))
    (λ d.
    let z = prompt_accepted s st c v room p in
    let t = next_clock s (client_at st c) in
    let next = (next_step s st c).state in
    let more = advances s st c v t z d (prompt_time s st c v room p) in
    let rest = counted_all s c most next (kept s st c v t more.going) (subst (Waits s) (sym more.pieces_same) room) (prompt_kept s st c v room p d) (omega (arith, more.one_more, all_same s r (record_at next c) more.pieces_same)) in
    let one = counted_more s st c most d z in
    omega (arith, more.one_more, all_same s r (record_at next c) more.pieces_same))

-- ---- the clocks of such a run

unfoldable pub prompt_clocks : ℕ → Settings → State → ℕ → List ℕ
prompt_clocks zero s st c = []
prompt_clocks (suc k) s st c = next_clock s (client_at st c) ∷ prompt_clocks k s (next_step s st c).state c

pub prompt_all : (s : Settings) (c k : ℕ) (st : State) → OnItsWay s st c → Waits s (pieces (record_at st c)) → Prompt s (record_at st c) (clock_at st c)
    → made s (record_at st c) + k ≤ all_steps s (record_at st c)
    → AllOnTime s st c (prompt_clocks k s st c) × (accepted_in (events s st (steps_by c (prompt_clocks k s st c))) ≡ k)
unfolding prompt_clocks AllOnTime steps_by events accepted_in
prompt_all s c zero st v room p b = (tt, refl)
prompt_all s c (suc k) st v room p b =
    let r = record_at st c in
    let d : r.phase ≢ 9 = λ e. omega (arith, held_made s r (clock_at st c) (way_ready s st c v) e) in
    let z = prompt_accepted s st c v room p in
    let t = next_clock s (client_at st c) in
    let next = (next_step s st c).state in
    let time = prompt_time s st c v room p in
    let more = advances s st c v t z d time in
    let rest = prompt_all s c k next (kept s st c v t more.going) (subst (Waits s) (sym more.pieces_same) room) (prompt_kept s st c v room p d) (omega (arith, more.one_more, all_same s r (record_at next c) more.pieces_same)) in
    ((λ _. time, rest.0), accepted_more s st c t (prompt_clocks k s next c) z ∙ ap suc rest.1)
