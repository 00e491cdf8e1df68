-- Laws: every call of a history keeps the invariant. Assumes nothing.
use Rattle.std.specs.Prelude.{◌≡◌, ◌≢◌, Bool, List, [], ◌∷◌, ℕ, ◌≤◌, ◌<◌, eqb, length}
use Rattle.std.proofs.Math.Path.{refl, subst}
use Rattle.std.proofs.Common.{sym, ap, ◌∙◌, inl, inr, eqb→eq}
use Rattle.std.proofs.Math.Bool.{true, false}
use native.Mathlib.Omega.{arith}
use Rattle.base.specs.rules.Choice.{choose}
use Rattle.base.specs.laws.ChoiceLaws.{on_choose}
use Rattle.lock.specs.declared.Record.{Record}
use Rattle.lock.specs.declared.Settings.{Settings}
use Rattle.lock.specs.rules.Records.{Phase, phase_of, word_at, written}
use Rattle.lock.proofs.laws.Phases.{on_phase}
use Rattle.lock.specs.rules.Steps.{Moved, touched_in, own_touched, out_of_patience, touched, moved, given_up}
use Rattle.lock.specs.laws.Rows.{moved_in, leaves, own_moved}
use Rattle.lock.proofs.laws.Rows.{moved_chosen}
use Rattle.lock.specs.rules.Calls.{requested, released, cancelled}
use Rattle.lock.specs.rules.Table.{State, Call, request, step, release, cancel, client_of, record_at, clock_at, with_client, number_of, after, call}
use Rattle.lock.specs.rules.History.{run}
use Rattle.lock.proofs.laws.Accepted.{Tested, accepted, request_tested, step_tested, release_tested, cancel_tested}
use Rattle.lock.proofs.laws.PatienceLaws.{out_of_patience_lem}
use Rattle.lock.proofs.laws.Ready.{Ready}
use Rattle.lock.proofs.claim.Fit.{fit_later, fit_ready}
use Rattle.lock.proofs.claim.Parts.{record_in, parts_of, record_at_lem, records_count, on_parts, clock_own, clock_other}
use Rattle.lock.proofs.claim.Invariant.{Invariant}
use Rattle.lock.proofs.claim.Forward.{fit_empty}
use Rattle.lock.proofs.claim.Keeps.{Keeps, keeps_invariant, keeps_stay, occ_none, notice_none}
use Rattle.lock.proofs.claim.NoWord.{request_keeps, release_keeps, cancel_keeps, out_of_patience_keeps}
use Rattle.lock.proofs.claim.Climbing.{ticket_keeps, turn_keeps, ancestor_node, blocked_keeps, climb_keeps}
use Rattle.lock.proofs.claim.Claiming.{claim_keeps}
use Rattle.lock.proofs.claim.Notifying.{notify_keeps}
use Rattle.lock.proofs.claim.Checking.{wait_keeps, checked_node, check_keeps}
use Rattle.lock.proofs.claim.Returning.{returning_keeps}

-- ---- the calls

module _ (s : Settings) (st : State) (inv : Invariant s (parts_of st)) (c : ℕ) where
  abbrev r : Record
  r = record_in (parts_of st) c

  abbrev rs : List Record
  rs = (parts_of st).records

  abbrev last : ℕ
  last = clock_at st c

  prepared : r.phase ≢ 0 → Ready s r last
  prepared = fit_ready s r last (inv.fit c) inv.settled

  -- the work of an accepted step, phase by phase
  module _ (t : ℕ) (later : last ≤ t) where
    abbrev at : Phase → ℕ
    at p = touched_in s r p

    abbrev found : Phase → ℕ
    found p = word_at st.words (at p)

    abbrev Owed : Phase → Type 0
    Owed p = (moved_in s r (found p) t p).number ≡ 0 → Keeps s rs r (at p) (found p) (moved_in s r (found p) t p).word (moved_in s r (found p) t p).next t

    stays : (w : ℕ) → Keeps s rs r 0 w w r t
    stays w = keeps_stay s rs r 0 w last t later (inv.fit c) (λ d. absurd (d refl))

    own_keeps : Owed (phase_of r.phase)
    unfolding touched_in moved_in
    own_keeps =
        let g = inv.settled in
        let fit = inv.fit c in
        on_phase r.phase Owed
        (λ e _. stays _)
        (λ e _. let d : r.phase ≢ 0 = λ z. omega arith in ticket_keeps s rs r last t later g (prepared d) fit _ e)
        (λ e _. let d : r.phase ≢ 0 = λ z. omega arith in turn_keeps s rs r last t later g (prepared d) fit _ e)
        (λ e _. let d : r.phase ≢ 0 = λ z. omega arith in
        let rd = prepared d in
        let b = rd.active.climbing (inl e) in
        let n = ancestor_node s rs r last t later g rd fit 0 b in
        climb_keeps s rs r last t later g rd fit _ b e (λ z. occ_none s (parts_of st) inv _ n.0 n.1 z))
        (λ e _. let d : r.phase ≢ 0 = λ z. omega arith in
        let rd = prepared d in
        blocked_keeps s rs r last t later g rd fit _ (rd.active.climbing (inr e)) e)
        (λ e _. let d : r.phase ≢ 0 = λ z. omega arith in claim_keeps s rs r last t later g (prepared d) fit _ e)
        (λ e _. let d : r.phase ≢ 0 = λ z. omega arith in notify_keeps s rs r last t later g (prepared d) _ e)
        (λ e _. let d : r.phase ≢ 0 = λ z. omega arith in wait_keeps s rs r last t later g (prepared d) fit _ e)
        (λ e _. let d : r.phase ≢ 0 = λ z. omega arith in
        let n = checked_node s rs r last t later g (prepared d) fit 0 e in
        check_keeps s rs r last t later g (prepared d) fit _ e (λ z. notice_none s (parts_of st) inv _ n.0 n.1 z))
        (λ e _. stays _)
        (λ e. let d : r.phase ≢ 0 = λ z. omega arith in returning_keeps s rs r last t later g (prepared d) fit e (word_at st.words))
        (λ b _. stays _)

    -- the work of the phase, or none where patience has run out: by the test, whatever it gives
    step_by : (out : Bool) → (out ≡ true → Keeps s rs r 0 (word_at st.words 0) (word_at st.words 0) (given_up r) t)
        → let x = choose out 0 (own_touched s r) in
        let m = choose out (leaves (word_at st.words x) (given_up r)) (own_moved s r (word_at st.words x) t) in
        m.number ≡ 0 → Keeps s rs r x (word_at st.words x) m.word m.next t
    unfolding choose
    step_by true f e = f refl
    step_by false f e = own_keeps e

    pub step_keeps : let w = word_at st.words (touched s r t) in (moved s r w t).number ≡ 0 → Keeps s rs r (touched s r t) w (moved s r w t).word (moved s r w t).next t
    step_keeps =
        let x = touched s r t in
        let w = word_at st.words x in
        subst (λ (m : Moved). m.number ≡ 0 → Keeps s rs r x w m.word m.next t) (sym (moved_chosen s r w t))
        (step_by (out_of_patience s r t)
        (λ e. let v = out_of_patience_lem s r t e in
        let rd = fit_ready s r t (fit_later s r last (inv.fit c) t later) inv.settled (λ z. omega (arith, v.begun)) in
        out_of_patience_keeps s rs r t inv.settled rd (λ z. omega (arith, v.untaken)) (word_at st.words 0) v.later))

  -- what a call on node x leaves in the table
  after_keeps : c < length st.clients → (x v t : ℕ) (q : Record) → Keeps s rs r x (word_at st.words x) v q t → Invariant s (parts_of (with_client st (written st.words x v) c t q))
  after_keeps client x v t q f =
      let words = written st.words x v in
      on_parts st words c t q (Invariant s)
      (keeps_invariant s (parts_of st) c x v q (clock_at (with_client st words c t q)) t inv (rw (records_count st.clients) client) (clock_own st words c t q client) (clock_other st words c t q) f)

  phase_at_lem : (p : ℕ) → (record_at st c).phase ≡ p → r.phase ≡ p
  phase_at_lem p e = ap (λ (x : Record). x.phase) (record_at_lem st c) ∙ e

  abbrev NoWord : Record → Type 0
  NoWord q = Invariant s (parts_of (with_client st st.words c last q))

  -- a call that touches no word, and makes of the record what f says
  quiet_keeps : c < length st.clients → (f : Record → Record) → Keeps s rs r 0 (word_at st.words 0) (word_at st.words 0) (f r) last → NoWord (f (record_at st c))
  unfolding written
  quiet_keeps client f v = subst (λ (x : Record). NoWord (f x)) (record_at_lem st c) (after_keeps client 0 (word_at st.words 0) last (f r) v)

  abbrev pub stepped : Record → ℕ → State
  stepped x t = with_client st (written st.words (touched s x t) (moved s x (word_at st.words (touched s x t)) t).word) c t (moved s x (word_at st.words (touched s x t)) t).next

  -- an accepted step, of the record in the table
  pub stepped_by : (t : ℕ) → Tested s st (step c t) → Keeps s rs r (touched s r t) (word_at st.words (touched s r t)) (moved s r (word_at st.words (touched s r t)) t).word (moved s r (word_at st.words (touched s r t)) t).next t
  stepped_by t a =
      let b = step_tested s st c t a.own in
      step_keeps t b.0 (subst (λ (x : Record). (moved s x (word_at st.words (touched s x t)) t).number ≡ 0) (sym (record_at_lem st c)) b.2)

-- what an accepted call leaves has the invariant
pub accepted_keeps : (s : Settings) (st : State) → Invariant s (parts_of st) → (k : Call) → number_of s st k ≡ 0 → Invariant s (parts_of (after s st k))
unfolding after client_of
accepted_keeps s st inv (request c l r) e =
    let a = accepted s st (request c l r) e in
    let b = request_tested s st c l r a.own in
    quiet_keeps s st inv c a.client (λ _. requested s l r)
    (request_keeps s inv.settled l r b.1 _ _ (clock_at st c) (fit_empty s (record_in (parts_of st) c) (clock_at st c) (inv.fit c) (phase_at_lem s st inv c 0 b.2)) (word_at st.words 0))
accepted_keeps s st inv (step c t) e =
    let a = accepted s st (step c t) e in
    subst (λ (x : Record). Invariant s (parts_of (stepped s st inv c x t))) (record_at_lem st c) (after_keeps s st inv c a.client _ _ t _ (stepped_by s st inv c t a))
accepted_keeps s st inv (release c) e =
    let a = accepted s st (release c) e in
    let p = phase_at_lem s st inv c 9 (release_tested s st c a.own).1 in
    quiet_keeps s st inv c a.client released
    (release_keeps s _ _ (clock_at st c) inv.settled (prepared s st inv c (λ z. omega (arith, p))) (λ z. omega (arith, p)) (word_at st.words 0) p)
accepted_keeps s st inv (cancel c) e =
    let a = accepted s st (cancel c) e in
    let b = cancel_tested s st c a.own in
    let other : (p : ℕ) → (record_at st c).phase ≢ p → (record_in (parts_of st) c).phase ≢ p = λ p d z. d (ap (λ (x : Record). x.phase) (sym (record_at_lem st c)) ∙ z) in
    quiet_keeps s st inv c a.client cancelled
    (cancel_keeps s _ _ (clock_at st c) inv.settled (prepared s st inv c (other 0 b.1)) (other 10 b.3) (word_at st.words 0) (other 9 b.2))

pub call_keeps : (s : Settings) (st : State) → Invariant s (parts_of st) → (k : Call) → Invariant s (parts_of (call s st k).state)
unfolding call
call_keeps s st inv k =
    on_choose (λ (x : State). Invariant s (parts_of x)) (eqb (number_of s st k) 0) (after s st k) st (λ t. accepted_keeps s st inv k (eqb→eq (number_of s st k) 0 t)) (λ _. inv)

pub run_keeps : (s : Settings) (st : State) → Invariant s (parts_of st) → (ks : List Call) → Invariant s (parts_of (run s st ks))
unfolding run
run_keeps s st inv [] = inv
run_keeps s st inv (k ∷ ks) = run_keeps s (call s st k).state (call_keeps s st inv k) ks
