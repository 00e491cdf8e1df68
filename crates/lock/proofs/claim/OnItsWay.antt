-- Laws: a client alone, on its way to held: each accepted step that is on time takes it one step further, and it is held after as many as its pieces need, and not before. Assumes
-- nothing.
use Rattle.std.specs.Prelude.{◌≡◌, ◌≢◌, false, List, [], ◌∷◌, length}
use Rattle.std.proofs.Math.Path.{refl, sym, ap}
use Rattle.std.proofs.Common.{subst, ◌∙◌}
use Prim.Native.Nat.{ℕ, suc, ◌+◌, ◌≤◌, ◌<◌}
use native.Mathlib.Omega.{arith}
use Rattle.base.specs.laws.ChoiceLaws.{choose_eq, choose_ne, by_eq}
use Rattle.lock.specs.declared.Record.{Record}
use Rattle.lock.specs.declared.Settings.{Settings}
use Rattle.lock.specs.rules.Records.{phase_of, pieces, word_at}
use Rattle.lock.specs.rules.Steps.{touched_in, moved}
use Rattle.lock.specs.laws.Rows.{moved_in}
use Rattle.lock.specs.rules.Calls.{clients_outside, settings_outside}
use Rattle.lock.specs.rules.Table.{State, step, client_of, record_at, clock_at, number_of, after, call}
use Rattle.lock.specs.rules.History.{run, events}
use Rattle.lock.specs.rules.StepCount.{steps_by, accepted_in, OnTime, AllOnTime}
use Rattle.lock.proofs.laws.Accepted.{accepted, step_tested}
use Rattle.lock.proofs.laws.Advancing.{step_on}
use Rattle.lock.proofs.laws.PatienceLaws.{own_touched_lem, own_moved_lem}
use Rattle.lock.proofs.laws.Progress.{made, all_steps, Going, Free, Advanced}
use Rattle.lock.proofs.laws.Ready.{Ready}
use Rattle.lock.proofs.laws.ShortPatience.{Unwaited, step_unwaited}
use Rattle.lock.proofs.laws.StepsLeft.{all_same, held_made, unheld_made}
use Rattle.lock.proofs.claim.AfterCall.{record_after, own_record, on_call, count_after}
use Rattle.lock.proofs.claim.Alone.{free}
use Rattle.lock.proofs.claim.Fit.{Fit, fit_ready}
use Rattle.lock.proofs.claim.HistoryRecord.{step_held}
use Rattle.lock.proofs.claim.Invariant.{Invariant}
use Rattle.lock.proofs.claim.Keeping.{call_keeps}
use Rattle.lock.proofs.claim.Parts.{parts_of, record_at_lem, records_count, clock_own}

-- ---- a client alone on its way to held

pub record OnItsWay (s : Settings) (st : State) (c : ℕ) : Type 0 where
  pub settings : settings_outside s ≡ false
  pub inv : Invariant s (parts_of st)
  pub clients : clients_outside (length st.clients) ≡ false
  pub client : c < length st.clients
  pub others : (d : ℕ) → d ≢ c → (record_at st d).phase ≡ 0
  pub going : Going (record_at st c)

module _ (s : Settings) (st : State) (c : ℕ) (v : OnItsWay s st c) where
  abbrev r : Record
  r = record_at st c

  pub way_fit : Fit s r (clock_at st c)
  way_fit = subst (λ (x : Record). Fit s x (clock_at st c)) (record_at_lem st c) (v.inv.fit c)

  pub way_ready : Ready s r (clock_at st c)
  way_ready = fit_ready s r (clock_at st c) way_fit v.inv.settled (λ e. omega (arith, v.going.some))

  -- nothing that it finds hinders it
  way_free : Free s r (word_at st.words (touched_in s r (phase_of r.phase)))
  way_free =
      let p = parts_of st in
      let e = record_at_lem st c in
      subst (λ (x : Record). Free s x (word_at st.words (touched_in s x (phase_of x.phase)))) e
      (free s p v.inv c (rw (records_count st.clients) v.client) (λ d n. ap (λ (x : Record). x.phase) (record_at_lem st d) ∙ v.others d n)
      (subst (λ (x : Record). Ready s x (clock_at st c)) (sym e) way_ready) (subst Going (sym e) v.going))

  module _ (t : ℕ) where
    abbrev next : State
    next = (call s st (step c t)).state

    pub kept : Going (record_at next c) → OnItsWay s next c
    unfolding client_of
    kept g = record {
      settings = v.settings;
      inv = call_keeps s st v.inv (step c t);
      clients = ap clients_outside (count_after s st (step c t)) ∙ v.clients;
      client = omega (arith, count_after s st (step c t), v.client);
      others = λ d n. on_call s st (λ (x : Record). x.phase ≡ 0) (step c t) d (v.others d n) (λ _ e. absurd (n (sym e)));
      going = g;
    }

    module _ (z : number_of s st (step c t) ≡ 0) where
      -- held, it stays as it is
      stays : r.phase ≡ 9 → record_at next c ≡ r
      unfolding client_of
      stays e = own_record s st (step c t) c z refl ∙ step_held s st c t e

      -- the work of its phase
      pub own_next_lem : OnTime s r t → record_at next c ≡ (moved_in s r (word_at st.words (touched_in s r (phase_of r.phase))) t (phase_of r.phase)).next
      unfolding client_of record_after
      own_next_lem time =
          own_record s st (step c t) c z refl
          ∙ ap (λ (x : ℕ). (moved s r (word_at st.words x) t).next) (own_touched_lem s r t time.patient) ∙ ap (λ m. m.next) (own_moved_lem s r t time.patient _)

      pub own_clock : clock_at next c ≡ t
      unfolding call after
      own_clock = ap (λ (x : State). clock_at x c) (choose_eq (number_of s st (step c t)) 0 (after s st (step c t)) st z) ∙ clock_own st _ c t _ v.client

      -- before, it is one step further
      pub advances : r.phase ≢ 9 → OnTime s r t → Advanced s r (record_at next c)
      advances d time = subst (Advanced s r) (sym (own_next_lem time)) (step_on s r (clock_at st c) v.inv.settled way_ready _ t v.going d way_free time)

    -- a refused step leaves all as it was
    refused : number_of s st (step c t) ≢ 0 → st ≡ next
    unfolding call
    refused d = sym (choose_ne (number_of s st (step c t)) 0 (after s st (step c t)) st d)

-- ---- a run alone

module _ (s : Settings) (st : State) (c t : ℕ) (ts : List ℕ) where
  abbrev later : ℕ
  later = accepted_in (events s (call s st (step c t)).state (steps_by c ts))

  pub accepted_more : number_of s st (step c t) ≡ 0 → accepted_in (events s st (steps_by c (t ∷ ts))) ≡ suc later
  unfolding accepted_in events steps_by call
  accepted_more z = ap (λ (k : ℕ). k + later) (choose_eq {A = ℕ} (number_of s st (step c t)) 0 1 0 z) ∙ (let e : 1 + later ≡ suc later = omega arith in e)

  accepted_none : number_of s st (step c t) ≢ 0 → accepted_in (events s st (steps_by c (t ∷ ts))) ≡ later
  unfolding accepted_in events steps_by call
  accepted_none d = ap (λ (k : ℕ). k + later) (choose_ne {A = ℕ} (number_of s st (step c t)) 0 1 0 d) ∙ (let e : 0 + later ≡ later = omega arith in e)

-- P of the steps accepted and of the record, kept by each accepted step: by one that is on time, and by one that finds it held
pub way_run : (s : Settings) (c : ℕ) (P : ℕ → Record → Type 0)
    → ((st : State) (v : OnItsWay s st c) (t : ℕ) (z : number_of s st (step c t) ≡ 0) → (record_at st c).phase ≢ 9 → OnTime s (record_at st c) t
    → (k : ℕ) → P k (record_at st c) → P (suc k) (record_at (call s st (step c t)).state c))
    → ((k : ℕ) (r : Record) → r.phase ≡ 9 → P k r → P (suc k) r)
    → (ts : List ℕ) (st : State) → OnItsWay s st c → (k : ℕ) → P k (record_at st c) → AllOnTime s st c ts
    → OnItsWay s (run s st (steps_by c ts)) c × P (k + accepted_in (events s st (steps_by c ts))) (record_at (run s st (steps_by c ts)) c)
unfolding steps_by AllOnTime run accepted_in events
way_run s c P keeps held [] st v k p time = (v, subst (λ (n : ℕ). P n (record_at st c)) (let e : k ≡ k + 0 = omega arith in e) p)
way_run s c P keeps held (t ∷ ts) st v k p time =
    let r = record_at st c in
    let next = (call s st (step c t)).state in
    let rest = accepted_in (events s next (steps_by c ts)) in
    let end = run s next (steps_by c ts) in
    let all = accepted_in (events s st (steps_by c (t ∷ ts))) in
    let after : OnItsWay s next c → (n : ℕ) → P n (record_at next c) → n + rest ≡ k + all → OnItsWay s end c × P (k + all) (record_at end c)
    = λ x n y e. let out = way_run s c P keeps held ts next x n y time.1 in (out.0, subst (λ (i : ℕ). P i (record_at end c)) e out.1) in
    by_eq (number_of s st (step c t)) 0
    (λ z.
    let one : suc k + rest ≡ k + all = omega (arith, accepted_more s st c t ts z) in
    by_eq r.phase 9
    (λ e. let same = stays s st c v t z e in after (kept s st c v t (subst Going (sym same) v.going)) (suc k) (subst (P (suc k)) (sym same) (held k r e p)) one)
    (λ d. after (kept s st c v t (advances s st c v t z d (time.0 z)).going) (suc k) (keeps st v t z d (time.0 z) k p) one))
    (λ d. let same = refused s st c v t d in
    after (subst (λ (x : State). OnItsWay s x c) same v) k (subst (λ (x : State). P k (record_at x c)) same p) (omega (arith, accepted_none s st c t ts d)))

-- from its request on it is held after as many accepted steps as its pieces need, and not before
pub way_held : (s : Settings) (c : ℕ) (ts : List ℕ) (st : State) → OnItsWay s st c → made s (record_at st c) ≡ 0 → AllOnTime s st c ts
    → (all_steps s (record_at st c) ≤ accepted_in (events s st (steps_by c ts)) → (record_at (run s st (steps_by c ts)) c).phase ≡ 9)
    × (accepted_in (events s st (steps_by c ts)) < all_steps s (record_at st c) → (record_at (run s st (steps_by c ts)) c).phase ≡ 9 → ⊥)
way_held s c ts st v none time =
    let first = record_at st c in
    let out = way_run s c (λ k q. (pieces q ≡ pieces first) × (q.phase ≢ 9 → made s q ≡ k) × (q.phase ≡ 9 → all_steps s q ≤ k))
    (λ x y t z d on k p.
    let next = (call s x (step c t)).state in
    let more = advances s x c y t z d on in
    let g = way_ready s next c (kept s x c y t more.going) in
    (more.pieces_same ∙ p.0, λ _. more.one_more ∙ ap suc (p.1 d), λ e. omega (arith, held_made s (record_at next c) (clock_at next c) g e, more.one_more, p.1 d)))
    (λ k r e p. (p.0, λ d. absurd (d e), λ _. omega (arith, p.2 e)))
    ts st v 0 (refl, λ _. none, λ e. omega (arith, held_made s first (clock_at st c) (way_ready s st c v) e)) time in
    let end = run s st (steps_by c ts) in
    let q = record_at end c in
    let all = all_same s first q out.1.0 in
    (λ l. by_eq q.phase 9 (λ e. e) (λ d. absurd (omega (arith, unheld_made s q (clock_at end c) (way_ready s end c out.0) out.0.going d, out.1.1 d))), λ l e. omega (arith, out.1.2 e))

-- where P is at most T a later inner piece does not come to its check
pub way_short : (s : Settings) → s.patience ≤ s.wait → (c : ℕ) (ts : List ℕ) (st : State) → OnItsWay s st c → Unwaited s (record_at st c) → AllOnTime s st c ts
    → OnItsWay s (run s st (steps_by c ts)) c × Unwaited s (record_at (run s st (steps_by c ts)) c) × (pieces (record_at (run s st (steps_by c ts)) c) ≡ pieces (record_at st c))
way_short s short c ts st v u time =
    let end = way_run s c (λ _ q. Unwaited s q × (pieces q ≡ pieces (record_at st c)))
    (λ x y t z d on _ p.
    let later = (step_tested s x c t (accepted s x (step c t) z).own).0 in (
      subst (Unwaited s) (sym (own_next_lem s x c y t z on)) (step_unwaited s short (record_at x c) (clock_at x c) t later (way_ready s x c y) p.0 _ y.going d on),
      (advances s x c y t z d on).pieces_same ∙ p.1,
    ))
    (λ _ _ _ p. p)
    ts st v 0 (u, refl) time in
    (end.0, end.1.0, end.1.1)
