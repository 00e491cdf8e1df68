-- Laws: every call of a history in which clocks are read on the safe side keeps what is known of moments. So after it, of two clients, the one that has checked its whole list
-- has found no notice of the other. Assumes nothing.
use Rattle.std.specs.Prelude.{◌≡◌, refl, ◌≢◌, List, [], ◌∷◌, ℕ, zero, suc, ◌≤◌, eqb}
use Rattle.std.proofs.Common.{sym, ap, ◌∙◌, arith, eqb→eq}
use Rattle.std.proofs.Math.Path.{subst}
use Rattle.base.specs.laws.ChoiceLaws.{on_choose, neqb→ne}
use Rattle.lock.specs.declared.Record.{Record}
use Rattle.lock.specs.declared.Settings.{Settings}
use Rattle.lock.specs.rules.Records.{word_at, idle_with, sent_back}
use Rattle.lock.specs.rules.Steps.{touched}
use Rattle.lock.specs.rules.Calls.{requested, released, cancelled}
use Rattle.lock.specs.rules.Table.{State, Call, request, step, release, cancel, client_of, record_at, clock_at, with_client, number_of, after, call}
use Rattle.lock.specs.rules.History.{run, event, events, RequestOf, At, TrueMoments}
use Rattle.lock.specs.rules.Readings.{found_in, WithinRequest, ReadApart}
use Rattle.lock.proofs.laws.Accepted.{accepted, request_tested, step_tested}
use Rattle.lock.proofs.laws.ClaimLaws.{claim_on}
use Rattle.lock.proofs.claim.Fit.{on_fit}
use Rattle.lock.proofs.claim.Parts.{Parts, record_in, parts_of, record_at_lem, records_count, on_parts}
use Rattle.lock.proofs.claim.Timed.{Checked}
use Rattle.lock.proofs.claim.Onward.{Unclaimed, unclaimed_returning, unclaimed_first}
use Rattle.lock.proofs.claim.Invariant.{Invariant}
use Rattle.lock.proofs.claim.NoWord.{requested_unclaimed}
use Rattle.lock.proofs.claim.Moments.{timing_refused, timing_unclaimed, timing_stepped}
use Rattle.lock.proofs.claim.Noted.{Unasked, Timing}
use Rattle.lock.proofs.claim.Keeping.{stepped, stepped_by, call_keeps}

cancelled_unclaimed : (r : Record) → Unclaimed (cancelled r)
unfolding cancelled
cancelled_unclaimed r =
    on_choose Unclaimed _ (idle_with 3) (sent_back 3 r) (λ _. unclaimed_first (idle_with 3) refl (omega arith) (λ _. refl)) (λ _. unclaimed_returning (sent_back 3 r) refl)

within_later : (s : Settings) (st : State) (k : Call) (ks : List Call) (i j c : ℕ) → WithinRequest (events s (call s st k).state ks) i j c → WithinRequest (events s st (k ∷ ks)) (suc i) (suc j) c
unfolding events At
within_later s st k ks i j c v zero a b = absurd (omega arith)
within_later s st k ks i j c v (suc n) a b = v n (omega arith) (omega arith)

-- before place j of the rest, where the call before it is at place 0
within_first : (s : Settings) (st : State) (k : Call) (ks : List Call) (j c : ℕ) → Unasked (events s (call s st k).state ks) j c → WithinRequest (events s st (k ∷ ks)) 0 (suc j) c
unfolding events At
within_first s st k ks j c v zero a b = absurd (omega arith)
within_first s st k ks j c v (suc n) a b = v n (omega arith)

-- what is supposed of a history is supposed of its rest
read_later : (s : Settings) (st : State) (k : Call) (ks : List Call) (touch reading : ℕ → ℕ) → ReadApart s st (k ∷ ks) touch reading
    → ReadApart s (call s st k).state ks (λ i. touch (suc i)) (λ i. reading (suc i))
unfolding events At found_in
read_later s st k ks touch reading v = record {
  never_back = λ i j c d t u b. v.never_back (suc i) (suc j) c d t u (omega arith);
  not_slow = λ i j c t u b x y w. v.not_slow (suc i) (suc j) c t u (omega arith) x y (within_later s st k ks i j c w);
  not_fast = λ i j c t u b x y w. v.not_fast (suc i) (suc j) c t u (omega arith) x y (within_later s st k ks i j c w);
  read_first = λ i. v.read_first (suc i);
  touched_first = λ i. v.touched_first (suc i);
}

-- ---- one call

request_client : (c : ℕ) (k : Call) → RequestOf c k → client_of k ≡ c
unfolding RequestOf client_of
request_client c (request d l r) e = e
request_client c (step d t) e = absurd e
request_client c (release d) e = absurd e
request_client c (cancel d) e = absurd e

module _ (s : Settings) (st : State) (inv : Invariant s (parts_of st)) (ks : List Call) (touch reading : ℕ → ℕ) where
  abbrev Before : Call → Type 0
  Before k = Timing s (parts_of st) (events s st (k ∷ ks)) (found_in s st (k ∷ ks)) touch reading

  -- of the table, and the rest of the history
  abbrev Rest : Call → Parts → Type 0
  Rest k p = Timing s p (events s (call s st k).state ks) (found_in s (call s st k).state ks) (λ i. touch (suc i)) (λ i. reading (suc i))

  abbrev Then : Call → State → Type 0
  Then k x = Rest k (parts_of x)

  -- an accepted call that touches no word
  quiet_timing : (k : Call) → Before k → number_of s st k ≡ 0 → (q : Record) → Unclaimed q → Then k (with_client st st.words (client_of k) (clock_at st (client_of k)) q)
  unfolding events found_in
  quiet_timing k v n q none =
      let c = client_of k in
      on_parts st st.words c (clock_at st c) q (Rest k)
      (timing_unclaimed s (event s st k) (events s (call s st k).state ks) (found_in s st (k ∷ ks)) touch reading (parts_of st) v c (rw (records_count st.clients) (accepted s st k n).client) q st.words _ none
      (λ d other x. other (sym (request_client d k x.1))))

  past_t0 : (c t : ℕ) → clock_at st c ≤ t → (record_in (parts_of st) c).t0 ≤ t
  past_t0 c t later =
      on_fit s (record_in (parts_of st) c) (clock_at st c) (inv.fit c) inv.settled (λ e. omega (arith, ap (λ (x : Record). x.t0) e)) (λ rd. omega (arith, rd.active.t0_past))

  step_timing : (c t : ℕ) → ReadApart s st (step c t ∷ ks) touch reading → Before (step c t) → number_of s st (step c t) ≡ 0 → Then (step c t) (stepped s st inv c (record_at st c) t)
  unfolding events At found_in client_of call
  step_timing c t read v n =
      let a = accepted s st (step c t) n in
      let same : record_in (parts_of st) c ≡ record_at st c = record_at_lem st c in
      let b = step_tested s st c t a.own in
      let r = record_in (parts_of st) c in
      let word = word_at st.words (touched s r t) in
      subst (λ (x : Record). Then (step c t) (stepped s st inv c x t)) same
      (on_parts st _ c t _ (Rest (step c t))
      (timing_stepped s (event s st (step c t)) (events s (call s st (step c t)).state ks) (found_in s st (step c t ∷ ks)) touch reading (parts_of st) v c (rw (records_count st.clients) a.client) _ _ _ inv t
      (stepped_by s st inv c t a).time (n, refl)
      (λ j d u. read.never_back 0 (suc j) c d t u (omega arith) (n, refl)) (sym same) (past_t0 c t b.0) (claim_on s r t word)
      (λ j u a w p at_parent. read.not_slow 0 (suc j) c t u (omega arith) (n, refl) a (within_first s st (step c t) ks j c w) (ap (λ (x : Record). x.phase) (sym same) ∙ p) (ap (λ (x : Record). x.place) (sym same) ∙ at_parent))
      (λ j u a w p f d. read.not_fast 0 (suc j) c t u (omega arith) (n, refl) a (within_first s st (step c t) ks j c w) (ap (λ (x : Record). x.phase) (sym same) ∙ p) f (λ z. d (rw same z)))
      (rw same (read.read_first 0 c t (n, refl))) (rw same (read.touched_first 0 c t (n, refl)))))

  accepted_timing : (k : Call) → ReadApart s st (k ∷ ks) touch reading → Before k → number_of s st k ≡ 0 → Then k (after s st k)
  unfolding after client_of released
  accepted_timing (request c l r) read v n = quiet_timing (request c l r) v n (requested s l r) (requested_unclaimed s inv.settled l r (request_tested s st c l r (accepted s st (request c l r) n).own).1)
  accepted_timing (step c t) read v n = step_timing c t read v n
  accepted_timing (release c) read v n = quiet_timing (release c) v n (released (record_at st c)) (unclaimed_returning _ refl)
  accepted_timing (cancel c) read v n = quiet_timing (cancel c) v n (cancelled (record_at st c)) (cancelled_unclaimed (record_at st c))

  call_timing : (k : Call) → ReadApart s st (k ∷ ks) touch reading → Before k → Then k (call s st k).state
  unfolding call events found_in
  call_timing k read v =
      on_choose (Then k) (eqb (number_of s st k) 0) (after s st k) st
      (λ t. accepted_timing k read v (eqb→eq (number_of s st k) 0 t))
      (λ t. timing_refused s (event s st k) (events s (call s st k).state ks) (found_in s st (k ∷ ks)) touch reading (parts_of st) v (λ c x. neqb→ne (number_of s st k) 0 t x.0))

-- ---- a whole history

pub run_checked : (s : Settings) (ks : List Call) (st : State) → Invariant s (parts_of st) → (touch reading : ℕ → ℕ) → ReadApart s st ks touch reading
    → Timing s (parts_of st) (events s st ks) (found_in s st ks) touch reading → (c d : ℕ) → c ≢ d → Checked s (record_in (parts_of (run s st ks)) c) (record_in (parts_of (run s st ks)) d)
unfolding run
run_checked s [] st inv touch reading read v = λ c d n. (v.timed c d n).checks
run_checked s (k ∷ ks) st inv touch reading read v =
    run_checked s ks (call s st k).state (call_keeps s st inv k) (λ i. touch (suc i)) (λ i. reading (suc i)) (read_later s st k ks touch reading read) (call_timing s st inv ks touch reading k read v)

-- document 02 has one moment for the touch and the reading
pub read_at_once : (s : Settings) (st : State) (ks : List Call) (moment : ℕ → ℕ) → TrueMoments (events s st ks) moment → ReadApart s st ks moment moment
read_at_once s st ks moment v = record {
  never_back = v.never_back;
  not_slow = λ i j c t u b x y _ _ _ _ _ far. omega (arith, far, (v.steady i j c t u b x y).0);
  not_fast = λ i j c t u b x y _ _ _ _. omega (arith, (v.steady i j c t u b x y).1);
  read_first = λ _ _ _ _ _. omega arith;
  touched_first = λ _ _ _ _ _. omega arith;
}
