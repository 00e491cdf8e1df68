-- Laws: what a history says of a client, its record shows. A client that holds [l, r) has its record in phase 9 with these edges, and an idle one has it in
-- phase 0. Assumes nothing.
use Rattle.std.specs.Prelude.{◌≡◌, refl, ℕ, ◌<◌, length}
use Rattle.std.proofs.Common.{sym, ◌∙◌, arith}
use Rattle.std.proofs.Math.Path.{ap, subst}
use Rattle.std.proofs.Math.Logic.{inl, inr}
use mathlib.Core.List.{List, [], ◌∷◌, ◌++◌, cons-ne-nil, head-eq_of_cons-eq, tail-eq_of_cons-eq}
use Rattle.std.proofs.Math.ListN.{get_or-eq_default}
use Rattle.base.specs.laws.ChoiceLaws.{on_choose, by_lt}
use Rattle.lock.specs.declared.Client.{Client}
use Rattle.lock.specs.declared.Record.{Record}
use Rattle.lock.specs.declared.Settings.{Settings}
use Rattle.lock.specs.rules.Records.{word_at, idle_client}
use Rattle.lock.specs.rules.Steps.{touched}
use Rattle.lock.specs.laws.Rows.{moved_in}
use Rattle.lock.specs.rules.Calls.{requested, released, cancelled}
use Rattle.lock.specs.rules.Table.{State, Call, request, step, release, cancel, client_of, client_at, record_at, number_of, call}
use Rattle.lock.proofs.laws.Phases.{at_idle, at_held}
use Rattle.lock.proofs.laws.PatienceLaws.{patient_idle, patient_taken, own_moved_lem}
use Rattle.lock.proofs.laws.Accepted.{accepted, request_tested, release_tested, cancel_tested}
use Rattle.lock.proofs.claim.AfterCall.{record_after, own_record, on_call, count_after, HasEdges, EdgesOrIdle, edges_stepped}
use Rattle.lock.specs.rules.History.{run, Event, event, events, Some, CallOf, RequestOf, StepOf, ReleaseOf, Accepted, GaveBackIn, Holds, Idle}

-- "0 idle, 9 held | nothing"
module _ (s : Settings) (st : State) (c t : ℕ) where
  abbrev word : ℕ
  word = word_at st.words (touched s (record_at st c) t)

  step_idle : (record_at st c).phase ≡ 0 → record_after s st (step c t) ≡ record_at st c
  unfolding record_after moved_in
  step_idle e =
      ap (λ m. m.next) (own_moved_lem s (record_at st c) t (patient_idle s (record_at st c) t e) word) ∙ ap (λ p. (moved_in s (record_at st c) word t p).next) (at_idle (record_at st c).phase e)

  pub step_held : (record_at st c).phase ≡ 9 → record_after s st (step c t) ≡ record_at st c
  unfolding record_after moved_in
  step_held e =
      ap (λ m. m.next) (own_moved_lem s (record_at st c) t (patient_taken s (record_at st c) t (omega arith)) word) ∙ ap (λ p. (moved_in s (record_at st c) word t p).next) (at_held (record_at st c).phase e)

-- [l, q) is held
abbrev Held : ℕ → ℕ → Record → Type 0
Held l q r = (r.phase ≡ 9) × (r.left ≡ l) × (r.right ≡ q)

-- ---- one accepted call of a client

module _ (s : Settings) (st : State) where
  idle_after : (k : Call) → number_of s st k ≡ 0 → (RequestOf (client_of k) k → ⊥) → (record_at st (client_of k)).phase ≡ 0 → (record_after s st k).phase ≡ 0
  unfolding client_of RequestOf
  idle_after (request c a b) n other z = absurd (other refl)
  idle_after (step c t) n other z = ap (λ (r : Record). r.phase) (step_idle s st c t z) ∙ z
  idle_after (release c) n other z = let p = (release_tested s st c (accepted s st (release c) n).own).1 in absurd (omega arith)
  idle_after (cancel c) n other z = absurd ((cancel_tested s st c (accepted s st (cancel c) n).own).1 z)

  module _ (l q : ℕ) where
    held_after : (k : Call) → number_of s st k ≡ 0 → (ReleaseOf (client_of k) k → ⊥) → Held l q (record_at st (client_of k)) → Held l q (record_after s st k)
    unfolding client_of ReleaseOf
    held_after (request c a b) n other h = let p = (request_tested s st c a b (accepted s st (request c a b) n).own).2 in absurd (omega arith)
    held_after (step c t) n other h = subst (Held l q) (sym (step_held s st c t h.0)) h
    held_after (release c) n other h = absurd (other refl)
    held_after (cancel c) n other h = absurd ((cancel_tested s st c (accepted s st (cancel c) n).own).2 h.0)

    edges_after : (k : Call) → number_of s st k ≡ 0 → (RequestOf (client_of k) k → ⊥) → EdgesOrIdle l q (record_at st (client_of k))
        → EdgesOrIdle l q (record_after s st k)
    unfolding client_of RequestOf record_after released cancelled
    edges_after k n other (inl z) = inl (idle_after k n other z)
    edges_after (request c a b) n other (inr e) = absurd (other refl)
    edges_after (step c t) n other (inr e) = edges_stepped l q s (record_at st c) _ t e
    edges_after (release c) n other (inr e) = inr e
    edges_after (cancel c) n other (inr e) = on_choose (EdgesOrIdle l q) _ _ _ (λ _. inl refl) (λ _. inr e)

-- ---- P of the record, kept by every accepted call of its client beside those of one kind, is kept where none of that kind is accepted

module _ (s : Settings) (P : Record → Type 0) (K : ℕ → Call → Type 0)
    (keeps : (st : State) (k : Call) → number_of s st k ≡ 0 → (K (client_of k) k → ⊥) → P (record_at st (client_of k)) → P (record_after s st k)) (c : ℕ) where
  over_call : (st : State) (k : Call) → P (record_at st c) → (Accepted (K c) (event s st k) → ⊥) → P (record_at (call s st k).state c)
  unfolding call
  over_call st k h none =
      on_call s st P k c h
      (λ n e. subst (λ (d : ℕ). (K d k → ⊥) → P (record_at st d) → P (record_after s st k)) e (keeps st k n) (λ x. none (n, x)) h)

  over_run : (ks : List Call) (st : State) → P (record_at st c) → (Some (Accepted (K c)) (events s st ks) → ⊥) → P (record_at (run s st ks) c)
  unfolding run events Some
  over_run [] st h none = h
  over_run (k ∷ ks) st h none = over_run ks (call s st k).state (over_call st k h (λ x. none (inl x))) (λ x. none (inr x))

-- ---- the calls after the last accepted request

module _ (s : Settings) (c : ℕ) where
  idle_run : (ks : List Call) (st : State) → (record_at st c).phase ≡ 0
      → (Some (Accepted (RequestOf c)) (events s st ks) → ⊥) → (record_at (run s st ks) c).phase ≡ 0
  idle_run = over_run s (λ r. r.phase ≡ 0) RequestOf (idle_after s) c

  returned_run : (ks : List Call) (st : State) → Some (GaveBackIn 0 (CallOf c)) (events s st ks)
      → (Some (Accepted (RequestOf c)) (events s st ks) → ⊥) → (record_at (run s st ks) c).phase ≡ 0
  unfolding run events Some
  returned_run [] st x none = absurd x
  returned_run (k ∷ ks) st (inl x) none =
      let next = (call s st k).state in
      idle_run ks next (subst (λ (d : ℕ). (record_at next d).phase ≡ 0) x.0.1 x.1) (λ y. none (inr y))
  returned_run (k ∷ ks) st (inr x) none = returned_run ks (call s st k).state x (λ y. none (inr y))

  step_client : (k : Call) → StepOf c k → client_of k ≡ c
  unfolding StepOf client_of
  step_client (request d a b) e = absurd e
  step_client (step d t) e = e
  step_client (release d) e = absurd e
  step_client (cancel d) e = absurd e

  module _ (l q : ℕ) where
    edges_call : (st : State) (k : Call) → EdgesOrIdle l q (record_at st c) → (Accepted (RequestOf c) (event s st k) → ⊥)
        → EdgesOrIdle l q (record_at (call s st k).state c)
    edges_call = over_call s (EdgesOrIdle l q) RequestOf (λ st. edges_after s st l q) c

    held_run : (ks : List Call) (st : State) → Held l q (record_at st c) → (Some (Accepted (ReleaseOf c)) (events s st ks) → ⊥)
        → Held l q (record_at (run s st ks) c)
    held_run = over_run s (Held l q) ReleaseOf (λ st. held_after s st l q) c

    edges_held : (r : Record) → EdgesOrIdle l q r → r.phase ≡ 9 → Held l q r
    edges_held r (inl z) e = absurd (omega arith)
    edges_held r (inr h) e = (e, h.0, h.1)

    taken_run : (ks : List Call) (st : State) → EdgesOrIdle l q (record_at st c) → Some (GaveBackIn 9 (StepOf c)) (events s st ks)
        → (Some (Accepted (RequestOf c)) (events s st ks) → ⊥) → (Some (Accepted (ReleaseOf c)) (events s st ks) → ⊥) → Held l q (record_at (run s st ks) c)
    unfolding run events Some
    taken_run [] st h x none kept = absurd x
    taken_run (k ∷ ks) st h (inl x) none kept =
        let next = (call s st k).state in
        let at_nine = subst (λ (d : ℕ). (record_at next d).phase ≡ 9) (step_client k x.0.1) x.1 in
        held_run ks next (edges_held (record_at next c) (edges_call st k h (λ y. none (inl y))) at_nine) (λ y. kept (inr y))
    taken_run (k ∷ ks) st h (inr x) none kept =
        taken_run ks (call s st k).state (edges_call st k h (λ y. none (inl y))) x (λ y. none (inr y)) (λ y. kept (inr y))

-- ---- the last accepted request

-- to show Q of the end, it is enough to show it from each state in which the request was made
at_request : (s : Settings) (Q : State → Type 0) (asked : Event) (since : List Event)
    → ((st : State) (k : Call) (ks : List Call) → event s st k ≡ asked → events s (call s st k).state ks ≡ since → Q (run s (call s st k).state ks))
    → (ks : List Call) (st : State) (before : List Event) → before ++ (asked ∷ since) ≡ events s st ks → Q (run s st ks)
unfolding run events
at_request s Q asked since f [] st [] e = absurd (cons-ne-nil asked since e)
at_request s Q asked since f [] st (x ∷ before) e = absurd (cons-ne-nil x (before ++ (asked ∷ since)) e)
at_request s Q asked since f (k ∷ ks) st [] e = f st k ks (sym (head-eq_of_cons-eq e)) (sym (tail-eq_of_cons-eq e))
at_request s Q asked since f (k ∷ ks) st (x ∷ before) e = at_request s Q asked since f ks (call s st k).state before (tail-eq_of_cons-eq e)

-- an accepted request gives its edges to the record
request_edges : (s : Settings) (st : State) (k : Call) (c l r : ℕ) → number_of s st k ≡ 0 → k ≡ request c l r → HasEdges l r (record_at (call s st k).state c)
unfolding record_after requested client_of
request_edges s st k c l r n e =
    subst (λ x. number_of s st x ≡ 0 → HasEdges l r (record_at (call s st x).state c)) (sym e)
    (λ m. subst (HasEdges l r) (sym (own_record s st (request c l r) c m refl)) (refl, refl)) n

pub holds_record : (s : Settings) (st : State) (ks : List Call) (c l r : ℕ) → Holds (events s st ks) c l r
    → ((record_at (run s st ks) c).phase ≡ 9) × ((record_at (run s st ks) c).left ≡ l) × ((record_at (run s st ks) c).right ≡ r)
unfolding call
holds_record s st ks c l r h =
    let a = h.asked in
    at_request s (λ x. Held l r (record_at x c)) a.asked h.since
    (λ at k rest e f.
    taken_run s c l r rest (call s at k).state
    (inr (request_edges s at k c l r (ap (λ (x : Event). x.number) e ∙ a.accepted) (ap (λ (x : Event). x.made) e ∙ a.edges)))
    (subst (Some (GaveBackIn 9 (StepOf c))) (sym f) h.taken)
    (λ x. a.last (subst (Some (Accepted (RequestOf c))) f x))
    (λ x. h.kept (subst (Some (Accepted (ReleaseOf c))) f x)))
    ks st a.before a.whole

pub idle_record : (s : Settings) (st : State) (ks : List Call) (c : ℕ) → (record_at st c).phase ≡ 0 → Idle (events s st ks) c
    → (record_at (run s st ks) c).phase ≡ 0
idle_record s st ks c z (inl none) = idle_run s c ks st z none
idle_record s st ks c z (inr h) =
    let a = h.asked in
    at_request s (λ x. (record_at x c).phase ≡ 0) a.asked h.since
    (λ at k rest e f.
    returned_run s c rest (call s at k).state (subst (Some (GaveBackIn 0 (CallOf c))) (sym f) h.returned)
    (λ x. a.last (subst (Some (Accepted (RequestOf c))) f x)))
    ks st a.before a.whole

-- ---- all clients: those below the table's count, and past it no record stands

pub count_run : (s : Settings) (ks : List Call) (st : State) → length (run s st ks).clients ≡ length st.clients
unfolding run
count_run s [] st = refl
count_run s (k ∷ ks) st = count_run s ks (call s st k).state ∙ count_after s st k

pub all_idle : (s : Settings) (st : State) (ks : List Call) → ((c : ℕ) → (record_at st c).phase ≡ 0)
    → ((c : ℕ) → c < length st.clients → Idle (events s st ks) c) → (c : ℕ) → (record_at (run s st ks) c).phase ≡ 0
unfolding client_at
all_idle s st ks z h c =
    by_lt c (length st.clients) (λ b. idle_record s st ks c (z c) (h c b))
    (λ b. ap (λ (x : Client). x.«record».phase) (get_or-eq_default (run s st ks).clients idle_client (omega (arith, count_run s ks st))))
