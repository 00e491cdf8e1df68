-- An operation that is carried out, on the state that is shown: where it counts it is a step, and where it is dropped nothing that is shown changes. Assumes nothing.
use Rattle.std.specs.Prelude.{◌≡◌, Bool, ◌&&◌, ◌⊎◌, ℕ, ◌≤◌, ◌<◌, T, eqb}
use Rattle.std.proofs.Math.Path.{refl, sym, ap, ap₂, subst}
use Rattle.std.proofs.Common.{◌∙◌, arith}
use Rattle.std.proofs.Math.Bool.{true, false}
use Rattle.std.proofs.Math.Logic.{⊎_elim}
use mathlib.Core.List.{List, [], ◌∷◌, ◌++◌}
use borrow.Author.Tests.{lt-ltb, le-ltb}
use Rattle.std.proofs.Math.ListN.{length, set}
use Rattle.std.proofs.Math.Seq.{get_or-set_same}
use Rattle.base.specs.rules.Choice.{choose}
use Rattle.base.specs.laws.ChoiceLaws.{on_choose, by_lt, neqb→ne}
use Rattle.base.specs.laws.Mapped.{map_count}
use Rattle.base.specs.laws.Sum.{get_d_past}
use Rattle.lock.specs.declared.Client.{Client}
use Rattle.lock.specs.declared.Operation.{Operation}
use Rattle.lock.specs.declared.Settings.{Settings}
use Rattle.lock.specs.declared.Stepped.{Stepped}
use Rattle.lock.specs.rules.Records.{word_at, written, client_with, idle_client}
use Rattle.lock.specs.rules.Steps.{applied, touched, access, completed, moved}
use Rattle.lock.specs.rules.Unreadable.{unreadable}
use Rattle.lock.specs.rules.Calls.{first_cause, answered}
use Rattle.lock.specs.rules.Operations.{access_of, post_tests, operation_answer, completed_tests, completed_answer}
use Rattle.lock.specs.rules.Table.{State, step, client_at, opening_number, call}
use Rattle.lock.specs.rules.History.{run}
use Rattle.lock.proofs.claim.ClearBit.{step_accepted}
use Rattle.lock.proofs.claim.Keeping.{call_keeps}
use Rattle.lock.proofs.claim.Parts.{parts_of}
use Rattle.lock.proofs.claim.Readable.{invariant_readable}
use Rattle.lock.proofs.claim.Invariant.{Invariant}
use Rattle.lock.proofs.laws.OperationLaws.{kind_leaves, operation_found, cause_0}
use Rattle.runs.specs.rules.Ahead.{completed_all_answer}
use Rattle.network.specs.rules.Network.{Flight, free, flying, Run, Network, run_at, client_on, with_run, counts, seen_by, seen, shown}
use Rattle.network.proofs.laws.CarriedOut.{seen_after, Underway, sofar, Counting, Dropped, carried_out}
use Rattle.network.proofs.laws.Shown.{shown_flying, shown_with}
use Rattle.network.proofs.laws.StepByOperation.{node_at, written_same}
use Rattle.network.proofs.laws.OnState.{unchanged, carried, passed, inside}

-- ---- what is in flight

unfoldable is_free : Flight → Bool
is_free free = true
is_free (flying u m n os found) = false

not_flying : (u m n : ℕ) (os : List Operation) (found : List ℕ) → free ≡ flying u m n os found → ⊥
unfolding is_free
not_flying u m n os found e = subst T (ap is_free e) tt

answered_clock : (number : ℕ) (c next : Client) → (answered number c next).number ≡ 0 → (answered number c next).next ≡ next
unfolding answered
answered_clock number c next =
    on_choose (λ (x : Stepped). x.number ≡ 0 → x.next ≡ next) (eqb number 0) _ _ (λ _ _. refl) (λ t e. absurd (neqb→ne number 0 t e))

module _ (s : Settings) (net : Network) (open_passed : opening_number s (length net.words) (length net.runs) ≡ 0) where
  abbrev now : State
  now = shown s net

  -- who has something in flight is one of the runs
  pub there : (c u m n : ℕ) (os : List Operation) (found : List ℕ) → (run_at net c).flight ≡ flying u m n os found → c < length now.clients
  unfolding run_at
  there c u m n os found e = by_lt c (length net.runs) (λ below. omega (arith, map_count (seen s) net.runs)) (λ past. absurd (not_flying u m n os found (sym (past_free past) ∙ e)))
    where
      past_free : length net.runs ≤ c → (run_at net c).flight ≡ free
      past_free h = ap (λ (x : Run). x.flight) (get_d_past net.runs c _ h)

  -- ---- an operation that is carried out

  module _ (inv : Invariant s (parts_of now)) (c u m n : ℕ) (o : Operation) (os : List Operation) (found : List ℕ) (e : (run_at net c).flight ≡ flying u m n (o ∷ os) found)
      (v : Underway s (client_on net c) u (o ∷ os) found) where
    abbrev pub w : ℕ
    w = word_at net.words o.node

    -- the client that is seen
    abbrev pub x : Client
    x = seen_after s (client_on net c) u found

    pub is_seen : client_at now c ≡ x
    unfolding completed_all_answer
    is_seen = shown_flying s net c u m n (o ∷ os) found e

    below : c < length now.clients
    below = there c u m n (o ∷ os) found e

    -- its next step
    pub stepped : o ≡ operation_answer s x u → record { words = written now.words o.node (applied (access_of o) w); clients = set now.clients c (completed_answer s x u w).next } ≡ (call s now (step c u)).state
    stepped is =
        let f : o ≡ operation_answer s (client_at now c) u = is ∙ ap (λ (y : Client). operation_answer s y u) (sym is_seen) in
        ap₂ (λ (p : Operation) (y : Client). record { words = written now.words p.node (applied (access_of p) (word_at now.words p.node)); clients = set now.clients c (completed_answer s y u (word_at now.words p.node)).next }) f (sym is_seen)
        ∙ carried s now (passed s net open_passed) c u below

    -- no step of a history is refused by 9
    accepted : first_cause (post_tests s x u) ≡ 0 → o ≡ operation_answer s x u → (completed s x.«record» w u).number ≡ 0
    accepted z is =
        let r = x.«record» in
        let node : touched s r u ≡ o.node = sym (ap (λ (p : Operation). p.node) (is ∙ sym (operation_found s x u _ refl z)) ∙ node_at (touched s r u) (access s r u)) in
        ap (λ (k : ℕ). (completed s r (word_at now.words k) u).number) (sym node)
        ∙ subst (λ (y : Client). (moved s y.«record» (word_at now.words (touched s y.«record» u)) u).number ≡ 0) is_seen (step_accepted s now inv c below u)

    completed_clock : Counting s (client_on net c) u o os found w → (completed_answer s x u w).next.clock ≡ u
    unfolding completed_answer
    completed_clock k = ap (λ (y : Client). y.clock) (answered_clock (first_cause (completed_tests s x u w)) x (client_with u (completed s x.«record» w u).next) k.accepted)

    -- and every record stays readable
    readable : Counting s (client_on net c) u o os found w → first_cause (post_tests s (completed_answer s x u w).next u) ≡ 0
    unfolding client_at
    readable k =
        let next = (completed_answer s x u w).next in
        let at : client_at (call s now (step c u)).state c ≡ next = ap (λ (y : State). client_at y c) (sym (stepped k.is)) ∙ get_or-set_same now.clients c next idle_client below in
        let fine = subst (λ (y : Client). unreadable s y.«record» y.clock ≡ false) at (invariant_readable s (call s now (step c u)).state (call_keeps s now inv (step c u)) c) in
        sym (cause_0 s next u (inside s net open_passed) (le-ltb u next.clock (omega (arith, completed_clock k))) fine)

    pub outcome : (Counting s (client_on net c) u o os found w ⊎ Dropped s (client_on net c) u o os found w) × Underway s (client_on net c) u os (found ++ (w ∷ []))
    outcome = carried_out s (client_on net c) u o os found w v accepted readable

    -- the network after it
    abbrev pub then : Network
    then = with_run net (written net.words o.node (applied (access_of o) w)) c (client_on net c) (flying u m n os (found ++ (w ∷ [])))

    counted_shown : Counting s (client_on net c) u o os found w → shown s then ≡ (call s now (step c u)).state
    unfolding seen_by completed_all_answer
    counted_shown k =
        shown_with s net c then.words (client_on net c) (flying u m n os (found ++ (w ∷ [])))
        ∙ ap (λ (y : Client). record { words = then.words; clients = set now.clients c y }) k.next ∙ stepped k.is

    dropped_shown : Dropped s (client_on net c) u o os found w → shown s then ≡ now
    unfolding seen_by completed_all_answer
    dropped_shown k =
        let left : written net.words o.node (applied (access_of o) w) ≡ net.words = ap (written net.words o.node) (kind_leaves o w (λ z. omega (arith, k.reads)) (λ z. omega (arith, k.reads))) ∙ written_same net.words o.node in
        shown_with s net c then.words (client_on net c) (flying u m n os (found ++ (w ∷ [])))
        ∙ ap₂ (λ (ws : List ℕ) (y : Client). record { words = ws; clients = set now.clients c y }) left (k.next ∙ sym is_seen) ∙ unchanged s now (passed s net open_passed) c (client_at now c) refl

    pub counting_counts : Counting s (client_on net c) u o os found w → counts s (client_on net c) u found w ≡ true
    unfolding counts completed_all_answer
    counting_counts k = lt-ltb (sofar s (client_on net c) u found).count (sofar s (client_on net c) u (found ++ (w ∷ []))).count (omega (arith, k.more))

    pub dropped_counts : Dropped s (client_on net c) u o os found w → counts s (client_on net c) u found w ≡ false
    unfolding counts completed_all_answer
    dropped_counts k = le-ltb (sofar s (client_on net c) u found).count (sofar s (client_on net c) u (found ++ (w ∷ []))).count (omega (arith, k.more))

    pub out_shown : (b : Bool) → shown s (choose b then net) ≡ run s now (choose (b && counts s (client_on net c) u found w) (step c u ∷ []) [])
    unfolding choose run
    out_shown true =
        ⊎_elim (λ k. counted_shown k ∙ ap (λ (b : Bool). run s now (choose b (step c u ∷ []) [])) (sym (counting_counts k)))
        (λ k. dropped_shown k ∙ ap (λ (b : Bool). run s now (choose b (step c u ∷ []) [])) (sym (dropped_counts k))) outcome.0
    out_shown false = refl
