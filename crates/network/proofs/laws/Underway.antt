-- Laws of a list that is under way: as long as every word found was as hoped, what is left of it is what the client would post next; and once one was not, what is left are reads. So an operation that is carried
-- out is the client's next step, or it leaves its word as it was. Assumes nothing.
use Rattle.std.specs.Prelude.{◌≡◌, ◌⊎◌, Bool, false, ◌||◌, List, [], ℕ}
use Rattle.std.proofs.Math.Path.{refl, ap, subst}
use Rattle.std.proofs.Common.{sym, ap₂, ◌∙◌, arith, ne_eqb}
use Rattle.std.proofs.Math.Logic.{inl, inr, ⊎_elim}
use Rattle.base.specs.rules.Choice.{choose}
use Rattle.base.specs.laws.ChoiceLaws.{on_choose, by_eq}
use Rattle.base.specs.laws.TestLaws.{by_test}
use Rattle.lock.specs.declared.Client.{Client}
use Rattle.lock.specs.declared.Operation.{Operation}
use Rattle.lock.specs.declared.Record.{Record}
use Rattle.lock.specs.declared.Settings.{Settings}
use Rattle.lock.specs.declared.Stepped.{Stepped}
use Rattle.lock.specs.rules.Records.{Phase, claim, notify, phase_of, current_piece, is_leaf, client_with}
use Rattle.lock.specs.rules.Steps.{Access, none, touched, access, access_in, claim_access, out_of_patience, Completion, goes_to, given_up, completed, completed_in, moved}
use Rattle.lock.specs.rules.Calls.{first_cause}
use Rattle.lock.specs.rules.Operations.{operation_at, post_tests, operation_answer, completed_answer}
use Rattle.lock.proofs.laws.OperationLaws.{operation_found, operation_refused, completed_taken, patient_access, impatient_access}
use Rattle.lock.proofs.laws.Phases.{at_claim, at_notify}
use Rattle.runs.specs.laws.FirstDue.{NotEmpty, ahead_is, is_ready}
use Rattle.runs.specs.rules.Ahead.{ahead_of}
use Rattle.network.specs.rules.Clocks.{claims}
use Rattle.network.proofs.laws.Behind.{behind}
use Rattle.network.proofs.laws.Leading.{Alike}
use Rattle.runs.specs.laws.OperationLists.{Leads, Reads}

module _ (s : Settings) (c : Client) (u : ℕ) (o : Operation) (l : List Operation) (v : NotEmpty s c u o l) where
  abbrev of : Record
  of = c.«record»

  -- what stands behind it, when a word was found that is not refused
  pub then : (w : ℕ) → (completed s of w u).number ≡ 0 → first_cause (post_tests s (completed_answer s c u w).next u) ≡ 0
      → (l ≡ []) ⊎ ((Reads l × (claims of ≡ false)) ⊎ (Leads l (ahead_of s (completed_answer s c u w).next u) × Alike s of (completed_answer s c u w).next.«record»))
  unfolding choose
  then w z =
      let row : completed s of w u ≡ completed_in s of w u (phase_of of.phase) = ap (λ (b : Bool). choose b (goes_to (given_up of)) (completed_in s of w u (phase_of of.phase))) v.patient in
      let next : client_with u (completed s of w u).next ≡ (completed_answer s c u w).next = ap (λ (a : Stepped). a.next) (completed_taken s c u _ refl w v.passed (moved s of w u) refl z) in
      let q = (completed_in s of w u (phase_of of.phase)).next in
      let back = behind s of c.clock (is_ready s c u o l v) w u o l v.listed (sym (ap (λ (x : Completion). x.number) row) ∙ z) in
      subst (λ (x : Client). first_cause (post_tests s x u) ≡ 0 → (l ≡ []) ⊎ ((Reads l × (claims of ≡ false)) ⊎ (Leads l (ahead_of s x u) × Alike s of x.«record»))) (ap (λ (x : Completion). client_with u x.next) (sym row) ∙ next)
      (λ passed. ⊎_elim inl (λ y. inr (⊎_elim inl (λ on. inr (subst (Leads l) (sym (ahead_is s (client_with u q) u passed (on.patient u v.patient))) on.leads, on.alike)) y)) back)

-- ---- whoever reads next claims nothing

module _ (s : Settings) (r : Record) (n : ℕ) where
  abbrev NoRead : Access → Type 0
  NoRead a = (operation_at n a).kind ≡ 1 → ⊥

  none_reads : NoRead none
  unfolding operation_at
  none_reads e = omega (arith, e)

  claim_writes : NoRead (access_in s r claim)
  unfolding access_in claim_access operation_at
  claim_writes = on_choose NoRead (is_leaf s (current_piece r)) _ _ (λ _ e. omega (arith, e)) (λ _ e. omega (arith, e))

  notify_writes : NoRead (access_in s r notify)
  unfolding access_in operation_at
  notify_writes e = omega (arith, e)

pub read_unclaimed : (s : Settings) (c : Client) (u : ℕ) → (operation_answer s c u).kind ≡ 1 → claims c.«record» ≡ false
unfolding claims
read_unclaimed s c u e =
    let r = c.«record» in
    let n = touched s r u in
    by_eq (first_cause (post_tests s c u)) 0
    (λ z. let found : (operation_at n (access s r u)).kind ≡ 1 = ap (λ (o : Operation). o.kind) (operation_found s c u _ refl z) ∙ e in
    by_test (out_of_patience s r u)
    (λ b. absurd (none_reads s r n (ap (λ (a : Access). (operation_at n a).kind) (sym (impatient_access s r u b)) ∙ found)))
    (λ b. let row : (p : Phase) → phase_of r.phase ≡ p → (operation_at n (access_in s r p)).kind ≡ 1 = λ p f. ap (λ (a : Access). (operation_at n a).kind) (sym (patient_access s r u b ∙ ap (access_in s r) f)) ∙ found in
    by_eq r.phase 5 (λ f. absurd (claim_writes s r n (row claim (at_claim r.phase f))))
    (λ d. by_eq r.phase 6 (λ f. absurd (notify_writes s r n (row notify (at_notify r.phase f))))
    (λ f. ap₂ ◌||◌ (ne_eqb r.phase 5 d) (ne_eqb r.phase 6 f)))))
    (λ d. absurd (omega (arith, ap (λ (o : Operation). o.kind) (operation_refused s c u _ refl d), e)))
