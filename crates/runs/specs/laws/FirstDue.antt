-- Laws: the first of a list that is posted together is the client's next step. Assumes nothing.
use Rattle.std.specs.Prelude.{◌≡◌, refl, ◌≢◌, Bool, true, false, ◌&&◌, eqb, length}
use Rattle.std.proofs.Math.Path.{sym}
use Rattle.std.proofs.Common.{ap, ◌∙◌, ap₂}
use mathlib.Core.List.{List, [], ◌∷◌, ◌++◌, map}
use Prim.Native.Nat.{ℕ, zero, suc, ◌-◌, ◌<◌}
use native.Mathlib.Omega.{arith}
use borrow.Author.Tests.{eqb-true, eq-eqb}
use Rattle.base.specs.rules.Choice.{choose}
use Rattle.tree.specs.rules.Lists.{row}
use Rattle.lock.specs.declared.Operation.{Operation}
use Rattle.lock.specs.declared.Record.{Record}
use Rattle.lock.specs.declared.Settings.{Settings}
use Rattle.lock.specs.rules.Records.{Phase, climb, notify, check, returning, phase_of, pieces, piece_at, grip_of, with_giving, with_place}
use Rattle.lock.specs.rules.Unreadable.{list_length}
use Rattle.lock.specs.rules.Steps.{touched_in, access_in, claim_access, out_of_patience}
use Rattle.lock.specs.rules.Operations.{operation_at, post_tests, operation_answer}
use Rattle.lock.proofs.laws.Phases.{on_phase, at_idle}
use Rattle.lock.proofs.laws.Ready.{Ready, ready}
use Rattle.runs.specs.rules.Ahead.{standing, walk, gives_back, ahead_in, ahead_of, same}
use Rattle.runs.specs.laws.OperationLists.{none_some, first_same, by_place}
use Rattle.base.specs.laws.TestLaws.{by_test, both_true}
use Rattle.lock.specs.declared.Client.{Client}
use Rattle.lock.specs.rules.Calls.{first_cause}
use Rattle.lock.proofs.laws.OperationLaws.{post_tested, operation_found, patient_access}
use Rattle.lock.proofs.laws.PatienceLaws.{own_touched_lem}
use Rattle.lock.proofs.laws.SettledLaws.{settled}

-- ---- operations that are the same

-- an operation is the same as itself
pub same_itself : (o : Operation) → same o o ≡ true
unfolding same
same_itself o =
    let e : (n : ℕ) → eqb n n ≡ true = λ n. eq-eqb n n refl in
    λ i. e o.number i && e o.kind i && e o.node i && e o.compared i && e o.expected i && e o.swapped i && e o.value i

-- and as no other
pub same_equal : (o p : Operation) → same o p ≡ true → o ≡ p
unfolding same
same_equal o p e =
    let a = both_true _ (eqb o.value p.value) e in
    let b = both_true _ (eqb o.swapped p.swapped) a.0 in
    let c = both_true _ (eqb o.expected p.expected) b.0 in
    let d = both_true _ (eqb o.compared p.compared) c.0 in
    let f = both_true _ (eqb o.node p.node) d.0 in
    let g = both_true (eqb o.number p.number) (eqb o.kind p.kind) f.0 in
    let number = eqb-true o.number p.number g.0 in
    let kind = eqb-true o.kind p.kind g.1 in
    let node = eqb-true o.node p.node f.1 in
    let compared = eqb-true o.compared p.compared d.1 in
    let expected = eqb-true o.expected p.expected c.1 in
    let swapped = eqb-true o.swapped p.swapped b.1 in
    let value = eqb-true o.value p.value a.1 in
    λ i. record { number = number i; kind = kind i; node = node i; compared = compared i; expected = expected i; swapped = swapped i; value = value i }

joined : (a b c d e f g : Bool) → (a && (b && (c && (d && (e && (f && g)))))) ≡ (a && b && c && d && e && f && g)
joined false b c d e f g = refl
joined true false c d e f g = refl
joined true true false d e f g = refl
joined true true true false e f g = refl
joined true true true true false f g = refl
joined true true true true true false g = refl
joined true true true true true true g = refl

-- what the derived `==` answers
pub same_derived : (o p : Operation)
    → (eqb o.number p.number && (eqb o.kind p.kind && (eqb o.node p.node && (eqb o.compared p.compared && (eqb o.expected p.expected && (eqb o.swapped p.swapped && eqb o.value p.value)))))) ≡ same o p
unfolding same
same_derived o p = joined (eqb o.number p.number) (eqb o.kind p.kind) (eqb o.node p.node) (eqb o.compared p.compared) (eqb o.expected p.expected) (eqb o.swapped p.swapped) (eqb o.value p.value)

-- ---- the first of a list

module _ (s : Settings) (r : Record) where
  -- it is the record's own operation

  abbrev First : Phase → Type 0
  First p = (o : Operation) (l : List Operation) → ahead_in s r p ≡ o ∷ l → o ≡ operation_at (touched_in s r p) (access_in s r p)

  walk_first : (p : Phase) (o : Operation) (l : List Operation) → walk s r p r.place ≡ o ∷ l → o ≡ operation_at (touched_in s r p) (access_in s r p)
  unfolding walk standing
  walk_first p o l e = (by_place (standing s r p) (list_length s r p) r.place o l e).0

  back_first : (count : ℕ) (o : Operation) (l : List Operation) → gives_back count s r ≡ o ∷ l → r.place < list_length s r returning → o ≡ operation_at (touched_in s r returning) (access_in s r returning)
  unfolding gives_back walk standing row
  back_first zero o l e b = absurd (none_some o l e)
  back_first (suc count) o l e b =
      let k : list_length s r returning - r.place ≡ suc (list_length s r returning - suc r.place) = omega arith in
      let behind = choose (eqb (grip_of r (suc r.giving)) 0) [] (gives_back count s (with_place 0 (with_giving (suc r.giving) r))) in
      sym (first_same _ _ _ _ (ap (λ (x : ℕ). map (standing s r returning) (row x r.place) ++ behind) (sym k) ∙ e))

  pub own_first : (last : ℕ) → Ready s r last → First (phase_of r.phase)
  unfolding ahead_in standing touched_in access_in claim_access list_length piece_at pieces
  own_first last rd =
      on_phase r.phase First
      (λ e o l q. absurd (none_some o l q))
      (λ e o l q. sym (first_same _ _ _ _ q))
      (λ e o l q. sym (first_same _ _ _ _ q))
      (λ e o l q. walk_first climb o l q)
      (λ e o l q. sym (first_same _ _ _ _ q))
      (λ e o l q. sym (first_same _ _ _ _ q))
      (λ e o l q. walk_first notify o l q)
      (λ e o l q. absurd (none_some o l q))
      (λ e o l q. walk_first check o l q)
      (λ e o l q. absurd (none_some o l q))
      (λ e o l q. back_first (length (pieces r)) o l q (omega (arith, rd.active.returning e)))
      (λ e o l q. absurd (none_some o l q))

-- ---- a list that is not empty

module _ (s : Settings) (c : Client) (u : ℕ) where
  abbrev r : Record
  r = c.«record»

  abbrev own : List Operation
  own = ahead_in s r (phase_of r.phase)

  -- what it shows
  pub record NotEmpty (o : Operation) (l : List Operation) : Type 0 where
    pub passed : first_cause (post_tests s c u) ≡ 0
    pub patient : out_of_patience s r u ≡ false
    pub listed : own ≡ o ∷ l

  pub not_empty : (o : Operation) (l : List Operation) → ahead_of s c u ≡ o ∷ l → NotEmpty o l
  unfolding ahead_of choose
  not_empty o l e =
      by_test (eqb (first_cause (post_tests s c u)) 0)
      (λ a. by_test (out_of_patience s r u)
      (λ b. absurd (none_some o l ((λ i. choose (sym a i) (choose (sym b i) [] own) []) ∙ e)))
      (λ b. record { passed = eqb-true _ 0 a; patient = b; listed = (λ i. choose (sym a i) (choose (sym b i) [] own) []) ∙ e }))
      (λ a. absurd (none_some o l ((λ i. choose (sym a i) (choose (out_of_patience s r u) [] own) []) ∙ e)))

  pub ahead_is : first_cause (post_tests s c u) ≡ 0 → out_of_patience s r u ≡ false → ahead_of s c u ≡ own
  unfolding ahead_of choose
  ahead_is a b = λ i. choose (eq-eqb _ 0 a i) (choose (b i) [] own) []

  module _ (o : Operation) (l : List Operation) (v : NotEmpty o l) where
    awake : r.phase ≢ 0
    unfolding ahead_in
    awake e = none_some o l (ap (ahead_in s r) (sym (at_idle r.phase e)) ∙ v.listed)

    pub is_ready : Ready s r c.clock
    is_ready =
        let t = post_tested s c u _ refl in
        ready s r c.clock (settled s (t.settings v.passed)) (t.readable v.passed) awake

    -- the first of the list is the client's next step
    pub first_due : o ≡ operation_answer s c u
    first_due =
        own_first s r c.clock is_ready o l v.listed
        ∙ ap₂ operation_at (sym (own_touched_lem s r u v.patient)) (sym (patient_access s r u v.patient))
        ∙ operation_found s c u _ refl v.passed
