-- Laws of what counts of operations posted together, as a loop finds it one after another. Assumes nothing.
use Rattle.std.specs.Prelude.{◌≡◌, Bool, ◌&&◌, length, get_or, drop, Option, Some, None, Result, Ok, Err}
use Rattle.std.proofs.Math.Path.{refl, sym, ap, ap₂}
use Rattle.std.proofs.Common.{subst, ◌∙◌, add-one, drop_of_length-le, drop-cons}
use Rattle.std.proofs.Math.Bool.{true, false}
use Rattle.std.specs.Result.{result_ok}
use mathlib.Core.List.{List, [], ◌∷◌}
use Prim.Native.Nat.{ℕ, suc, ◌+◌, ◌≤◌, ◌<◌, min}
use native.Mathlib.Omega.{arith}
use Rattle.std.proofs.Math.Dec.{eqb}
use borrow.Author.Tests.{eq-eqb, ne_eqb}
use Rattle.base.specs.declared.Refusal.{Refusal}
use Rattle.base.specs.rules.Choice.{choose}
use Rattle.base.specs.rules.Refusals.{number_of}
use Rattle.base.specs.laws.ChoiceLaws.{by_lt, by_eq}
use Rattle.base.specs.laws.TestLaws.{second_false}
use Rattle.lock.specs.declared.Client.{Client}
use Rattle.lock.specs.declared.Operation.{Operation}
use Rattle.lock.specs.declared.Settings.{Settings}
use Rattle.lock.specs.declared.Stepped.{Stepped}
use Rattle.lock.specs.rules.Calls.{first_cause, stepped_by}
use Rattle.lock.specs.rules.Steps.{touched, access}
use Rattle.lock.specs.rules.Operations.{operation_at, post_tests, operation_answer, completed_answer}
use Rattle.lock.proofs.laws.CallLaws.{cause_some}
use Rattle.lock.proofs.laws.OperationLaws.{operation_found, completed_refused}
use Rattle.runs.specs.declared.CompletedAll.{CompletedAll}
use Rattle.runs.specs.rules.Ahead.{same, Counted, nothing_more, along, ahead_of, first_number, completed_all_answer}
use Rattle.runs.specs.laws.FirstDue.{same_itself, not_empty, first_due}
use Rattle.runs.specs.laws.Standing.{no_operation}

-- whether an operation that was posted counts, and the client after it: number 0, or 1 and the client as it was
unfoldable pub one_counted : Settings → ℕ → Client → Operation → ℕ → Stepped
one_counted s t c o w =
    choose (same (operation_answer s c t) o && eqb (completed_answer s c t w).number 0) (record { number = 0; next = (completed_answer s c t w).next }) (record { number = 1; next = c })

-- what the code answers of one operation, the client after it if it counts
abbrev pub counted_by : Client → Option Client → Stepped
counted_by c (Some next) = record { number = 0; next = next }
counted_by c None = record { number = 1; next = c }

-- and of all, how many counted and the client after those or the cause of a refusal, as C is told it
abbrev pub completed_by : Client → Result (ℕ × Client) Refusal → CompletedAll
completed_by c (Ok answer) = record { number = 0; counted = answer.0; next = answer.1 }
completed_by c (Err refusal) = record { number = number_of refusal; counted = 0; next = c }

module _ (s : Settings) (t : ℕ) (c : Client) (o : Operation) (w : ℕ) where
  abbrev counts : Bool
  counts = same (operation_answer s c t) o && eqb (completed_answer s c t w).number 0

  abbrev taken : Stepped
  taken = record { number = 0; next = (completed_answer s c t w).next }

  abbrev left : Stepped
  left = record { number = 1; next = c }

  abbrev taken_as : Client → Stepped
  taken_as next = record { number = 0; next = next }

  -- as the code tests it: the completion first
  pub not_taken : ((completed_answer s c t w).number ≡ 0 → ⊥) → left ≡ one_counted s t c o w
  unfolding one_counted choose
  not_taken d = sym (ap (λ (b : Bool). choose b taken left) (second_false (same (operation_answer s c t) o) _ (ne_eqb _ 0 d)))

  module _ (answer : Result Client Refusal) (e : stepped_by c answer ≡ completed_answer s c t w) where
    pub refused_number : result_ok answer ≡ None → (completed_answer s c t w).number ≡ 0 → ⊥
    refused_number = by answer e
      where
        by : (x : Result Client Refusal) → stepped_by c x ≡ completed_answer s c t w → result_ok x ≡ None → (completed_answer s c t w).number ≡ 0 → ⊥
        by (Ok y) f n z = cc
        by (Err y) f n z = cause_some y (ap (λ (x : Stepped). x.number) f ∙ z)

    pub accepted_next : (next : Client) → result_ok answer ≡ Some next → taken_as next ≡ completed_answer s c t w
    accepted_next next = by answer e
      where
        by : (x : Result Client Refusal) → stepped_by c x ≡ completed_answer s c t w → result_ok x ≡ Some next → taken_as next ≡ completed_answer s c t w
        by (Ok y) f n = ap taken_as (let q : next ≡ y = cc in q) ∙ f
        by (Err y) f n = cc

  module _ (z : (completed_answer s c t w).number ≡ 0) where
    -- the tests of the client were passed
    pub passed : first_cause (post_tests s c t) ≡ 0
    passed = by_eq (first_cause (post_tests s c t)) 0 (λ e. e) (λ d. absurd (d (ap (λ (x : Stepped). x.number) (completed_refused s c t _ refl w d) ∙ z)))

    pub its_operation : operation_at (touched s c.«record» t) (access s c.«record» t) ≡ operation_answer s c t
    its_operation = operation_found s c t _ refl passed

    pub is_taken : same (operation_answer s c t) o ≡ true → taken ≡ one_counted s t c o w
    unfolding one_counted choose
    is_taken e = sym (λ i. choose (e i && eq-eqb _ 0 z i) taken left)

    pub not_same : same (operation_answer s c t) o ≡ false → left ≡ one_counted s t c o w
    unfolding one_counted choose
    not_same e = sym (ap (λ (b : Bool). choose (b && eqb (completed_answer s c t w).number 0) taken left) e)

  module _ (os : List Operation) (ws : List ℕ) where
    abbrev onward : Counted
    onward = along s t (completed_answer s c t w).next os ws

    both_ways : (b : Bool) → b ≡ counts
        → (((choose b taken left).number ≡ 0) → along s t c (o ∷ os) (w ∷ ws) ≡ record { count = suc (along s t (choose b taken left).next os ws).count; next = (along s t (choose b taken left).next os ws).next })
        × (((choose b taken left).number ≡ 0 → ⊥) → along s t c (o ∷ os) (w ∷ ws) ≡ nothing_more c)
    unfolding along choose
    both_ways true e = (λ _. sym (ap (λ (b : Bool). choose b (record { count = suc onward.count; next = onward.next }) (nothing_more c)) e), λ d. absurd (d refl))
    both_ways false e = (λ z. absurd (omega (arith, z)), λ _. sym (ap (λ (b : Bool). choose b (record { count = suc onward.count; next = onward.next }) (nothing_more c)) e))

    pub along_on : (one_counted s t c o w).number ≡ 0
        → along s t c (o ∷ os) (w ∷ ws) ≡ record { count = suc (along s t (one_counted s t c o w).next os ws).count; next = (along s t (one_counted s t c o w).next os ws).next }
    unfolding one_counted
    along_on z = (both_ways counts refl).0 z

    pub along_off : ((one_counted s t c o w).number ≡ 0 → ⊥) → along s t c (o ∷ os) (w ∷ ws) ≡ nothing_more c
    unfolding one_counted
    along_off d = (both_ways counts refl).1 d

pub no_operations : (s : Settings) (t : ℕ) (c : Client) (ws : List ℕ) → along s t c [] ws ≡ nothing_more c
unfolding along
no_operations s t c ws = refl

pub no_words : (s : Settings) (t : ℕ) (c : Client) (os : List Operation) → along s t c os [] ≡ nothing_more c
unfolding along
no_words s t c [] = refl
no_words s t c (o ∷ os) = refl

-- ---- the loop: the first i counted, and c is the client after them

module _ (s : Settings) (t : ℕ) (whole : Counted) (os : List Operation) (ws : List ℕ) where
  unfoldable pub SoFar : Client → ℕ → Type 0
  SoFar c i = whole ≡ record { count = i + (along s t c (drop i os) (drop i ws)).count; next = (along s t c (drop i os) (drop i ws)).next }

  module _ (c : Client) (i : ℕ) (v : SoFar c i) where
    module _ (d : i < length os) (e : i < length ws) where
      abbrev o : Operation
      o = get_or os i no_operation

      abbrev w : ℕ
      w = get_or ws i 0

      here : along s t c (drop i os) (drop i ws) ≡ along s t c (o ∷ drop (suc i) os) (w ∷ drop (suc i) ws)
      here = ap₂ (along s t c) (drop-cons os i no_operation d) (drop-cons ws i 0 e)

      pub goes_on : (one_counted s t c o w).number ≡ 0 → SoFar (one_counted s t c o w).next (i + 1)
      unfolding SoFar
      goes_on z =
          let next = (one_counted s t c o w).next in
          v
          ∙ ap (λ (x : Counted). record { count = i + x.count; next = x.next }) (here ∙ along_on s t c o w (drop (suc i) os) (drop (suc i) ws) z)
          ∙ ap (λ (j : ℕ). record { count = i + suc (along s t next (drop j os) (drop j ws)).count; next = (along s t next (drop j os) (drop j ws)).next }) (sym (add-one i))
          ∙ ap (λ (k : ℕ). record { count = k; next = (along s t next (drop (i + 1) os) (drop (i + 1) ws)).next })
          (let f : i + suc (along s t next (drop (i + 1) os) (drop (i + 1) ws)).count ≡ i + 1 + (along s t next (drop (i + 1) os) (drop (i + 1) ws)).count = omega arith in f)

      pub stops : ((one_counted s t c o w).number ≡ 0 → ⊥) → whole ≡ record { count = i; next = c }
      unfolding SoFar
      stops z = v ∙ ap (λ (x : Counted). record { count = i + x.count; next = x.next }) (here ∙ along_off s t c o w (drop (suc i) os) (drop (suc i) ws) z) ∙ ap (λ (k : ℕ). record { count = k; next = c }) (let f : i + 0 ≡ i = omega arith in f)

    pub ends : min (length ws) (length os) ≤ i → whole ≡ record { count = i; next = c }
    unfolding SoFar
    ends b =
        v ∙ ap (λ (x : Counted). record { count = i + x.count; next = x.next }) none_left ∙ ap (λ (k : ℕ). record { count = k; next = c }) (let f : i + 0 ≡ i = omega arith in f)
      where
        none_left : along s t c (drop i os) (drop i ws) ≡ nothing_more c
        none_left =
            by_lt i (length os) (λ q. ap (along s t c (drop i os)) (drop_of_length-le ws {i = i} (omega arith)) ∙ no_words s t c (drop i os))
            (λ q. ap (λ (l : List Operation). along s t c l (drop i ws)) (drop_of_length-le os q) ∙ no_operations s t c (drop i ws))

-- ---- the answer

module _ (s : Settings) (c : Client) (t : ℕ) (ws : List ℕ) where
  abbrev all : List Operation
  all = ahead_of s c t

  abbrev whole : Counted
  whole = along s t c all ws

  pub starts : SoFar s t whole all ws c 0
  unfolding SoFar
  starts = ap (λ (k : ℕ). record { count = k; next = whole.next }) (let f : whole.count ≡ 0 + whole.count = omega arith in f)

  first_completed : (os : List Operation) (l : List ℕ) → 0 < min (length l) (length os) → (completed_answer s c t (get_or l 0 0)).number ≡ first_number s t c os l
  unfolding first_number
  first_completed [] l b = absurd (omega arith)
  first_completed (o ∷ os) [] b = absurd (omega arith)
  first_completed (o ∷ os) (w ∷ l) b = refl

  first_caused : (os : List Operation) (l : List ℕ) → min (length l) (length os) ≡ 0 → first_cause (post_tests s c t) ≡ first_number s t c os l
  unfolding first_number
  first_caused [] l b = refl
  first_caused (o ∷ os) [] b = refl
  first_caused (o ∷ os) (w ∷ l) b = absurd (omega arith)

  abbrev answer : ℕ → Counted → CompletedAll
  answer n d = record { number = n; counted = d.count; next = d.next }

  pub all_counted : (n i : ℕ) (d : Client) → 0 < min (length ws) (length all) → n ≡ (completed_answer s c t (get_or ws 0 0)).number → whole ≡ record { count = i; next = d }
      → record { number = n; counted = i; next = d } ≡ completed_all_answer s c t ws
  unfolding completed_all_answer
  all_counted n i d b e f = ap₂ answer (e ∙ first_completed all ws b) (sym f)

  pub none_counted : (n : ℕ) → min (length ws) (length all) ≡ 0 → n ≡ first_cause (post_tests s c t) → record { number = n; counted = 0; next = c } ≡ completed_all_answer s c t ws
  unfolding completed_all_answer
  none_counted n b e = ap₂ answer (e ∙ first_caused all ws b) (sym (ends s t whole all ws c 0 starts (omega arith)))

  -- the first is the client's next step in any case
  first_is : 0 < length all → same (operation_answer s c t) (get_or all 0 no_operation) ≡ true
  first_is b =
      let o = get_or all 0 no_operation in
      let l = drop 1 all in
      let due = first_due s c t o l (not_empty s c t o l (drop-cons all 0 no_operation b)) in
      subst (λ (p : Operation). same p o ≡ true) due (same_itself o)

  abbrev found : ℕ
  found = get_or ws 0 0

  pub begins : 0 < min (length ws) (length all) → (completed_answer s c t found).number ≡ 0 → SoFar s t whole all ws (completed_answer s c t found).next 1
  begins b z =
      let o = get_or all 0 no_operation in
      let one = is_taken s t c o found z (first_is (omega arith)) in
      subst (λ (x : Stepped). SoFar s t whole all ws x.next 1) (sym one) (goes_on s t whole all ws c 0 starts (omega arith) (omega arith) (sym (ap (λ (x : Stepped). x.number) one)))

  pub first_refused : 0 < min (length ws) (length all) → ((completed_answer s c t found).number ≡ 0 → ⊥) → whole ≡ record { count = 0; next = c }
  first_refused b d =
      let o = get_or all 0 no_operation in
      stops s t whole all ws c 0 starts (omega arith) (omega arith) (λ z. omega (arith, z, ap (λ (x : Stepped). x.number) (not_taken s t c o found d)))
