-- Laws: the clock by which a run completes its list is one by which it would post the same list. A later piece may run out of patience while its claim or its notices are on the way; by the clock t1 + T the
-- claim is late in any case, and if more than the wait was left of its patience when it read its parent, patience has not run out by then. Assumes nothing.
use Rattle.std.specs.Prelude.{Bool, true, false, ◌&&◌, ◌≡◌, List, [], ◌∷◌, max, ℕ, ◌+◌, ◌-◌, ◌≤◌, ◌<◌, eqb, leb, ltb}
use Rattle.std.proofs.Common.{sym, ap, ap₂, subst, ◌∙◌, arith, le-ltb}
use Rattle.std.proofs.lemmas.Bool.{lt-leb}
use Rattle.base.specs.rules.Choice.{choose}
use Rattle.base.specs.laws.ChoiceLaws.{on_choose, by_lt}
use Rattle.base.specs.laws.TestLaws.{test_true, test_false, second_false}
use Rattle.lock.specs.declared.Client.{Client}
use Rattle.lock.specs.declared.Operation.{Operation}
use Rattle.lock.specs.declared.Record.{Record}
use Rattle.lock.specs.declared.Settings.{Settings}
use Rattle.lock.specs.rules.Records.{phase_of}
use Rattle.lock.specs.rules.Unreadable.{unreadable}
use Rattle.lock.specs.rules.Steps.{out_of_patience}
use Rattle.lock.specs.rules.Calls.{first_cause, settings_outside}
use Rattle.lock.specs.rules.Operations.{post_tests}
use Rattle.runs.specs.rules.Ahead.{ahead_in, ahead_of}
use Rattle.lock.proofs.laws.PatienceLaws.{out_of_patience_lem}
use Rattle.network.specs.rules.Clocks.{claims, completing}
use Rattle.network.specs.rules.Network.{same_list}
use Rattle.network.proofs.laws.SameOperation.{list_itself}

-- a clock that does not go back tells only whether patience has run out
same_list_lem : (s : Settings) (c : Client) (p u : ℕ) → c.clock ≤ p → c.clock ≤ u → out_of_patience s c.«record» p ≡ out_of_patience s c.«record» u → same_list (ahead_of s c p) (ahead_of s c u) ≡ true
unfolding ahead_of post_tests
same_list_lem s c p u a b e =
    let r = c.«record» in
    subst (λ (l : List Operation). same_list (ahead_of s c p) l ≡ true)
    (ap₂ (λ (back out : Bool). choose (eqb (first_cause ((settings_outside s, 1) ∷ (back, 5) ∷ (unreadable s r c.clock, 6) ∷ [])) 0) (choose out [] (ahead_in s r (phase_of r.phase))) [])
    (le-ltb p c.clock a ∙ sym (le-ltb u c.clock b)) e)
    (list_itself (ahead_of s c p))

-- who begins to climb with more than the wait of its patience left is patient until t1 + T
patient_until : (s : Settings) (r : Record) → 0 < s.patience → r.t1 + s.wait < r.taken + s.patience → (t : ℕ) → t ≤ r.t1 + s.wait → out_of_patience s r t ≡ false
unfolding out_of_patience
patient_until s r some h t b = second_false (leb 1 r.phase && leb r.phase 8 && ltb 0 r.current) (leb s.patience (t - r.taken)) (lt-leb s.patience (t - r.taken) (omega arith))

-- so the run completes by a clock by which it would post the same list, whatever it reads
pub completing_same : (s : Settings) (c : Client) (before after : ℕ) → 0 < s.patience → c.clock ≤ before → before ≤ after → out_of_patience s c.«record» before ≡ false
    → (0 < c.«record».current → c.«record».t1 + s.wait < c.«record».taken + s.patience)
    → same_list (ahead_of s c before) (ahead_of s c (completing s c.«record» before after)) ≡ true
unfolding completing
completing_same s c before after some a b patient begun =
    let r = c.«record» in
    let Same : ℕ → Type 0 = λ u. same_list (ahead_of s c before) (ahead_of s c u) ≡ true in
    let late = r.t1 + s.wait in
    on_choose Same (claims r) _ _
    (λ _. on_choose Same (out_of_patience s r after) _ _
    (λ out. same_list_lem s c before (max before late) a (omega arith) (patient ∙ sym (by_lt before late
    (λ l. ap (out_of_patience s r) (let e : max before late ≡ late = omega arith in e) ∙ patient_until s r some (begun (out_of_patience_lem s r after (test_true _ out)).later) late (omega arith))
    (λ l. ap (out_of_patience s r) (let e : max before late ≡ before = omega arith in e) ∙ patient))))
    (λ in_time. same_list_lem s c before after a (omega arith) (patient ∙ sym (test_false _ in_time))))
    (λ _. list_itself (ahead_of s c before))
