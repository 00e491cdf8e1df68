-- Laws of the answers to operations posted together, one for each way through them. Assumes nothing.
use Rattle.std.specs.Prelude.{◌≡◌, refl, Bool, true, false, ℕ, ◌<◌, ◌≤◌, min, length, Result, Ok, Err}
use Rattle.std.proofs.Common.{sym, ◌∙◌, arith}
use Rattle.std.proofs.Math.Path.{ap, ap₂}
use Rattle.std.specs.Result.{result_unwrap_or}
use mathlib.Core.List.{List, []}
use Rattle.base.specs.declared.Refusal.{Refusal}
use Rattle.base.specs.rules.Choice.{choose}
use Rattle.base.specs.rules.Refusals.{number_of}
use Rattle.base.specs.laws.ChoiceLaws.{choose_eq, choose_ne, by_eq}
use Rattle.lock.specs.declared.Client.{Client}
use Rattle.lock.specs.declared.Operation.{Operation}
use Rattle.lock.specs.declared.Settings.{Settings}
use Rattle.lock.specs.rules.Records.{phase_of}
use Rattle.lock.specs.rules.Steps.{out_of_patience}
use Rattle.lock.specs.rules.Calls.{first_cause}
use Rattle.lock.specs.rules.Operations.{post_tests}
use Rattle.lock.specs.laws.Active.{Settled}
use Rattle.lock.specs.laws.Placed.{Sound}
use Rattle.lock.proofs.laws.SettledLaws.{settled}
use Rattle.lock.proofs.laws.Touched.{readable}
use Rattle.lock.proofs.laws.OperationLaws.{post_tested}
use Rattle.runs.specs.declared.Ahead.{Ahead}
use Rattle.runs.specs.rules.Ahead.{ahead_in, ahead_of, ahead_answer}

-- what the code answers, how many operations are posted together or the cause of a refusal, as C is told it
abbrev pub ahead_by : Result ℕ Refusal → Ahead
ahead_by (Ok count) = record { number = 0; count = count }
ahead_by (Err refusal) = record { number = number_of refusal; count = 0 }

module _ (s : Settings) (c : Client) (clock n : ℕ) (e : n ≡ first_cause (post_tests s c clock)) where
  abbrev patient : List Operation
  patient = choose (out_of_patience s c.«record» clock) [] (ahead_in s c.«record» (phase_of c.«record».phase))

  pub none_refused : (n ≡ 0 → ⊥) → ahead_of s c clock ≡ []
  unfolding ahead_of
  none_refused d = choose_ne (first_cause (post_tests s c clock)) 0 patient [] (λ z. d (e ∙ z))

  module _ (z : n ≡ 0) where
    taken_up : ahead_of s c clock ≡ patient
    unfolding ahead_of
    taken_up = choose_eq (first_cause (post_tests s c clock)) 0 patient [] (sym e ∙ z)

    pub none_impatient : out_of_patience s c.«record» clock ≡ true → ahead_of s c clock ≡ []
    unfolding choose
    none_impatient t = taken_up ∙ ap (λ (b : Bool). choose b [] (ahead_in s c.«record» (phase_of c.«record».phase))) t

    pub found_patient : out_of_patience s c.«record» clock ≡ false → ahead_of s c clock ≡ ahead_in s c.«record» (phase_of c.«record».phase)
    unfolding choose
    found_patient t = taken_up ∙ ap (λ (b : Bool). choose b [] (ahead_in s c.«record» (phase_of c.«record».phase))) t

  module _ (room k : ℕ) where
    pub answer_by : k ≡ min room (length (ahead_of s c clock)) → record { number = n; count = k } ≡ ahead_answer s c clock room
    unfolding ahead_answer
    answer_by f = ap₂ (λ (x y : ℕ). record { number = x; count = y }) e f

-- what a client's tests have shown where they passed
pub record Tested (s : Settings) (c : Client) (clock : ℕ) : Type 0 where
  pub settings : Settled s
  pub sound : Sound s c.«record»
  pub taken : c.«record».taken ≤ clock

pub tested : (s : Settings) (c : Client) (clock : ℕ) → 0 ≡ first_cause (post_tests s c clock) → Tested s c clock
tested s c clock z =
    let v = post_tested s c clock 0 z in
    let g = settled s (v.settings refl) in
    let f = readable s c.«record» c.clock g (v.readable refl) in
    record { settings = g; sound = f.sound; taken = omega (arith, f.taken_past, v.onward refl) }

-- the count, where C's answer is made of the code's
pub count_by : (answer : Result ℕ Refusal) → result_unwrap_or answer 0 ≡ (ahead_by answer).count
count_by (Ok count) = refl
count_by (Err refusal) = refl

-- where an operation is posted, the tests passed
pub record Posting (s : Settings) (c : Client) (clock : ℕ) : Type 0 where
  pub settings : Settled s
  pub sound : Sound s c.«record»
  pub list : ahead_of s c clock ≡ ahead_in s c.«record» (phase_of c.«record».phase)

pub posting : (s : Settings) (c : Client) (clock i : ℕ) → i < length (ahead_of s c clock) → Posting s c clock
posting s c clock i b =
    let n = first_cause (post_tests s c clock) in
    by_eq n 0
    (λ z. let v = post_tested s c clock n refl in let g = settled s (v.settings z) in
    let f = readable s c.«record» c.clock g (v.readable z) in
    by (out_of_patience s c.«record» clock) refl z g f.sound)
    (λ d. absurd (omega (arith, b, ap length (none_refused s c clock n refl d))))
  where
    by : (t : Bool) → out_of_patience s c.«record» clock ≡ t → first_cause (post_tests s c clock) ≡ 0 → Settled s → Sound s c.«record» → Posting s c clock
    by true t z g f = absurd (omega (arith, b, ap length (none_impatient s c clock _ refl z t)))
    by false t z g f = record { settings = g; sound = f; list = found_patient s c clock _ refl z t }
