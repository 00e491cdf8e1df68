-- Laws of patience: where it has not run out a step does the work of its phase, and where it has the record begins to return. Assumes nothing.
use Rattle.std.specs.Prelude.{◌≡◌, refl, ◌≢◌, Bool, true, false, ◌&&◌, ◌||◌, List, ℕ, ◌-◌, ◌≤◌, ◌<◌, length}
use Rattle.std.proofs.Math.Path.{sym, ap}
use Rattle.std.proofs.Common.{subst, ◌∙◌, arith}
use Rattle.std.proofs.Math.Bool.{not}
use borrow.Author.Tests.{leb-true, ltb-true, lt-leb, lt-ltb, le-ltb, eq-eqb, ne_eqb}
use Rattle.std.proofs.Math.Dec.{T, eqb, leb, ltb}
use Rattle.base.specs.rules.Choice.{choose}
use Rattle.base.specs.laws.ChoiceLaws.{on_choose, choose_no}
use Rattle.base.specs.laws.TestLaws.{both_true, second_false}
use Rattle.lock.specs.declared.Record.{Record}
use Rattle.lock.specs.declared.Settings.{Settings}
use Rattle.lock.specs.rules.Records.{pieces, word_at, with_taken}
use Rattle.lock.specs.rules.Steps.{first_noted, own_touched, out_of_patience, touched, moved, given_up}
use Rattle.lock.specs.laws.Rows.{leaves, own_moved}
use Rattle.lock.proofs.laws.Rows.{moved_row, moved_impatient}
use Rattle.lock.specs.rules.Unreadable.{nonzero, taken_first}
use Rattle.lock.specs.laws.Placed.{Pieced}
use Rattle.lock.proofs.laws.StepLaws.{pieced_kept}

-- what it shows that patience has run out
pub record OutOfPatience (r : Record) : Type 0 where
  pub begun : 1 ≤ r.phase
  pub untaken : r.phase ≤ 8
  pub later : 0 < r.current

module _ (s : Settings) (r : Record) (t : ℕ) where
  pub out_of_patience_lem : out_of_patience s r t ≡ true → OutOfPatience r
  unfolding out_of_patience
  out_of_patience_lem e =
      let p = both_true _ (leb s.patience (t - r.taken)) e in
      let c = both_true _ (ltb 0 r.current) p.0 in
      let b = both_true (leb 1 r.phase) (leb r.phase 8) c.0 in
      record {
        begun = leb-true 1 r.phase b.0;
        untaken = leb-true r.phase 8 b.1;
        later = ltb-true 0 r.current c.1;
      }

  -- idle, held and returning records have no patience that could run out
  pub patient_idle : r.phase ≡ 0 → out_of_patience s r t ≡ false
  unfolding out_of_patience
  patient_idle e = ap (λ b. b && leb r.phase 8 && ltb 0 r.current && leb s.patience (t - r.taken)) (lt-leb 1 r.phase (omega arith))

  pub patient_taken : 8 < r.phase → out_of_patience s r t ≡ false
  unfolding out_of_patience
  patient_taken l = ap (λ b. b && ltb 0 r.current && leb s.patience (t - r.taken)) (second_false (leb 1 r.phase) _ (lt-leb r.phase 8 l))

  module _ (e : out_of_patience s r t ≡ false) where
    pub own_touched_lem : touched s r t ≡ own_touched s r
    own_touched_lem = choose_no (out_of_patience s r t) _ _ (subst (λ (b : Bool). T (not b)) (sym e) tt)

    pub own_moved_lem : (w : ℕ) → moved s r w t ≡ own_moved s r w t
    own_moved_lem w = moved_row s r w t e

  module _ (e : out_of_patience s r t ≡ true) where
    pub sent_back_touched : touched s r t ≡ 0
    unfolding choose
    sent_back_touched = ap (λ (b : Bool). choose b 0 (own_touched s r)) e

    pub sent_back_moved : (w : ℕ) → moved s r w t ≡ leaves w (given_up r)
    sent_back_moved w = moved_impatient s r w t e

-- where it has not run out, and the work of the phase leaves word and record as they are, so does the step
pub unmoved : (s : Settings) (r : Record) (words : List ℕ) (t : ℕ) → out_of_patience s r t ≡ false
    → let w = word_at words (own_touched s r) in own_moved s r w t ≡ leaves w r
    → let w = word_at words (touched s r t) in moved s r w t ≡ leaves w r
unmoved s r words t e f =
    subst (λ (n : ℕ). moved s r (word_at words n) t ≡ leaves (word_at words n) r) (sym (own_touched_lem s r t e)) (own_moved_lem s r t e _ ∙ f)

-- ---- the third time at a first piece

module _ (r : Record) where
  -- held, or returning after a release
  abbrev pub held_or_released : Bool
  held_or_released = eqb r.phase 9 || eqb r.phase 10 && eqb r.outcome 1

  pub no_time : r.taken ≡ 0 → taken_first r ≡ false
  unfolding taken_first
  no_time z = ap (λ b. b && eqb r.current 0 && not held_or_released) (le-ltb 0 r.taken (omega arith))

  pub later_time : r.current ≢ 0 → taken_first r ≡ false
  unfolding taken_first
  later_time d = ap (λ b. b && not held_or_released) (second_false (nonzero r.taken) _ (ne_eqb r.current 0 d))

  pub first_time : r.taken ≢ 0 → r.current ≡ 0 → not held_or_released ≡ taken_first r
  unfolding taken_first
  first_time d e = λ i. sym (lt-ltb 0 r.taken (omega arith)) i && sym (eq-eqb r.current 0 e) i && not held_or_released

-- ---- noting the third time changes no piece

pub noted_pieced : (r : Record) (t : ℕ) (q : Record) → q ≡ first_noted r t → Pieced r → (i : ℕ) → i < length (pieces r) → Pieced q × (i < length (pieces q))
unfolding first_noted pieces
noted_pieced r t q e v i b =
    subst (λ x. Pieced x × (i < length (pieces x))) (sym e)
    (on_choose (λ x. Pieced x × (i < length (pieces x))) (eqb r.current 0) (with_taken t r) r (λ _. (pieced_kept r (with_taken t r) v refl refl refl, b)) (λ _. (v, b)))
