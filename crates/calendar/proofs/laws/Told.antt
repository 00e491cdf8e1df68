-- Laws: the causes of a calendar and of a window, test by test, and what C is told of them. Assumes nothing.
use Rattle.std.specs.Prelude.{◌≡◌, true, false, List, ℕ, ◌<◌}
use Rattle.std.proofs.Common.{sym, ap, ◌∙◌, arith}
use Rattle.base.specs.declared.Refusal.{Refusal}
use Rattle.base.specs.rules.Choice.{choose}
use Rattle.base.specs.laws.RefusalLaws.{some_number}
use Rattle.base.specs.rules.Refusals.{number_of}
use Rattle.base.specs.laws.TestLaws.{by_test}
use Rattle.cover.specs.rules.Answer.{levels_outside}
use Rattle.calendar.specs.declared.Calendar.{Calendar}
use Rattle.calendar.specs.declared.Quarter.{Quarter}
use Rattle.calendar.specs.rules.Calendar.{figures_outside}
use Rattle.calendar.specs.rules.Back.{quarter_refused, quarter_answer}
use Rattle.calendar.specs.rules.Windows.{calendar_wrong, out_of_order, window_refused, window_answer}
use Rattle.calendar.specs.laws.Told.{figures_cause, order_cause}
use Rattle.calendar.proofs.laws.Code.{wrong_figures, window_1, window_12, window_13, quarter_1, quarter_12}

module _ (c : Calendar) where
  pub figures_1 : levels_outside c.levels ≡ true → 1 ≡ figures_cause c
  unfolding figures_cause choose
  figures_1 e = rw e

  module _ (levels : levels_outside c.levels ≡ false) where
    pub figures_12 : figures_outside c ≡ true → 12 ≡ figures_cause c
    unfolding figures_cause choose
    figures_12 e = rw (levels, e)

    pub figures_0 : figures_outside c ≡ false → 0 ≡ figures_cause c
    unfolding figures_cause choose
    figures_0 e = rw (levels, e)

module _ (c : Calendar) (hours : List ℕ) (first last : Quarter) where
  pub order_12 : calendar_wrong c hours first last ≡ true → 12 ≡ order_cause c hours first last
  unfolding order_cause choose
  order_12 e = rw e

  module _ (right : calendar_wrong c hours first last ≡ false) where
    pub order_13 : out_of_order c.weeks first last ≡ true → 13 ≡ order_cause c hours first last
    unfolding order_cause choose
    order_13 e = rw (right, e)

    pub order_0 : out_of_order c.weeks first last ≡ false → 0 ≡ order_cause c hours first last
    unfolding order_cause choose
    order_0 e = rw (right, e)

-- ---- a call refuses what its first tests refuse

module _ (c : Calendar) (cause : Refusal) where
  -- the two tests of a calendar
  by_figures : {P : Type 0} → number_of cause ≡ figures_cause c → (levels_outside c.levels ≡ true → number_of cause ≡ 1 → P)
      → (levels_outside c.levels ≡ false → figures_outside c ≡ true → number_of cause ≡ 12 → P) → P
  by_figures e f g =
      by_test (levels_outside c.levels) (λ l. f l (e ∙ sym (figures_1 c l)))
      (λ l.
      by_test (figures_outside c) (λ w. g l w (e ∙ sym (figures_12 c l w)))
      (λ w. absurd (omega (arith, some_number cause, e, figures_0 c l w))))

  pub figures_refused : (hours : List ℕ) (first last : Quarter) → number_of cause ≡ figures_cause c → window_refused (number_of cause) ≡ window_answer c hours first last
  figures_refused hours first last e =
      by_figures e (λ l n. ap window_refused n ∙ window_1 c hours first last l)
      (λ l w n. ap window_refused n ∙ window_12 c hours first last l (sym (wrong_figures c hours first last w)))

  pub quarter_figures_refused : (unit : ℕ) → number_of cause ≡ figures_cause c → quarter_refused (number_of cause) ≡ quarter_answer c unit
  quarter_figures_refused unit e =
      by_figures e (λ l n. ap quarter_refused n ∙ quarter_1 c unit l)
      (λ l w n. ap quarter_refused n ∙ quarter_12 c unit l w)

  pub order_refused : (hours : List ℕ) (first last : Quarter) → levels_outside c.levels ≡ false → number_of cause ≡ order_cause c hours first last
      → window_refused (number_of cause) ≡ window_answer c hours first last
  order_refused hours first last l e =
      by_test (calendar_wrong c hours first last) (λ w. ap window_refused (e ∙ sym (order_12 c hours first last w)) ∙ window_12 c hours first last l w)
      (λ w.
      by_test (out_of_order c.weeks first last) (λ o. ap window_refused (e ∙ sym (order_13 c hours first last w o)) ∙ window_13 c hours first last l w o)
      (λ o. absurd (omega (arith, some_number cause, e, order_0 c hours first last w o))))
