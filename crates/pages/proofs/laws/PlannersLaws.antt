-- The planners' page: refused by 1, 2 or 3, refused by 6, or a row for each client. Assumes nothing.
use Rattle.std.specs.Prelude.{◌≡◌, true, false, ℕ, length}
use Rattle.std.proofs.Math.Path.{sym}
use Rattle.std.proofs.Common.{◌∙◌, arith}
use mathlib.Core.List.{List, [], ◌∷◌}
use Rattle.base.specs.laws.ChoiceLaws.{choose_eq, choose_ne}
use Rattle.lock.specs.declared.Client.{Client}
use Rattle.lock.specs.declared.Settings.{Settings}
use Rattle.lock.specs.rules.Unreadable.{differ}
use Rattle.lock.specs.rules.Calls.{Tests, first_cause, settings_outside, clients_outside}
use Rattle.lock.proofs.laws.CallLaws.{cause_hit, cause_skip}
use Rattle.table.specs.laws.CauseLaws.{first_hits, first_passes}
use Rattle.pages.specs.declared.Row.{Row}
use Rattle.pages.specs.rules.Pages.{rows_of, any_unreadable, planners_tests, planners_number, page, planners_page}
use Rattle.pages.specs.laws.Causes.{planners_cause}

module _ (s : Settings) (clients : List Client) (rows : List Row) where
  abbrev cause : ℕ
  cause = planners_cause s (length rows) (length clients)

  abbrev number : ℕ
  number = planners_number s clients (length rows)

  -- the chain of 1 to 3, and the test of 6 behind it
  abbrev count_tests : Tests
  count_tests = (settings_outside s, 1) ∷ (differ (length rows) (length clients), 2) ∷ (clients_outside (length clients), 3) ∷ []

  abbrev record_test : Tests
  record_test = (any_unreadable s clients, 6) ∷ []

  number_counts : (cause ≡ 0 → ⊥) → number ≡ cause
  unfolding planners_number planners_tests planners_cause
  number_counts d = first_hits count_tests record_test d

  number_behind : cause ≡ 0 → number ≡ first_cause record_test
  unfolding planners_number planners_tests planners_cause
  number_behind z = first_passes count_tests record_test ((λ e. omega (arith, e)), ((λ e. omega (arith, e)), ((λ e. omega (arith, e)), tt))) z

  -- ---- refused: every row as it was

  page_refused : (n : ℕ) → number ≡ n → (n ≡ 0 → ⊥) → page n rows ≡ planners_page s clients rows
  unfolding planners_page
  page_refused n e d =
      let kept = choose_ne number 0 (rows_of s clients) rows (λ z. d (sym e ∙ z)) in
      λ i. page (sym e i) (sym kept i)

  pub planners_refuses : (n : ℕ) → n ≡ cause → (n ≡ 0 → ⊥) → page n rows ≡ planners_page s clients rows
  planners_refuses n e d = page_refused n (number_counts (λ z. d (e ∙ z)) ∙ sym e) d

  pub planners_unreadable : cause ≡ 0 → any_unreadable s clients ≡ true → page 6 rows ≡ planners_page s clients rows
  planners_unreadable z t = page_refused 6 (number_behind z ∙ cause_hit (any_unreadable s clients) 6 [] t) (λ e. omega (arith, e))

  -- ---- accepted

  pub planners_takes : (n : ℕ) → n ≡ 0 → cause ≡ 0 → any_unreadable s clients ≡ false → page n (rows_of s clients) ≡ planners_page s clients rows
  unfolding planners_page first_cause
  planners_takes n e z f =
      let none : number ≡ 0 = number_behind z ∙ cause_skip (any_unreadable s clients) 6 [] f in
      let made = choose_eq number 0 (rows_of s clients) rows none in
      λ i. page ((e ∙ sym none) i) (sym made i)
