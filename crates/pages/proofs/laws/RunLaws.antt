-- A run's page by its parts: that they are the run's page. Assumes nothing.
use Rattle.std.specs.Prelude.{◌≡◌, Bool, List, [], ◌∷◌, ℕ, eqb, length}
use Rattle.std.proofs.Math.Path.{refl, sym, ap}
use Rattle.std.proofs.Common.{◌∙◌, arith}
use Rattle.std.proofs.Math.Bool.{true, false}
use Rattle.base.specs.rules.Choice.{choose}
use Rattle.base.specs.laws.ChoiceLaws.{choose_ne}
use Rattle.lock.specs.declared.Client.{Client}
use Rattle.lock.specs.declared.Record.{Record}
use Rattle.lock.specs.declared.Settings.{Settings}
use Rattle.lock.specs.rules.Unreadable.{unreadable}
use Rattle.lock.specs.rules.Calls.{Tests, first_cause, settings_outside, client_tests}
use Rattle.table.specs.laws.CauseLaws.{first_hits, first_passes}
use Rattle.pages.specs.rules.Pages.{held_count, own_client, run_tests, run_number, run_page}
use Rattle.pages.specs.laws.Causes.{run_cause}
use Rattle.pages.specs.laws.RunLaws.{refused_page, accepted_page, own_page}

module _ (s : Settings) (own : Client) (held : ℕ) where
  pub own_refused : unreadable s own.«record» own.clock ≡ true → refused_page 6 ≡ own_page s own held
  unfolding own_page choose
  own_refused e = sym (ap (λ (b : Bool). choose b (refused_page 6) (accepted_page own.«record» held)) e)

  pub own_accepted : unreadable s own.«record» own.clock ≡ false → accepted_page own.«record» held ≡ own_page s own held
  unfolding own_page choose
  own_accepted e = sym (ap (λ (b : Bool). choose b (refused_page 6) (accepted_page own.«record» held)) e)

module _ (s : Settings) (clients : List Client) (client : ℕ) where
  abbrev own : Client
  own = own_client clients client

  -- the tests of counts alone, and the one of the run's own record
  abbrev count_tests : Tests
  count_tests = (settings_outside s, 1) ∷ client_tests (length clients) client

  abbrev own_test : Tests
  own_test = (unreadable s own.«record» own.clock, 6) ∷ []

  -- refused by 1, 3 or 4
  pub run_refuses : (n : ℕ) → n ≡ run_cause s (length clients) client → (n ≡ 0 → ⊥) → refused_page n ≡ run_page s clients client
  unfolding run_page run_number run_tests run_cause
  run_refuses n e d =
      let number : run_number s clients client ≡ n = first_hits count_tests own_test (λ z. d (e ∙ z)) ∙ sym e in
      sym (choose_ne (run_number s clients client) 0 _ _ (λ z. d (sym number ∙ z)) ∙ ap refused_page number)

  -- the run's own record decides
  by_own : (r : Record) (held : ℕ) (b : Bool)
      → choose b (refused_page 6) (accepted_page r held) ≡ choose (eqb (first_cause ((b, 6) ∷ [])) 0) (accepted_page r held) (refused_page (first_cause ((b, 6) ∷ [])))
  unfolding first_cause choose
  by_own r held true = refl
  by_own r held false = refl

  pub run_takes : run_cause s (length clients) client ≡ 0 → own_page s own (held_count clients) ≡ run_page s clients client
  unfolding own_page run_page run_number run_tests run_cause client_tests
  run_takes z =
      let number = first_passes count_tests own_test ((λ e. omega (arith, e)), ((λ e. omega (arith, e)), ((λ e. omega (arith, e)), tt))) z in
      by_own own.«record» (held_count clients) (unreadable s own.«record» own.clock)
      ∙ ap (λ (n : ℕ). choose (eqb n 0) (accepted_page own.«record» (held_count clients)) (refused_page n)) (sym number)
