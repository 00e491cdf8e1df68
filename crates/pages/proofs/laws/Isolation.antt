-- Document 02, requests 2.1 and 2.3: a run gets a page "with its own record and the number of clients in phase 9, and no more". Assumes nothing.
use Rattle.std.specs.Prelude.{◌≡◌, List, [], ◌∷◌, ◌++◌, ℕ, eqb, length}
use Rattle.std.proofs.Math.Path.{refl}
use Rattle.std.proofs.Common.{sym, ◌∙◌}
use Rattle.base.specs.rules.Choice.{choose}
use Rattle.lock.specs.declared.Client.{Client}
use Rattle.lock.specs.declared.Record.{Record}
use Rattle.lock.specs.declared.Settings.{Settings}
use Rattle.lock.specs.rules.Unreadable.{unreadable}
use Rattle.lock.specs.rules.Calls.{first_cause, settings_outside, client_tests}
use Rattle.pages.specs.declared.RunPage.{RunPage}
use Rattle.pages.specs.rules.Pages.{held_count, own_client, run_tests, run_number, run_page}
use Rattle.pages.specs.laws.RunLaws.{refused_page, accepted_page}

-- all that a page reads of the table: how many clients there are, the run's own clock and record, and how many are in phase 9
module _ (s : Settings) (client : ℕ) where
  unfoldable number_by : (count clock : ℕ) → Record → ℕ
  number_by count clock own = first_cause ((settings_outside s, 1) ∷ (client_tests count client ++ ((unreadable s own clock, 6) ∷ [])))

  unfoldable page_by : (count clock : ℕ) → Record → ℕ → RunPage
  page_by count clock own held = choose (eqb (number_by count clock own) 0) (accepted_page own held) (refused_page (number_by count clock own))

  page_by_lem : (clients : List Client)
      → run_page s clients client ≡ page_by (length clients) (own_client clients client).clock (own_client clients client).«record» (held_count clients)
  unfolding run_page run_number run_tests number_by page_by
  page_by_lem clients = refl

-- "Two tables of one size, under the same settings and last clock, that agree on a run's record and on that number give the run the same page."; the last clock is the run's own
-- (2.3), and of the others neither record nor clock is asked
pub isolation : (s : Settings) (one two : List Client) (client : ℕ)
    → length one ≡ length two
    → (own_client one client).clock ≡ (own_client two client).clock
    → (own_client one client).«record» ≡ (own_client two client).«record»
    → held_count one ≡ held_count two
    → run_page s one client ≡ run_page s two client
isolation s one two client size clock own held =
    page_by_lem s client one ∙ (λ i. page_by s client (size i) (clock i) (own i) (held i)) ∙ sym (page_by_lem s client two)
