-- A run's page by its parts: a refused one, and one of the run's own record. Assumes nothing.
use Rattle.std.specs.Prelude.{ℕ, Result, Ok, Err}
use Rattle.base.specs.declared.Refusal.{Refusal}
use Rattle.base.specs.rules.Refusals.{number_of}
use Rattle.base.specs.rules.Choice.{choose}
use Rattle.lock.specs.declared.Client.{Client}
use Rattle.lock.specs.declared.Record.{Record}
use Rattle.lock.specs.declared.Settings.{Settings}
use Rattle.lock.specs.rules.Records.{idle_with}
use Rattle.lock.specs.rules.Unreadable.{unreadable}
use Rattle.pages.specs.declared.RunPage.{RunPage}

abbrev pub refused_page : ℕ → RunPage
refused_page number = record { number = number; own = idle_with 0; held = 0 }

abbrev pub accepted_page : Record → ℕ → RunPage
accepted_page own held = record { number = 0; own = own; held = held }

-- what the code sees, its record and the count, or the cause of a refusal
abbrev pub page_by : Result (Record × ℕ) Refusal → RunPage
page_by (Ok seen) = accepted_page seen.0 seen.1
page_by (Err refusal) = refused_page (number_of refusal)

unfoldable pub own_page : Settings → Client → ℕ → RunPage
own_page s own held = choose (unreadable s own.«record» own.clock) (refused_page 6) (accepted_page own.«record» held)
