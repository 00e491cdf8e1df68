-- To be believed: document 02, requests 2.1, 2.3 and 2.4: the page that planners get of the lent client table, and the page that a forecast run gets of it. 2.1's "last clock" is each
-- client's own (2.3, it "is 2.1's last clock"). Assumes nothing.
use Rattle.std.specs.Prelude.{Bool, false, ◌||◌, List, [], ◌∷◌, ◌++◌, map, ℕ, ◌+◌, eqb, length, get_or}
use Rattle.base.specs.rules.Choice.{choose}
use Rattle.cover.specs.rules.Cover.{total}
use Rattle.lock.specs.declared.Client.{Client}
use Rattle.lock.specs.declared.Record.{Record}
use Rattle.lock.specs.declared.Settings.{Settings}
use Rattle.lock.specs.rules.Records.{pieces, idle_with, idle_client}
use Rattle.lock.specs.rules.Unreadable.{differ, unreadable}
use Rattle.lock.specs.rules.StepCount.{step_count}
use Rattle.lock.specs.rules.Calls.{Tests, first_cause, settings_outside, clients_outside, client_tests}
use Rattle.pages.specs.declared.Row.{Row}
use Rattle.pages.specs.declared.RunPage.{RunPage}

-- ---- "Planners want a page with every client's phase, edges, pieces and over-cover, all zero for an idle one."

-- the row of a client's record; 2.4, "The planners' page gains it", how many steps its window needs
unfoldable pub row_of : Settings → Record → Row
row_of s r =
    choose (eqb r.phase 0)
    (record { phase = 0; left = 0; right = 0; first = 0; second = 0; over = 0; steps = 0 })
    (record {
      phase = r.phase;
      left = r.left;
      right = r.right;
      first = r.first;
      second = r.second;
      over = total s.levels r.left r.right (pieces r);
      steps = step_count s.levels s.distance r.left r.right;
    })

-- a row for each client, in their order
unfoldable pub rows_of : Settings → List Client → List Row
rows_of s clients = map (λ (c : Client). row_of s c.«record») clients

-- some client's record is unreadable
unfoldable pub any_unreadable : Settings → List Client → Bool
any_unreadable s [] = false
any_unreadable s (c ∷ cs) = unreadable s c.«record» c.clock || any_unreadable s cs

-- "The pages test 1, 2 (a planners' page lent with other than one row a client), 3, .. and 6"
unfoldable pub planners_tests : Settings → List Client → ℕ → Tests
planners_tests s clients rows =
    (settings_outside s, 1) ∷ (differ rows (length clients), 2) ∷ (clients_outside (length clients), 3) ∷ (any_unreadable s clients, 6) ∷ []

unfoldable pub planners_number : Settings → List Client → ℕ → ℕ
planners_number s clients rows = first_cause (planners_tests s clients rows)

-- a number (0 accepted), and the lent rows after it
pub record PlannersPage : Type 0 where
  pub number : ℕ
  pub rows : List Row

abbrev pub page : ℕ → List Row → PlannersPage
page number rows = record { number = number; rows = rows }

-- a refused page leaves every row as it was
unfoldable pub planners_page : Settings → List Client → List Row → PlannersPage
planners_page s clients rows =
    page (planners_number s clients (length rows)) (choose (eqb (planners_number s clients (length rows)) 0) (rows_of s clients) rows)

-- ---- "A forecast run gets one with its own record and the number of clients in phase 9, and no more."

-- 1 for phase 9
unfoldable pub in_phase9 : ℕ → ℕ
in_phase9 phase = choose (eqb phase 9) 1 0

-- "the number of clients in phase 9"
unfoldable pub held_count : List Client → ℕ
held_count [] = 0
held_count (c ∷ cs) = in_phase9 c.«record».phase + held_count cs

-- "its own record", and its clock beside it
abbrev pub own_client : List Client → ℕ → Client
own_client clients client = get_or clients client idle_client

-- "1, .. 3, 4 (a run's) and 6, a run's for its own record alone"
unfoldable pub run_tests : Settings → List Client → ℕ → Tests
run_tests s clients client =
    (settings_outside s, 1) ∷ (client_tests (length clients) client ++ ((unreadable s (own_client clients client).«record» (own_client clients client).clock, 6) ∷ []))

unfoldable pub run_number : Settings → List Client → ℕ → ℕ
run_number s clients client = first_cause (run_tests s clients client)

-- number 0, the record and the count; or the number of a refusal, and zeros
unfoldable pub run_page : Settings → List Client → ℕ → RunPage
run_page s clients client =
    choose (eqb (run_number s clients client) 0)
    (record { number = 0; own = (own_client clients client).«record»; held = held_count clients })
    (record { number = run_number s clients client; own = idle_with 0; held = 0 })
