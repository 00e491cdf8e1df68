-- To be believed: document 02, request 2.4: how many steps a window needs on an otherwise idle tree. The number is counted in a run, that of a client alone on a fresh tree; no
-- formula is to be believed. `HeldAfter` says of any run alone that it is held after so many accepted steps and not before, by document 02's conditions on its clocks; the theorem
-- in claim/StepsToHeld.antt says it of this number, from every state of a history in which all clients are idle. Assumes nothing.
use Rattle.std.specs.Prelude.{◌≡◌, false, List, [], ◌∷◌, ℕ, zero, suc, ◌+◌, ◌-◌, ◌≤◌, ◌<◌, eqb, length, replicate, Result, Ok, Err}
use Rattle.base.specs.declared.Refusal.{Refusal}
use Rattle.base.specs.rules.Choice.{choose}
use Rattle.base.specs.rules.Refusals as Refusals
use Rattle.tree.specs.rules.Tree.{word_count}
use Rattle.tree.specs.rules.Lists.{notify_list}
use Rattle.cover.specs.rules.Answer.{window_outside}
use Rattle.lock.specs.declared.Client.{Client}
use Rattle.lock.specs.declared.Record.{Record}
use Rattle.lock.specs.declared.Settings.{Settings}
use Rattle.lock.specs.declared.StepCount.{StepCount}
use Rattle.lock.specs.rules.Records.{current_piece, idle_client}
use Rattle.lock.specs.rules.Steps.{late, out_of_patience}
use Rattle.lock.specs.rules.Calls.{Tests, first_cause, levels_or_distance_outside}
use Rattle.lock.specs.rules.Table.{State, Call, request, step, Out, client_at, record_at, number_of, call}
use Rattle.lock.specs.rules.History.{Event, run, events}

-- ---- "if nobody else is stepped": a run of one client

-- the steps of client c by these clocks
unfoldable pub steps_by : ℕ → List ℕ → List Call
steps_by c [] = []
steps_by c (t ∷ ts) = step c t ∷ steps_by c ts

-- how many of the calls were accepted
unfoldable pub accepted_in : List Event → ℕ
accepted_in [] = 0
accepted_in (e ∷ es) = choose (eqb e.number 0) 1 0 + accepted_in es

-- ---- what is asked of the clocks

-- of a step by the clock t that finds the record r
pub record OnTime (s : Settings) (r : Record) (t : ℕ) : Type 0 where
  -- "every wait is stepped for the first time after T has passed"
  pub waited : r.phase ≡ 7 → s.wait ≤ t - r.t0
  -- "nothing comes late", where it is tested, after the last notice
  pub not_late : r.phase ≡ 6 → suc r.place ≡ length (notify_list s.distance (current_piece r)) → late s r t ≡ false
  -- "and patience doesn't run out"
  pub patient : out_of_patience s r t ≡ false

-- of every accepted step of client c by these clocks, one after another from st on
unfoldable pub AllOnTime : Settings → State → ℕ → List ℕ → Type 0
AllOnTime s st c [] = Unit
AllOnTime s st c (t ∷ ts) = (number_of s st (step c t) ≡ 0 → OnTime s (record_at st c) t) × AllOnTime s (call s st (step c t)).state c ts

-- ---- "the accepted steps from request to held": from st, where its request was accepted, client c is held after n of them and not before, by any such clocks

abbrev pub HeldAfter : Settings → State → (c n : ℕ) → Type 0
HeldAfter s st c n =
    (clocks : List ℕ) → AllOnTime s st c clocks
    → (n ≤ accepted_in (events s st (steps_by c clocks)) → (record_at (run s st (steps_by c clocks)) c).phase ≡ 9)
    × (accepted_in (events s st (steps_by c clocks)) < n → (record_at (run s st (steps_by c clocks)) c).phase ≡ 9 → ⊥)

-- ---- the number, counted in a run that loses no time

-- the next step's clock: the last one again, and in 7 the first "after T has passed"
unfoldable pub next_clock : Settings → Client → ℕ
next_clock s c = choose (eqb c.«record».phase 7) (c.«record».t0 + s.wait) c.clock

abbrev pub next_step : Settings → State → ℕ → Out
next_step s st c = call s st (step c (next_clock s (client_at st c)))

-- the accepted ones of such steps until client c is held. The first argument bounds how many are made
unfoldable pub counted : ℕ → Settings → State → ℕ → ℕ
counted zero s st c = 0
counted (suc most) s st c =
    choose (eqb (record_at st c).phase 9) 0 (choose (eqb (next_step s st c).number 0) 1 0 + counted most s (next_step s st c).state c)

-- "an otherwise idle tree": as an opening leaves it, with one client
abbrev pub idle_tree : ℕ → State
idle_tree h = record { words = replicate (word_count h) 0; clients = idle_client ∷ [] }

-- the settings of the run: "from window, H and m", so T is the least that it may be, and P the most
abbrev pub alone_with : ℕ → ℕ → Settings
alone_with h m = record { levels = h; distance = m; wait = 1; patience = 4294967295 }

-- 1,000 steps are more than any window needs (claim/StepsToHeld.antt, `all_few`)
unfoldable pub step_count : ℕ → ℕ → ℕ → ℕ → ℕ
step_count h m l r = counted 1000 (alone_with h m) (call (alone_with h m) (idle_tree h) (request 0 l r)).state 0

-- ---- the call: "It tests 1, then 7."

unfoldable pub step_count_tests : ℕ → ℕ → ℕ → ℕ → Tests
step_count_tests h m l r = (levels_or_distance_outside h m, 1) ∷ (window_outside h l r, 7) ∷ []

-- the answer of the call in code: the steps, or the cause of a refusal
abbrev pub step_count_by : Result ℕ Refusal → StepCount
step_count_by (Ok steps) = record { number = 0; steps = steps }
step_count_by (Err refusal) = record { number = Refusals.number_of refusal; steps = 0 }

-- number 0 and the steps; or the number of a refusal, and 0
unfoldable pub step_count_answer : ℕ → ℕ → ℕ → ℕ → StepCount
step_count_answer h m l r =
    choose (eqb (first_cause (step_count_tests h m l r)) 0)
    (record { number = 0; steps = step_count h m l r })
    (record { number = first_cause (step_count_tests h m l r); steps = 0 })
