-- To be believed: document 02, requests 2.1, 2.2 and 2.4: what `rangepages` prints of a schedule, byte by byte (ASCII). Assumes nothing.
use Rattle.std.specs.Prelude.{List, [], ◌∷◌, ◌++◌, ℕ, suc}
use Rattle.lock.specs.declared.Client.{Client}
use Rattle.lock.specs.declared.Record.{Record}
use Rattle.lock.specs.declared.Settings.{Settings}
use Rattle.pages.specs.declared.Row.{Row}
use Rattle.pages.specs.rules.Pages.{row_of, held_count}
use Rattle.schedule.specs.rules.Format.{settings_in}
use Rattle.schedule.specs.rules.Running.{after_calls}
use Rattle.schedule.specs.rules.Refusal.{unless_refused}
use Rattle.schedule.specs.rules.Text.{text, decimal, spaced, PutInto}

-- ---- "a line for each client, number and row": the row's phase, edges, pieces and over-cover, and 2.4's step count, which ends it

unfoldable pub row_text : ℕ → Row → List ℕ
row_text client w =
    decimal client ++ (spaced w.phase ++ (spaced w.left ++ (spaced w.right ++ (spaced w.first ++ (spaced w.second ++ (spaced w.over ++ (spaced w.steps ++ text "\n")))))))

unfoldable pub row_line : Settings → ℕ → Record → List ℕ
row_line s client r = row_text client (row_of s r)

-- ---- "then one for each, number, record and count, in the papers' order, later fields ending row or record": the record's fields in document 01's order, then 2.2's time

unfoldable pub record_line : ℕ → ℕ → Record → List ℕ
record_line held client r =
    decimal client ++ (spaced r.phase ++ (spaced r.outcome ++ (spaced r.left ++ (spaced r.right ++ (spaced r.first ++ (spaced r.second ++ (spaced r.current
    ++ (spaced r.giving ++ (spaced r.grip ++ (spaced r.ticket ++ (spaced r.place ++ (spaced r.notices ++ (spaced r.t1 ++ (spaced r.t0
    ++ (spaced r.taken ++ (spaced held ++ text "\n"))))))))))))))))

-- ---- the two pages

-- a line for each client of the list, by its record, the first of which is that of the client with this number
unfoldable pub line_each : (ℕ → Record → List ℕ) → ℕ → List Client → List ℕ
line_each line client [] = []
line_each line client (c ∷ cs) = line client c.«record» ++ line_each line (suc client) cs

unfoldable pub pages_text : Settings → List Client → List ℕ
pages_text s clients = line_each (row_line s) 0 clients ++ line_each (record_line (held_count clients)) 0 clients

-- "reads or refuses a schedule as `rangelog` does. It prints only, after the last call, .."
unfoldable pub pages_of : List ℕ → List ℕ
pages_of bytes = unless_refused bytes (pages_text (settings_in bytes) (after_calls bytes).clients)

-- both pages of every table fit here: it has at most 64 clients, whose lines have at most 168 and 357 bytes each, together 33,600
abbrev pub room : ℕ
room = 34000

-- the pages in lent bytes
abbrev pub Paged : List ℕ → List ℕ → List ℕ → ℕ → Type 0
Paged bytes lent after count = PutInto room (pages_of bytes) lent after count
