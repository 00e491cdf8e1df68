-- To be believed: document 01, section "The schedule program": the log of a schedule, byte by byte (ASCII). Assumes nothing.
use Rattle.std.specs.Prelude.{List, [], ◌∷◌, ◌++◌, ℕ, suc}
use Rattle.lock.specs.declared.Record.{Record}
use Rattle.lock.specs.declared.Settings.{Settings}
use Rattle.lock.specs.rules.Table.{State, Call, request, step, release, cancel, client_of, record_at, call}
use Rattle.schedule.specs.rules.Format.{settings_in, clients_in, calls_in}
use Rattle.schedule.specs.rules.Running.{opening_in}
use Rattle.schedule.specs.rules.Refusal.{unless_refused}
use Rattle.schedule.specs.rules.Text.{text, decimal, spaced, PutInto}

-- ---- "The header line gives H, m, T and the clients, no other setting.": tree 2 m 1 wait 5 clients 2

unfoldable pub header_line : Settings → ℕ → List ℕ
header_line s clients =
    text "tree" ++ (spaced s.levels ++ (text " m" ++ (spaced s.distance ++ (text " wait" ++ (spaced s.wait ++ (text " clients" ++ (spaced clients ++ text "\n")))))))

-- ---- "call number, kind, client, number (0 accepted), phase after, left and right edge after (zeros if idle or refused by 4)"

unfoldable pub kind_text : Call → List ℕ
kind_text (request c l r) = text "request"
kind_text (step c t) = text "step"
kind_text (release c) = text "release"
kind_text (cancel c) = text "cancel"

-- call k, its number, and its client's record after it
unfoldable pub line : ℕ → Call → ℕ → Record → List ℕ
line k c number r =
    decimal k ++ (text " " ++ (kind_text c ++ (spaced (client_of c) ++ (spaced number ++ (spaced r.phase ++ (spaced r.left ++ (spaced r.right ++ text "\n")))))))

-- "After it each call has a line"; the calls from call k on, from the state st
unfoldable pub lines : Settings → State → ℕ → List Call → List ℕ
lines s st k [] = []
lines s st k (c ∷ cs) = line k c (call s st c).number (record_at (call s st c).state (client_of c)) ++ lines s (call s st c).state (suc k) cs

-- ---- the log of a file

unfoldable pub log_of : List ℕ → List ℕ
log_of bytes = unless_refused bytes (header_line (settings_in bytes) (clients_in bytes) ++ lines (settings_in bytes) (opening_in bytes).state 0 (calls_in bytes))

-- every log fits here: at most 2,729 calls fit a file, and a line has at most 144 bytes
abbrev pub room : ℕ
room = 400000

-- the log in lent bytes
abbrev pub Logged : List ℕ → List ℕ → List ℕ → ℕ → Type 0
Logged bytes lent after count = PutInto room (log_of bytes) lent after count
