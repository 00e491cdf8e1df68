-- To be believed: document 01, section "The schedule program": by which number a schedule is refused, and what is then written. Assumes nothing.
use Rattle.std.specs.Prelude.{List, ◌++◌, ℕ, eqb}
use Rattle.base.specs.rules.Choice.{choose}
use Rattle.schedule.specs.rules.Format.{file_cause}
use Rattle.schedule.specs.rules.Running.{opening_in}
use Rattle.schedule.specs.rules.Text.{text, spaced}

-- "`refused 10`", "`refused 11`, tested after 10", "A refused opening prints its number likewise."; 0 if the calls are made
unfoldable pub refusal : List ℕ → ℕ
refusal bytes = choose (eqb (file_cause bytes) 0) (opening_in bytes).number (file_cause bytes)

unfoldable pub refused_line : ℕ → List ℕ
refused_line number = text "refused" ++ (spaced number ++ text "\n")

-- "Each is then the only line."
unfoldable pub unless_refused : List ℕ → List ℕ → List ℕ
unless_refused bytes whole = choose (eqb (refusal bytes) 0) whole (refused_line (refusal bytes))
