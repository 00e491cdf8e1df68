-- What a step of a call gives: its client, the last test and the words that it leaves. Their laws: proofs/laws/ByKind.antt. Assumes nothing.
use Rattle.std.specs.Prelude.{ℕ, eqb}
use mathlib.Core.List.{List, [], ◌∷◌}
use Rattle.base.specs.rules.Choice.{choose}
use Rattle.lock.specs.declared.Record.{Record}
use Rattle.lock.specs.declared.Settings.{Settings}
use Rattle.lock.specs.rules.Records.{word_at, written}
use Rattle.lock.specs.rules.Unreadable.{differ}
use Rattle.lock.specs.rules.Steps.{touched, moved}
use Rattle.lock.specs.rules.Calls.{first_cause}

-- 9, the only test of a step behind 6, and the words that the step leaves
abbrev pub clear_bit : Settings → Record → List ℕ → ℕ → ℕ
clear_bit s r words clock = first_cause ((differ (moved s r (word_at words (touched s r clock)) clock).number 0, 9) ∷ [])

abbrev pub left_by : Settings → Record → List ℕ → ℕ → List ℕ
left_by s r words clock = choose (eqb (clear_bit s r words clock) 0) (written words (touched s r clock) (moved s r (word_at words (touched s r clock)) clock).word) words
