-- The test of a record that is not idle in two parts, what every phase asks and what its own phase asks. Their laws: proofs/laws/OwnTests.antt. Assumes nothing.
use Rattle.std.specs.Prelude.{Bool, ℕ}
use Rattle.std.proofs.Math.Bool.{◌||◌}
use Rattle.lock.specs.declared.Record.{Record}
use Rattle.lock.specs.declared.Settings.{Settings}
use Rattle.lock.specs.rules.Records.{phase_of}
use Rattle.lock.specs.rules.Unreadable.{number_too_large, not_covered, no_current, ticket_too_large, place_past, notices_wrong, time_ahead, phase_elsewhere, held_early, outcome_wrong, grip_lacking, giving_wrong, out_of_patience_first, taken_first}

-- what every phase but idle asks
unfoldable pub not_begun : Settings → Record → ℕ → Bool
not_begun s r last = not_covered s r || no_current r || ticket_too_large r || time_ahead r last || taken_first r

-- what the phase asks beside it
unfoldable pub own_wrong : Settings → Record → Bool
own_wrong s r =
    number_too_large r || (place_past s r || (notices_wrong s r || (phase_elsewhere s r (phase_of r.phase)
    || (held_early r || (outcome_wrong r || (grip_lacking s r (phase_of r.phase) || (giving_wrong r || out_of_patience_first r)))))))
