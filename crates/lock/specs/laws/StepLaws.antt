-- The ancestor that a climbing record reads. Its laws: proofs/laws/StepLaws.antt. Assumes nothing.
use Rattle.std.specs.Prelude.{◌≡◌, ℕ, ◌<◌, length, get_or}
use Rattle.tree.specs.rules.Lists.{ancestors}
use Rattle.lock.specs.declared.Record.{Record}
use Rattle.lock.specs.rules.Records.{current_piece}
use Rattle.lock.specs.laws.Placed.{Pieced}

-- the ancestor n that a climbing record reads
pub record Read (n : ℕ) (r : Record) : Type 0 where
  pub pieced : Pieced r
  pub within : r.place < length (ancestors (current_piece r))
  pub node : n ≡ get_or (ancestors (current_piece r)) r.place 0
