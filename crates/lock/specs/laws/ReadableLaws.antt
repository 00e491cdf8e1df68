-- What the unreadable clauses after the cover and the current piece stand on. Their laws: proofs/laws/ReadableLaws.antt. Assumes nothing.
use Rattle.std.specs.Prelude.{ℕ, ◌<◌}
use Rattle.std.proofs.Math.ListN.{length}
use Rattle.tree.specs.rules.Tree.{Node}
use Rattle.lock.specs.declared.Record.{Record}
use Rattle.lock.specs.declared.Settings.{Settings}
use Rattle.lock.specs.rules.Records.{pieces, piece_at}
use Rattle.lock.specs.laws.Active.{Settled}

pub record Begun (s : Settings) (r : Record) : Type 0 where
  pub settled : Settled s
  pub exists : r.current < length (pieces r)
  pub node : (i : ℕ) → i < length (pieces r) → Node s.levels (piece_at r i)
