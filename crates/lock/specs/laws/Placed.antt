-- What a step needs to know of a record that is not idle: its pieces are nodes that meet the window, and its place is in its list. Their laws: proofs/laws/Placed.antt. Assumes nothing.
use Rattle.std.specs.Prelude.{◌≡◌, ◌⊎◌, ℕ, ◌≤◌, ◌<◌, length}
use Rattle.tree.specs.rules.Tree.{Node}
use Rattle.tree.specs.rules.Lists.{ancestors, notify_list, check_list}
use Rattle.cover.specs.rules.Cover.{Meets}
use Rattle.lock.specs.declared.Record.{Record}
use Rattle.lock.specs.declared.Settings.{Settings}
use Rattle.lock.specs.rules.Records.{pieces, piece_at, current_piece, notices_of}

pub record Placed (s : Settings) (r : Record) : Type 0 where
  pub exists : r.current < length (pieces r)
  pub meets : (i : ℕ) → i < length (pieces r) → Meets s.levels r.left r.right (piece_at r i)
  pub climbing : (r.phase ≡ 3) ⊎ (r.phase ≡ 4) → r.place < length (ancestors (current_piece r))
  pub notifying : r.phase ≡ 6 → r.place < length (notify_list s.distance (current_piece r))
  pub checking : r.phase ≡ 8 → r.place < length (check_list s.levels s.distance (current_piece r))
  pub returning : r.phase ≡ 10 → r.place ≤ notices_of s r r.giving
  pub noticed : r.notices ≤ length (notify_list s.distance (current_piece r))
  pub giving_begun : r.giving ≤ r.current

-- idle, or placed
abbrev pub Sound : Settings → Record → Type 0
Sound s r = (r.phase ≡ 0) ⊎ Placed s r

-- the pieces of a record are nodes of the highest tree, and one is current
pub record Pieced (r : Record) : Type 0 where
  pub exists : r.current < length (pieces r)
  pub nodes : (i : ℕ) → i < length (pieces r) → Node 12 (piece_at r i)
