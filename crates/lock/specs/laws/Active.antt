-- What is known of settings within their ranges, and of a readable record that is not idle. Their laws: proofs/laws/ActiveLaws.antt. Assumes nothing.
use Rattle.std.specs.Prelude.{◌≡◌, ◌≢◌, ◌⊎◌, ℕ, ◌≤◌, ◌<◌, length}
use Rattle.tree.specs.rules.Lists.{ancestors, notify_list, check_list}
use Rattle.cover.specs.rules.Cover.{Meets}
use Rattle.cover.specs.laws.Lowest.{Window}
use Rattle.lock.specs.declared.Record.{Record}
use Rattle.lock.specs.declared.Settings.{Settings}
use Rattle.lock.specs.rules.Records.{cover_of, pieces, piece_at, current_piece, notices_of}

pub record Settled (s : Settings) : Type 0 where
  pub levels_some : 2 ≤ s.levels
  pub levels_most : s.levels ≤ 12
  pub distance_some : 1 ≤ s.distance
  pub distance_most : s.distance ≤ 4
  pub wait_most : s.wait ≤ 4294967295

-- a first piece that is not taken has no third time: what a readable record shows of it
abbrev pub NoEarlyTime : Record → Type 0
NoEarlyTime r = r.current ≡ 0 → r.phase ≢ 9 → (r.phase ≡ 10 → r.outcome ≢ 1) → r.taken ≡ 0

pub record Active (s : Settings) (r : Record) (last : ℕ) : Type 0 where
  pub phase_most : r.phase ≤ 10
  pub window : Window s.levels r.left r.right
  pub cover : pieces r ≡ cover_of s r.left r.right
  pub few : length (pieces r) ≤ 2
  pub exists : r.current < length (pieces r)
  pub meets : (i : ℕ) → i < length (pieces r) → Meets s.levels r.left r.right (piece_at r i)
  pub ticket_most : r.ticket ≤ 32767
  pub climbing : (r.phase ≡ 3) ⊎ (r.phase ≡ 4) → r.place < length (ancestors (current_piece r))
  pub notifying : r.phase ≡ 6 → r.place < length (notify_list s.distance (current_piece r))
  pub checking : r.phase ≡ 8 → r.place < length (check_list s.levels s.distance (current_piece r))
  pub returning : r.phase ≡ 10 → r.place ≤ notices_of s r r.giving
  pub noticed : r.notices ≤ length (notify_list s.distance (current_piece r))
  pub t1_past : r.t1 ≤ last
  pub t0_past : r.t0 ≤ last
  pub taken_past : r.taken ≤ last
  pub giving_begun : r.giving ≤ r.current
