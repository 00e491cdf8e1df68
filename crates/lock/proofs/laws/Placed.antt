-- Laws: what a step needs to know of a record that is not idle: its pieces are nodes that meet the window, and its place is in its list. Assumes nothing.
use Rattle.std.specs.Prelude.{◌≡◌, ℕ, ◌+◌, ◌-◌, ◌^◌, ◌≤◌, ◌<◌, length}
use Rattle.std.proofs.Common.{ap, ⊎_elim, arith}
use Rattle.base.specs.laws.ChoiceLaws.{by_lt}
use Rattle.tree.specs.rules.Tree.{level, left, size, Node}
use Rattle.tree.specs.rules.Lists.{notify_list}
use Rattle.tree.proofs.laws.Range.{right_in}
use Rattle.cover.specs.rules.Cover.{Meets}
use Rattle.cover.proofs.laws.Over.{units_small}
use Rattle.lock.specs.declared.Record.{Record}
use Rattle.lock.specs.declared.Settings.{Settings}
use Rattle.lock.specs.rules.Records.{piece_at, current_piece, given_piece, notices_of}
use Rattle.lock.specs.laws.Active.{Settled, Active}
use Rattle.lock.proofs.laws.Pieces.{notices_before, notices_current}
use Rattle.lock.specs.laws.Placed.{Placed, Sound, Pieced}

pub placed : (s : Settings) (r : Record) (last : ℕ) → Active s r last → Placed s r
placed s r last a = record {
  exists = a.exists;
  meets = a.meets;
  climbing = a.climbing;
  notifying = a.notifying;
  checking = a.checking;
  returning = a.returning;
  noticed = a.noticed;
  giving_begun = a.giving_begun;
}

pub sound_placed : (s : Settings) (r : Record) → Sound s r → 0 < r.phase → Placed s r
sound_placed s r v b = ⊎_elim (λ e. absurd (omega arith)) (λ p. p) v

-- a node of a tree within its range is one of the highest tree
pub widen : (h n : ℕ) → h ≤ 12 → Node h n → Node 12 n
widen h n b v = record { some = v.some; inside = omega (arith, v.inside) }

pub pieced : (s : Settings) (r : Record) → Settled s → Placed s r → Pieced r
pieced s r v p = record { exists = p.exists; nodes = λ i b. widen s.levels (piece_at r i) v.levels_most (p.meets i b).node }

-- what the wanted bits of a leaf that meets the window ask
pub record Clipped (edge l r : ℕ) : Type 0 where
  pub some : l < r
  pub starts : l < edge + 64
  pub ends : edge < r
  pub fits : edge + 64 < 2 ^ 64

pub clipped : (h l r n : ℕ) → 1 ≤ h → h ≤ 12 → Meets h l r n → level n ≡ h → Clipped (left h n) l r
unfolding size
clipped h l r n a b m e =
    let k : 4 ^ (h - level n) ≡ 1 = ap (λ (x : ℕ). 4 ^ x) (let z : h - level n ≡ 0 = omega arith in z) in
    let q = right_in h n m.node a in
    record {
      some = omega (arith, m.low, m.high);
      starts = omega (arith, m.low, m.holds.high);
      ends = omega (arith, m.high, m.holds.low);
      fits = omega (arith, units_small h b);
    }

-- a piece that was begun gave no more notices than its list has
pub given_notices : (s : Settings) (r : Record) → Placed s r → notices_of s r r.giving ≤ length (notify_list s.distance (given_piece r))
given_notices s r p =
    by_lt r.giving r.current
    (λ b. omega (arith, notices_before s r r.giving b))
    (λ b. let e : r.giving ≡ r.current = omega (arith, p.giving_begun) in
    let f : length (notify_list s.distance (given_piece r)) ≡ length (notify_list s.distance (current_piece r)) = ap (λ (i : ℕ). length (notify_list s.distance (piece_at r i))) e in
    omega (arith, notices_current s r r.giving b, p.noticed))
