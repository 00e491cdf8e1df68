-- The comparisons of moments that safety rests on, behind names, with the laws by which they are used. `m1` and `m0` are the moments at which a t1 and a t0 were read; a step
-- touches its word at the moment `touch` and reads its clock, `now`, at the moment `reading`; `present` is the moment of the last touch before it. Assumes nothing.
use Rattle.std.specs.Prelude.{ℕ, ◌*◌, ◌-◌, ◌≤◌}
use Rattle.std.proofs.Common.{arith}
use Rattle.lock.specs.rules.Readings.{NotSlow, NotFast}
use Rattle.lock.proofs.laws.LateLaws.{InTime}

-- the one read its t1 before the other, who claimed, read t0
unfoldable pub NotedBefore : ℕ → ℕ → Type 0
NotedBefore m1 m0 = m1 ≤ m0

-- since m1 as much time has passed as the fastest clock needs for the wait
unfoldable pub Overdue : ℕ → ℕ → ℕ → Type 0
Overdue wait m1 present = 10000 * wait ≤ 10001 * (present - m1)

-- who claims reads t0 when the word is touched or after it, and every t1 was read before
pub claim_noted : (m1 present touch reading : ℕ) → m1 ≤ present → present ≤ touch → touch ≤ reading → NotedBefore m1 reading
unfolding NotedBefore
claim_noted m1 present touch reading a b c = omega arith

-- who claimed after t1 was read, and has waited by its own clock, knows it overdue
pub wait_overdue : (wait m1 m0 t0 now reading touch : ℕ) → NotedBefore m1 m0 → wait ≤ now - t0 → NotFast wait t0 now m0 reading → reading ≤ touch → Overdue wait m1 touch
unfolding NotedBefore Overdue
wait_overdue wait m1 m0 t0 now reading touch a b c d = omega (arith, c b)

pub overdue_stays : (wait m1 present touch : ℕ) → Overdue wait m1 present → present ≤ touch → Overdue wait m1 touch
unfolding Overdue
overdue_stays wait m1 present touch a b = omega arith

-- "late unless 10,001 × (clock - t1) < 9,999 × T": who is overdue is late, even by the slowest clock
pub overdue_late : (wait m1 t1 now present touch reading : ℕ) → Overdue wait m1 present → present ≤ touch → touch ≤ reading → NotSlow wait t1 now m1 reading
    → InTime wait t1 now → ⊥
unfolding Overdue
overdue_late wait m1 t1 now present touch reading a b c d e = omega (arith, d (omega arith))
