-- Laws of the list of ancestors: its length, and the node at each place. Assumes nothing.
use Rattle.std.specs.Prelude.{◌≡◌, refl, ℕ, zero, suc, ◌-◌, ◌<◌, length, get_or}
use Rattle.std.proofs.Common.{ap, arith}
use Rattle.tree.specs.rules.Tree.{parent, climb, level}
use Rattle.tree.specs.rules.Lists.{upward, ancestors}

upward_length : (k n : ℕ) → length (upward k n) ≡ k
unfolding upward
upward_length zero n = refl
upward_length (suc k) n = ap suc (upward_length k (parent n))

upward_place : (k n i : ℕ) → i < k → get_or (upward k n) i 0 ≡ climb (suc i) n
unfolding upward climb
upward_place zero n i b = absurd (omega arith)
upward_place (suc k) n zero b = refl
upward_place (suc k) n (suc i) b = upward_place k (parent n) i (omega arith)

pub ancestors_count : (n : ℕ) → length (ancestors n) ≡ level n - 1
unfolding ancestors
ancestors_count n = upward_length (level n - 1) n

pub ancestors_place : (n i : ℕ) → i < level n - 1 → get_or (ancestors n) i 0 ≡ climb (suc i) n
unfolding ancestors
ancestors_place n i b = upward_place (level n - 1) n i b
