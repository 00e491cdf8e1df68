-- The tests of the first pairs of the lent hours. Their laws: proofs/laws/HoursLaws.antt. Assumes nothing.
use Rattle.std.specs.Prelude.{Bool, List, ℕ}
use Rattle.calendar.specs.rules.Hours.{opening, closing, some_below, pair_wrong}

-- one of the first pairs is wrong
unfoldable pub some_pair_wrong : List ℕ → ℕ → Bool
some_pair_wrong hours pairs = some_below pairs (λ pair. pair_wrong (opening hours pair) (closing hours pair))
