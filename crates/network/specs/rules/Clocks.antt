-- To be believed: when the runs read their clocks, and what is supposed of clocks and moments so that no two runs hold overlapping windows. It is request 2.3 for runs on other machines: a run reads its
-- clock before it posts a list, and again when all words found have come back. Assumes nothing.
use Rattle.std.specs.Prelude.{◌≡◌, Bool, ◌||◌, List, [], ◌∷◌, ℕ, ◌+◌, ◌≤◌, max, eqb}
use Rattle.base.specs.rules.Choice.{choose}
use Rattle.lock.specs.declared.Record.{Record}
use Rattle.lock.specs.declared.Settings.{Settings}
use Rattle.lock.specs.rules.Steps.{out_of_patience}
use Rattle.lock.specs.rules.Table.{Call, request, step, release, cancel}
use Rattle.lock.specs.rules.Readings.{NotSlow, NotFast}
use Rattle.network.specs.rules.Network.{Network, client_on, Act, own, post, carry, complete, act}

-- ---- "clocks read before the posting where early is safe and after the last completion where late is safe"

-- a list that begins with a claim or a notice: t0 and the clock of the late test are to be read after their word is touched. In all other phases t1 and the end of the wait are to be read before
unfoldable pub claims : Record → Bool
claims r = eqb r.phase 5 || eqb r.phase 6

-- the clock by which a list is completed; `before` and `after` are what was read. If patience ran out while a claim was under way, the step by `after` would be another than the one that was made: then it is the
-- later of `before` and t1 + T, by which the claim is late in any case
unfoldable pub completing : Settings → Record → (before after : ℕ) → ℕ
completing s r before after = choose (claims r) (choose (out_of_patience s r after) (max before (r.t1 + s.wait)) after) before

-- ---- what is supposed

-- a clock, as a function of the true moment, that does not go back, and is true within 1 part in 10,000 over the wait T and longer: "10,000 times its own elapsed ticks lies between 9,999 and 10,001 times the
-- true elapse", as far as a wait or a late claim rests on it
pub record TrueClock (wait : ℕ) (clock : ℕ → ℕ) : Type 0 where
  pub onward : (m n : ℕ) → m ≤ n → clock m ≤ clock n
  pub not_slow : (m n : ℕ) → m ≤ n → NotSlow wait (clock m) (clock n) m n
  pub not_fast : (m n : ℕ) → m ≤ n → NotFast wait (clock m) (clock n) m n

-- the clocks of an act are those that its run reads: `clocks c m` is what the clock of the run c shows at the moment m
unfoldable pub OwnRead : (ℕ → ℕ → ℕ) → Call → ℕ → Type 0
OwnRead clocks (request c l r) at = Unit
OwnRead clocks (step c t) at = t ≡ clocks c at
OwnRead clocks (release c) at = Unit
OwnRead clocks (cancel c) at = Unit

unfoldable pub ClocksRead : Settings → (ℕ → ℕ → ℕ) → Network → Act → Type 0
ClocksRead s clocks net (own k at) = OwnRead clocks k at
ClocksRead s clocks net (post c room t u m n) = (t ≡ clocks c m) × (u ≡ completing s (client_on net c).«record» (clocks c m) (clocks c n))
ClocksRead s clocks net (carry c at) = Unit
ClocksRead s clocks net (complete c) = Unit

-- the moment of the last act that touched a word, or of a call of a run's own
unfoldable pub moment_after : Act → ℕ → ℕ
moment_after (own k at) present = at
moment_after (post c room t u m n) present = present
moment_after (carry c at) present = at
moment_after (complete c) present = present

-- so it is with every act, and moments never go back
unfoldable pub InTime : Settings → (ℕ → ℕ → ℕ) → Network → (present : ℕ) → List Act → Type 0
InTime s clocks net present [] = Unit
InTime s clocks net present (a ∷ later) = ClocksRead s clocks net a × (present ≤ moment_after a present) × InTime s clocks (act s net a) (moment_after a present) later
