-- What is known beside a state of moments: those at which the clients' noted times were read, and what is supposed of the rest of the history. Only this part of the invariant rests on a supposition. Assumes nothing.
use Rattle.std.specs.Prelude.{◌≡◌, ◌≢◌, ◌⊎◌, List, ℕ, ◌+◌, ◌≤◌, ◌<◌, eqb}
use Rattle.std.proofs.Common.{arith}
use Rattle.base.specs.rules.Choice.{choose}
use Rattle.base.specs.laws.ChoiceLaws.{choose_eq, choose_ne}
use Rattle.tree.specs.rules.Tree.{level}
use Rattle.lock.specs.declared.Record.{Record}
use Rattle.lock.specs.declared.Settings.{Settings}
use Rattle.lock.specs.rules.Records.{current_piece}
use Rattle.lock.specs.rules.History.{Event, StepAt}
use Rattle.lock.specs.rules.Readings.{RequestAt, NotSlow, NotFast, LateAt}
use Rattle.lock.proofs.claim.Parts.{Parts, record_in}
use Rattle.lock.proofs.claim.Stage.{passing, checked_stage}
use Rattle.lock.proofs.claim.Timed.{Timed}
use Rattle.lock.proofs.claim.Onward.{Unclaimed}

-- before place j no request of the client c is accepted
abbrev pub Unasked : List Event → (j c : ℕ) → Type 0
Unasked h j c = (k : ℕ) → k < j → RequestAt h k c → ⊥

-- of the client c with the record r, whose t0 was read at the moment m0 and whose t1 at m1, where it has noted them, and of its steps in the rest of the history
pub record Noted (s : Settings) (r : Record) (m0 m1 present : ℕ) (rest : List Event) (found : ℕ → Record) (reading : ℕ → ℕ) (c : ℕ) : Type 0 where
  pub past : passing r ≢ 0 → m1 ≤ present
  pub not_slow : passing r ≢ 0 → (j u : ℕ) → StepAt rest j c u → Unasked rest j c → (found j).phase ≡ 6 → (LateAt s (found j) u → ⊥) → NotSlow s.wait r.t1 u m1 (reading j)
  -- a claim that was late in any case when it was made has not been notified to the last
  pub not_fast : 6 ≤ r.phase → r.phase ≤ 7 → level (current_piece r) ≢ s.levels
      → ((r.phase ≡ 6) × (r.t1 + s.wait ≤ r.t0)) ⊎ ((j u : ℕ) → StepAt rest j c u → Unasked rest j c → (found j).phase ≡ 7 → NotFast s.wait r.t0 u m0 (reading j))

-- `found j` is the record that the call at place j of the rest finds of its client
pub record Timing (s : Settings) (st : Parts) (rest : List Event) (found : ℕ → Record) (touch reading : ℕ → ℕ) : Type 0 where
  -- the moments at which each client's t0 and t1 were read, and that of the last touch
  pub claim : ℕ → ℕ
  pub parent : ℕ → ℕ
  pub present : ℕ
  pub later : (j d u : ℕ) → StepAt rest j d u → present ≤ touch j
  pub noted : (c : ℕ) → Noted s (record_in st c) (claim c) (parent c) present rest found reading c
  pub timed : (c d : ℕ) → c ≢ d → Timed s (record_in st c) (record_in st d) (claim c) (parent d) present

-- a record that has claimed nothing is above nobody
pub timed_none : (s : Settings) (q : Record) → Unclaimed q → (b : Record) (m0 m1 present : ℕ) → Timed s q b m0 m1 present
timed_none s q none b m0 m1 present = record {
  claims = λ x y. absurd (omega (arith, none.phase x));
  waits = λ i x y. absurd (omega (arith, none.stage i (omega arith)));
  checks = λ i j k l x. let z = checked_stage s q i (omega arith) in absurd (omega (arith, z.0, z.1, none.stage i (omega (arith, z.0))));
}

-- ---- a number for each client, of which one changes

unfoldable pub changed : ℕ → ℕ → (ℕ → ℕ) → ℕ → ℕ
changed c x f d = choose (eqb d c) x (f d)

pub changed_own : (c x : ℕ) (f : ℕ → ℕ) (d : ℕ) → d ≡ c → changed c x f d ≡ x
unfolding changed
changed_own c x f d e = choose_eq d c x (f d) e

pub changed_other : (c x : ℕ) (f : ℕ → ℕ) (d : ℕ) → d ≢ c → changed c x f d ≡ f d
unfolding changed
changed_other c x f d n = choose_ne d c x (f d) n
