-- To be believed: request 2.3 where a clock is not read at the very moment at which the word is touched. A run on another machine reads its clock before it posts a word
-- operation or after the operation is done. Document 02 has one moment for both; here are two, on the safe side of each other, and of a clock less is supposed: only from noting a
-- time to comparing with it. Document 02's supposition implies this one (claim/MomentsKept.antt, `read_at_once`). Assumes nothing.
use Rattle.std.specs.Prelude.{◌≡◌, ◌⊎◌, List, [], ◌∷◌, ℕ, zero, suc, ◌+◌, ◌*◌, ◌-◌, ◌≤◌, ◌<◌}
use Rattle.lock.specs.declared.Record.{Record}
use Rattle.lock.specs.declared.Settings.{Settings}
use Rattle.lock.specs.rules.Records.{current_piece, idle_with}
use Rattle.lock.specs.rules.Table.{State, Call, client_of, record_at, call}
use Rattle.lock.specs.rules.History.{Event, events, RequestOf, Accepted, At, StepAt}

-- at place i of the history stands an accepted request of the client c
abbrev pub RequestAt : List Event → (i c : ℕ) → Type 0
RequestAt h i c = At (Accepted (RequestOf c)) h i

-- the record that the call at place i of the history finds of its client
unfoldable pub found_in : Settings → State → List Call → ℕ → Record
found_in s st [] i = idle_with 0
found_in s st (k ∷ ks) zero = record_at st (client_of k)
found_in s st (k ∷ ks) (suc i) = found_in s (call s st k).state ks i

-- between the places i and j no request of the client c was accepted
abbrev pub WithinRequest : List Event → (i j c : ℕ) → Type 0
WithinRequest h i j c = (k : ℕ) → i < k → k < j → RequestAt h k c → ⊥

-- from the clock t, read at the moment m, to the clock u, read at the moment n: where so much time has passed that another's wait may be over, u finds the claim late, as a clock does that is not slower
-- than 2.3 allows; and the clock is not faster than that, where its own wait is over. Over less time than that nothing is asked
abbrev pub NotSlow : (wait t u m n : ℕ) → Type 0
NotSlow wait t u m n = 10000 * wait ≤ 10001 * (n - m) → 9999 * wait ≤ 10001 * (u - t)

abbrev pub NotFast : (wait t u m n : ℕ) → Type 0
NotFast wait t u m n = wait ≤ u - t → 10000 * (u - t) ≤ 10001 * (n - m)

-- a claim that is late by the clock t in any case, since T or more have passed since t1; the root, which has no t1, is never late
abbrev pub LateAt : Settings → Record → ℕ → Type 0
LateAt s r t = (r.t1 + s.wait ≤ t) × (current_piece r ≡ 1 → ⊥)

-- of the accepted step at place i, `touch i` is the moment at which its word was touched (of a step that touches none, the moment of the step), and `reading i` that at which
-- its clock was read. The clocks matter in four phases: 3, where at the parent, place 0, t1 is noted, and 6, where a claim may be late; 5, where t0 is noted, and 7, where the wait ends. (In a later
-- piece the clock also says, before a word is touched, whether patience has run out: a run that reads its clock after the touch completes by one at which it has not.) Of the pace of a clock by which a claim is
-- late in any case nothing is asked: that claim never comes to be held
pub record ReadApart (s : Settings) (st : State) (ks : List Call) (touch reading : ℕ → ℕ) : Type 0 where
  -- a history has the steps in the order in which they touched the words
  pub never_back : (i j c d t u : ℕ) → i < j → StepAt (events s st ks) i c t → StepAt (events s st ks) j d u → touch i ≤ touch j
  pub not_slow : (i j c t u : ℕ) → i < j → StepAt (events s st ks) i c t → StepAt (events s st ks) j c u → WithinRequest (events s st ks) i j c
      → (found_in s st ks i).phase ≡ 3 → (found_in s st ks i).place ≡ 0 → (found_in s st ks j).phase ≡ 6 → (LateAt s (found_in s st ks j) u → ⊥) → NotSlow s.wait t u (reading i) (reading j)
  pub not_fast : (i j c t u : ℕ) → i < j → StepAt (events s st ks) i c t → StepAt (events s st ks) j c u → WithinRequest (events s st ks) i j c
      → (found_in s st ks i).phase ≡ 5 → (found_in s st ks j).phase ≡ 7 → (LateAt s (found_in s st ks i) t → ⊥) → NotFast s.wait t u (reading i) (reading j)
  -- in 3 and in 7 the clock was read first, in 5 and in 6 the word was touched first
  pub read_first : (i c t : ℕ) → StepAt (events s st ks) i c t → ((found_in s st ks i).phase ≡ 3) ⊎ ((found_in s st ks i).phase ≡ 7) → reading i ≤ touch i
  pub touched_first : (i c t : ℕ) → StepAt (events s st ks) i c t → ((found_in s st ks i).phase ≡ 5) ⊎ ((found_in s st ks i).phase ≡ 6) → touch i ≤ reading i
