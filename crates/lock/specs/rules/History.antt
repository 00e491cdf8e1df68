-- To be believed: document 01, section "Histories", and document 02, request 2.3: what a history is, and from it alone when a client holds, when it is idle, what is
-- supposed of true moments, and what demand 3 claims; and what it is that every record is readable, by cause 6. Assumes nothing.
use Rattle.std.specs.Prelude.{◌≡◌, ◌⊎◌, false, List, [], ◌∷◌, ◌++◌, ℕ, zero, suc, ◌*◌, ◌-◌, ◌≤◌, ◌<◌, length}
use Rattle.base.specs.rules.Overlap.{Overlap}
use Rattle.word.specs.rules.Word.{exp, occ, tcnt, tmax, dcnt, dmax}
use Rattle.tree.specs.rules.Tree.{level, Node}
use Rattle.lock.specs.declared.Settings.{Settings}
use Rattle.lock.specs.rules.Records.{word_at}
use Rattle.lock.specs.rules.Unreadable.{unreadable}
use Rattle.lock.specs.rules.Table.{State, Call, request, step, release, cancel, client_of, record_at, clock_at, call}

-- ---- "A history is a list of calls"

-- "Every call in it is made with that opening's H, m and T, on the words, records and last clock that the call before left", now each client's; and 2.9, "each history keeping one P .. as
-- it keeps one H, m and T"
unfoldable pub run : Settings → State → List Call → State
run s st [] = st
run s st (k ∷ ks) = run s (call s st k).state ks

-- what is seen of a call: the call, its number (0 accepted), and the phase in which it gave its client's record back
pub record Event : Type 0 where
  pub made : Call
  pub number : ℕ
  pub phase : ℕ

abbrev pub event : Settings → State → Call → Event
event s st k = record { made = k; number = (call s st k).number; phase = (record_at (call s st k).state (client_of k)).phase }

unfoldable pub events : Settings → State → List Call → List Event
events s st [] = []
events s st (k ∷ ks) = event s st k ∷ events s (call s st k).state ks

-- some event of the list has P
unfoldable pub Some : (Event → Type 0) → List Event → Type 0
Some P [] = ⊥
Some P (e ∷ es) = P e ⊎ Some P es

-- ---- the calls of the client c, those that were accepted, and those that gave its record back in phase p

abbrev pub CallOf : ℕ → Call → Type 0
CallOf c k = client_of k ≡ c

unfoldable pub RequestOf : ℕ → Call → Type 0
RequestOf c (request d l r) = d ≡ c
RequestOf c (step d t) = ⊥
RequestOf c (release d) = ⊥
RequestOf c (cancel d) = ⊥

unfoldable pub StepOf : ℕ → Call → Type 0
StepOf c (request d l r) = ⊥
StepOf c (step d t) = d ≡ c
StepOf c (release d) = ⊥
StepOf c (cancel d) = ⊥

unfoldable pub ReleaseOf : ℕ → Call → Type 0
ReleaseOf c (request d l r) = ⊥
ReleaseOf c (step d t) = ⊥
ReleaseOf c (release d) = d ≡ c
ReleaseOf c (cancel d) = ⊥

abbrev pub Accepted : (Call → Type 0) → Event → Type 0
Accepted K e = (e.number ≡ 0) × K e.made

abbrev pub GaveBackIn : ℕ → (Call → Type 0) → Event → Type 0
GaveBackIn p K e = Accepted K e × (e.phase ≡ p)

-- [l, r) are "the edges of its last accepted request", and `since` is what came after that request
pub record LastRequest (h : List Event) (c l r : ℕ) (since : List Event) : Type 0 where
  pub before : List Event
  pub asked : Event
  pub whole : before ++ (asked ∷ since) ≡ h
  pub accepted : asked.number ≡ 0
  pub edges : asked.made ≡ request c l r
  pub last : Some (Accepted (RequestOf c)) since → ⊥

-- ---- "After a history a client holds [l, r) if these are the edges of its last accepted request, an accepted step of it since then gave its record back in
-- phase 9, and no release of it has been accepted since that request."

pub record Holds (h : List Event) (c l r : ℕ) : Type 0 where
  pub since : List Event
  pub asked : LastRequest h c l r since
  pub taken : Some (GaveBackIn 9 (StepOf c)) since
  pub kept : Some (Accepted (ReleaseOf c)) since → ⊥

-- ---- "It is idle if no request of it was accepted, or an accepted call of it since the last such request gave its record back in phase 0."

pub record GivenBack (h : List Event) (c : ℕ) : Type 0 where
  pub left : ℕ
  pub right : ℕ
  pub since : List Event
  pub asked : LastRequest h c left right since
  pub returned : Some (GaveBackIn 0 (CallOf c)) since

abbrev pub Idle : List Event → ℕ → Type 0
Idle h c = (Some (Accepted (RequestOf c)) h → ⊥) ⊎ GivenBack h c

-- ---- "Of an inner word the flags are Exp and Occ, the ticket counts TCnt and TMax, the notice counts DCnt and DMax."

pub record CleanInner (w : ℕ) : Type 0 where
  pub exp_clear : exp w ≡ 0
  pub occ_clear : occ w ≡ 0
  pub tickets : tcnt w ≡ tmax w
  pub notices : dcnt w ≡ dmax w

-- "every leaf word is 0, and each inner word has both its flags at 0, its two ticket counts equal and its two notice counts equal"
pub record Clean (s : Settings) (words : List ℕ) : Type 0 where
  pub leaf : (n : ℕ) → Node s.levels n → level n ≡ s.levels → word_at words n ≡ 0
  pub inner : (n : ℕ) → Node s.levels n → level n < s.levels → CleanInner (word_at words n)

-- ---- 2.3, "Suppose accepted steps have true whole-number moments": of requests, releases, cancels and refused calls nothing is supposed

-- at place i of the list stands an event that has P
unfoldable pub At : (Event → Type 0) → List Event → ℕ → Type 0
At P [] i = ⊥
At P (e ∷ es) zero = P e
At P (e ∷ es) (suc i) = At P es i

-- there an accepted step of the client c by the clock t
abbrev pub StepAt : List Event → (i c t : ℕ) → Type 0
StepAt h i c t = At (λ e. (e.number ≡ 0) × (e.made ≡ step c t)) h i

-- from the clock t to the clock u, and from the moment m to the moment n: "10,000 times its own elapsed ticks lies between 9,999 and 10,001 times the true elapse"
abbrev pub Steady : (t u m n : ℕ) → Type 0
Steady t u m n = (9999 * (n - m) ≤ 10000 * (u - t)) × (10000 * (u - t) ≤ 10001 * (n - m))

-- `moment i` is the moment of the call at place i
pub record TrueMoments (h : List Event) (moment : ℕ → ℕ) : Type 0 where
  -- "that never go back along a history"
  pub never_back : (i j c d t u : ℕ) → i < j → StepAt h i c t → StepAt h j d u → moment i ≤ moment j
  -- "and between any two accepted steps of one client .."
  pub steady : (i j c t u : ℕ) → i < j → StepAt h i c t → StepAt h j c u → Steady t u (moment i) (moment j)

-- ---- "Demand 3 is one claim about the whole history"

-- "no two different clients hold windows that overlap" (`Overlap` is the sentence before it, which stands apart since a calendar's windows are said not to overlap in the same sense)
abbrev pub SingleHolding : List Event → Type 0
SingleHolding h = (c d l r k q : ℕ) → (c ≡ d → ⊥) → Holds h c l r → Holds h d k q → Overlap l r k q → ⊥

-- st is what "an accepted opening left". 2.3, "Demand 3's single holding is then shown for every history that meets this supposition; what it says of idle clients stays for any
-- clocks." All clients are those below the table's count: of any other every call is refused by 4.
abbrev pub Demand3 : Settings → State → List Call → Type 0
Demand3 s st ks =
    ((moment : ℕ → ℕ) → TrueMoments (events s st ks) moment → SingleHolding (events s st ks))
    × (((c : ℕ) → c < length st.clients → Idle (events s st ks) c) → Clean s (run s st ks).words)

-- ---- cause 6, "client's record unreadable"

-- every record of the table is readable: none is "unreadable" in the sense of cause 6
abbrev pub AllReadable : Settings → State → Type 0
AllReadable s st = (c : ℕ) → unreadable s (record_at st c) (clock_at st c) ≡ false
