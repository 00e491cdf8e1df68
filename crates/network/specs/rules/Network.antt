-- To be believed: runs on many machines. Each keeps its own client, the record with its last clock, and posts a list of operations at a time; the memory server's words are touched by one operation
-- after another, each run's in the order of its list, and what was found there is on its way back until the run completes. Which operations stand in a list, and how many of them count, is Ahead.antt;
-- here is in what order they are carried out. Nothing is assumed of the network but that order: the operations of one connection are carried out in the order of posting. Assumes nothing.
use Rattle.std.specs.Prelude.{Bool, true, false, ◌&&◌, List, [], ◌∷◌, ◌++◌, map, ◌≡◌, ℕ, eqb, leb, ltb, get_or, set, take}
use Rattle.base.specs.rules.Choice.{choose}
use Rattle.lock.specs.declared.Client.{Client}
use Rattle.lock.specs.declared.Operation.{Operation}
use Rattle.lock.specs.declared.Settings.{Settings}
use Rattle.lock.specs.rules.Records.{word_at, written, idle_client}
use Rattle.lock.specs.rules.Steps.{applied}
use Rattle.lock.specs.rules.Operations.{access_of, operation_answer, completed_answer, own_request_answer, own_release_answer, own_cancel_answer}
use Rattle.lock.specs.rules.Table.{State, Call, request, step, release, cancel, client_of}
use Rattle.runs.specs.rules.Ahead.{ahead_of, same, completed_all_answer}

-- ---- the runs and the words

-- what a run has in flight: nothing; or a list that it posted: the moments of the posting and of the last completion, those of its operations that have not been carried out, and the words that the others
-- found. `clock` is the one by which the run will complete the list: it may be read later, and stands here since a history has a step's clock where its word is touched
pub data Flight : Type 0 where
  free : Flight
  flying : (clock before after : ℕ) (operations : List Operation) (found : List ℕ) → Flight

pub record Run : Type 0 where
  pub client : Client
  pub flight : Flight

pub record Network : Type 0 where
  pub words : List ℕ
  pub runs : List Run

unfoldable pub run_at : Network → ℕ → Run
run_at net c = get_or net.runs c (record { client = idle_client; flight = free })

abbrev pub client_on : Network → ℕ → Client
client_on net c = (run_at net c).client

abbrev pub with_run : Network → List ℕ → ℕ → Client → Flight → Network
with_run net words c client flight = record { words = words; runs = set net.runs c (record { client = client; flight = flight }) }

-- as an opening leaves words and clients: nothing is in flight
abbrev pub started : State → Network
started st = record { words = st.words; runs = map (λ c. record { client = c; flight = free }) st.clients }

-- ---- what happens: to one run, or to one word, at a time

pub data Act : Type 0 where
  -- at a moment, a run with nothing in flight makes a request, a release or a cancel on its own client, or a step that touches no word
  own : (call : Call) (at : ℕ) → Act
  -- at the moment `before` it reads its clock, and posts its operations, no more than `room`; at the moment `after` all of them will have come back. It will complete by the clock `completing`
  post : (run room clock completing before after : ℕ) → Act
  -- at a moment, the next operation of what it has posted is carried out
  carry : (run at : ℕ) → Act
  -- the words found have all come back, and the run completes
  complete : (run : ℕ) → Act

-- a step that touches no word
unfoldable pub touches_none : Operation → Bool
touches_none o = eqb o.number 0 && eqb o.node 0

-- the calls on a client that touch no word
unfoldable pub own_next : Settings → Client → Call → Client
own_next s c (request d a b) = (own_request_answer s c a b).next
own_next s c (step d t) = choose (touches_none (operation_answer s c t)) (completed_answer s c t 0).next c
own_next s c (release d) = (own_release_answer s c).next
own_next s c (cancel d) = (own_cancel_answer s c).next

unfoldable pub own_calls : Settings → Client → Call → List Call
own_calls s c (request d a b) = request d a b ∷ []
own_calls s c (step d t) = choose (touches_none (operation_answer s c t)) (step d t ∷ []) []
own_calls s c (release d) = release d ∷ []
own_calls s c (cancel d) = cancel d ∷ []

-- two lists of operations are the same
unfoldable pub same_list : List Operation → List Operation → Bool
same_list [] [] = true
same_list [] (p ∷ ps) = false
same_list (o ∷ os) [] = false
same_list (o ∷ os) (p ∷ ps) = same o p && same_list os ps

-- what becomes of the network, by what the run has in flight; where something else is in flight nothing happens
unfoldable pub asks : Settings → Network → Call → Flight → Network
asks s net k free = with_run net net.words (client_of k) (own_next s (client_on net (client_of k)) k) free
asks s net k (flying u m n os found) = net

-- the run may complete by any clock by which it would post that list; where it would post another by it, it does not post now (Clocks.antt has the clock that runs take, and laws/Completing.antt when it is
-- one of these). A swap of the whole word that is tried for an operation and fails changes no word, and what was read behind it is forgotten: that is no act, and what went out before it is a list of less room
unfoldable pub posts : Settings → Network → (c room clock completing before after : ℕ) → Flight → Network
posts s net c room t u m n free =
    let os = ahead_of s (client_on net c) t in
    choose (same_list os (ahead_of s (client_on net c) u)) (with_run net net.words c (client_on net c) (flying u m n (take room os) [])) net
posts s net c room t u m n (flying v p q os found) = net

-- an operation is carried out when it has been posted, and before it has come back: at no other moment
unfoldable pub between : (before at after : ℕ) → Bool
between m at n = leb m at && leb at n

unfoldable pub carries : Settings → Network → (c at : ℕ) → Flight → Network
carries s net c at free = net
carries s net c at (flying u m n [] found) = net
carries s net c at (flying u m n (o ∷ os) found) =
    let w = word_at net.words o.node in
    choose (between m at n) (with_run net (written net.words o.node (applied (access_of o) w)) c (client_on net c) (flying u m n os (found ++ (w ∷ [])))) net

unfoldable pub completes : Settings → Network → ℕ → Flight → Network
completes s net c free = net
completes s net c (flying u m n [] found) = with_run net net.words c (completed_all_answer s (client_on net c) u found).next free
completes s net c (flying u m n (o ∷ os) found) = net

unfoldable pub act : Settings → Network → Act → Network
act s net (own k at) = asks s net k (run_at net (client_of k)).flight
act s net (post c room t u m n) = posts s net c room t u m n (run_at net c).flight
act s net (carry c at) = carries s net c at (run_at net c).flight
act s net (complete c) = completes s net c (run_at net c).flight

-- "every interleaving": any list of acts
unfoldable pub acts : Settings → Network → List Act → Network
acts s net [] = net
acts s net (a ∷ later) = acts s (act s net a) later

-- ---- the history: the calls of `lock`'s rules/History.antt, each step where its word was touched

unfoldable pub asked_by : Settings → Network → Call → Flight → List Call
asked_by s net k free = own_calls s (client_on net (client_of k)) k
asked_by s net k (flying u m n os found) = []

-- "with the reads that were dropped taken out": an operation that does not count is no step
unfoldable pub counts : Settings → Client → (clock : ℕ) → (found : List ℕ) → (w : ℕ) → Bool
counts s c u found w = ltb (completed_all_answer s c u found).counted (completed_all_answer s c u (found ++ (w ∷ []))).counted

unfoldable pub carried_by : Settings → Network → (c at : ℕ) → Flight → List Call
carried_by s net c at free = []
carried_by s net c at (flying u m n [] found) = []
carried_by s net c at (flying u m n (o ∷ os) found) =
    choose (between m at n && counts s (client_on net c) u found (word_at net.words o.node)) (step c u ∷ []) []

unfoldable pub calls_of : Settings → Network → Act → List Call
calls_of s net (own k at) = asked_by s net k (run_at net (client_of k)).flight
calls_of s net (post c room t u m n) = []
calls_of s net (carry c at) = carried_by s net c at (run_at net c).flight
calls_of s net (complete c) = []

unfoldable pub history_of : Settings → Network → List Act → List Call
history_of s net [] = []
history_of s net (a ∷ later) = calls_of s net a ++ history_of s (act s net a) later

-- ---- a network as the history sees it: each run's client as it is when the operations that were carried out are completed

unfoldable pub seen_by : Settings → Client → Flight → Client
seen_by s c free = c
seen_by s c (flying u m n os found) = (completed_all_answer s c u found).next

unfoldable pub seen : Settings → Run → Client
seen s x = seen_by s x.client x.flight

abbrev pub shown : Settings → Network → State
shown s net = record { words = net.words; clients = map (seen s) net.runs }

-- ---- what a run itself knows

-- it holds its window exactly while its own record is in phase 9
pub record HoldsOwn (net : Network) (c l r : ℕ) : Type 0 where
  pub held : (client_on net c).«record».phase ≡ 9
  pub from : (client_on net c).«record».left ≡ l
  pub to : (client_on net c).«record».right ≡ r

-- it is idle where its own record is, and nothing is in flight
pub record IdleOwn (net : Network) (c : ℕ) : Type 0 where
  pub idle : (client_on net c).«record».phase ≡ 0
  pub none : (run_at net c).flight ≡ free
