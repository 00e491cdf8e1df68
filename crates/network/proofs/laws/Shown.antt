-- Laws of a network as the history sees it. Assumes nothing.
use Rattle.std.specs.Prelude.{◌≡◌, eqb, ℕ, zero, suc, ◌≤◌, length, set}
use Rattle.std.proofs.Math.Path.{refl, ap}
use Rattle.std.proofs.Common.{ap₂, ◌∙◌, arith, length-set}
use mathlib.Core.List.{List, [], ◌∷◌, map}
use Rattle.std.proofs.lemmas.List.{length-replicate}
use Rattle.base.specs.rules.Choice.{choose}
use Rattle.base.specs.laws.ChoiceLaws.{choose_eq, on_choose}
use Rattle.base.specs.laws.Mapped.{map_set, map_at, map_count}
use Rattle.lock.specs.declared.Client.{Client}
use Rattle.lock.specs.declared.Operation.{Operation}
use Rattle.lock.specs.declared.Record.{Record}
use Rattle.lock.specs.declared.Settings.{Settings}
use Rattle.lock.specs.rules.Records.{Phase, written, idle_client}
use Rattle.lock.specs.rules.Steps.{out_of_patience}
use Rattle.lock.specs.rules.Calls.{first_cause}
use Rattle.lock.specs.rules.Operations.{post_tests}
use Rattle.lock.specs.rules.Table.{State, client_at, opening_number, opened, opening}
use Rattle.lock.proofs.laws.Phases.{at_held}
use Rattle.runs.specs.rules.Ahead.{ahead_in, ahead_of, along, completed_all_answer}
use Rattle.network.specs.rules.Network.{Flight, free, flying, Network, run_at, client_on, with_run, started, seen_by, seen, shown}

-- ---- lists

pub set_past : {A : Type 0} (l : List A) (i : ℕ) (x : A) → length l ≤ i → set l i x ≡ l
set_past [] i x h = refl
set_past (y ∷ l) zero x h = absurd (omega arith)
set_past {A} (y ∷ l) (suc i) x h = ap (λ (k : List A). y ∷ k) (set_past l i x (omega arith))

-- ---- what is shown of a run

module _ (s : Settings) (net : Network) (c : ℕ) where
  pub client_shown : client_at (shown s net) c ≡ seen s (run_at net c)
  unfolding client_at run_at seen seen_by
  client_shown = map_at (seen s) net.runs c (record { client = idle_client; flight = free })

  abbrev flight : Flight
  flight = (run_at net c).flight

  by_flight : (f : Flight) → flight ≡ f → seen s (run_at net c) ≡ seen_by s (client_on net c) f
  unfolding seen
  by_flight f e = ap (seen_by s (client_on net c)) e

  pub shown_free : flight ≡ free → client_at (shown s net) c ≡ client_on net c
  unfolding seen_by
  shown_free e = client_shown ∙ by_flight free e

  pub shown_flying : (u m n : ℕ) (os : List Operation) (found : List ℕ) → flight ≡ flying u m n os found → client_at (shown s net) c ≡ (completed_all_answer s (client_on net c) u found).next
  unfolding seen_by
  shown_flying u m n os found e = client_shown ∙ by_flight (flying u m n os found) e

  -- a run changed: one client of those shown is
  pub shown_with : (words : List ℕ) (x : Client) (f : Flight) → shown s (with_run net words c x f) ≡ record { words = words; clients = set (shown s net).clients c (seen_by s x f) }
  unfolding seen
  shown_with words x f = ap (λ (cs : List Client). record { words = words; clients = cs }) (map_set (seen s) net.runs c (record { client = x; flight = f }))

-- ---- as it starts

all_free : (s : Settings) (cs : List Client) → map (seen s) (map (λ (x : Client). record { client = x; flight = free }) cs) ≡ cs
unfolding seen seen_by
all_free s [] = refl
all_free s (x ∷ cs) = ap (λ (k : List Client). x ∷ k) (all_free s cs)

pub shown_started : (s : Settings) (st : State) → shown s (started st) ≡ st
shown_started s st = ap (λ (cs : List Client). record { words = st.words; clients = cs }) (all_free s st.clients)

-- ---- counts stay

pub written_count : (words : List ℕ) (n w : ℕ) → length (written words n w) ≡ length words
unfolding written
written_count words zero w = refl
written_count words (suc i) w = length-set words i w

pub started_counts : (s : Settings) (lent : State) → (opening s lent).number ≡ 0
    → let net = started (opening s lent).state in opening_number s (length net.words) (length net.runs) ≡ 0
unfolding opening opened
started_counts s lent e =
    let st = (opening s lent).state in
    let same : st ≡ opened lent = choose_eq (opening s lent).number 0 (opened lent) lent e in
    ap₂ (λ (m n : ℕ). opening_number s m n) (ap (λ (x : State). length x.words) same ∙ length-replicate (length lent.words) 0)
    (map_count _ st.clients ∙ ap (λ (x : State). length x.clients) same ∙ length-replicate (length lent.clients) idle_client) ∙ e

-- ---- a run that holds: what it has in flight changes nothing of its client's record

module _ (s : Settings) (c : Client) (e : c.«record».phase ≡ 9) where
  abbrev r : Record
  r = c.«record»

  nothing_ahead : (u : ℕ) → ahead_of s c u ≡ []
  unfolding ahead_of ahead_in
  nothing_ahead u =
      ap (λ (p : Phase). choose (eqb (first_cause (post_tests s c u)) 0) (choose (out_of_patience s r u) [] (ahead_in s r p)) []) (at_held r.phase e)
      ∙ on_choose (λ (l : List Operation). l ≡ []) _ _ _ (λ _. on_choose (λ (l : List Operation). l ≡ []) (out_of_patience s r u) _ _ (λ _. refl) (λ _. refl)) (λ _. refl)

  held_seen : (f : Flight) → (seen_by s c f).«record» ≡ r
  unfolding seen_by completed_all_answer along
  held_seen free = refl
  held_seen (flying u m n os found) = ap (λ (l : List Operation). (along s u c l found).next.«record») (nothing_ahead u)

pub shown_held : (s : Settings) (net : Network) (c : ℕ) → (client_on net c).«record».phase ≡ 9 → (client_at (shown s net) c).«record» ≡ (client_on net c).«record»
unfolding seen
shown_held s net c e = ap (λ (x : Client). x.«record») (client_shown s net c) ∙ held_seen s (client_on net c) e (run_at net c).flight
