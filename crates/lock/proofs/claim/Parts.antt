-- A state as the invariant looks at it: its words, its records in one list, over which is summed, and each client's last clock. Assumes nothing.
use Rattle.std.specs.Prelude.{◌≡◌, refl, ◌≢◌, List, ◌∷◌, map, ℕ, zero, suc, ◌<◌, length, get_or, set, replicate}
use Rattle.std.proofs.Common.{sym, subst, get_or-set_same, get_or-set_other}
use Rattle.std.proofs.Math.Path.{ap}
use Rattle.base.specs.laws.Mapped.{map_set, map_at, map_count}
use Rattle.lock.specs.declared.Client.{Client}
use Rattle.lock.specs.declared.Record.{Record}
use Rattle.lock.specs.rules.Records.{client_with, idle_client}
use Rattle.lock.specs.rules.Table.{State, client_at, record_at, clock_at, with_client}
use Rattle.lock.proofs.claim.InnerWords.{nobody}

pub record Parts : Type 0 where
  pub words : List ℕ
  pub records : List Record
  pub clock : ℕ → ℕ

abbrev pub record_in : Parts → ℕ → Record
record_in p c = get_or p.records c nobody

abbrev record_of : Client → Record
record_of c = c.«record»

abbrev pub parts_of : State → Parts
parts_of st = record { words = st.words; records = map record_of st.clients; clock = clock_at st }

-- ---- the records of the clients

pub records_count : (cs : List Client) → length (map record_of cs) ≡ length cs
records_count = map_count record_of

pub records_fresh : (n : ℕ) → map record_of (replicate n idle_client) ≡ replicate n nobody
records_fresh zero = refl
records_fresh (suc n) = ap (λ (rs : List Record). nobody ∷ rs) (records_fresh n)

pub record_at_lem : (st : State) (c : ℕ) → record_in (parts_of st) c ≡ record_at st c
unfolding client_at
record_at_lem st c = map_at record_of st.clients c idle_client

-- ---- after a call of the client c

module _ (st : State) (words : List ℕ) (c t : ℕ) (q : Record) where
  -- P of the parts, with the records as a list of which one is set
  pub on_parts : (P : Parts → Type 0) → P (record { words = words; records = set (parts_of st).records c q; clock = clock_at (with_client st words c t q) }) → P (parts_of (with_client st words c t q))
  on_parts P v = subst (λ (rs : List Record). P (record { words = words; records = rs; clock = clock_at (with_client st words c t q) })) (sym (map_set record_of st.clients c (client_with t q))) v

  pub clock_own : c < length st.clients → clock_at (with_client st words c t q) c ≡ t
  unfolding client_at
  clock_own b = ap (λ (x : Client). x.clock) (get_or-set_same st.clients c (client_with t q) idle_client b)

  pub clock_other : (d : ℕ) → d ≢ c → clock_at (with_client st words c t q) d ≡ clock_at st d
  unfolding client_at
  clock_other d n = ap (λ (x : Client). x.clock) (get_or-set_other st.clients c d (client_with t q) idle_client n)
