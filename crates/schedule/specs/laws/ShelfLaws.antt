-- The first clients of an empty shelf: idle clients, as many as the schedule has. Assumes nothing.
use Rattle.std.specs.Prelude.{◌≡◌, refl, List, ◌∷◌, ℕ, zero, suc, ◌≤◌, take, replicate}
use Rattle.std.proofs.Common.{ap, le_of_suc-le-suc, not-suc-le-zero}
use Rattle.lock.specs.rules.Records.{idle_client}

pub take_replicate : {A : Type 0} (n m : ℕ) (a : A) → n ≤ m → take n (replicate m a) ≡ replicate n a
take_replicate zero m a h = refl
take_replicate (suc n) zero a h = absurd (not-suc-le-zero h)
take_replicate {A} (suc n) (suc m) a h = ap (λ (l : List A). a ∷ l) (take_replicate n m a (le_of_suc-le-suc h))

pub empty_front : (clients : ℕ) → clients ≤ 64 → take clients (replicate 64 idle_client) ≡ replicate clients idle_client
empty_front clients h = take_replicate clients 64 idle_client h
