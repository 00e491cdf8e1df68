-- Laws: a history in which each step's clock is what its run's clock showed at one moment, on the safe side of the touch, is read apart. Assumes nothing.
use Rattle.std.specs.Prelude.{◌≡◌, ◌⊎◌, get_or}
use Rattle.std.proofs.Common.{⊎_elim, arith}
use mathlib.Core.List.{List, [], ◌∷◌}
use Prim.Native.Nat.{ℕ, zero, suc, ◌≤◌, ◌<◌}
use Rattle.base.specs.laws.ChoiceLaws.{by_lt}
use Rattle.lock.specs.declared.Record.{Record}
use Rattle.lock.specs.declared.Settings.{Settings}
use Rattle.lock.specs.rules.Table.{State, Call, step, client_of, record_at, call}
use Rattle.lock.specs.rules.History.{events, At, StepAt}
use Rattle.lock.specs.rules.Readings.{NotSlow, NotFast, LateAt, found_in, ReadApart}
use Rattle.network.specs.rules.Clocks.{TrueClock}

-- the moments of a call: of the touch, and of the reading of its clock
pub record Moments : Type 0 where
  pub touch : ℕ
  pub reading : ℕ

abbrev pub moments_at : List Moments → ℕ → Moments
moments_at ms i = get_or ms i (record { touch = 0; reading = 0 })

module _ (s : Settings) (clocks : ℕ → ℕ → ℕ) where
  -- of a call that finds the record r; `present` is the moment of the touch before it
  pub record ReadOne (present : ℕ) (r : Record) (k : Call) (m : Moments) : Type 0 where
    pub onward : present ≤ m.touch
    pub clock : (c t : ℕ) → k ≡ step c t → (t ≡ clocks c m.reading) ⊎ (((r.phase ≡ 5) ⊎ (r.phase ≡ 6)) × LateAt s r t)
    pub read_first : (r.phase ≡ 3) ⊎ (r.phase ≡ 7) → m.reading ≤ m.touch
    pub touched_first : (r.phase ≡ 5) ⊎ (r.phase ≡ 6) → m.touch ≤ m.reading

  unfoldable pub EachRead : ℕ → State → List Call → List Moments → Type 0
  EachRead present st [] ms = Unit
  EachRead present st (k ∷ ks) [] = ⊥
  EachRead present st (k ∷ ks) (m ∷ ms) = ReadOne present (record_at st (client_of k)) k m × EachRead m.touch (call s st k).state ks ms

  -- from an earlier moment on
  pub each_earlier : (p q : ℕ) → p ≤ q → (st : State) (ks : List Call) (ms : List Moments) → EachRead q st ks ms → EachRead p st ks ms
  unfolding EachRead
  each_earlier p q b st [] ms v = tt
  each_earlier p q b st (k ∷ ks) [] v = v
  each_earlier p q b st (k ∷ ks) (m ∷ ms) v =
      let o = v.0 in (record { onward = omega (arith, o.onward); clock = o.clock; read_first = o.read_first; touched_first = o.touched_first }, v.1)

  -- what is known of the step at place i
  pub each_at : (p : ℕ) (st : State) (ks : List Call) (ms : List Moments) → EachRead p st ks ms → (i c t : ℕ) → StepAt (events s st ks) i c t
      → (p ≤ (moments_at ms i).touch) × ((t ≡ clocks c (moments_at ms i).reading) ⊎ ((((found_in s st ks i).phase ≡ 5) ⊎ ((found_in s st ks i).phase ≡ 6)) × LateAt s (found_in s st ks i) t))
      × (((found_in s st ks i).phase ≡ 3) ⊎ ((found_in s st ks i).phase ≡ 7) → (moments_at ms i).reading ≤ (moments_at ms i).touch)
      × (((found_in s st ks i).phase ≡ 5) ⊎ ((found_in s st ks i).phase ≡ 6) → (moments_at ms i).touch ≤ (moments_at ms i).reading)
  unfolding EachRead events At found_in
  each_at p st [] ms v i c t a = absurd a
  each_at p st (k ∷ ks) [] v i c t a = absurd v
  each_at p st (k ∷ ks) (m ∷ ms) v zero c t a = (v.0.onward, v.0.clock c t a.1, v.0.read_first, v.0.touched_first)
  each_at p st (k ∷ ks) (m ∷ ms) v (suc i) c t a =
      let x = each_at m.touch (call s st k).state ks ms v.1 i c t a in
      (omega (arith, v.0.onward, x.0), x.1, x.2, x.3)

  each_onward : (p : ℕ) (st : State) (ks : List Call) (ms : List Moments) → EachRead p st ks ms → (i j c d t u : ℕ) → i < j → StepAt (events s st ks) i c t → StepAt (events s st ks) j d u
      → (moments_at ms i).touch ≤ (moments_at ms j).touch
  unfolding EachRead events At
  each_onward p st [] ms v i j c d t u b x y = absurd x
  each_onward p st (k ∷ ks) [] v i j c d t u b x y = absurd v
  each_onward p st (k ∷ ks) (m ∷ ms) v i zero c d t u b x y = absurd (omega arith)
  each_onward p st (k ∷ ks) (m ∷ ms) v zero (suc j) c d t u b x y = (each_at m.touch (call s st k).state ks ms v.1 j d u y).0
  each_onward p st (k ∷ ks) (m ∷ ms) v (suc i) (suc j) c d t u b x y = each_onward m.touch (call s st k).state ks ms v.1 i j c d t u (omega arith) x y

  -- by true clocks, in whatever order two readings were made
  module _ (wait : ℕ) (clock : ℕ → ℕ) (v : TrueClock wait clock) (t u m n : ℕ) (f : t ≡ clock m) (g : u ≡ clock n) where
    slow : NotSlow wait t u m n
    slow = rw (f, g) (by_lt n m (λ b far. omega (arith, far)) (λ b. v.not_slow m n b))

    fast : NotFast wait t u m n
    fast = rw (f, g) (by_lt n m (λ b far. omega (arith, far, v.onward n m (omega arith))) (λ b. v.not_fast m n b))

  pub read_apart : ((c : ℕ) → TrueClock s.wait (clocks c)) → (p : ℕ) (st : State) (ks : List Call) (ms : List Moments) → EachRead p st ks ms
      → ReadApart s st ks (λ i. (moments_at ms i).touch) (λ i. (moments_at ms i).reading)
  read_apart true_clocks p st ks ms v = record {
    never_back = each_onward p st ks ms v;
    not_slow = λ i j c t u b x y _ three _ six early.
        ⊎_elim
        (λ f. ⊎_elim (λ g. slow s.wait (clocks c) (true_clocks c) t u _ _ f g) (λ z. absurd (early z.1)) (each_at p st ks ms v j c u y).1)
        (λ z. absurd (⊎_elim (λ e. omega (arith, e, three)) (λ e. omega (arith, e, three)) z.0)) (each_at p st ks ms v i c t x).1;
    not_fast = λ i j c t u b x y _ five seven early.
        ⊎_elim
        (λ f. ⊎_elim (λ g. fast s.wait (clocks c) (true_clocks c) t u _ _ f g) (λ z. absurd (⊎_elim (λ e. omega (arith, e, seven)) (λ e. omega (arith, e, seven)) z.0)) (each_at p st ks ms v j c u y).1)
        (λ z. absurd (early z.1)) (each_at p st ks ms v i c t x).1;
    read_first = λ i c t x. (each_at p st ks ms v i c t x).2;
    touched_first = λ i c t x. (each_at p st ks ms v i c t x).3;
  }
