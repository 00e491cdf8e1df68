-- Laws: every call keeps what is known beside a state of moments. Assumes nothing.
use Rattle.std.specs.Prelude.{◌≡◌, refl, ◌≢◌, ◌⊎◌, List, ◌∷◌, length, get_or, set}
use Rattle.std.proofs.Common.{sym, ◌∙◌, arith}
use Rattle.std.proofs.Math.Path.{ap, subst}
use Rattle.std.proofs.Math.Logic.{inl, inr, ⊎_elim}
use Prim.Native.Nat.{ℕ, zero, suc, ◌+◌, ◌≤◌, ◌<◌}
use Rattle.base.specs.laws.ChoiceLaws.{choose_eq, by_lt, by_eq}
use Rattle.base.specs.laws.Sum.{on_set}
use Rattle.tree.specs.rules.Tree.{level}
use Rattle.lock.specs.declared.Record.{Record}
use Rattle.lock.specs.declared.Settings.{Settings}
use Rattle.lock.specs.rules.Table.{step}
use Rattle.lock.specs.rules.History.{Event, RequestOf, Accepted, At, StepAt}
use Rattle.lock.specs.rules.Readings.{NotSlow, NotFast, LateAt}
use Rattle.lock.proofs.laws.ClaimLaws.{ClaimOn}
use Rattle.lock.proofs.claim.InnerWords.{nobody}
use Rattle.lock.proofs.claim.Parts.{Parts, record_in}
use Rattle.lock.proofs.claim.Stage.{passing, passing_climb}
use Rattle.lock.proofs.claim.Timed.{Timed, Timely, ReadSafely, timed_later, parent_read, claim_read, parent_kept, claim_kept, claim_now, timed_above, timed_below}
use Rattle.lock.proofs.claim.Onward.{Unclaimed}
use Rattle.lock.proofs.claim.Invariant.{Invariant}
use Rattle.lock.proofs.claim.Noted.{Unasked, Noted, Timing, timed_none, changed, changed_own, changed_other}

-- ---- the rest of a history after its first event

module _ (s : Settings) (e : Event) (rest : List Event) (found : ℕ → Record) (touch reading : ℕ → ℕ) where
  abbrev found' : ℕ → Record
  found' i = found (suc i)

  abbrev touch' : ℕ → ℕ
  touch' i = touch (suc i)

  abbrev reading' : ℕ → ℕ
  reading' i = reading (suc i)

  -- the first event is no accepted request of c
  abbrev NotAsked : ℕ → Type 0
  NotAsked c = Accepted (RequestOf c) e → ⊥

  unasked_later : (j c : ℕ) → NotAsked c → Unasked rest j c → Unasked (e ∷ rest) (suc j) c
  unfolding At
  unasked_later j c none v zero b = none
  unasked_later j c none v (suc k) b = v k (omega arith)

  noted_later : (r : Record) (m0 m1 present now c : ℕ) → NotAsked c → present ≤ now → Noted s r m0 m1 present (e ∷ rest) found reading c → Noted s r m0 m1 now rest found' reading' c
  unfolding At
  noted_later r m0 m1 present now c none l v = record {
    past = λ d. omega (arith, v.past d);
    not_slow = λ d j u a w. v.not_slow d (suc j) u a (unasked_later j c none w);
    not_fast = λ a b d. ⊎_elim inl (λ f. inr (λ j u z w. f (suc j) u z (unasked_later j c none w))) (v.not_fast a b d);
  }

  module _ (st : Parts) (v : Timing s st (e ∷ rest) found touch reading) where
    -- a refused call
    pub timing_refused : ((c : ℕ) → NotAsked c) → Timing s st rest found' touch' reading'
    unfolding At
    timing_refused none = record {
      claim = v.claim;
      parent = v.parent;
      present = v.present;
      later = λ j. v.later (suc j);
      noted = λ c. noted_later (record_in st c) (v.claim c) (v.parent c) v.present v.present c (none c) (omega arith) (v.noted c);
      timed = v.timed;
    }

    module _ (c : ℕ) (client : c < length st.records) (q : Record) (words : List ℕ) (clock : ℕ → ℕ) where
      abbrev rs : List Record
      rs = st.records

      abbrev r : Record
      r = record_in st c

      abbrev after : Parts
      after = record { words = words; records = set rs c q; clock = clock }

      -- ---- a call after which nothing is claimed and no ancestor passed: a request, a release or a cancel

      module _ (none : Unclaimed q) where
        below_none : (a : Record) (m0 m1 present : ℕ) → Timed s a q m0 m1 present
        below_none a m0 m1 present = record {
          claims = λ x y p. absurd (omega (arith, none.none, p.clear, p.above.higher));
          waits = λ i x y p. absurd (omega (arith, none.none, p.clear, p.above.higher));
          checks = λ i j k l x y z. absurd (omega (arith, none.stage j (omega arith)));
        }

        pub timing_unclaimed : ((d : ℕ) → d ≢ c → NotAsked d) → Timing s after rest found' touch' reading'
        unfolding At
        timing_unclaimed other =
            record {
              claim = v.claim;
              parent = v.parent;
              present = v.present;
              later = λ j. v.later (suc j);
              noted = λ d. on_set (λ y. Noted s y (v.claim d) (v.parent d) v.present rest found' reading' d) rs c d q nobody client
                  (λ i. record {
                    past = λ n. absurd (n none.none);
                    not_slow = λ n. absurd (n none.none);
                    not_fast = λ a b. absurd (omega (arith, none.phase a));
                  }) (λ i. noted_later (record_in st d) (v.claim d) (v.parent d) v.present v.present d (other d i) (omega arith) (v.noted d));
              timed = λ a b n.
                  on_set (λ y. Timed s y (get_or (set rs c q) b nobody) (v.claim a) (v.parent b) v.present) rs c a q nobody client
                  (λ i. timed_none s q none (get_or (set rs c q) b nobody) (v.claim a) (v.parent b) v.present)
                  (λ i. on_set (λ y. Timed s (get_or rs a nobody) y (v.claim a) (v.parent b) v.present) rs c b q nobody client
                  (λ j. below_none (get_or rs a nobody) (v.claim a) (v.parent b) v.present) (λ j. v.timed a b n));
            }

      -- ---- a step

      module _ (inv : Invariant s st) (now : ℕ) (time : Timely s rs nobody r q now) (at : (e.number ≡ 0) × (e.made ≡ step c now))
          (order : (j d u : ℕ) → StepAt rest j d u → touch 0 ≤ touch (suc j)) (is : found 0 ≡ r) (past : r.t0 ≤ now) (on : (r.phase ≡ 5) ⊎ (r.phase ≡ 6) → ClaimOn s r now q)
          (not_slow : (j u : ℕ) → StepAt rest j c u → Unasked rest j c → r.phase ≡ 3 → r.place ≡ 0 → (found (suc j)).phase ≡ 6 → (LateAt s (found (suc j)) u → ⊥) → NotSlow s.wait now u (reading 0) (reading (suc j)))
          (not_fast : (j u : ℕ) → StepAt rest j c u → Unasked rest j c → r.phase ≡ 5 → (found (suc j)).phase ≡ 7 → (LateAt s r now → ⊥) → NotFast s.wait now u (reading 0) (reading (suc j)))
          (read_first : (r.phase ≡ 3) ⊎ (r.phase ≡ 7) → reading 0 ≤ touch 0) (touched_first : (r.phase ≡ 5) ⊎ (r.phase ≡ 6) → touch 0 ≤ reading 0) where
        abbrev m0 : ℕ
        m0 = v.claim c

        abbrev m1 : ℕ
        m1 = v.parent c

        -- it is no request
        steps_only : (d : ℕ) → NotAsked d
        unfolding RequestOf
        steps_only d x = subst (RequestOf d) at.1 x.1

        onward : v.present ≤ touch 0
        unfolding At
        onward = v.later 0 c now at

        read : ReadSafely s r now m0 m1 (touch 0) (reading 0)
        unfolding At
        read = record {
          read_first = read_first;
          touched_first = touched_first;
          not_slow = λ d p. by_lt now (r.t1 + s.wait)
              (λ b. (v.noted c).not_slow d 0 now at (λ _ b. absurd (omega arith)) (ap (λ (x : Record). x.phase) is ∙ p) (λ z. omega (arith, z.0, ap (λ (x : Record). x.t1) is)))
              (λ b _. omega (arith, b));
          not_fast = λ inner p. ⊎_elim (λ z. absurd (omega (arith, z.0, p))) (λ f. f 0 now at (λ _ b. absurd (omega arith)) (ap (λ (x : Record). x.phase) is ∙ p)) ((v.noted c).not_fast (omega arith) (omega arith) inner);
        }

        abbrev claim' : ℕ → ℕ
        claim' = changed c (claim_read r m0 (reading 0)) v.claim

        abbrev parent' : ℕ → ℕ
        parent' = changed c (parent_read r m1 (reading 0)) v.parent

        -- a claim that was late in any case stays with its notices
        still_notifying : r.phase ≡ 6 → r.t1 + s.wait ≤ r.t0 → 6 ≤ q.phase → q.phase ≤ 7 → q.phase ≡ 6
        still_notifying six over a b =
            by_eq q.phase 6 (λ e. e) (λ d. ⊎_elim (λ z. absurd (omega (arith, z.0, six))) (λ z. absurd (omega (arith, z.1, over, past))) ((on (inr six) a b).1 (omega arith)))

        -- what the client has noted, before the step or at it
        own_noted : Noted s q (claim_read r m0 (reading 0)) (parent_read r m1 (reading 0)) (touch 0) rest found' reading' c
        unfolding At
        own_noted =
            let kept : passing r ≢ 0 → parent_read r m1 (reading 0) ≡ m1 = parent_kept r m1 (reading 0) in
            let old = v.noted c in
            let was : passing q ≢ 0 → passing q ≤ passing r → passing r ≢ 0 = λ n b z. n (omega arith) in
            let on_parent : (P : ℕ → ℕ → Type 0) → passing q ≢ 0 → (passing r ≢ 0 → P r.t1 m1) → (r.phase ≡ 3 → r.place ≡ 0 → P now (reading 0)) → P q.t1 (parent_read r m1 (reading 0)) = λ P n f g.
            ⊎_elim
            (λ z. absurd (n z))
            (λ k. ⊎_elim
            (λ o. let d = was n o.0 in rw (o.1, kept d) (f d))
            (λ o. ⊎_elim
            (λ z. rw (z.1, kept z.0) (f z.0))
            (λ z. rw (z.2, choose_eq (passing r) 0 (reading 0) m1 z.0) (g z.1 (sym (passing_climb r z.1) ∙ z.0))) o.1) k.1)
            time.passes in
            record {
              past = λ n. on_parent (λ t m. m ≤ touch 0) n (λ d. omega (arith, old.past d, onward)) (λ z _. read_first (inl z));
              not_slow = λ n j u a w f g. on_parent (λ t m. NotSlow s.wait t u m (reading (suc j))) n (λ d. old.not_slow d (suc j) u a (unasked_later j c (steps_only c) w) f g) (λ z at_parent. not_slow j u a w z at_parent f g);
              not_fast = λ a b inner. ⊎_elim
                  -- claimed before: one that was late in any case does not get past its last notice
                  (λ o. ⊎_elim
                  (λ y. inl (still_notifying y.0 y.1 a b, omega (arith, y.1, (on (inr y.0) a b).0, o.2)))
                  (λ f. inr (λ j u z w g. rw (o.2, claim_kept r m0 (reading 0) o.0 o.1) (f (suc j) u z (unasked_later j c (steps_only c) w) g)))
                  (old.not_fast o.0 o.1 (λ l. inner (ap level o.3 ∙ l))))
                  -- claims now
                  (λ o. ⊎_elim
                  (λ y. let k = on (inl y.0) a b in
                  let fast : (LateAt s r now → ⊥) → ((j u : ℕ) → StepAt rest j c u → Unasked rest j c → (found (suc j)).phase ≡ 7 → NotFast s.wait q.t0 u (claim_read r m0 (reading 0)) (reading (suc j)))
                  = λ d j u z w g. rw (y.1, claim_now r m0 (reading 0) y.0) (not_fast j u z w y.0 g d) in
                  by_lt now (r.t1 + s.wait)
                  (λ l. inr (fast (λ z. omega (arith, z.0, l))))
                  (λ l. by_eq q.phase 6
                  (λ six. inl (six, omega (arith, k.0, y.1)))
                  (λ d. inr (fast (λ z. ⊎_elim (λ root. z.1 root.1) (λ x. omega (arith, x.0, y.0)) (k.1 (omega arith)))))))
                  (λ l. absurd (inner l)) o)
                  (time.claims a b);
            }

        two_timed : (a b : ℕ) → a ≢ b → Timed s (get_or (set rs c q) a nobody) (get_or (set rs c q) b nobody) (claim' a) (parent' b) (touch 0)
        two_timed a b n =
            on_set (λ y. Timed s y (get_or (set rs c q) b nobody) (claim' a) (parent' b) (touch 0)) rs c a q nobody client
            (λ i. on_set (λ y. Timed s q y (claim' a) (parent' b) (touch 0)) rs c b q nobody client
            (λ j. absurd (n (i ∙ sym j)))
            (λ j. rw (changed_own c (claim_read r m0 (reading 0)) v.claim a i, changed_other c (parent_read r m1 (reading 0)) v.parent b j)
            (timed_above s inv.settled rs nobody r q now m0 m1 v.present (touch 0) (reading 0) onward time read (record_in st b) (st.clock b) (v.parent b) (inv.fit b) (v.noted b).past
            (λ x z. z b) (v.timed c b (λ k. j (sym k))))))
            (λ i. on_set (λ y. Timed s (get_or rs a nobody) y (claim' a) (parent' b) (touch 0)) rs c b q nobody client
            (λ j. rw (changed_other c (claim_read r m0 (reading 0)) v.claim a i, changed_own c (parent_read r m1 (reading 0)) v.parent b j)
            (timed_below s inv.settled rs nobody r q now m0 m1 v.present (touch 0) (reading 0) onward time read (record_in st a) (st.clock a) (v.claim a) (inv.fit a) (λ x z. z a)
            (v.timed a c i)))
            (λ j. rw (changed_other c (claim_read r m0 (reading 0)) v.claim a i, changed_other c (parent_read r m1 (reading 0)) v.parent b j)
            (timed_later s (record_in st a) (record_in st b) (v.claim a) (v.parent b) v.present (touch 0) onward (v.timed a b n))))

        pub timing_stepped : Timing s after rest found' touch' reading'
        timing_stepped = record {
          claim = claim';
          parent = parent';
          present = touch 0;
          later = order;
          noted = λ d. on_set (λ y. Noted s y (claim' d) (parent' d) (touch 0) rest found' reading' d) rs c d q nobody client
              (λ i. subst (λ (x : ℕ). Noted s q (claim' x) (parent' x) (touch 0) rest found' reading' x) (sym i)
              (rw (changed_own c (claim_read r m0 (reading 0)) v.claim c refl, changed_own c (parent_read r m1 (reading 0)) v.parent c refl) own_noted))
              (λ i. rw (changed_other c (claim_read r m0 (reading 0)) v.claim d i, changed_other c (parent_read r m1 (reading 0)) v.parent d i)
              (noted_later (record_in st d) (v.claim d) (v.parent d) v.present (touch 0) d (steps_only d) onward (v.noted d)));
          timed = two_timed;
        }
