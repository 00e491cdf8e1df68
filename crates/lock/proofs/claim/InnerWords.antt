-- Laws: what an inner word holds is what the records own of it, and every effect of a call keeps it so. Assumes nothing.
use Rattle.std.specs.Prelude.{◌≡◌, refl, ◌≢◌, ◌⊎◌, List, ℕ, suc, ◌+◌, ◌%◌, ◌≤◌, ◌<◌, length, get_or, set}
use Rattle.std.proofs.Common.{sym, ap, ◌∙◌, inl, inr, arith, lit≤}
use Rattle.std.proofs.Math.Decide.{ℕ_discrete}
use Rattle.base.specs.laws.Ring.{next}
use Rattle.base.specs.laws.Sum.{sum_by, sum_set, sum_at, sum_zero}
use Rattle.base.specs.laws.Tickets.{Tickets, standing, standing_first, standing_drawn, one_first, keep, take, pass_on}
use Rattle.word.specs.rules.Word.{field, exp, occ, tcnt, tmax, dcnt, dmax, add_occ, add_tcnt, add_tmax, add_dcnt, add_dmax, return_occ}
use Rattle.word.proofs.laws.Fields.{field_add, field_add_other, field_lt}
use Rattle.word.proofs.laws.Inner.{occ_returned}
use Rattle.lock.specs.declared.Record.{Record}
use Rattle.lock.specs.declared.Settings.{Settings}
use Rattle.lock.specs.rules.Records.{idle_with}
use Rattle.lock.proofs.claim.Owned.{owns, owns_notice, reaches_yes, reaches_no}
use Rattle.lock.proofs.claim.Effect.{Grips, Notices}

abbrev pub nobody : Record
nobody = idle_with 0

-- the ticket that a record drew
abbrev pub ticket_of : Record → ℕ
ticket_of r = r.ticket

-- the word w of inner node n holds what the records own of it
pub record InnerWord (s : Settings) (rs : List Record) (n w : ℕ) : Type 0 where
  pub exp_clear : exp w ≡ 0
  pub tickets : Tickets (owns s 1 n) (owns s 2 n) ticket_of nobody (tcnt w) (tmax w) rs
  pub occ_is : occ w ≡ sum_by (owns s 3 n) rs
  pub notices : (dcnt w + sum_by (owns_notice s n) rs) % 65536 ≡ dmax w

module _ (s : Settings) (n : ℕ) (some : 1 ≤ n) (w : ℕ) (rs : List Record) (kept : InnerWord s rs n w) (c : ℕ) (q : Record) (lt : c < length rs) where
  abbrev r : Record
  r = get_or rs c nobody

  abbrev own : Record → ℕ
  own = owns s 1 n

  abbrev first : Record → ℕ
  first = owns s 2 n

  -- ---- each part of the word: the sum that it holds changes by what the record owns

  occ_kept : (v : ℕ) → occ v ≡ occ w → owns s 3 n q ≡ owns s 3 n r → occ v ≡ sum_by (owns s 3 n) (set rs c q)
  occ_kept v f e = omega (arith, kept.occ_is, sum_set (owns s 3 n) rs c q nobody lt)

  notices_kept : (v : ℕ) → dcnt v ≡ dcnt w → dmax v ≡ dmax w → owns_notice s n q ≡ owns_notice s n r
      → (dcnt v + sum_by (owns_notice s n) (set rs c q)) % 65536 ≡ dmax v
  notices_kept v f g e =
      let sum : sum_by (owns_notice s n) (set rs c q) ≡ sum_by (owns_notice s n) rs = omega (arith, sum_set (owns_notice s n) rs c q nobody lt) in
      omega (arith, kept.notices)

  -- standing as before: the turn came before as now, or the ticket is the same
  stands : owns s 1 n q ≡ owns s 1 n r → owns s 2 n q ≡ owns s 2 n r → (owns s 1 n q ≡ 1 → owns s 2 n q ≢ 1 → q.ticket ≡ r.ticket)
      → own q ≡ 1 → standing own first ticket_of nobody (tcnt w) q ≡ standing own first ticket_of nobody (tcnt w) r
  stands e f g o =
      elim (ℕ_discrete (first q) 1) [
        | yes t ↦ standing_first own first ticket_of nobody (tcnt w) q t ∙ sym (standing_first own first ticket_of nobody (tcnt w) r (sym f ∙ t))
        | no d ↦ standing_drawn own first ticket_of nobody (tcnt w) q d ∙ g o d ∙ sym (standing_drawn own first ticket_of nobody (tcnt w) r (λ t. d (f ∙ t)))
      ]

  -- ---- nothing at n changes hands

  pub inner_same : owns s 1 n q ≡ owns s 1 n r → owns s 2 n q ≡ owns s 2 n r → owns s 3 n q ≡ owns s 3 n r → owns_notice s n q ≡ owns_notice s n r
      → (owns s 1 n q ≡ 1 → owns s 2 n q ≢ 1 → q.ticket ≡ r.ticket) → InnerWord s (set rs c q) n w
  inner_same e f g h d = record {
    exp_clear = kept.exp_clear;
    tickets = keep own first ticket_of nobody (tcnt w) (tmax w) rs kept.tickets c q lt e (stands e f d);
    occ_is = occ_kept w refl g;
    notices = notices_kept w refl refl h;
  }

  -- ---- the grip on n changes

  module _ (from to : ℕ) (g : Grips s r q n from to) where
    same_notices : owns_notice s n q ≡ owns_notice s n r
    same_notices = g.notices n some

    was : (k : ℕ) → 1 ≤ k → k ≤ from → owns s k n r ≡ 1
    was k a b = g.before k a ∙ reaches_yes k from b

    was_not : (k : ℕ) → 1 ≤ k → from < k → owns s k n r ≡ 0
    was_not k a b = g.before k a ∙ reaches_no k from b

    is : (k : ℕ) → 1 ≤ k → k ≤ to → owns s k n q ≡ 1
    is k a b = g.after k a ∙ reaches_yes k to b

    is_not : (k : ℕ) → 1 ≤ k → to < k → owns s k n q ≡ 0
    is_not k a b = g.after k a ∙ reaches_no k to b

    -- "TMax + 1 at the piece; old TMax is the ticket"
    pub inner_drew : length rs ≤ 32767 → from ≡ 0 → to ≡ 1 → q.ticket ≡ tmax w → InnerWord s (set rs c q) n (add_tmax 1 w)
    inner_drew few f t k =
        let other : (t j : ℕ) → (32 + 15 ≤ t) ⊎ (t + j ≤ 32) → field t j (add_tmax 1 w) ≡ field t j w = field_add_other 32 15 1 w in
        let tc = other 47 15 (inl (lit≤ tt)) in
        let unturned : owns s 2 n q ≢ 1 = λ z. omega (arith, is_not 2 (omega arith) (omega arith)) in
        record {
          exp_clear = other 63 1 (inl (lit≤ tt)) ∙ kept.exp_clear;
          tickets = rw (tc, field_add 32 15 1 w)
              (take own first ticket_of nobody (tcnt w) (tmax w) rs kept.tickets c q lt few (was_not 1 (omega arith) (omega arith)) (is 1 (omega arith) (omega arith))
              (standing_drawn own first ticket_of nobody (tcnt w) q unturned ∙ k));
          occ_is = occ_kept _ (other 62 1 (inl (lit≤ tt))) (is_not 3 (omega arith) (omega arith) ∙ sym (was_not 3 (omega arith) (omega arith)));
          notices = notices_kept _ (other 16 16 (inr (lit≤ tt))) (other 0 16 (inr (lit≤ tt))) same_notices;
        }

    -- "TCnt equals the ticket"
    pub inner_turned : from ≡ 1 → to ≡ 2 → tcnt w ≡ r.ticket → InnerWord s (set rs c q) n w
    inner_turned f t k =
        let unturned : owns s 2 n r ≢ 1 = λ z. omega (arith, was_not 2 (omega arith) (omega arith)) in
        record {
          exp_clear = kept.exp_clear;
          tickets = keep own first ticket_of nobody (tcnt w) (tmax w) rs kept.tickets c q lt (is 1 (omega arith) (omega arith) ∙ sym (was 1 (omega arith) (omega arith)))
              (λ _. standing_first own first ticket_of nobody (tcnt w) q (is 2 (omega arith) (omega arith)) ∙ k ∙ sym (standing_drawn own first ticket_of nobody (tcnt w) r unturned));
          occ_is = occ_kept w refl (is_not 3 (omega arith) (omega arith) ∙ sym (was_not 3 (omega arith) (omega arith)));
          notices = notices_kept w refl refl same_notices;
        }

    -- who has its turn keeps it: owns 1 and 2 before and after
    turn_kept : 2 ≤ from → 2 ≤ to → Tickets own first ticket_of nobody (tcnt w) (tmax w) (set rs c q)
    turn_kept f t =
        keep own first ticket_of nobody (tcnt w) (tmax w) rs kept.tickets c q lt (is 1 (omega arith) (omega arith) ∙ sym (was 1 (omega arith) (omega arith)))
        (λ _. standing_first own first ticket_of nobody (tcnt w) q (is 2 (omega arith) t) ∙ sym (standing_first own first ticket_of nobody (tcnt w) r (was 2 (omega arith) f)))

    -- it passes its turn on
    turn_passed : 2 ≤ from → to ≡ 0 → Tickets own first ticket_of nobody (next (tcnt w)) (tmax w) (set rs c q)
    turn_passed f t =
        pass_on own first ticket_of nobody (tcnt w) (tmax w) rs kept.tickets c q lt (was 1 (omega arith) (omega arith)) (was 2 (omega arith) f) (is_not 1 (omega arith) (omega arith))

    -- "Inner: Occ + 1": who has its turn finds Occ clear, since nobody else has it
    pub inner_claimed : (occ_turned : (d : ℕ) → owns s 3 n (get_or rs d nobody) ≤ owns s 2 n (get_or rs d nobody))
        → (turn_ticket : (d : ℕ) → owns s 2 n (get_or rs d nobody) ≤ owns s 1 n (get_or rs d nobody)) → from ≡ 2 → to ≡ 3 → InnerWord s (set rs c q) n (add_occ 1 w)
    inner_claimed occ_turned turn_ticket f t =
        let other : (t j : ℕ) → (62 + 1 ≤ t) ⊎ (t + j ≤ 62) → field t j (add_occ 1 w) ≡ field t j w = field_add_other 62 1 1 w in
        let one = kept.tickets.bit in
        let free : (d : ℕ) → owns s 3 n (get_or rs d nobody) ≡ 0
        = λ d. elim (ℕ_discrete d c) [
          | yes e ↦ ap (λ (i : ℕ). owns s 3 n (get_or rs i nobody)) e ∙ was_not 3 (omega arith) (omega arith)
          | no m ↦ elim (ℕ_discrete (owns s 3 n (get_or rs d nobody)) 0) [
            | yes e ↦ e
            | no z ↦
                absurd (one_first own first ticket_of nobody (tcnt w) (tmax w) rs kept.tickets d c m
                (omega (arith, one d, occ_turned d, turn_ticket d)) (omega (arith, one d, occ_turned d, turn_ticket d)) (was 1 (omega arith) (omega arith)) (was 2 (omega arith) (omega arith)))
          ]
        ] in
        record {
          exp_clear = other 63 1 (inl (lit≤ tt)) ∙ kept.exp_clear;
          tickets = rw (other 47 15 (inr (lit≤ tt)), other 32 15 (inr (lit≤ tt))) (turn_kept (omega arith) (omega arith));
          occ_is = field_add 62 1 1 w ∙ omega (arith, kept.occ_is, sum_zero (owns s 3 n) rs nobody free, sum_set (owns s 3 n) rs c q nobody lt, was_not 3 (omega arith) (omega arith), is 3 (omega arith) (omega arith));
          notices = notices_kept _ (other 16 16 (inr (lit≤ tt))) (other 0 16 (inr (lit≤ tt))) same_notices;
        }

    -- "Occ - 1 and TCnt + 1 in one add"
    pub inner_freed : from ≡ 3 → to ≡ 0 → InnerWord s (set rs c q) n (return_occ w)
    inner_freed f t =
        let o = occ_returned w in
        record {
          exp_clear = o.exp_kept ∙ kept.exp_clear;
          tickets = rw (o.tcnt_more, o.tmax_kept) (turn_passed (omega arith) t);
          occ_is = o.occ_less ∙ omega (arith, field_lt 62 1 w, kept.occ_is, sum_at (owns s 3 n) rs c nobody lt, sum_set (owns s 3 n) rs c q nobody lt, was 3 (omega arith) (omega arith), is_not 3 (omega arith) (omega arith));
          notices = notices_kept _ o.dcnt_kept o.dmax_kept same_notices;
        }

    -- "Turn reached, Occ not set: TCnt + 1"
    pub inner_passed : from ≡ 2 → to ≡ 0 → InnerWord s (set rs c q) n (add_tcnt 1 w)
    inner_passed f t =
        let other : (t j : ℕ) → (47 + 15 ≤ t) ⊎ (t + j ≤ 47) → field t j (add_tcnt 1 w) ≡ field t j w = field_add_other 47 15 1 w in
        record {
          exp_clear = other 63 1 (inl (lit≤ tt)) ∙ kept.exp_clear;
          tickets = rw (field_add 47 15 1 w, other 32 15 (inr (lit≤ tt))) (turn_passed (omega arith) t);
          occ_is = occ_kept _ (other 62 1 (inl (lit≤ tt))) (is_not 3 (omega arith) (omega arith) ∙ sym (was_not 3 (omega arith) (omega arith)));
          notices = notices_kept _ (other 16 16 (inr (lit≤ tt))) (other 0 16 (inr (lit≤ tt))) same_notices;
        }

  -- ---- a notice at n is given or given back

  module _ (g : Notices s r q n) where
    tickets_kept : Tickets own first ticket_of nobody (tcnt w) (tmax w) (set rs c q)
    tickets_kept =
        let e = g.owned 1 n (omega arith) some in
        keep own first ticket_of nobody (tcnt w) (tmax w) rs kept.tickets c q lt e (stands e (g.owned 2 n (omega arith) some) (g.drawn n some))

    -- "DMax + 1 at the next ancestor"
    pub inner_notified : owns_notice s n q ≡ suc (owns_notice s n r) → InnerWord s (set rs c q) n (add_dmax 1 w)
    inner_notified e =
        let other : (t j : ℕ) → (0 + 16 ≤ t) ⊎ (t + j ≤ 0) → field t j (add_dmax 1 w) ≡ field t j w = field_add_other 0 16 1 w in
        let sum : sum_by (owns_notice s n) (set rs c q) ≡ suc (sum_by (owns_notice s n) rs) = omega (arith, sum_set (owns_notice s n) rs c q nobody lt) in
        record {
          exp_clear = other 63 1 (inl (lit≤ tt)) ∙ kept.exp_clear;
          tickets = rw (other 47 15 (inl (lit≤ tt)), other 32 15 (inl (lit≤ tt))) tickets_kept;
          occ_is = occ_kept _ (other 62 1 (inl (lit≤ tt))) (g.owned 3 n (omega arith) some);
          notices = rw (field_add 0 16 1 w, other 16 16 (inl (lit≤ tt)), sum) (omega (arith, kept.notices));
        }

    -- "DCnt + 1 at each ancestor notified"
    pub inner_unnotified : owns_notice s n r ≡ suc (owns_notice s n q) → InnerWord s (set rs c q) n (add_dcnt 1 w)
    inner_unnotified e =
        let other : (t j : ℕ) → (16 + 16 ≤ t) ⊎ (t + j ≤ 16) → field t j (add_dcnt 1 w) ≡ field t j w = field_add_other 16 16 1 w in
        let sum : suc (sum_by (owns_notice s n) (set rs c q)) ≡ sum_by (owns_notice s n) rs = omega (arith, sum_set (owns_notice s n) rs c q nobody lt) in
        record {
          exp_clear = other 63 1 (inl (lit≤ tt)) ∙ kept.exp_clear;
          tickets = rw (other 47 15 (inl (lit≤ tt)), other 32 15 (inl (lit≤ tt))) tickets_kept;
          occ_is = occ_kept _ (other 62 1 (inl (lit≤ tt))) (g.owned 3 n (omega arith) some);
          notices = rw (field_add 16 16 1 w, other 0 16 (inr (lit≤ tt))) (omega (arith, kept.notices, field_lt 16 16 w));
        }
