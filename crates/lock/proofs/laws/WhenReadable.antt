-- Laws: when a record is readable. An idle one by its outcome; any other by what every phase asks, and by a law a phase what that phase asks beside it. Assumes nothing.
use Rattle.std.specs.Prelude.{◌≡◌, refl, ◌≢◌, ◌⊎◌, Bool, true, false, not, ◌&&◌, ℕ, ◌+◌, ◌-◌, ◌≤◌, ◌<◌, eqb, ltb, length}
use Rattle.std.proofs.Common.{sym, ◌∙◌, arith}
use Rattle.std.proofs.Math.Path.{ap, ap₂}
use Rattle.std.proofs.Math.Logic.{⊎_elim}
use Rattle.std.proofs.Math.Bool.{◌||◌}
use borrow.Author.Tests.{ltb-false, leb-false, le-ltb, lt-leb, eq-eqb, ne_eqb}
use Rattle.std.proofs.Math.ListN.{get_or}
use Rattle.base.specs.rules.Choice.{choose}
use Rattle.base.specs.laws.ChoiceLaws.{choose_eq, choose_ne, by_lt, by_eq}
use Rattle.base.specs.laws.TestLaws.{true_later, both_false, second_false}
use Rattle.tree.specs.rules.Tree.{level}
use Rattle.tree.specs.rules.Lists.{ancestors, notify_list, check_list}
use Rattle.tree.proofs.laws.Ancestors.{ancestors_count}
use Rattle.cover.specs.laws.Lowest.{Window}
use Rattle.cover.proofs.laws.Code.{window_right}
use Rattle.lock.specs.declared.Record.{Record}
use Rattle.lock.specs.declared.Settings.{Settings}
use Rattle.lock.specs.rules.Records.{cover_of, pieces, piece_at, current_piece, is_leaf, grip_of, notices_of, idle_with}
use Rattle.lock.specs.rules.Unreadable.{nonzero, differ, idle_filled, not_covered, no_current, ticket_too_large, time_ahead, taken_first, unreadable}
use Rattle.lock.specs.rules.Steps.{start_phase}
use Rattle.lock.specs.laws.Active.{Settled, NoEarlyTime}
use Rattle.lock.proofs.laws.PatienceLaws.{held_or_released, no_time, later_time, first_time}
use Rattle.lock.proofs.laws.Pieces.{piece_first, second_is}
use Rattle.lock.proofs.laws.StepLaws.{start_leaf, start_inner}
use Rattle.lock.specs.laws.ReadableLaws.{Begun}
use Rattle.lock.proofs.laws.ReadableLaws.{grip_ticket, grip_turn}
use Rattle.lock.proofs.laws.ActiveLaws.{begun}
use Rattle.lock.specs.laws.OwnTests.{not_begun, own_wrong}
use Rattle.lock.proofs.laws.OwnTests.{unreadable_parts, unreadable_idle}
use Rattle.lock.proofs.laws.PhaseTests.{own_asking, own_climbing, own_claiming, own_notifying, own_waiting, own_checking, own_holding, own_returning}

-- ---- tests that are false

none : (n : ℕ) → n ≡ 0 → nonzero n ≡ false
none n e = le-ltb 0 n (omega arith)

alike : (m n : ℕ) → m ≡ n → differ m n ≡ false
alike m n e = ap not (eq-eqb m n e)

-- ---- an idle record, and a later clock

pub readable_idle : (s : Settings) (o last : ℕ) → o ≤ 4 → unreadable s (idle_with o) last ≡ false
unfolding idle_filled
readable_idle s o last b = unreadable_idle s (idle_with o) last refl ∙ ap (λ c. c || idle_filled (idle_with o)) (le-ltb 4 o b)

pub readable_later : (s : Settings) (r : Record) (last now : ℕ) → last ≤ now → unreadable s r last ≡ false → unreadable s r now ≡ false
unfolding not_begun time_ahead
readable_later s r last now l u =
    by_eq r.phase 0
    (λ e. unreadable_idle s r now e ∙ sym (unreadable_idle s r last e) ∙ u)
    (λ d. let p = both_false (not_begun s r last) (own_wrong s r) (sym (unreadable_parts s r last d) ∙ u) in
    let f = both_false _ (taken_first r) p.0 in
    let t = both_false (not_covered s r || no_current r || ticket_too_large r) (time_ahead r last) f.0 in
    let m = both_false _ (ltb last r.taken) t.1 in
    let n = both_false (ltb last r.t1) (ltb last r.t0) m.0 in
    let past : (time : ℕ) → ltb last time ≡ false → ltb now time ≡ false = λ time e. le-ltb now time (omega (arith, ltb-false last time e)) in
    unreadable_parts s r now d
    ∙ ap₂ ◌||◌ (ap₂ ◌||◌ (ap₂ ◌||◌ t.0 (ap₂ ◌||◌ (ap₂ ◌||◌ (past r.t1 n.0) (past r.t0 n.1)) (past r.taken m.1))) f.1) p.1)

module _ (s : Settings) (r : Record) where
  abbrev n : ℕ
  n = current_piece r

  -- ---- what every phase but idle asks

  covered : Window s.levels r.left r.right → pieces r ≡ cover_of s r.left r.right → not_covered s r ≡ false
  unfolding not_covered piece_at
  covered w e =
      ap₂ ◌||◌
      (ap₂ ◌||◌ (window_right s.levels r.left r.right w) (alike r.first _ (sym (piece_first r) ∙ ap (λ c. get_or c 0 0) e)))
      (alike r.second _ (second_is r ∙ ap (λ c. get_or c 1 0) e))

  not_early : NoEarlyTime r → taken_first r ≡ false
  not_early f =
      by_eq r.taken 0 (no_time r) (λ some.
      by_eq r.current 0
      (λ e. let kept : held_or_released r ≡ true = by_eq r.phase 9
      (λ n. ap (λ b. b || eqb r.phase 10 && eqb r.outcome 1) (eq-eqb r.phase 9 n))
      (λ d. by_eq r.phase 10
      (λ t. by_eq r.outcome 1
      (λ o. sym (true_later (eqb r.phase 9) _ (λ i. sym (eq-eqb r.phase 10 t) i && sym (eq-eqb r.outcome 1 o) i)))
      (λ o. absurd (some (f e d (λ _. o)))))
      (λ t. absurd (some (f e d (λ z. absurd (t z)))))) in
      sym (first_time r some e) ∙ ap not kept)
      (later_time r))

  module _ (last : ℕ) where
    pub asked : Window s.levels r.left r.right → pieces r ≡ cover_of s r.left r.right → r.current < length (pieces r) → r.ticket ≤ 32767 → r.t1 ≤ last
        → r.t0 ≤ last → r.taken ≤ last → NoEarlyTime r → not_begun s r last ≡ false
    unfolding not_begun no_current ticket_too_large time_ahead
    asked w e x k a b c f =
        ap₂ ◌||◌
        (ap₂ ◌||◌ (ap₂ ◌||◌ (ap₂ ◌||◌ (covered w e) (lt-leb (length (pieces r)) r.current x)) (le-ltb 32767 r.ticket k))
        (ap₂ ◌||◌ (ap₂ ◌||◌ (le-ltb last r.t1 a) (le-ltb last r.t0 b)) (le-ltb last r.taken c)))
        (not_early f)

    module _ (g : Settled s) (every : not_begun s r last ≡ false) where
      pub asked_begun : Begun s r
      unfolding not_begun no_current
      asked_begun =
          let f = both_false _ (taken_first r) every in
          let t = both_false _ (time_ahead r last) f.0 in
          let k = both_false _ (ticket_too_large r) t.0 in
          let c = both_false (not_covered s r) (no_current r) k.0 in
          begun s r g c.0 (leb-false (length (pieces r)) r.current c.1)

      readable : 1 ≤ r.phase → own_wrong s r ≡ false → unreadable s r last ≡ false
      readable a o = unreadable_parts s r last (λ e. omega arith) ∙ ap₂ ◌||◌ every o

      above_leaf : level n ≢ s.levels → is_leaf s n ≡ false
      unfolding is_leaf
      above_leaf d = ne_eqb (level n) s.levels d

      -- ---- 1 to 9: no outcome, and no piece being given back

      module _ (outcome : r.outcome ≡ 0) (giving : r.giving ≡ 0) where
        -- neither are the tests of the grip, of where the phase may be and its place, of the notices true
        neither : {grip place notices : Bool} → grip ≡ false → place ≡ false → notices ≡ false → ((((nonzero r.outcome || nonzero r.giving) || grip) || place) || notices) ≡ false
        neither x y z = ap₂ ◌||◌ (ap₂ ◌||◌ (ap₂ ◌||◌ (ap₂ ◌||◌ (none r.outcome outcome) (none r.giving giving)) x) y) z

        pub readable_ticket : r.phase ≡ 1 → r.grip ≡ 0 → level n ≢ s.levels → r.place ≡ 0 → r.notices ≡ 0 → unreadable s r last ≡ false
        readable_ticket e k d p c =
            readable (omega arith) (sym (own_asking asked_begun refl (omega arith) (omega arith) 0 (omega arith) (grip_ticket (is_leaf s n) r.grip r.phase e))
            ∙ neither (alike r.grip 0 k) (ap₂ ◌||◌ (above_leaf d) (none r.place p)) (none r.notices c))

        pub readable_turn : r.phase ≡ 2 → r.grip ≡ 1 → level n ≢ s.levels → r.place ≡ 0 → r.notices ≡ 0 → unreadable s r last ≡ false
        readable_turn e k d p c =
            readable (omega arith) (sym (own_asking asked_begun refl (omega arith) (omega arith) 1 (omega arith) (grip_turn (is_leaf s n) r.grip r.phase e))
            ∙ neither (alike r.grip 1 k) (ap₂ ◌||◌ (above_leaf d) (none r.place p)) (none r.notices c))

        -- 3 to 5: "0 for a leaf, else 2"
        module _ (leaf : level n ≡ s.levels → r.grip ≡ 0) (inner : level n ≢ s.levels → r.grip ≡ 2) (c : r.notices ≡ 0) where
          grip_early : choose (is_leaf s n) (differ r.grip 0) (differ r.grip 2) ≡ false
          unfolding is_leaf
          grip_early =
              by_eq (level n) s.levels (λ e. choose_eq (level n) s.levels _ _ e ∙ alike r.grip 0 (leaf e)) (λ d. choose_ne (level n) s.levels _ _ d ∙ alike r.grip 2 (inner d))

          pub readable_climbing : 3 ≤ r.phase → r.phase ≤ 4 → r.place < length (ancestors n) → unreadable s r last ≡ false
          readable_climbing x y p =
              readable (omega arith) (sym (own_climbing asked_begun refl refl x (omega arith) y refl)
              ∙ neither grip_early (lt-leb (level n - 1) r.place (omega (arith, ancestors_count n))) (none r.notices c))

          pub readable_claim : r.phase ≡ 5 → r.place ≡ 0 → unreadable s r last ≡ false
          readable_claim e p =
              readable (omega arith) (sym (own_claiming asked_begun refl refl (omega arith) (omega arith) e) ∙ neither grip_early (none r.place p) (none r.notices c))

        -- 1 or 3, as a piece begins
        pub readable_begin : r.phase ≡ start_phase s n → r.grip ≡ 0 → r.place ≡ 0 → r.notices ≡ 0 → unreadable s r last ≡ false
        unfolding is_leaf
        readable_begin e k p c =
            by_eq (level n) s.levels
            (λ f. let three = e ∙ start_leaf s n (eq-eqb (level n) s.levels f) in
            readable_climbing (λ _. k) (λ d. absurd (d f)) c (omega arith) (omega arith) (omega (arith, ancestors_count n, g.levels_some)))
            (λ d. readable_ticket (e ∙ start_inner s n (ne_eqb (level n) s.levels d)) k d p c)

        -- 6 to 9: "3 in 6..9"
        module _ (k : r.grip ≡ 3) where
          pub readable_notify : r.phase ≡ 6 → r.place < length (notify_list s.distance n) → r.notices ≡ r.place → unreadable s r last ≡ false
          readable_notify e p c =
              readable (omega arith) (sym (own_notifying asked_begun refl refl e) ∙ neither (alike r.grip 3 k) (lt-leb _ r.place p) (alike r.notices r.place c))

          module _ (c : r.notices ≤ length (notify_list s.distance n)) where
            few : ltb (length (notify_list s.distance n)) r.notices ≡ false
            few = le-ltb _ r.notices c

            pub readable_wait : r.phase ≡ 7 → level n ≢ s.levels → r.place ≡ 0 → unreadable s r last ≡ false
            readable_wait e d p =
                readable (omega arith) (sym (own_waiting asked_begun refl refl e) ∙ neither (alike r.grip 3 k) (ap₂ ◌||◌ (above_leaf d) (none r.place p)) few)

            pub readable_check : r.phase ≡ 8 → level n ≢ s.levels → r.place < length (check_list s.levels s.distance n) → unreadable s r last ≡ false
            readable_check e d p =
                readable (omega arith) (sym (own_checking asked_begun refl refl e refl) ∙ neither (alike r.grip 3 k) (ap₂ ◌||◌ (above_leaf d) (lt-leb _ r.place p)) few)

            pub readable_held : r.phase ≡ 9 → r.place ≡ 0 → length (pieces r) ≤ r.current + 1 → unreadable s r last ≡ false
            readable_held e p b =
                readable (omega arith) (sym (own_holding asked_begun refl refl e refl) ∙ neither (alike r.grip 3 k) (none r.place p) (ap₂ ◌||◌ (le-ltb (r.current + 1) _ b) few))

      -- ---- 10

      module _ (most : r.grip ≤ 3) (leaf : level n ≡ s.levels → (r.grip ≡ 0) ⊎ (r.grip ≡ 3)) where
        -- "in 10 0 or 3 for a leaf, else 0..3"
        grip_returning : choose (is_leaf s n) (differ r.grip 0 && differ r.grip 3) (ltb 3 r.grip) ≡ false
        unfolding is_leaf
        grip_returning =
            by_eq (level n) s.levels
            (λ e. choose_eq (level n) s.levels _ _ e ∙ ⊎_elim (λ z. ap (λ b. b && differ r.grip 3) (alike r.grip 0 z)) (λ z. second_false (differ r.grip 0) _ (alike r.grip 3 z)) (leaf e))
            (λ d. choose_ne (level n) s.levels _ _ d ∙ le-ltb 3 r.grip most)

        pub readable_returning : r.phase ≡ 10 → r.outcome ≢ 0 → r.outcome ≤ 4 → (r.outcome ≡ 4 → r.current ≢ 0) → r.place ≤ notices_of s r r.giving → r.notices ≤ length (notify_list s.distance n)
            → (r.grip < 3 → r.notices ≡ 0) → r.giving ≤ r.current → grip_of r r.giving ≢ 0 → unreadable s r last ≡ false
        readable_returning e o m j p c h v k =
            let notices : (nonzero r.notices && ltb r.grip 3) ≡ false = by_lt r.grip 3
            (λ b. ap (λ x. x && ltb r.grip 3) (none r.notices (h b))) (λ b. second_false (nonzero r.notices) _ (le-ltb r.grip 3 b)) in
            let impatient : (eqb r.outcome 4 && eqb r.current 0) ≡ false = by_eq r.outcome 4
            (λ z. second_false (eqb r.outcome 4) _ (ne_eqb r.current 0 (j z))) (λ d. ap (λ x. x && eqb r.current 0) (ne_eqb r.outcome 4 d)) in
            readable (omega arith) (sym (own_returning asked_begun refl refl e refl refl refl)
            ∙ ap₂ ◌||◌ (ap₂ ◌||◌ (ap₂ ◌||◌ (ap₂ ◌||◌ (ap₂ ◌||◌ (ap₂ ◌||◌ (le-ltb 4 r.outcome m) (le-ltb _ r.place p)) (ap₂ ◌||◌ (le-ltb _ r.notices c) notices)) (ne_eqb r.outcome 0 o)) grip_returning)
            (ap₂ ◌||◌ (le-ltb r.current r.giving v) (ne_eqb (grip_of r r.giving) 0 k))) impatient)
