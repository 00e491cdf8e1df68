-- Laws of a run that loses no time, each step by the clock that `next_clock` gives: the times that it notes are its clock, and so each step is on time, where a later inner piece can wait
-- for T within P. Assumes nothing.
use Rattle.std.specs.Prelude.{◌≡◌, ◌≢◌, false, ◌&&◌, ℕ, suc, ◌+◌, ◌-◌, ◌≤◌, ◌<◌, eqb}
use Rattle.std.proofs.Math.Path.{refl, ap, subst}
use Rattle.std.proofs.Common.{sym, ◌∙◌, inl, inr, arith, le-ltb}
use Rattle.std.proofs.lemmas.Bool.{lt-leb}
use Rattle.std.proofs.Math.Dec.{leb, ltb, eqb→eq, ltb→lt}
use Rattle.std.proofs.Math.ListN.{length}
use Rattle.base.specs.laws.ChoiceLaws.{on_choose, choose_eq, choose_ne, choose_le, by_lt, by_eq, neqb→ne}
use Rattle.base.specs.laws.TestLaws.{second_false}
use Rattle.tree.specs.rules.Tree.{level}
use Rattle.tree.proofs.laws.Level.{level_root}
use Rattle.lock.specs.declared.Record.{Record}
use Rattle.lock.specs.declared.Settings.{Settings}
use Rattle.lock.specs.rules.Records.{Phase, phase_of, pieces, piece_at, current_piece, is_leaf, to_phase, with_grip, with_t1, with_t0, with_taken, client_with}
use Rattle.lock.specs.rules.Steps.{Moved, start_phase, begin, first_noted, taken, ticket_taken, turn_awaited, go_up, climbed, bits_claimed, occ_claimed, late, all_notified, notice_given, waited, check_passed, out_of_patience}
use Rattle.lock.specs.laws.Rows.{claim_piece, moved_in}
use Rattle.lock.specs.rules.StepCount.{OnTime, next_clock}
use Rattle.lock.specs.laws.Active.{Settled}
use Rattle.lock.proofs.laws.LateLaws.{in_time_not_late}
use Rattle.lock.proofs.laws.PatienceLaws.{patient_taken}
use Rattle.lock.proofs.laws.Phases.{on_phase}
use Rattle.lock.proofs.laws.Progress.{Going, begin_phase}
use Rattle.lock.proofs.laws.Ready.{Ready}
use Rattle.lock.proofs.laws.ShortPatience.{LaterInner}

-- what the record r has noted by the clock t
pub record Prompt (s : Settings) (r : Record) (t : ℕ) : Type 0 where
  pub t1_climb : r.phase ≡ 3 → r.place ≢ 0 → r.t1 ≡ t
  pub t1_claim : r.phase ≡ 5 → current_piece r ≢ 1 → r.t1 ≡ t
  pub t1_notify : r.phase ≡ 6 → r.t1 ≡ t
  pub t0_notify : r.phase ≡ 6 → level (current_piece r) ≢ s.levels → r.t0 ≡ t
  pub t0_wait : r.phase ≡ 7 → r.t0 ≡ t
  pub taken_before : 0 < r.current → r.phase ≤ 7 → r.taken ≡ t
  pub taken_check : 0 < r.current → r.phase ≡ 8 → r.taken + s.wait ≡ t

-- before the check
prompt_noted : (s : Settings) (r : Record) (t : ℕ) → (r.phase ≡ 3 → r.place ≢ 0 → r.t1 ≡ t) → (r.phase ≡ 5 → current_piece r ≢ 1 → r.t1 ≡ t) → (r.phase ≡ 6 → r.t1 ≡ t)
    → (r.phase ≡ 6 → level (current_piece r) ≢ s.levels → r.t0 ≡ t) → (r.phase ≡ 7 → r.t0 ≡ t) → (0 < r.current → r.phase ≤ 7 → r.taken ≡ t) → r.phase ≢ 8 → Prompt s r t
prompt_noted s r t a b c d e f k = record {
  t1_climb = a;
  t1_claim = b;
  t1_notify = c;
  t0_notify = d;
  t0_wait = e;
  taken_before = f;
  taken_check = λ _ x. absurd (k x);
}

-- in a phase that notes nothing and compares nothing
prompt_plain : (s : Settings) (r : Record) (t : ℕ) → (r.phase ≡ 3 → r.place ≡ 0) → r.phase ≢ 5 → r.phase ≢ 6 → r.phase ≢ 7 → r.phase ≢ 8
    → (0 < r.current → r.phase ≤ 7 → r.taken ≡ t) → Prompt s r t
prompt_plain s r t a b c d e f = prompt_noted s r t (λ x y. absurd (y (a x))) (λ x. absurd (b x)) (λ x. absurd (c x)) (λ x. absurd (c x)) (λ x. absurd (d x)) f e

-- beginning a piece
pub prompt_begun : (s : Settings) (r : Record) (t : ℕ) → r.place ≡ 0 → (0 < r.current → r.taken ≡ t) → r.phase ≡ start_phase s (current_piece r) → Prompt s r t
unfolding start_phase
prompt_begun s r t a b e =
    on_choose (λ (k : ℕ). r.phase ≡ k → Prompt s r t) (is_leaf s (current_piece r)) 3 1
    (λ _ z. prompt_plain s r t (λ _. a) (λ y. omega arith) (λ y. omega arith) (λ y. omega arith) (λ y. omega arith) (λ l _. b l))
    (λ _ z. prompt_plain s r t (λ _. a) (λ y. omega arith) (λ y. omega arith) (λ y. omega arith) (λ y. omega arith) (λ l _. b l)) e

module _ (s : Settings) (r : Record) (last : ℕ) where
  abbrev now : ℕ
  now = next_clock s (client_with last r)

  now_wait : r.phase ≡ 7 → now ≡ r.t0 + s.wait
  unfolding next_clock
  now_wait e = choose_eq r.phase 7 _ _ e

  now_else : r.phase ≢ 7 → now ≡ last
  unfolding next_clock
  now_else d = choose_ne r.phase 7 _ _ d

  -- ---- such a step is on time

  patient_first : (t : ℕ) → r.current ≡ 0 → out_of_patience s r t ≡ false
  unfolding out_of_patience
  patient_first t e = ap (λ b. b && leb s.patience (t - r.taken)) (second_false (leb 1 r.phase && leb r.phase 8) _ (le-ltb 0 r.current (omega arith)))

  patient_soon : (t : ℕ) → t - r.taken < s.patience → out_of_patience s r t ≡ false
  unfolding out_of_patience
  patient_soon t l = second_false (leb 1 r.phase && leb r.phase 8 && ltb 0 r.current) _ (lt-leb s.patience (t - r.taken) l)

  in_time : (t : ℕ) → 1 ≤ s.wait → r.t1 ≡ t → late s r t ≡ false
  in_time t some e = in_time_not_late s r t (omega arith)

  module _ (p : Prompt s r last) (some : 1 ≤ s.wait) (some_patience : 1 ≤ s.patience) (room : LaterInner s r → s.wait < s.patience) (v : Ready s r last) where
    pub prompt_on_time : Going r → OnTime s r now
    prompt_on_time way = record {
      waited = λ e. omega (arith, now_wait e);
      not_late = λ e _. in_time now some (omega (arith, p.t1_notify e, now_else (λ z. omega arith)));
      patient = by_lt 0 r.current
          (λ l. by_eq r.phase 7
          (λ e. patient_soon now (omega (arith, now_wait e, p.t0_wait e, p.taken_before l (omega arith), room (l, v.inner (inr (inr (inl e)))))))
          (λ d. by_lt r.phase 8
          (λ b. patient_soon now (omega (arith, now_else d, p.taken_before l (omega arith))))
          (λ b. by_eq r.phase 8
          (λ e. patient_soon now (omega (arith, now_else d, p.taken_check l e, room (l, v.inner (inr (inr (inr e)))))))
          (λ f. patient_taken s r now (omega arith)))))
          (λ l. patient_first now (omega arith));
    }

  pub prompt_later : Prompt s r last → last ≤ now
  prompt_later p = by_eq r.phase 7 (λ e. omega (arith, now_wait e, p.t0_wait e)) (λ d. omega (arith, now_else d))

  -- ---- and what it notes is its clock

  module _ (p : Prompt s r last) (g : Settled s) (v : Ready s r last) (w : ℕ) where
    abbrev n : ℕ
    n = current_piece r

    -- a step in 1 .. 6 notes this
    taken_kept : r.phase ≤ 6 → 0 < r.current → r.taken ≡ now
    taken_kept b l = omega (arith, p.taken_before l (omega arith), now_else (λ e. omega arith))

    prompt_taken : (x : Record) → x.current ≡ r.current → pieces x ≡ pieces r → Prompt s (taken s x now) now
    unfolding taken begin first_noted
    prompt_taken x c e =
        on_choose (λ (q : Record). Prompt s q now) _ _ _
        (λ t. let first : x.current ≡ 0 = (let l = ltb→lt (suc x.current) (length (pieces x)) t in omega (arith, v.active.few, ap length e)) in
        subst (λ (y : Record). Prompt s (begin s y (suc x.current)) now) (sym (choose_eq x.current 0 (with_taken now x) x first))
        (prompt_begun s (begin s (with_taken now x) (suc x.current)) now refl (λ _. refl) (begin_phase s (with_taken now x) (suc x.current))))
        (λ _. prompt_plain s _ now (λ z. absurd (omega arith)) (λ z. omega arith) (λ z. omega arith) (λ z. omega arith) (λ z. omega arith) (λ _ z. absurd (omega arith)))

    -- 3, with t1 noted at the parent
    prompt_up : r.phase ≡ 3 → (x : Record) → x.phase ≡ 3 → x.t1 ≡ now → x.current ≡ r.current → x.taken ≡ r.taken → Prompt s (go_up x) now
    unfolding go_up
    prompt_up e x f z c k =
        let kept : 0 < x.current → x.taken ≡ now = λ l. k ∙ taken_kept (omega arith) (omega arith) in
        on_choose (λ (q : Record). Prompt s q now) _ _ _
        (λ _. prompt_noted s _ now (λ _ _. z) (λ y. absurd (omega arith)) (λ y. absurd (omega arith)) (λ y. absurd (omega arith)) (λ y. absurd (omega arith)) (λ l _. kept l) (λ y. omega arith))
        (λ _. prompt_noted s _ now (λ y. absurd (omega arith)) (λ _ _. z) (λ y. absurd (omega arith)) (λ y. absurd (omega arith)) (λ y. absurd (omega arith)) (λ l _. kept l) (λ y. omega arith))

    prompt_climbed : r.phase ≡ 3 → Prompt s (climbed r w now) now
    unfolding climbed
    prompt_climbed e =
        let same = now_else (λ z. omega arith) in
        on_choose (λ (q : Record). Prompt s q now) _ _ _
        (λ _. prompt_plain s _ now (λ z. absurd (omega arith)) (λ z. omega arith) (λ z. omega arith) (λ z. omega arith) (λ z. omega arith) (λ l _. taken_kept (omega arith) l))
        (λ _. on_choose (λ (x : Record). Prompt s (go_up x) now) (eqb r.place 0) (with_t1 now r) r
        (λ _. prompt_up e (with_t1 now r) e refl refl refl)
        (λ t. prompt_up e r e (omega (arith, p.t1_climb e (neqb→ne r.place 0 t))) refl refl))

    -- 5
    prompt_claimed : r.phase ≡ 5 → Prompt s (claim_piece s r w now).next now
    unfolding claim_piece bits_claimed occ_claimed is_leaf pieces piece_at
    prompt_claimed e =
        let same = now_else (λ z. omega arith) in
        let kept = taken_kept (omega arith) in
        on_choose (λ (m : Moved). Prompt s m.next now) (is_leaf s n) _ _
        (λ t. let leaf = eqb→eq (level n) s.levels t in
        let below : n ≢ 1 = λ z. omega (arith, level_root n (omega arith), g.levels_some) in
        on_choose (λ (q : Record). Prompt s q now) _ _ _
        (λ _. prompt_noted s _ now (λ y. absurd (omega arith)) (λ y. absurd (omega arith)) (λ _. omega (arith, p.t1_claim e below)) (λ _ y. absurd (y leaf)) (λ y. absurd (omega arith)) (λ l _. kept l) (λ y. omega arith))
        (λ _. prompt_plain s _ now (λ _. refl) (λ z. omega arith) (λ z. omega arith) (λ z. omega arith) (λ z. omega arith) (λ l _. kept l)))
        (λ t. on_choose (λ (k : ℕ). Prompt s (to_phase k (with_t0 now (with_grip 3 r))) now) (eqb n 1) 7 6
        (λ _. prompt_noted s _ now (λ y. absurd (omega arith)) (λ y. absurd (omega arith)) (λ y. absurd (omega arith)) (λ y. absurd (omega arith)) (λ _. refl) (λ l _. kept l) (λ y. omega arith))
        (λ u. prompt_noted s _ now (λ y. absurd (omega arith)) (λ y. absurd (omega arith)) (λ _. omega (arith, p.t1_claim e (neqb→ne n 1 u))) (λ _ _. refl) (λ y. absurd (omega arith)) (λ l _. kept l) (λ y. omega arith)))

    -- 6
    prompt_notified : r.phase ≡ 6 → Prompt s (notice_given s r now) now
    unfolding notice_given all_notified is_leaf pieces piece_at
    prompt_notified e =
        let same = now_else (λ z. omega arith) in
        let kept = taken_kept (omega arith) in
        let t1 : r.t1 ≡ now = omega (arith, p.t1_notify e) in
        let t0 : level n ≢ s.levels → r.t0 ≡ now = λ d. omega (arith, p.t0_notify e d) in
        on_choose (λ (q : Record). Prompt s q now) _ _ _
        (λ _. prompt_noted s _ now (λ y. absurd (omega arith)) (λ y. absurd (omega arith)) (λ _. t1) (λ _ d. t0 d) (λ y. absurd (omega arith)) (λ l _. kept l) (λ y. omega arith))
        (λ _. on_choose (λ (q : Record). Prompt s q now) _ _ _
        (λ _. prompt_plain s _ now (λ z. absurd (omega arith)) (λ z. omega arith) (λ z. omega arith) (λ z. omega arith) (λ z. omega arith) (λ _ z. absurd (omega arith)))
        (λ _. on_choose (λ (q : Record). Prompt s q now) (is_leaf s n) _ _
        (λ _. prompt_taken _ refl refl)
        (λ t. prompt_noted s _ now (λ y. absurd (omega arith)) (λ y. absurd (omega arith)) (λ y. absurd (omega arith)) (λ y. absurd (omega arith)) (λ _. t0 (neqb→ne (level n) s.levels t)) (λ l _. kept l) (λ y. omega arith))))

    -- 7, where T has passed
    prompt_waited : r.phase ≡ 7 → Prompt s (waited s r now) now
    unfolding waited
    prompt_waited e =
        let same = now_wait e in
        subst (λ (q : Record). Prompt s q now) (sym (choose_le s.wait (now - r.t0) (to_phase 8 r) r (omega arith)))
        (record {
          t1_climb = λ y. absurd (omega arith);
          t1_claim = λ y. absurd (omega arith);
          t1_notify = λ y. absurd (omega arith);
          t0_notify = λ y. absurd (omega arith);
          t0_wait = λ y. absurd (omega arith);
          taken_before = λ _ y. absurd (omega arith);
          taken_check = λ l _. omega (arith, p.taken_before l (omega arith), p.t0_wait e);
        })

    -- 8
    prompt_checked : r.phase ≡ 8 → Prompt s (check_passed s r w now) now
    unfolding check_passed
    prompt_checked e =
        let same = now_else (λ z. omega arith) in
        let stays : (q : Record) → q.phase ≡ 8 → q.current ≡ r.current → q.taken ≡ r.taken → Prompt s q now = λ q f c k. record {
          t1_climb = λ y. absurd (omega arith);
          t1_claim = λ y. absurd (omega arith);
          t1_notify = λ y. absurd (omega arith);
          t0_notify = λ y. absurd (omega arith);
          t0_wait = λ y. absurd (omega arith);
          taken_before = λ _ y. absurd (omega arith);
          taken_check = λ l _. omega (arith, p.taken_check (omega arith) e);
        } in
        on_choose (λ (q : Record). Prompt s q now) _ _ _
        (λ _. on_choose (λ (q : Record). Prompt s q now) _ _ _ (λ _. stays _ e refl refl) (λ _. prompt_taken r refl refl))
        (λ _. stays r e refl refl)

    pub prompt_step : Going r → r.phase ≢ 9 → Prompt s (moved_in s r w now (phase_of r.phase)).next now
    unfolding moved_in ticket_taken turn_awaited pieces piece_at
    prompt_step way unheld =
        let plain : (q : Record) → (q.phase ≡ 3 → q.place ≡ 0) → q.phase ≢ 5 → q.phase ≢ 6 → q.phase ≢ 7 → q.phase ≢ 8 → q.current ≡ r.current → q.taken ≡ r.taken → r.phase ≤ 6 → Prompt s q now
        = λ q a b c d f i j k. prompt_plain s q now a b c d f (λ l _. j ∙ taken_kept k (omega arith)) in
        on_phase r.phase (λ (x : Phase). Prompt s (moved_in s r w now x).next now)
        (λ e. absurd (omega (arith, way.some)))
        (λ e. plain _ (λ z. absurd (omega arith)) (λ z. omega arith) (λ z. omega arith) (λ z. omega arith) (λ z. omega arith) refl refl (omega arith))
        (λ e. on_choose (λ (q : Record). Prompt s q now) _ _ _
        (λ _. on_choose (λ (k : ℕ). Prompt s (to_phase k (with_grip 2 r)) now) (eqb n 1) 5 3
        (λ t. prompt_noted s (to_phase 5 (with_grip 2 r)) now (λ y. absurd (omega arith)) (λ _ d. absurd (d (eqb→eq n 1 t))) (λ y. absurd (omega arith)) (λ y. absurd (omega arith)) (λ y. absurd (omega arith)) (λ l _. taken_kept (omega arith) l) (λ y. omega arith))
        (λ _. plain _ (λ _. refl) (λ z. omega arith) (λ z. omega arith) (λ z. omega arith) (λ z. omega arith) refl refl (omega arith)))
        (λ _. plain r (λ z. absurd (omega arith)) (λ z. omega arith) (λ z. omega arith) (λ z. omega arith) (λ z. omega arith) refl refl (omega arith)))
        prompt_climbed
        (λ e. absurd (way.unblocked e))
        prompt_claimed
        prompt_notified
        prompt_waited
        prompt_checked
        (λ e. absurd (unheld e))
        (λ e. absurd (omega (arith, way.most)))
        (λ b. absurd (omega (arith, way.most)))
