-- Laws: from what a call changes in the fields of a record to what it changes of how far the record's pieces have come. Assumes nothing.
use Rattle.std.specs.Prelude.{◌≡◌, refl, ◌≢◌, ◌⊎◌, false, List, ℕ, suc, ◌-◌, ◌≤◌, ◌<◌, length, get_or}
use Rattle.std.proofs.Common.{sym, ap, subst, ◌∙◌, inl, inr, ⊎_elim, arith}
use Rattle.base.specs.laws.ChoiceLaws.{by_lt, by_eq}
use Rattle.tree.specs.rules.Tree.{level}
use Rattle.tree.proofs.laws.Check.{check_count, check_node}
use Rattle.lock.specs.declared.Record.{Record}
use Rattle.lock.specs.declared.Settings.{Settings}
use Rattle.lock.specs.rules.Records.{pieces, piece_at, current_piece}
use Rattle.lock.proofs.claim.Owned.{owns_notice}
use Rattle.lock.specs.laws.Active.{NoEarlyTime}
use Rattle.lock.proofs.laws.LateLaws.{InTime}
use Rattle.lock.proofs.laws.Ready.{Ready}
use Rattle.lock.specs.laws.OwnTests.{not_begun}
use Rattle.lock.proofs.laws.WhenReadable.{asked}
use Rattle.lock.proofs.claim.Forward.{Kin}
use Rattle.lock.proofs.claim.Stage.{phase_at, passing, checked_to, stage_before, stage_returning, stage_current, stage_after, stage_cases, passing_climb, passing_none, checked_all, checked_none, checked_stage}
use Rattle.lock.proofs.claim.Timed.{Upward, Timely}

kin_piece : (r q : Record) → Kin r q → (i : ℕ) → piece_at q i ≡ piece_at r i
unfolding piece_at
kin_piece r q k i = ap (λ l. get_or l i 0) k.pieces_same

-- ---- what every phase asks, of a record with r's window and pieces

module _ (s : Settings) (r q : Record) (last now : ℕ) (rd : Ready s r last) where
  -- with r's current piece and third time, where r's current piece is not taken
  pub untaken : r.phase ≤ 8 → q.current ≡ r.current → q.taken ≡ r.taken → NoEarlyTime q
  untaken b c t e _ _ = t ∙ rd.no_early_time (sym c ∙ e) (λ z. omega arith) (λ z. absurd (omega arith))

  module _ (k : Kin r q) where
    pub asked_kin : q.current < length (pieces r) → q.ticket ≤ 32767 → q.t1 ≤ now → q.t0 ≤ now → q.taken ≤ now → NoEarlyTime q → not_begun s q now ≡ false
    asked_kin c t a b d f =
        asked s q now (rw (k.left_same, k.right_same) rd.active.window) (rw (k.pieces_same, k.left_same, k.right_same) rd.active.cover) (rw k.pieces_same c) t a b d f

    -- with r's current piece, ticket and noted times
    pub asked_same : last ≤ now → q.current ≡ r.current → q.ticket ≡ r.ticket → q.t1 ≡ r.t1 → q.t0 ≡ r.t0 → q.taken ≡ r.taken → NoEarlyTime q → not_begun s q now ≡ false
    asked_same later c t a b d f =
        asked_kin (omega (arith, rd.active.exists)) (omega (arith, rd.active.ticket_most)) (omega (arith, rd.active.t1_past)) (omega (arith, rd.active.t0_past)) (omega (arith, rd.active.taken_past)) f

-- ---- how far it has come

-- no piece has claimed, and none has passed an ancestor
pub record Unclaimed (q : Record) : Type 0 where
  pub phase : 6 ≤ q.phase → 10 ≤ q.phase
  pub stage : (i : ℕ) → 6 ≤ phase_at q i → 10 ≤ phase_at q i
  pub none : passing q ≡ 0

-- a record that returns
pub unclaimed_returning : (q : Record) → q.phase ≡ 10 → Unclaimed q
unclaimed_returning q e = record {
  phase = λ _. omega arith;
  stage = λ i x. by_lt i q.current (λ b. omega (arith, stage_returning q i b e)) (λ b. by_eq i q.current (λ f. omega (arith, stage_current q i f)) (λ d. absurd (omega (arith, stage_after q i (omega arith)))));
  none = passing_none q (λ f. omega arith) (λ f. omega arith) (λ f. omega arith);
}

-- a record that begins its first piece, or is idle
pub unclaimed_first : (q : Record) → q.current ≡ 0 → q.phase ≤ 4 → (q.phase ≡ 3 → q.place ≡ 0) → Unclaimed q
unclaimed_first q c b p = record {
  phase = λ x. absurd (omega arith);
  stage = λ i x. by_eq i 0 (λ e. absurd (omega (arith, stage_current q i (e ∙ sym c)))) (λ d. absurd (omega (arith, stage_after q i (omega arith))));
  none = by_eq q.phase 3 (λ e. passing_climb q e ∙ p e) (λ d. passing_none q d (λ f. omega arith) (λ f. omega arith));
}

module _ (s : Settings) (rs : List Record) (nobody r : Record) (now : ℕ) where
  pub timely_stay : Timely s rs nobody r r now
  timely_stay = record {
    claims = λ x y. inl (x, y, refl, refl);
    waits = λ i x y. (refl, inl (x, y));
    checks = λ i k x. (refl, inl x);
    passes = inr (refl, inl (omega arith, refl));
    notifies = λ j x y. (refl, inl (x, y));
  }

  module _ (q : Record) where
    pub timely_none : Unclaimed q → Timely s rs nobody r q now
    timely_none v = record {
      claims = λ x y. absurd (omega (arith, v.phase x));
      waits = λ i x y. absurd (omega (arith, v.stage i (omega arith)));
      checks = λ i k x. let z = checked_stage s q i (omega arith) in absurd (omega (arith, z.0, z.1, v.stage i (omega (arith, z.0))));
      passes = inl v.none;
      notifies = λ j x y. absurd (omega (arith, v.stage j (omega arith)));
    }

    -- ---- the current piece goes on

    module _ (k : Kin r q) (c : q.current ≡ r.current) (a : r.phase ≢ 10) (b : q.phase ≢ 10) where
      piece : (i : ℕ) → piece_at q i ≡ piece_at r i
      piece = kin_piece r q k

      current_same : current_piece q ≡ current_piece r
      current_same = ap (piece_at q) c ∙ piece r.current

      -- cases on a piece that has come somewhere: taken before and after, or the current one
      on_piece : (P : ℕ → Type 0) (i : ℕ) → 1 ≤ phase_at q i → phase_at q i ≤ 9 → (i < r.current → phase_at r i ≡ 9 → phase_at q i ≡ 9 → P i)
          → (phase_at q r.current ≡ q.phase → P r.current) → P i
      on_piece P i x y f g =
          ⊎_elim
          (λ z. f (omega (arith, z.0)) (stage_before r i (omega (arith, z.0)) a) (stage_before q i z.0 b))
          (λ z. subst P (let e : r.current ≡ i = omega (arith, z.0) in e) (g (stage_current q r.current (sym c))))
          (stage_cases q i x y)

      now_at : phase_at r r.current ≡ r.phase
      now_at = stage_current r r.current refl

      pub onward :
          (6 ≤ q.phase → q.phase ≤ 7 → ((6 ≤ r.phase) × (r.phase ≤ 7) × (q.t0 ≡ r.t0)) ⊎ (((r.phase ≡ 5) × (q.t0 ≡ now)) ⊎ (level (current_piece r) ≡ s.levels)))
          → (8 ≤ q.phase → q.phase ≤ 9 → ((8 ≤ r.phase) × (r.phase ≤ 9)) ⊎ (((r.phase ≡ 7) × (s.wait ≤ now - r.t0)) ⊎ (level (current_piece r) ≡ s.levels)))
          → ((l : ℕ) → l < checked_to s q r.current
          → (l < checked_to s r r.current) ⊎ (((d : ℕ) → owns_notice s (check_node (current_piece r) l) (get_or rs d nobody) ≡ 0) ⊎ (level (current_piece r) ≡ s.levels)))
          → (passing q ≡ 0) ⊎ Upward s rs nobody r q now
          → (7 ≤ q.phase → q.phase ≤ 9 → ((7 ≤ r.phase) × (r.phase ≤ 9)) ⊎ (((level (current_piece r) ≤ suc (passing r)) × (r.phase ≡ 6) × InTime s.wait r.t1 now) ⊎ (current_piece r ≡ 1)))
          → Timely s rs nobody r q now
      onward claims waits checks passes notifies = record {
        claims = λ x y. ⊎_elim (λ z. inl (z.0, z.1, z.2, current_same)) (λ z. inr (⊎_elim inl (λ l. inr (ap level current_same ∙ l)) z)) (claims x y);
        waits = λ i x y. on_piece (λ j. 8 ≤ phase_at q j → phase_at q j ≤ 9 → (piece_at q j ≡ piece_at r j) × (((8 ≤ phase_at r j) × (phase_at r j ≤ 9))
            ⊎ (((j ≡ r.current) × (r.phase ≡ 7) × (s.wait ≤ now - r.t0)) ⊎ (level (piece_at q j) ≡ s.levels)))) i (omega arith) y
            (λ l e f _ _. (piece i, inl (omega arith, omega arith)))
            (λ e o u. (
              piece r.current,
              ⊎_elim (λ z. inl (omega (arith, z.0, now_at), omega (arith, z.1, now_at)))
                  (λ z. inr (⊎_elim (λ w. inl (refl, w.0, w.1)) (λ l. inr (ap level (piece r.current) ∙ l)) z)) (waits (omega arith) (omega arith)),
            )) x y;
        checks = λ i l x. let stage = checked_stage s q i (omega arith) in
            on_piece (λ j. l < checked_to s q j → (piece_at q j ≡ piece_at r j) × ((l < checked_to s r j)
            ⊎ (((d : ℕ) → owns_notice s (check_node (piece_at r j) l) (get_or rs d nobody) ≡ 0) ⊎ (level (piece_at q j) ≡ s.levels)))) i (omega (arith, stage.0)) stage.1
            (λ o e f z. (piece i, inl (omega (arith, checked_all s q i f, checked_all s r i e, ap (check_count s.levels s.distance) (piece i)))))
            (λ e z. (piece r.current, ⊎_elim inl (λ o. inr (⊎_elim inl (λ w. inr (ap level (piece r.current) ∙ w)) o)) (checks l z))) x;
        passes = ⊎_elim inl (λ z. inr (current_same, z)) passes;
        notifies = λ i x y. on_piece (λ j. 7 ≤ phase_at q j → phase_at q j ≤ 9 → (piece_at q j ≡ piece_at r j) × (((7 ≤ phase_at r j) × (phase_at r j ≤ 9))
            ⊎ (((j ≡ r.current) × (level (current_piece r) ≤ suc (passing r)) × (r.phase ≡ 6) × InTime s.wait r.t1 now) ⊎ (piece_at q j ≡ 1)))) i (omega arith) y
            (λ l e f _ _. (piece i, inl (omega arith, omega arith)))
            (λ e o u. (
              piece r.current,
              ⊎_elim (λ z. inl (omega (arith, z.0, now_at), omega (arith, z.1, now_at)))
                  (λ z. inr (⊎_elim (λ w. inl (refl, w.0, w.1, w.2)) (λ l. inr (piece r.current ∙ l)) z)) (notifies (omega arith) (omega arith)),
            )) x y;
      }

      -- to a phase in which nothing is claimed
      pub onward_low : q.phase ≤ 5
          → (passing q ≡ 0) ⊎ Upward s rs nobody r q now
          → Timely s rs nobody r q now
      onward_low l passes =
          let at = stage_current q r.current (sym c) in
          onward (λ x y. absurd (omega arith)) (λ x y. absurd (omega arith))
          (λ n x. absurd (omega (arith, checked_none s q r.current (λ e. omega arith) (λ e. omega arith)))) passes (λ x y. absurd (omega arith))

    -- ---- the piece is taken, and the next begins

    module _ (p : Record) (time : Timely s rs nobody r p now) (k : Kin p q) (held : p.phase ≡ 9) (c : q.current ≡ suc p.current) (low : q.phase ≤ 4) (first : q.place ≡ 0) where
      was_taken : (i : ℕ) → 6 ≤ phase_at q i → phase_at q i ≤ 9 → (phase_at p i ≡ 9) × (phase_at q i ≡ 9)
      was_taken i x y =
          ⊎_elim
          (λ z. (by_lt i p.current (λ b. stage_before p i b (λ e. omega arith)) (λ b. stage_current p i (omega (arith, z.0)) ∙ held), stage_before q i z.0 z.1))
          (λ z. absurd (omega (arith, z.1)))
          (stage_cases q i (omega arith) y)

      pub timely_begin : Timely s rs nobody r q now
      timely_begin =
          let piece = kin_piece p q k in
          record {
            claims = λ x y. absurd (omega arith);
            waits = λ i x y. let t = was_taken i (omega arith) y in let w = time.waits i (omega (arith, t.0)) (omega (arith, t.0)) in
                (piece i ∙ w.0, ⊎_elim inl (λ z. inr (⊎_elim inl (λ l. inr (ap level (piece i) ∙ l)) z)) w.1);
            checks = λ i l x. let z = checked_stage s q i (omega arith) in
                let t = was_taken i (omega (arith, z.0)) z.1 in
                let same : checked_to s q i ≡ checked_to s p i = checked_all s q i t.1 ∙ ap (check_count s.levels s.distance) (piece i) ∙ sym (checked_all s p i t.0) in
                let w = time.checks i l (omega arith) in
                (piece i ∙ w.0, ⊎_elim inl (λ o. inr (⊎_elim inl (λ n. inr (ap level (piece i) ∙ n)) o)) w.1);
            passes = inl (by_eq q.phase 3 (λ e. passing_climb q e ∙ first) (λ d. passing_none q d (λ f. omega arith) (λ f. omega arith)));
            notifies = λ j x y. let t = was_taken j (omega arith) y in let w = time.notifies j (omega (arith, t.0)) (omega (arith, t.0)) in
                (piece j ∙ w.0, ⊎_elim inl (λ z. inr (⊎_elim inl (λ l. inr (piece j ∙ l)) z)) w.1);
          }
