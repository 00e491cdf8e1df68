-- How far each piece of a record has come: the phase it is in, the ancestors it has found clear, the nodes it has checked. Assumes nothing.
use Rattle.std.specs.Prelude.{◌≡◌, refl, ◌≢◌, ◌⊎◌, ℕ, suc, ◌-◌, ◌≤◌, ◌<◌, eqb, ltb, get_or}
use Rattle.std.proofs.Common.{sym, ◌∙◌, inl, inr}
use Rattle.std.proofs.Math.Path.{ap}
use Rattle.std.proofs.Math.Logic.{⊎_elim}
use Rattle.std.proofs.Math.Decide.{ℕ_discrete}
use native.Mathlib.Omega.{arith}
use Rattle.std.proofs.Math.ListN.{length}
use Rattle.base.specs.rules.Choice.{choose}
use Rattle.base.specs.laws.ChoiceLaws.{choose_eq, choose_ne, choose_lt, choose_ge, choose_le, by_lt}
use Rattle.base.specs.laws.Sum.{sum_to, to_at, get_d_past}
use Rattle.tree.specs.rules.Tree.{level}
use Rattle.tree.proofs.laws.Level.{level_root}
use Rattle.tree.specs.rules.Lists.{notify_list}
use Rattle.tree.proofs.laws.Notify.{notify_count, notify_node, notify_count_lem, notify_place}
use Rattle.tree.proofs.laws.Check.{check_count}
use Rattle.lock.specs.declared.Record.{Record}
use Rattle.lock.specs.declared.Settings.{Settings}
use Rattle.lock.specs.rules.Records.{pieces, piece_at, current_piece, idle_with}
use Rattle.lock.proofs.laws.Pieces.{grip_before, grip_current, notices_before, notices_current}
use Rattle.lock.specs.laws.Active.{Settled}
use Rattle.lock.proofs.claim.Owned.{returned, gripped, noticed, owns, outstanding, owns_notice, reaches_yes, returned_none, gripped_kept, noticed_begun}
use Rattle.lock.proofs.laws.Ready.{Ready}
use Rattle.lock.proofs.claim.Fit.{Fit, owns_here, bounded_piece, ready_apart, ready_noticed, on_fit}

-- the phase that piece i is in: 9 for a piece before the current one, 0 for one that is not begun; a record that returns is in 10 with all that it began
unfoldable pub phase_at : Record → ℕ → ℕ
phase_at r i = choose (ltb i r.current) (choose (eqb r.phase 10) 10 9) (choose (eqb i r.current) r.phase 0)

-- how many ancestors the current piece has found clear since it last began to climb
unfoldable pub passing : Record → ℕ
passing r =
    choose (eqb r.phase 3) r.place (choose (eqb r.phase 5) (level (current_piece r) - 1) (choose (eqb r.phase 6) (level (current_piece r) - 1) 0))

-- how many nodes of its check list piece i has passed
unfoldable pub checked_to : Settings → Record → ℕ → ℕ
checked_to s r i =
    choose (eqb (phase_at r i) 8) r.place (choose (eqb (phase_at r i) 9) (check_count s.levels s.distance (piece_at r i)) 0)

-- ---- the phase of a piece

module _ (r : Record) (i : ℕ) where
  pub stage_before : i < r.current → r.phase ≢ 10 → phase_at r i ≡ 9
  unfolding phase_at
  stage_before b d = choose_lt i r.current _ _ b ∙ choose_ne r.phase 10 10 9 d

  pub stage_returning : i < r.current → r.phase ≡ 10 → phase_at r i ≡ 10
  unfolding phase_at
  stage_returning b e = choose_lt i r.current _ _ b ∙ choose_eq r.phase 10 10 9 e

  pub stage_current : i ≡ r.current → phase_at r i ≡ r.phase
  unfolding phase_at
  stage_current e = choose_ge i r.current _ _ (omega arith) ∙ choose_eq i r.current r.phase 0 e

  pub stage_after : r.current < i → phase_at r i ≡ 0
  unfolding phase_at
  stage_after b = choose_ge i r.current _ _ (omega arith) ∙ choose_ne i r.current r.phase 0 (λ e. omega arith)

  -- a piece that is in one of the phases 1 .. 9 is taken, or the current one
  pub stage_cases : 1 ≤ phase_at r i → phase_at r i ≤ 9 → ((i < r.current) × (r.phase ≢ 10)) ⊎ ((i ≡ r.current) × (phase_at r i ≡ r.phase))
  stage_cases a b =
      by_lt i r.current
      (λ l. inl (l, λ e. omega (arith, stage_returning l e)))
      (λ l. elim (ℕ_discrete i r.current) [ yes e ↦ inr (e, stage_current e) | no d ↦ absurd (omega (arith, stage_after (omega arith))) ])

  -- such a piece is begun
  pub stage_begun : 1 ≤ phase_at r i → i ≤ r.current
  stage_begun a = by_lt r.current i (λ l. absurd (omega (arith, stage_after l))) (λ l. l)

-- ---- the ancestors

module _ (r : Record) where
  pub passing_climb : r.phase ≡ 3 → passing r ≡ r.place
  unfolding passing
  passing_climb e = choose_eq r.phase 3 _ _ e

  pub passing_claim : r.phase ≡ 5 → passing r ≡ level (current_piece r) - 1
  unfolding passing
  passing_claim e = choose_ne r.phase 3 _ _ (λ f. omega arith) ∙ choose_eq r.phase 5 _ _ e

  pub passing_notify : r.phase ≡ 6 → passing r ≡ level (current_piece r) - 1
  unfolding passing
  passing_notify e = choose_ne r.phase 3 _ _ (λ f. omega arith) ∙ choose_ne r.phase 5 _ _ (λ f. omega arith) ∙ choose_eq r.phase 6 _ _ e

  pub passing_none : r.phase ≢ 3 → r.phase ≢ 5 → r.phase ≢ 6 → passing r ≡ 0
  unfolding passing
  passing_none a b c = choose_ne r.phase 3 _ _ a ∙ choose_ne r.phase 5 _ _ b ∙ choose_ne r.phase 6 _ _ c

-- ---- the checked nodes

module _ (s : Settings) (r : Record) (i : ℕ) where
  pub checked_some : phase_at r i ≡ 8 → checked_to s r i ≡ r.place
  unfolding checked_to
  checked_some e = choose_eq (phase_at r i) 8 _ _ e

  pub checked_all : phase_at r i ≡ 9 → checked_to s r i ≡ check_count s.levels s.distance (piece_at r i)
  unfolding checked_to
  checked_all e = choose_ne (phase_at r i) 8 _ _ (λ f. omega arith) ∙ choose_eq (phase_at r i) 9 _ _ e

  pub checked_none : phase_at r i ≢ 8 → phase_at r i ≢ 9 → checked_to s r i ≡ 0
  unfolding checked_to
  checked_none a b = choose_ne (phase_at r i) 8 _ _ a ∙ choose_ne (phase_at r i) 9 _ _ b

  -- who has checked a node is in phase 8 or 9
  pub checked_stage : 0 < checked_to s r i → (8 ≤ phase_at r i) × (phase_at r i ≤ 9)
  checked_stage b =
      elim (ℕ_discrete (phase_at r i) 8) [
        | yes e ↦ (omega arith, omega arith)
        | no d ↦ elim (ℕ_discrete (phase_at r i) 9) [ yes e ↦ (omega arith, omega arith) | no f ↦ absurd (omega (arith, checked_none d f)) ]
      ]

-- ---- what a piece owns in its phase

pub idle_piece : (o i : ℕ) → piece_at (idle_with o) i ≡ 0
unfolding piece_at pieces choose
idle_piece o i = by_lt i 1 (λ b. let e : i ≡ 0 = omega arith in ap (λ (j : ℕ). piece_at (idle_with o) j) e) (λ b. get_d_past (pieces (idle_with o)) i 0 b)

pub idle_stage : (o i : ℕ) → phase_at (idle_with o) i ≡ 0
idle_stage o i = by_lt 0 i (λ b. stage_after (idle_with o) i b) (λ b. stage_current (idle_with o) i (omega arith))

module _ (s : Settings) (r : Record) (last : ℕ) where
  -- the level of a piece, if there is one
  pub piece_level : Settled s → Fit s r last → (i : ℕ) → level (piece_at r i) ≤ s.levels
  unfolding piece_at
  piece_level g v i =
      let root : piece_at r i ≡ 0 → level (piece_at r i) ≤ s.levels = λ e. omega (arith, level_root (piece_at r i) (omega arith), g.levels_some) in
      on_fit s r last v g
      (λ e. root (ap (λ x. piece_at x i) e ∙ idle_piece r.outcome i))
      (λ l. by_lt i (length (pieces r)) (λ b. ((ready_apart s r last l).node i b).inside) (λ b. root (get_d_past (pieces r) i 0 b)))

  pub stage_ready : Settled s → Fit s r last → (i : ℕ) → 1 ≤ phase_at r i → Ready s r last
  stage_ready g v i b = on_fit s r last v g (λ e. absurd (omega (arith, ap (λ x. phase_at x i) e, idle_stage r.outcome i))) (λ l. l)

  module _ (v : Ready s r last) where
    -- a claimed piece has Occ, or its bits
    pub stage_owns : (i : ℕ) → 6 ≤ phase_at r i → phase_at r i ≤ 9 → owns s 3 (piece_at r i) r ≡ 1
    stage_owns i a b =
        let c : i < length (pieces r) = omega (arith, stage_begun r i (omega arith), v.active.exists) in
        let grip : gripped s r i ≡ 3 = ⊎_elim
        (λ p. gripped_kept s r i (returned_none s r i p.1) ∙ grip_before r i p.0)
        (λ p. gripped_kept s r i (returned_none s r i (λ e. omega (arith, p.1))) ∙ grip_current r i p.0 ∙ v.claimed (omega (arith, p.1)) (omega (arith, p.1)))
        (stage_cases r i (omega arith) b) in
        owns_here s r (ready_apart s r last v) (piece_at r i) i 3 c refl ∙ reaches_yes 3 (gripped s r i) (omega arith)

    -- a piece that is past its notices has all of them out
    pub stage_noticed : Settled s → Fit s r last → (i : ℕ) → 7 ≤ phase_at r i → phase_at r i ≤ 9
        → (k : ℕ) → k < notify_count s.distance (level (piece_at r i)) → 1 ≤ owns_notice s (notify_node s.distance (piece_at r i) k) r
    unfolding owns_notice outstanding
    stage_noticed g fit i a b k l =
        let m = s.distance in
        let p = piece_at r i in
        let begun = stage_begun r i (omega arith) in
        let c : i < length (pieces r) = omega (arith, begun, v.active.exists) in
        let y = bounded_piece s r (ready_apart s r last v) g (ready_noticed s r last v) i c in
        let all : noticed s r i ≡ length (notify_list m p) = noticed_begun s r i begun ∙ ⊎_elim
        (λ z. notices_before s r i z.0)
        (λ z. notices_current s r i (omega (arith, z.0)) ∙ fit.all_noticed (omega (arith, z.1)) (omega (arith, z.1)) ∙ ap (λ (j : ℕ). length (notify_list m (piece_at r j))) (sym z.0))
        (stage_cases r i (omega arith) b) in
        let none : returned s r i ≡ 0 = returned_none s r i (⊎_elim (λ z. z.1) (λ z e. omega (arith, z.1)) (stage_cases r i (omega arith) b)) in
        let n = notify_node m p k in
        let one : outstanding s n r i k ≡ 1 = choose_le (returned s r i) (suc k) _ 0 (omega arith) ∙ choose_eq (get_or (notify_list m p) k 0) n 1 0 (notify_place m p y k l) in
        omega (
          arith,
          one,
          to_at (λ j. outstanding s n r i j) (noticed s r i) k (omega (arith, all, notify_count_lem m p y)),
          to_at (λ j. sum_to (noticed s r j) (λ x. outstanding s n r j x)) (length (pieces r)) i c,
        )
