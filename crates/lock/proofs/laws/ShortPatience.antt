-- Laws: where P is at most T no clock is on time at the end of a wait of a later piece; so a later inner piece is never checked, and never held. Assumes nothing.
use Rattle.std.specs.Prelude.{◌≡◌, ◌≢◌, false, ◌&&◌, List, ℕ, ◌-◌, ◌≤◌, ◌<◌, length, get_or, eqb, leb, ltb}
use Rattle.std.proofs.Math.Path.{refl}
use Rattle.std.proofs.Common.{ap, ◌∙◌, le-leb, lt-ltb, leb-false}
use native.Mathlib.Omega.{arith}
use Rattle.std.proofs.Math.Dec.{eqb→eq}
use Rattle.base.specs.laws.ChoiceLaws.{on_choose}
use Rattle.base.specs.laws.TestLaws.{second_of}
use Rattle.tree.specs.rules.Tree.{level}
use Rattle.lock.specs.declared.Record.{Record}
use Rattle.lock.specs.declared.Settings.{Settings}
use Rattle.lock.specs.rules.Records.{Phase, phase_of, pieces, piece_at, current_piece, is_leaf, to_phase, to_blocked, with_grip, with_t1, with_t0, with_taken}
use Rattle.lock.specs.rules.Steps.{Moved, start_phase, begin, first_noted, taken, ticket_taken, turn_awaited, go_up, climbed, bits_claimed, occ_claimed, all_notified, notice_given, waited, check_passed, out_of_patience}
use Rattle.lock.specs.laws.Rows.{claim_piece, moved_in}
use Rattle.lock.specs.rules.StepCount.{OnTime}
use Rattle.lock.proofs.laws.Phases.{on_phase}
use Rattle.lock.proofs.laws.Progress.{Going}
use Rattle.lock.proofs.laws.Ready.{Ready}

-- a later inner piece
abbrev pub LaterInner : Settings → Record → Type 0
LaterInner s r = (0 < r.current) × (level (current_piece r) ≢ s.levels)

-- of a list of pieces each later inner one can wait for T within P
abbrev pub Waits : Settings → List ℕ → Type 0
Waits s ps = (i : ℕ) → 0 < i → i < length ps → level (get_or ps i 0) ≢ s.levels → s.wait < s.patience

-- such a piece is not past its wait, and it was claimed after the first piece was taken
pub record Unwaited (s : Settings) (r : Record) : Type 0 where
  pub unchecked : LaterInner s r → r.phase ≢ 8
  pub unheld : LaterInner s r → r.phase ≢ 9
  pub since : LaterInner s r → 6 ≤ r.phase → r.taken ≤ r.t0

unwaited_early : (s : Settings) (r : Record) → r.phase < 6 → Unwaited s r
unwaited_early s r b = record { unchecked = λ _ e. omega arith; unheld = λ _ e. omega arith; since = λ _ c. absurd (omega arith) }

unwaited_other : (s : Settings) (r : Record) → (LaterInner s r → ⊥) → Unwaited s r
unwaited_other s r d = record { unchecked = λ v. absurd (d v); unheld = λ v. absurd (d v); since = λ v. absurd (d v) }

pub unwaited_first : (s : Settings) (r : Record) → r.current ≡ 0 → Unwaited s r
unwaited_first s r e = unwaited_other s r (λ v. omega (arith, v.0))

-- a step that finds patience left, in a later piece
patience_left : (s : Settings) (r : Record) (t : ℕ) → out_of_patience s r t ≡ false → 1 ≤ r.phase → r.phase ≤ 8 → 0 < r.current → t - r.taken < s.patience
unfolding out_of_patience
patience_left s r t e a b c =
    leb-false s.patience (t - r.taken) (second_of (leb 1 r.phase && leb r.phase 8 && ltb 0 r.current) _
    (λ i. le-leb 1 r.phase a i && le-leb r.phase 8 b i && lt-ltb 0 r.current c i) e)

module _ (s : Settings) (short : s.patience ≤ s.wait) (r : Record) (last t : ℕ) (later : last ≤ t) (v : Ready s r last) (u : Unwaited s r) (w : ℕ) where
  abbrev n : ℕ
  n = current_piece r

  begin_unwaited : (x : Record) (i : ℕ) → Unwaited s (begin s x i)
  unfolding begin start_phase
  begin_unwaited x i =
      on_choose (λ (k : ℕ). (q : Record) → q.phase ≡ k → Unwaited s q) (is_leaf s (piece_at x i)) 3 1
      (λ _ q e. unwaited_early s q (omega arith)) (λ _ q e. unwaited_early s q (omega arith)) (begin s x i) refl

  -- a piece is taken: the next begins, or the window is held with a piece that is no later inner one
  taken_unwaited : (x : Record) → x.current ≡ r.current → current_piece x ≡ n → (LaterInner s r → ⊥) → Unwaited s (taken s x t)
  unfolding taken first_noted pieces piece_at
  taken_unwaited x c e d =
      let other : (q : Record) → q.current ≡ x.current → current_piece q ≡ current_piece x → Unwaited s q
      = λ q a b. unwaited_other s q (λ k. d (omega (arith, k.0), λ z. k.1 (ap level (b ∙ e) ∙ z))) in
      on_choose (Unwaited s) _ _ _ (λ _. begin_unwaited _ _)
      (λ _. on_choose (λ (y : Record). Unwaited s (to_phase 9 y)) (eqb x.current 0) (with_taken t x) x (λ _. other (to_phase 9 (with_taken t x)) refl refl) (λ _. other (to_phase 9 x) refl refl))

  claimed_unwaited : Unwaited s (claim_piece s r w t).next
  unfolding claim_piece bits_claimed occ_claimed is_leaf pieces piece_at
  claimed_unwaited =
      let past = v.active.taken_past in
      on_choose (λ (m : Moved). Unwaited s m.next) (is_leaf s n) _ _
      (λ k. let leaf = eqb→eq (level n) s.levels k in
      on_choose (Unwaited s) _ _ _ (λ _. unwaited_other s (to_phase 6 (with_grip 3 r)) (λ q. q.1 leaf)) (λ _. unwaited_early s (to_phase 3 r) (omega arith)))
      (λ _. on_choose (λ (k : ℕ). Unwaited s (to_phase k (with_t0 t (with_grip 3 r)))) (eqb n 1) 7 6
      (λ _. record { unchecked = λ _ e. omega arith; unheld = λ _ e. omega arith; since = λ _ _. omega arith })
      (λ _. record { unchecked = λ _ e. omega arith; unheld = λ _ e. omega arith; since = λ _ _. omega arith }))

  notified_unwaited : r.phase ≡ 6 → Unwaited s (notice_given s r t)
  unfolding notice_given all_notified is_leaf pieces piece_at
  notified_unwaited e =
      let since : LaterInner s r → r.taken ≤ r.t0 = λ k. u.since k (omega arith) in
      on_choose (Unwaited s) _ _ _
      (λ _. record { unchecked = λ _ z. omega arith; unheld = λ _ z. omega arith; since = λ k _. since k })
      (λ _. on_choose (Unwaited s) _ _ _
      (λ _. record { unchecked = λ _ z. omega arith; unheld = λ _ z. omega arith; since = λ k _. since k })
      (λ _. on_choose (Unwaited s) (is_leaf s n) _ _
      (λ k. taken_unwaited _ refl refl (λ q. q.1 (eqb→eq (level n) s.levels k)))
      (λ _. record { unchecked = λ _ z. omega arith; unheld = λ _ z. omega arith; since = λ k _. since k })))

  climbed_unwaited : r.phase ≡ 3 → Unwaited s (climbed r w t)
  unfolding climbed go_up
  climbed_unwaited e =
      let up : (x : Record) → x.phase ≡ 3 → Unwaited s (go_up x) = λ x f. on_choose (Unwaited s) _ _ _ (λ _. unwaited_early s _ (omega arith)) (λ _. unwaited_early s (to_phase 5 x) (omega arith)) in
      on_choose (Unwaited s) _ _ _ (λ _. unwaited_early s (to_blocked r) (omega arith))
      (λ _. on_choose (λ (x : Record). Unwaited s (go_up x)) (eqb r.place 0) (with_t1 t r) r (λ _. up (with_t1 t r) e) (λ _. up r e))

  -- at the end of its wait patience would have run out
  waited_unwaited : OnTime s r t → r.phase ≡ 7 → Unwaited s (waited s r t)
  unfolding waited pieces piece_at
  waited_unwaited time e =
      let none : LaterInner s r → ⊥ = λ k. omega (arith, time.waited e, u.since k (omega arith), patience_left s r t time.patient (omega arith) (omega arith) k.0) in
      on_choose (Unwaited s) _ _ _ (λ _. unwaited_other s (to_phase 8 r) none) (λ _. u)

  checked_unwaited : r.phase ≡ 8 → Unwaited s (check_passed s r w t)
  unfolding check_passed pieces piece_at
  checked_unwaited e =
      let none : LaterInner s r → ⊥ = λ k. u.unchecked k e in
      on_choose (Unwaited s) _ _ _ (λ _. on_choose (Unwaited s) _ _ _ (λ _. unwaited_other s _ none) (λ _. taken_unwaited r refl refl none)) (λ _. u)

  pub step_unwaited : Going r → r.phase ≢ 9 → OnTime s r t → Unwaited s (moved_in s r w t (phase_of r.phase)).next
  unfolding moved_in ticket_taken turn_awaited
  step_unwaited way d time =
      let early : (q : Record) → q.phase < 6 → Unwaited s q = unwaited_early s in
      on_phase r.phase (λ (p : Phase). Unwaited s (moved_in s r w t p).next)
      (λ e. absurd (omega (arith, way.some)))
      (λ e. early _ (omega arith))
      (λ e. on_choose (Unwaited s) _ _ _ (λ _. on_choose (λ (k : ℕ). Unwaited s (to_phase k (with_grip 2 r))) (eqb n 1) 5 3 (λ _. early _ (omega arith)) (λ _. early _ (omega arith))) (λ _. early r (omega arith)))
      (λ e. climbed_unwaited e)
      (λ e. absurd (way.unblocked e))
      (λ e. claimed_unwaited)
      (λ e. notified_unwaited e)
      (λ e. waited_unwaited time e)
      (λ e. checked_unwaited e)
      (λ e. absurd (d e))
      (λ e. absurd (omega (arith, way.most)))
      (λ b. absurd (omega (arith, way.most)))
