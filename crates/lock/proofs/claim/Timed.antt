-- Laws: what is known of two clients of which one has a piece above a piece of the other, and that every step keeps it so. Assumes nothing.
use Rattle.std.specs.Prelude.{◌≡◌, refl, ◌≢◌, ◌⊎◌, ◌&&◌, List, ℕ, suc, ◌+◌, ◌-◌, ◌≤◌, ◌<◌, eqb, leb, get_or}
use Rattle.std.proofs.Common.{sym, ap, subst, ◌∙◌, inl, inr, ⊎_elim, arith, le-leb}
use Rattle.std.proofs.Math.Decide.{ℕ_discrete}
use Rattle.base.specs.rules.Choice.{choose}
use Rattle.base.specs.laws.ChoiceLaws.{choose_ne}
use Rattle.tree.specs.rules.Tree.{climb, level, Above}
use Rattle.tree.proofs.laws.Level.{level_pos, level_root}
use Rattle.tree.proofs.laws.Notify.{notify_count, notify_node}
use Rattle.tree.proofs.laws.Check.{check_node}
use Rattle.lock.specs.declared.Record.{Record}
use Rattle.lock.specs.declared.Settings.{Settings}
use Rattle.lock.specs.rules.Records.{piece_at, current_piece}
use Rattle.lock.specs.rules.Readings.{NotSlow, NotFast}
use Rattle.lock.specs.laws.Active.{Settled}
use Rattle.lock.proofs.laws.LateLaws.{InTime}
use Rattle.lock.proofs.claim.Owned.{owns, owns_notice}
use Rattle.lock.proofs.claim.Fit.{Fit}
use Rattle.lock.proofs.claim.Stage.{phase_at, passing, checked_to, stage_current, checked_stage, piece_level, stage_ready, stage_owns, stage_noticed}
use Rattle.lock.proofs.claim.Times.{NotedBefore, Overdue, claim_noted, wait_overdue, overdue_stays, overdue_late}

-- the current piece of b is below a, and has found a clear
pub record Passed (a : ℕ) (b : Record) : Type 0 where
  pub above : Above a (current_piece b)
  pub clear : level (current_piece b) ≤ level a + passing b

-- a has checked a node: b, who has notified, has not notified that node
abbrev pub Checked : Settings → Record → Record → Type 0
Checked s a b =
    (i j k l : ℕ) → k < checked_to s a i → 7 ≤ phase_at b j → phase_at b j ≤ 9 → Above (piece_at a i) (piece_at b j)
    → l < notify_count s.distance (level (piece_at b j)) → check_node (piece_at a i) k ≢ notify_node s.distance (piece_at b j) l

-- of a client a, whose t0 was read at the moment m0, and another client b, whose t1 was read at m1; `present` is the moment of the last touch
pub record Timed (s : Settings) (a b : Record) (m0 m1 present : ℕ) : Type 0 where
  -- a has claimed: b, who had passed, had read t1 before
  pub claims : 6 ≤ a.phase → a.phase ≤ 7 → Passed (current_piece a) b → NotedBefore m1 m0
  -- a has waited: b, who had passed, is overdue
  pub waits : (i : ℕ) → 8 ≤ phase_at a i → phase_at a i ≤ 9 → Passed (piece_at a i) b → Overdue s.wait m1 present
  pub checks : Checked s a b

-- how far the current piece has come up: it passed no ancestor that it had not passed, or finds one more clear, and notes t1 at the first
abbrev pub Upward : Settings → List Record → (nobody r q : Record) → ℕ → Type 0
Upward s rs nobody r q now =
    ((passing q ≤ passing r) × (q.t1 ≡ r.t1))
    ⊎ ((passing q ≡ suc (passing r)) × (((passing r ≢ 0) × (q.t1 ≡ r.t1)) ⊎ ((passing r ≡ 0) × (r.phase ≡ 3) × (q.t1 ≡ now)))
    × ((d : ℕ) → owns s 3 (climb (suc (passing r)) (current_piece r)) (get_or rs d nobody) ≡ 0))

-- what a step at the clock `now` makes of its client's record r, over all records rs; q is the record after it
pub record Timely (s : Settings) (rs : List Record) (nobody r q : Record) (now : ℕ) : Type 0 where
  -- it claimed before, or claims now, or a leaf, below which there is nothing
  pub claims : 6 ≤ q.phase → q.phase ≤ 7
      → ((6 ≤ r.phase) × (r.phase ≤ 7) × (q.t0 ≡ r.t0) × (current_piece q ≡ current_piece r)) ⊎ (((r.phase ≡ 5) × (q.t0 ≡ now)) ⊎ (level (current_piece q) ≡ s.levels))
  -- it had waited before, or has waited now
  pub waits : (i : ℕ) → 8 ≤ phase_at q i → phase_at q i ≤ 9
      → (piece_at q i ≡ piece_at r i) × (((8 ≤ phase_at r i) × (phase_at r i ≤ 9))
      ⊎ (((i ≡ r.current) × (r.phase ≡ 7) × (s.wait ≤ now - r.t0)) ⊎ (level (piece_at q i) ≡ s.levels)))
  -- it had checked the node before, or finds that nobody has a notice there
  pub checks : (i k : ℕ) → k < checked_to s q i
      → (piece_at q i ≡ piece_at r i) × ((k < checked_to s r i)
      ⊎ (((d : ℕ) → owns_notice s (check_node (piece_at r i) k) (get_or rs d nobody) ≡ 0) ⊎ (level (piece_at q i) ≡ s.levels)))
  -- it has passed no ancestor, or has come up with the piece that it had
  pub passes : (passing q ≡ 0) ⊎ ((current_piece q ≡ current_piece r) × Upward s rs nobody r q now)
  -- it had notified before, or has passed all ancestors and is not late, or is the root
  pub notifies : (j : ℕ) → 7 ≤ phase_at q j → phase_at q j ≤ 9
      → (piece_at q j ≡ piece_at r j) × (((7 ≤ phase_at r j) × (phase_at r j ≤ 9))
      ⊎ (((j ≡ r.current) × (level (current_piece r) ≤ suc (passing r)) × (r.phase ≡ 6) × InTime s.wait r.t1 now) ⊎ (piece_at q j ≡ 1)))

-- ---- who does not step

pub timed_later : (s : Settings) (a b : Record) (m0 m1 present touch : ℕ) → present ≤ touch → Timed s a b m0 m1 present → Timed s a b m0 m1 touch
timed_later s a b m0 m1 present touch l v = record {
  claims = v.claims;
  waits = λ i x y p. overdue_stays s.wait m1 present touch (v.waits i x y p) l;
  checks = v.checks;
}

-- ---- a step by the clock `now`, read at the moment `reading`, that touches its word at the moment `touch`

-- the moment at which its client's t1, and that at which its t0 was read, after the step: the step's own, unless an ancestor was passed before it, or the piece was claimed
abbrev pub parent_read : Record → ℕ → ℕ → ℕ
parent_read r m1 reading = choose (eqb (passing r) 0) reading m1

abbrev pub claim_read : Record → ℕ → ℕ → ℕ
claim_read r m0 reading = choose (leb 6 r.phase && leb r.phase 7) m0 reading

-- what is supposed of it, with what its client has noted
pub record ReadSafely (s : Settings) (r : Record) (now m0 m1 touch reading : ℕ) : Type 0 where
  pub read_first : (r.phase ≡ 3) ⊎ (r.phase ≡ 7) → reading ≤ touch
  pub touched_first : (r.phase ≡ 5) ⊎ (r.phase ≡ 6) → touch ≤ reading
  pub not_slow : passing r ≢ 0 → r.phase ≡ 6 → NotSlow s.wait r.t1 now m1 reading
  pub not_fast : level (current_piece r) ≢ s.levels → r.phase ≡ 7 → NotFast s.wait r.t0 now m0 reading

pub parent_kept : (r : Record) (m1 reading : ℕ) → passing r ≢ 0 → parent_read r m1 reading ≡ m1
parent_kept r m1 reading d = choose_ne (passing r) 0 reading m1 d

pub claim_kept : (r : Record) (m0 reading : ℕ) → 6 ≤ r.phase → r.phase ≤ 7 → claim_read r m0 reading ≡ m0
unfolding choose
claim_kept r m0 reading a b = rw (le-leb 6 r.phase a, le-leb r.phase 7 b)

pub claim_now : (r : Record) (m0 reading : ℕ) → r.phase ≡ 5 → claim_read r m0 reading ≡ reading
unfolding choose
claim_now r m0 reading e = rw e

module _ (s : Settings) (g : Settled s) (rs : List Record) (nobody r q : Record) (now m0 m1 present touch reading : ℕ) (later : present ≤ touch) (m : Timely s rs nobody r q now)
    (read : ReadSafely s r now m0 m1 touch reading) where
  nothing_below : (a b : ℕ) → level b ≤ s.levels → level a ≡ s.levels → Above a b → ⊥
  nothing_below a b x e p = omega (arith, p.higher)

  -- ---- it is above another client b

  module _ (b : Record) (last n1 : ℕ) (fit : Fit s b last) (noted : passing b ≢ 0 → n1 ≤ present)
      (among : (n : ℕ) → ((d : ℕ) → owns_notice s n (get_or rs d nobody) ≡ 0) → owns_notice s n b ≡ 0) (v : Timed s r b m0 n1 present) where
    low : (j : ℕ) → level (piece_at b j) ≤ s.levels
    low = piece_level s b last g fit

    above_claims : 6 ≤ q.phase → q.phase ≤ 7 → Passed (current_piece q) b → NotedBefore n1 (claim_read r m0 reading)
    above_claims x y p = ⊎_elim
        (λ o. subst (NotedBefore n1) (sym (claim_kept r m0 reading o.0 o.1)) (v.claims o.0 o.1 (subst (λ (n : ℕ). Passed n b) o.3 p)))
        (λ o. ⊎_elim
        (λ e. subst (NotedBefore n1) (sym (claim_now r m0 reading e.0))
        (claim_noted n1 present touch reading (noted (λ z. omega (arith, p.clear, p.above.higher))) later (read.touched_first (inl e.0))))
        (λ e. absurd (nothing_below (current_piece q) (current_piece b) (low b.current) e p.above)) o)
        (m.claims x y)

    above_waits : (i : ℕ) → 8 ≤ phase_at q i → phase_at q i ≤ 9 → Passed (piece_at q i) b → Overdue s.wait n1 touch
    above_waits i x y p =
        let w = m.waits i x y in
        let same = subst (λ (n : ℕ). Passed n b) w.0 p in
        ⊎_elim
        (λ o. overdue_stays s.wait n1 present touch (v.waits i o.0 o.1 same) later)
        (λ o. ⊎_elim
        (λ z. let at = subst (λ (n : ℕ). Passed (piece_at r n) b) z.0 same in
        let begun : 6 ≤ r.phase = omega (arith, z.1) in
        let most : r.phase ≤ 7 = omega (arith, z.1) in
        wait_overdue s.wait n1 m0 r.t0 now reading touch (v.claims begun most at) z.2
        (read.not_fast (λ e. nothing_below (current_piece r) (current_piece b) (low b.current) e at.above) z.1) (read.read_first (inr z.1)))
        (λ e. absurd (nothing_below (piece_at q i) (current_piece b) (low b.current) e p.above)) o)
        w.1

    above_checks : Checked s q b
    above_checks i j k l x y z p o e =
        let w = m.checks i k x in
        let same = subst (λ (n : ℕ). Above n (piece_at b j)) w.0 p in
        let f : check_node (piece_at r i) k ≡ notify_node s.distance (piece_at b j) l = ap (λ (n : ℕ). check_node n k) (sym w.0) ∙ e in
        ⊎_elim
        (λ old. v.checks i j k l old y z same o f)
        (λ other. ⊎_elim
        (λ none. let noticed = stage_noticed s b last (stage_ready s b last g fit j (omega arith)) g fit j y z l o in
        let zero : owns_notice s (check_node (piece_at r i) k) b ≡ 0 = among _ none in
        omega (arith, noticed, ap (λ (n : ℕ). owns_notice s n b) f))
        (λ leaf. nothing_below (piece_at q i) (piece_at b j) (low j) leaf p) other)
        w.1

    pub timed_above : Timed s q b (claim_read r m0 reading) n1 touch
    timed_above = record { claims = above_claims; waits = above_waits; checks = above_checks }

  -- ---- it is below another client a

  module _ (a : Record) (last n0 : ℕ) (fit : Fit s a last) (among : (n : ℕ) → ((d : ℕ) → owns s 3 n (get_or rs d nobody) ≡ 0) → owns s 3 n a ≡ 0) (v : Timed s a r n0 m1 present) where
    -- what was known of r's passing is known of q's, where a piece of a, claimed, is above it
    below : (i : ℕ) → 6 ≤ phase_at a i → phase_at a i ≤ 9 → Passed (piece_at a i) q → Passed (piece_at a i) r × (parent_read r m1 reading ≡ m1)
    below i x y p =
        let n = piece_at a i in
        let still : Passed n r → Passed n r × (parent_read r m1 reading ≡ m1) = λ o. (o, parent_kept r m1 reading (λ z. omega (arith, o.clear, o.above.higher))) in
        ⊎_elim
        (λ z. absurd (omega (arith, p.clear, p.above.higher)))
        (λ k.
        let up : Above n (current_piece r) = subst (Above n) k.0 p.above in
        let f : level (current_piece q) ≡ level (current_piece r) = ap level k.0 in
        ⊎_elim
        (λ o. still (record { above = up; clear = omega (arith, p.clear, o.0) }))
        (λ o. elim (ℕ_discrete (level (current_piece r)) (level n + suc (passing r))) [
          | yes e ↦
              let steps : level (current_piece r) - level n ≡ suc (passing r) = omega arith in
              let is : climb (suc (passing r)) (current_piece r) ≡ n = ap (λ (d : ℕ). climb d (current_piece r)) (sym steps) ∙ up.meets in
              absurd (omega (arith, stage_owns s a last (stage_ready s a last g fit i (omega arith)) i x y, ap (λ (d : ℕ). owns s 3 d a) is, among _ o.2))
          | no d ↦ still (record { above = up; clear = omega (arith, p.clear, o.0) })
        ]) k.1)
        m.passes

    below_claims : 6 ≤ a.phase → a.phase ≤ 7 → Passed (current_piece a) q → NotedBefore (parent_read r m1 reading) n0
    below_claims x y p =
        let e = stage_current a a.current refl in
        let w = below a.current (omega arith) (omega arith) p in
        subst (λ (t : ℕ). NotedBefore t n0) (sym w.1) (v.claims x y w.0)

    below_waits : (i : ℕ) → 8 ≤ phase_at a i → phase_at a i ≤ 9 → Passed (piece_at a i) q → Overdue s.wait (parent_read r m1 reading) touch
    below_waits i x y p =
        let w = below i (omega arith) y p in
        subst (λ (t : ℕ). Overdue s.wait t touch) (sym w.1) (overdue_stays s.wait m1 present touch (v.waits i x y w.0) later)

    below_checks : Checked s a q
    below_checks i j k l x y z p o e =
        let w = m.notifies j y z in
        let same = subst (Above (piece_at a i)) w.0 p in
        let waited = checked_stage s a i (omega arith) in
        ⊎_elim
        (λ old. v.checks i j k l x old.0 old.1 same (subst (λ (n : ℕ). l < notify_count s.distance (level n)) w.0 o) (e ∙ ap (λ (n : ℕ). notify_node s.distance n l) w.0))
        (λ other. ⊎_elim
        (λ h. let up : Above (piece_at a i) (current_piece r) = subst (λ (n : ℕ). Above (piece_at a i) (piece_at r n)) h.0 same in
        let some = level_pos (piece_at a i) in
        overdue_late s.wait m1 r.t1 now present touch reading
        (v.waits i waited.0 waited.1 (record { above = up; clear = omega (arith, some, h.1) })) later (read.touched_first (inr h.2))
        (read.not_slow (λ z. omega (arith, some, h.1, up.higher)) h.2) h.3)
        (λ root. omega (arith, p.higher, level_pos (piece_at a i), ap level root, level_root 1 (omega arith))) other)
        w.1

    pub timed_below : Timed s a q n0 (parent_read r m1 reading) touch
    timed_below = record { claims = below_claims; waits = below_waits; checks = below_checks }
