-- Laws: a step touches only nodes of the tree, so only words inside the lent length; and a readable record is sound. Assumes nothing.
use Rattle.std.specs.Prelude.{◌≡◌, false, ℕ, suc, ◌-◌, ◌≤◌, ◌<◌, length, get_or}
use Rattle.std.proofs.Common.{sym, ap, subst, inl, inr, ⊎_elim, arith}
use Rattle.std.proofs.Math.Decide.{ℕ_discrete}
use Rattle.base.specs.rules.Choice.{choose}
use Rattle.tree.specs.rules.Tree.{climb, level, Node, word_count}
use Rattle.tree.specs.rules.Lists.{ancestors, notify_list, check_list}
use Rattle.tree.proofs.laws.Climb.{left_pos}
use Rattle.tree.proofs.laws.Level.{climb_level, node_counted}
use Rattle.tree.proofs.laws.Ancestors.{ancestors_count, ancestors_place}
use Rattle.tree.proofs.laws.Notify.{notify_count_lem, notify_place, notify_node_lem, notify_higher}
use Rattle.tree.proofs.laws.Check.{check_node, check_count_lem, check_place_lem, check_is}
use Rattle.tree.proofs.laws.Code.{bounded}
use Rattle.lock.specs.declared.Record.{Record}
use Rattle.lock.specs.declared.Settings.{Settings}
use Rattle.lock.specs.rules.Records.{phase_of, returning, pieces, piece_at, current_piece, given_piece}
use Rattle.lock.specs.rules.Steps.{touched_in}
use Rattle.lock.specs.rules.Unreadable.{unreadable}
use Rattle.lock.specs.laws.Active.{Settled}
use Rattle.lock.proofs.laws.ActiveLaws.{active, idle_readable}
use Rattle.lock.specs.laws.Placed.{Placed, Sound}
use Rattle.lock.proofs.laws.Placed.{placed, widen, given_notices}
use Rattle.lock.proofs.laws.Phases.{on_phase}
use Rattle.lock.proofs.laws.MoveLaws.{touched_own, touched_notice}

-- ---- the nodes of each list are nodes of the tree

module _ (h n : ℕ) (v : Node h n) where
  pub ancestor_counted : (i : ℕ) → i < length (ancestors n) → get_or (ancestors n) i 0 ≤ word_count h
  ancestor_counted i b =
      let l : i < level n - 1 = omega (arith, ancestors_count n) in
      let g = climb_level (suc i) n v.some (omega arith) in
      omega (arith, ancestors_place n i l, node_counted h (climb (suc i) n) (record { some = g.0; inside = omega (arith, g.1, v.inside) }))

  pub notify_counted : (m : ℕ) → h ≤ 12 → 1 ≤ m → m ≤ 4 → (i : ℕ) → i < length (notify_list m n) → get_or (notify_list m n) i 0 ≤ word_count h
  notify_counted m h12 m1 m4 i b =
      let y = bounded m n m1 m4 (widen h n h12 v) in
      let e = notify_count_lem m n y in
      let g = notify_node_lem m n y i (omega arith) v.some in
      let k = notify_higher m (level n) i y (omega arith) in
      omega (arith, notify_place m n y i (omega arith), node_counted h _ (record { some = g.0; inside = omega (arith, g.1, v.inside) }))

  pub check_counted : (m : ℕ) → 1 ≤ m → (i : ℕ) → i < length (check_list h m n) → get_or (check_list h m n) i 0 ≤ word_count h
  unfolding check_node
  check_counted m m1 i b =
      let e = check_count_lem h m n in
      let k = check_is n v.some h m m1 i (omega arith) in
      omega (arith, check_place_lem h m n i (omega arith), node_counted h (check_node n i) (record { some = omega (arith, left_pos (level (suc i) - 1) n v.some); inside = omega (arith, k.inner) }))

module _ (s : Settings) (r : Record) (v : Settled s) (p : Placed s r) where
  piece_counted : (i : ℕ) → i < length (pieces r) → piece_at r i ≤ word_count s.levels
  piece_counted i b = node_counted s.levels (piece_at r i) (p.meets i b).node

  begun : r.giving < length (pieces r)
  begun = omega (arith, p.giving_begun, p.exists)

  returning_counted : r.phase ≡ 10 → touched_in s r returning ≤ word_count s.levels
  returning_counted e =
      elim (ℕ_discrete r.place 0) [
        | yes z ↦ omega (arith, touched_own s r z, piece_counted r.giving begun)
        | no d ↦
            let b : r.place - 1 < length (notify_list s.distance (given_piece r)) = omega (arith, p.returning e, given_notices s r p) in
            omega (arith, touched_notice s r d, notify_counted s.levels (given_piece r) (p.meets r.giving begun).node s.distance v.levels_most v.distance_some v.distance_most (r.place - 1) b)
      ]

  pub placed_counted : touched_in s r (phase_of r.phase) ≤ word_count s.levels
  unfolding touched_in
  placed_counted =
      let n = current_piece r in
      let own = piece_counted r.current p.exists in
      let node = (p.meets r.current p.exists).node in
      on_phase r.phase (λ q. touched_in s r q ≤ word_count s.levels) (λ _. omega arith) (λ _. own) (λ _. own)
      (λ e. ancestor_counted s.levels n node r.place (p.climbing (inl e)))
      (λ e. ancestor_counted s.levels n node r.place (p.climbing (inr e)))
      (λ _. own)
      (λ e. notify_counted s.levels n node s.distance v.levels_most v.distance_some v.distance_most r.place (p.notifying e))
      (λ _. omega arith)
      (λ e. check_counted s.levels n node s.distance v.distance_some r.place (p.checking e))
      (λ _. omega arith)
      returning_counted
      (λ _. omega arith)

pub touched_counted : (s : Settings) (r : Record) → Settled s → Sound s r → touched_in s r (phase_of r.phase) ≤ word_count s.levels
unfolding touched_in phase_of choose
touched_counted s r v d = ⊎_elim (λ e. subst (λ (q : ℕ). touched_in s r (phase_of q) ≤ word_count s.levels) (sym e) (omega arith)) (λ p. placed_counted s r v p) d

-- ---- a readable record

pub record Readable (s : Settings) (r : Record) (last : ℕ) : Type 0 where
  pub sound : Sound s r
  pub t1_past : r.t1 ≤ last
  pub t0_past : r.t0 ≤ last
  pub taken_past : r.taken ≤ last

pub readable : (s : Settings) (r : Record) (last : ℕ) → Settled s → unreadable s r last ≡ false → Readable s r last
readable s r last v u =
    elim (ℕ_discrete r.phase 0) [
      | yes e ↦
          let i = idle_readable s r last u e in
          let a : r.t1 ≡ 0 = ap (λ x. x.t1) i in
          let b : r.t0 ≡ 0 = ap (λ x. x.t0) i in
          let c : r.taken ≡ 0 = ap (λ x. x.taken) i in
          record { sound = inl e; t1_past = omega arith; t0_past = omega arith; taken_past = omega arith }
      | no d ↦
          let a = active s r last v u d in
          record { sound = inr (placed s r last a); t1_past = a.t1_past; t0_past = a.t0_past; taken_past = a.taken_past }
    ]
