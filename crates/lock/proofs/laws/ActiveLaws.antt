-- Laws: what is known of settings within their ranges, and of a readable record. Assumes nothing.
use Rattle.std.specs.Prelude.{◌≡◌, refl, false, not, ◌&&◌, ℕ, zero, suc, ◌-◌, ◌≤◌, ◌<◌, min, eqb, ltb, get_or}
use Rattle.std.proofs.Common.{sym, ap, ap₂, ◌∙◌, inl, inr, ⊎_elim, arith}
use Rattle.std.proofs.Math.Path.{subst}
use mathlib.Core.List.{List, [], ◌∷◌}
use borrow.Author.Tests.{ltb-false, leb-false, eqb-false, eqb-true, not-false}
use Rattle.std.proofs.Math.ListN.{length}
use Rattle.base.specs.laws.TestLaws.{both_false}
use Rattle.base.specs.laws.ChoiceLaws.{choose_eq, choose_ne, by_lt}
use Rattle.tree.specs.rules.Tree.{level, Node}
use Rattle.tree.specs.rules.Lists.{ancestors, notify_list, check_list}
use Rattle.tree.proofs.laws.Level.{level_pos, level_root_only, first_one}
use Rattle.tree.proofs.laws.Climb.{first_width, first_mono}
use Rattle.tree.proofs.laws.Ancestors.{ancestors_count}
use Rattle.tree.proofs.laws.Notify.{notify_count_lem}
use Rattle.tree.proofs.laws.Check.{check_count, check_count_lem}
use Rattle.tree.proofs.laws.Code.{bounded, count_one, count_more}
use Rattle.cover.specs.rules.Cover.{In, Meets}
use Rattle.cover.specs.rules.Answer.{window_outside}
use Rattle.cover.specs.laws.Lowest.{Window}
use Rattle.cover.proofs.laws.Code.{window_inside}
use Rattle.cover.proofs.laws.Least.{least_cover_lem}
use Rattle.lock.specs.declared.Record.{Record}
use Rattle.lock.specs.declared.Settings.{Settings}
use Rattle.lock.specs.rules.Records.{cover_of, phase_of, pieces, piece_at, current_piece, is_leaf, is_root, idle_with}
use Rattle.lock.proofs.laws.Pieces.{few_pieces}
use Rattle.lock.specs.rules.Unreadable.{number_too_large, idle_filled, not_covered, no_current, ticket_too_large, list_length, place_past, notices_wrong, time_ahead, phase_elsewhere, held_early, outcome_wrong, grip_lacking, giving_wrong, out_of_patience_first, taken_first, unreadable, fields_wrong, differ}
use Rattle.lock.specs.laws.Active.{Settled, Active}
use Rattle.lock.specs.laws.ReadableLaws.{Begun}
use Rattle.lock.proofs.laws.ReadableLaws.{past_list, place_is, list_climbing, list_notifying, list_checking, list_returning, elsewhere_leaf, elsewhere_root}

-- ---- the cover

pub in_at : (c : List ℕ) (i : ℕ) → i < length c → In (get_or c i 0) c
unfolding In
in_at [] i b = absurd (omega arith)
in_at (n ∷ c) zero b = inl refl
in_at (n ∷ c) (suc i) b = inr (in_at c i (omega arith))

-- two numbers, 0 for none, say a list of one or two nodes
pub pieces_are : (r : Record) (c : List ℕ) (n : ℕ) → In n c → length c ≤ 2 → ((m : ℕ) → In m c → 1 ≤ m) → r.first ≡ get_or c 0 0 → r.second ≡ get_or c 1 0 → pieces r ≡ c
unfolding In pieces
pieces_are r [] n i b v f g = absurd i
pieces_are r (p ∷ []) n i b v f g = choose_eq r.second 0 _ _ g ∙ ap (λ x. x ∷ []) f
pieces_are r (p ∷ q ∷ []) n i b v f g = choose_ne r.second 0 _ _ (λ e. omega (arith, v q (inr (inl refl)))) ∙ ap₂ (λ x y. x ∷ y ∷ []) f g
pieces_are r (p ∷ q ∷ m ∷ c) n i b v f g = absurd (omega arith)

module _ (s : Settings) (r : Record) where
  record Covered : Type 0 where
    window : Window s.levels r.left r.right
    cover : pieces r ≡ cover_of s r.left r.right
    meets : (i : ℕ) → i < length (pieces r) → Meets s.levels r.left r.right (piece_at r i)

  covered : Settled s → not_covered s r ≡ false → Covered
  unfolding not_covered piece_at
  covered v e =
      let h = s.levels in
      let c = cover_of s r.left r.right in
      let b = both_false _ (not (eqb r.second (get_or c 1 0))) e in
      let a = both_false (window_outside h r.left r.right) (not (eqb r.first (get_or c 0 0))) b.0 in
      let w = window_inside h r.left r.right (omega (arith, v.levels_some)) v.levels_most a.0 in
      let least = least_cover_lem h r.left r.right w.levels w.some w.fits 2 (omega arith) in
      let held = least.covers.holds r.left (omega arith) w.some in
      let is : pieces r ≡ c = pieces_are r c held.node held.among least.few (λ m i. (least.covers.meets m i).node.some)
      (eqb-true r.first (get_or c 0 0) (not-false _ a.1)) (eqb-true r.second (get_or c 1 0) (not-false _ b.1)) in
      record {
        window = w;
        cover = is;
        meets = λ i l. subst (λ (x : List ℕ). i < length x → Meets h r.left r.right (get_or x i 0)) (sym is) (λ b. least.covers.meets _ (in_at c i b)) l;
      }

  current_exists : no_current r ≡ false → r.current < length (pieces r)
  unfolding no_current
  current_exists e = leb-false (length (pieces r)) r.current e

  pub begun : Settled s → not_covered s r ≡ false → r.current < length (pieces r) → Begun s r
  begun v e x = record { settled = v; exists = x; node = λ i l. ((covered v e).meets i l).node }

-- ---- a readable record that is not idle, clause by clause

pub record Passed (s : Settings) (r : Record) (last : ℕ) : Type 0 where
  pub numbers : number_too_large r ≡ false
  pub window : not_covered s r ≡ false
  pub current : no_current r ≡ false
  pub own_ticket : ticket_too_large r ≡ false
  pub place : place_past s r ≡ false
  pub notices : notices_wrong s r ≡ false
  pub times : time_ahead r last ≡ false
  pub phase : phase_elsewhere s r (phase_of r.phase) ≡ false
  pub held : held_early r ≡ false
  pub outcome : outcome_wrong r ≡ false
  pub grip : grip_lacking s r (phase_of r.phase) ≡ false
  pub giving : giving_wrong r ≡ false
  pub impatient : out_of_patience_first r ≡ false
  pub first_time : taken_first r ≡ false

pub passed : (s : Settings) (r : Record) (last : ℕ) → unreadable s r last ≡ false → (r.phase ≡ 0 → ⊥) → Passed s r last
unfolding unreadable fields_wrong
passed s r last e d =
    let a = both_false (number_too_large r) _ e in
    let b = both_false _ (fields_wrong s r last) (sym (choose_ne r.phase 0 (idle_filled r) _ d) ∙ a.1) in
    let c = both_false (not_covered s r) (no_current r) b.0 in
    let x = both_false _ (taken_first r) b.1 in
    let i = both_false _ (out_of_patience_first r) x.0 in
    let v = both_false _ (giving_wrong r) i.0 in
    let g = both_false _ (grip_lacking s r (phase_of r.phase)) v.0 in
    let o = both_false _ (outcome_wrong r) g.0 in
    let h = both_false _ (held_early r) o.0 in
    let f = both_false _ (phase_elsewhere s r (phase_of r.phase)) h.0 in
    let m = both_false _ (time_ahead r last) f.0 in
    let n = both_false _ (notices_wrong s r) m.0 in
    let p = both_false (ticket_too_large r) (place_past s r) n.0 in
    record {
      numbers = a.0;
      window = c.0;
      current = c.1;
      own_ticket = p.0;
      place = p.1;
      notices = n.1;
      times = m.1;
      phase = f.1;
      held = h.1;
      outcome = o.1;
      grip = g.1;
      giving = v.1;
      impatient = i.1;
      first_time = x.1;
    }

-- ---- the places of its lists

within : (n place : ℕ) → 0 < n → past_list n place ≡ false → place < n
unfolding past_list
within n place b e = leb-false n place (sym (choose_ne n 0 _ _ (λ z. omega arith)) ∙ e)

pub below_root : (n : ℕ) → 1 ≤ n → is_root n ≡ false → 2 ≤ level n
below_root n some e = by_lt 1 (level n) (λ q. q) (λ q. absurd (eqb-false n 1 e (level_root_only n some (omega (arith, level_pos n)))))

pub notified : (m n : ℕ) → 1 ≤ m → m ≤ 4 → Node 12 n → 2 ≤ level n → 0 < length (notify_list m n)
notified m n a b v l =
    let e = notify_count_lem m n (bounded m n a b v) in
    by_lt m (level n) (λ q. omega (arith, count_more m (level n) l q)) (λ q. omega (arith, count_one m (level n) l q))

pub checked : (h m n : ℕ) → 1 ≤ m → level n < h → 0 < length (check_list h m n)
unfolding check_count
checked h m n a b = omega (arith, check_count_lem h m n, first_mono 2 (suc (min m (h - level n))) (omega arith) (omega arith), first_width 0, first_one)

-- ---- the facts

pub active : (s : Settings) (r : Record) (last : ℕ) → Settled s → unreadable s r last ≡ false → (r.phase ≡ 0 → ⊥) → Active s r last
unfolding number_too_large ticket_too_large notices_wrong time_ahead giving_wrong is_leaf
active s r last v u d =
    let k = passed s r last u d in
    let c = covered s r v k.window in
    let x = current_exists s r k.current in
    let n = current_piece r in
    let node = (c.meets r.current x).node in
    let inner : Node 12 n = record { some = node.some; inside = omega arith } in
    let counts = both_false (ltb (length (notify_list s.distance n)) r.notices) _ (both_false _ (eqb r.phase 6 && differ r.notices r.place) k.notices).0 in
    let all_times = both_false _ (ltb last r.taken) k.times in
    let times = both_false (ltb last r.t1) (ltb last r.t0) all_times.0 in
    let giving = both_false (ltb r.current r.giving) _ k.giving in
    let numbers = both_false (ltb 10 r.phase) (ltb 4 r.outcome) k.numbers in
    let past : (m : ℕ) → m ≡ list_length s r (phase_of r.phase) → past_list m r.place ≡ false = λ m e. place_is s r m e ∙ k.place in
    let climbs : 3 ≤ r.phase → r.phase < 5 → r.place < length (ancestors n) =
    λ a b. within _ _ (omega (arith, ancestors_count n, below_root n node.some (elsewhere_root s r r.phase a (omega arith) (λ e. omega arith) ∙ k.phase)))
    (past _ (list_climbing s r r.phase a b)) in
    record {
      phase_most = ltb-false 10 r.phase numbers.0;
      window = c.window;
      cover = c.cover;
      few = few_pieces r;
      exists = x;
      meets = c.meets;
      ticket_most = ltb-false 32767 r.ticket k.own_ticket;
      climbing = λ p. ⊎_elim (λ e. climbs (omega arith) (omega arith)) (λ e. climbs (omega arith) (omega arith)) p;
      notifying = λ e. within _ _
          (notified s.distance n v.distance_some v.distance_most inner (below_root n node.some (elsewhere_root s r r.phase (omega arith) (omega arith) (λ z. omega arith) ∙ k.phase)))
          (past _ (list_notifying s r r.phase e));
      checking = λ e.
          let other = eqb-false (level n) s.levels (elsewhere_leaf s r r.phase (omega arith) (omega arith) (λ a b. omega arith) ∙ k.phase) in
          within _ _ (checked s.levels s.distance n v.distance_some (by_lt (level n) s.levels (λ q. q) (λ q. absurd (other (omega (arith, node.inside))))))
          (past _ (list_checking s r r.phase e));
      returning = λ e. let b = within _ r.place (omega arith) (past _ (list_returning s r r.phase e)) in omega arith;
      noticed = ltb-false (length (notify_list s.distance n)) r.notices counts.0;
      t1_past = ltb-false last r.t1 times.0;
      t0_past = ltb-false last r.t0 times.1;
      taken_past = ltb-false last r.taken all_times.1;
      giving_begun = ltb-false r.current r.giving giving.0;
    }

none : (n : ℕ) → ltb 0 n ≡ false → n ≡ 0
none n e = omega (arith, ltb-false 0 n e)

pub idle_readable : (s : Settings) (r : Record) (last : ℕ) → unreadable s r last ≡ false → r.phase ≡ 0 → r ≡ idle_with r.outcome
unfolding unreadable idle_filled
idle_readable s r last u z =
    let a = both_false (number_too_large r) _ u in
    let is_taken = both_false _ (ltb 0 r.taken) (sym (choose_eq r.phase 0 (idle_filled r) _ z) ∙ a.1) in
    let is_t0 = both_false _ (ltb 0 r.t0) is_taken.0 in
    let is_t1 = both_false _ (ltb 0 r.t1) is_t0.0 in
    let is_notices = both_false _ (ltb 0 r.notices) is_t1.0 in
    let is_place = both_false _ (ltb 0 r.place) is_notices.0 in
    let is_ticket = both_false _ (ltb 0 r.ticket) is_place.0 in
    let is_grip = both_false _ (ltb 0 r.grip) is_ticket.0 in
    let is_giving = both_false _ (ltb 0 r.giving) is_grip.0 in
    let is_current = both_false _ (ltb 0 r.current) is_giving.0 in
    let is_second = both_false _ (ltb 0 r.second) is_current.0 in
    let is_first = both_false _ (ltb 0 r.first) is_second.0 in
    let is_right = both_false (ltb 0 r.left) (ltb 0 r.right) is_first.0 in
    λ i. record {
      phase = z i;
      outcome = r.outcome;
      left = none r.left is_right.0 i;
      right = none r.right is_right.1 i;
      first = none r.first is_first.1 i;
      second = none r.second is_second.1 i;
      current = none r.current is_current.1 i;
      giving = none r.giving is_giving.1 i;
      grip = none r.grip is_grip.1 i;
      ticket = none r.ticket is_ticket.1 i;
      place = none r.place is_place.1 i;
      notices = none r.notices is_notices.1 i;
      t1 = none r.t1 is_t1.1 i;
      t0 = none r.t0 is_t0.1 i;
      taken = none r.taken is_taken.1 i;
    }
