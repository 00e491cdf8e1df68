-- The law that the safety of the lock rests on: for b strictly below a, some node that b notifies is checked by a. Assumes nothing.
use Rattle.std.specs.Prelude.{◌≡◌, Bool, true, false, ℕ, zero, suc, ◌+◌, ◌-◌, ◌≤◌, ◌<◌, T, leb, ltb}
use Rattle.std.proofs.Common.{sym, ap, ◌∙◌, arith, leb→le, ltb→lt}
use Rattle.base.specs.rules.Choice.{choose}
use Rattle.base.specs.laws.Every.{both, both_l, both_r, every, every_at}
use Rattle.tree.specs.rules.Tree.{climb, level, Node, Above}
use Rattle.tree.specs.rules.Lists.{ancestor}
use Rattle.tree.proofs.laws.Climb.{climb_add}
use Rattle.tree.proofs.laws.Level.{level_pos}
use Rattle.tree.specs.laws.Notify.{notify_level}
use Rattle.tree.proofs.laws.Notify.{notify_count, notify_node, Bounded, notify_node_lem, notify_higher}
use Rattle.tree.proofs.laws.Check.{Checked}

-- the first place from i on with a level below e, in f steps at most
place_below : ℕ → ℕ → ℕ → ℕ → ℕ → ℕ
place_below zero i m d e = i
place_below (suc f) i m d e = elim (ltb (notify_level m d i) e) [ true ↦ i | false ↦ place_below f (suc i) m d e ]

-- the place at which a node of level d notifies a node that its ancestor of level a checks
pub meet_place : ℕ → ℕ → ℕ → ℕ
meet_place m d a = place_below 12 0 m d (a + m)

meets : ℕ → ℕ → ℕ → Bool
meets m d a = let i = meet_place m d a in both (ltb i (notify_count m d)) (both (leb a (notify_level m d i)) (ltb (notify_level m d i) (a + m)))

all_meet : T (every 4 1 (λ m. every 12 1 (λ d. every (d - 1) 1 (λ a. meets m d a))))
unfolding every both meets meet_place place_below notify_count notify_level choose
all_meet = tt

meets_at : (m d a : ℕ) → Bounded m d → 1 ≤ a → a < d → T (meets m d a)
meets_at m d a b a1 ad =
    every_at (d - 1) 1 (λ c. meets m d c)
    (every_at 12 1 (λ e. every (e - 1) 1 (λ c. meets m e c))
    (every_at 4 1 (λ n. every 12 1 (λ e. every (e - 1) 1 (λ c. meets n e c))) all_meet m b.m_some (omega (arith, b.m_most)))
    d b.d_some (omega (arith, b.d_most)))
    a a1 (omega arith)

pub record Meeting (h m a b : ℕ) : Type 0 where
  pub place : ℕ
  pub listed : place < notify_count m (level b)
  pub checked : Checked h m a (notify_node m b place)

pub meeting : (h m a b : ℕ) → h ≤ 12 → 1 ≤ m → m ≤ 4 → Node h b → 1 ≤ a → Above a b → Meeting h m a b
unfolding meets ancestor
meeting h m a b h12 m1 m4 v a1 w =
    let d = level b in
    let i = meet_place m d (level a) in
    let e = notify_level m d i in
    let y : Bounded m d = record { m_some = m1; m_most = m4; d_some = level_pos b; d_most = omega (arith, v.inside) } in
    let t = meets_at m d (level a) y (level_pos a) w.higher in
    let r = both_r (ltb i (notify_count m d)) _ t in
    let listed = ltb→lt i (notify_count m d) (both_l _ _ t) in
    let low = leb→le (level a) e (both_l _ _ r) in
    let near = ltb→lt e (level a + m) (both_r (leb (level a) e) _ r) in
    let lc : level (notify_node m b i) ≡ e = (notify_node_lem m b y i listed v.some).1 in
    let higher : e < d = notify_higher m d i y listed in
    record {
      place = i;
      listed = listed;
      checked = record {
        low = omega arith;
        near = omega arith;
        inner = omega (arith, v.inside);
        meets = sym (climb_add (level (notify_node m b i) - level a) (d - e) b) ∙ ap (λ (k : ℕ). climb k b) (let z : level (notify_node m b i) - level a + (d - e) ≡ d - level a = omega arith in z) ∙ w.meets;
      };
    }
