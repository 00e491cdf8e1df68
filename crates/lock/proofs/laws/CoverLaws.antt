-- Laws of a window's cover: a window that is not outside the tree has one, and its first piece is a node. Assumes nothing.
use Rattle.std.specs.Prelude.{◌≡◌, false, List, [], ◌∷◌, ℕ, get_or}
use Rattle.std.proofs.Common.{sym, subst, arith}
use Rattle.tree.specs.rules.Tree.{Node}
use Rattle.cover.specs.rules.Answer.{window_outside}
use Rattle.cover.proofs.laws.Code.{window_inside}
use Rattle.cover.specs.laws.Lowest.{Window}
use Rattle.cover.proofs.laws.Least.{least_chain}
use Rattle.cover.proofs.laws.Chain.{Chain}
use Rattle.lock.specs.declared.Settings.{Settings}
use Rattle.lock.specs.rules.Records.{cover_of}
use Rattle.lock.specs.laws.Active.{Settled}
use Rattle.lock.proofs.laws.Placed.{widen}

pub inside_window : {s : Settings} {l r : ℕ} → Settled s → window_outside s.levels l r ≡ false → Window s.levels l r
inside_window {s} {l} {r} v e = window_inside s.levels l r (omega (arith, v.levels_some)) v.levels_most e

-- the first piece of the least cover is a node
chain_first : (h l r : ℕ) (c : List ℕ) → Chain h l r c → Node h (get_or c 0 0)
unfolding Chain
chain_first h l r [] v = absurd v
chain_first h l r (p ∷ c) v = v.0

pub first_node : (s : Settings) (l r n : ℕ) → Settled s → Window s.levels l r → n ≡ get_or (cover_of s l r) 0 0 → Node 12 n
first_node s l r n v w e =
    subst (λ (x : ℕ). Node 12 x) (sym e)
    (widen s.levels _ v.levels_most (chain_first s.levels l r (cover_of s l r) (least_chain s.levels l r w.levels w.some w.fits 2 (omega arith)).0))
