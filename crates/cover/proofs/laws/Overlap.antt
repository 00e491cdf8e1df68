-- Laws: two windows with a common unit have pieces that are equal, or of which one is above the other. Assumes nothing.
use Rattle.std.specs.Prelude.{◌≡◌, ◌⊎◌, List, ℕ, ◌≤◌, ◌<◌}
use Rattle.tree.specs.rules.Tree.{units, Above}
use Rattle.tree.proofs.laws.Range.{nested}
use Rattle.cover.specs.rules.Cover.{Holder, Covers}

-- two pieces, one of each list, that stand for unit u
pub record Overlap (h : ℕ) (c d : List ℕ) (u : ℕ) : Type 0 where
  pub mine : Holder h c u
  pub other : Holder h d u
  pub nested : (mine.node ≡ other.node) ⊎ (Above mine.node other.node ⊎ Above other.node mine.node)

pub overlap : (h l r : ℕ) (c : List ℕ) → Covers h l r c → (k s : ℕ) (d : List ℕ) → Covers h k s d
    → (u : ℕ) → 1 ≤ h → u < units h → l ≤ u → u < r → k ≤ u → u < s → Overlap h c d u
overlap h l r c v k s d w u hh hu a b x y =
    let p = v.holds u a b in
    let q = w.holds u x y in
    record {
      mine = p;
      other = q;
      nested = nested h p.node q.node u hh hu (v.meets p.node p.among).node (w.meets q.node q.among).node p.holds q.holds;
    }
