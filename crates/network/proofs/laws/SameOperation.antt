-- Laws of operations that are the same, and of lists of them. Assumes nothing.
use Rattle.std.specs.Prelude.{◌≡◌, refl, true, ◌&&◌, List, [], ◌∷◌, T}
use Rattle.std.proofs.Common.{sym, ap₂, subst}
use Rattle.base.specs.laws.TestLaws.{both_true}
use Rattle.lock.specs.declared.Operation.{Operation}
use Rattle.runs.specs.laws.FirstDue.{same_itself, same_equal}
use Rattle.runs.specs.rules.Ahead.{same}
use Rattle.network.specs.rules.Network.{same_list}

-- a list is the same as no other
pub lists_equal : (os ps : List Operation) → same_list os ps ≡ true → os ≡ ps
unfolding same_list
lists_equal [] [] e = refl
lists_equal [] (p ∷ ps) e = absurd (subst T (sym e) tt)
lists_equal (o ∷ os) [] e = absurd (subst T (sym e) tt)
lists_equal (o ∷ os) (p ∷ ps) e = let v = both_true (same o p) (same_list os ps) e in ap₂ ◌∷◌ (same_equal o p v.0) (lists_equal os ps v.1)

pub list_itself : (os : List Operation) → same_list os os ≡ true
unfolding same_list
list_itself [] = refl
list_itself (o ∷ os) = λ i. same_itself o i && list_itself os i
