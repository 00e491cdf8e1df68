-- Numbers one after another in a line, a space before each. Assumes nothing.
use Rattle.std.specs.Prelude.{◌≡◌, refl, List, [], ◌∷◌, ◌++◌, ℕ}
use Rattle.std.specs.List.{flat_map}
use Rattle.std.proofs.Common.{ap, ◌∙◌, append_assoc}
use Rattle.schedule.specs.rules.Text.{spaced}

abbrev pub all_spaced : List ℕ → List ℕ
all_spaced = flat_map spaced

-- the same, and what stands behind them
abbrev pub spaced_before : List ℕ → List ℕ → List ℕ
spaced_before [] rest = rest
spaced_before (n ∷ ns) rest = spaced n ++ spaced_before ns rest

pub spaced_rest : (ns rest : List ℕ) → all_spaced ns ++ rest ≡ spaced_before ns rest
spaced_rest [] rest = refl
spaced_rest (n ∷ ns) rest = append_assoc (spaced n) (all_spaced ns) rest ∙ ap (λ (l : List ℕ). spaced n ++ l) (spaced_rest ns rest)

pub in_order : (p q r s t : List ℕ) → p ++ q ++ r ++ s ++ t ≡ p ++ (q ++ (r ++ (s ++ t)))
in_order p q r s t = simp append_assoc
