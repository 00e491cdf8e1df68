-- Laws of a list that is laid into lent room, one element after another. Assumes nothing.
use Rattle.std.specs.Prelude.{◌≡◌, refl, List, [], ◌∷◌, ℕ, zero, suc, ◌+◌, ◌<◌, min, length, get_or, set, take}
use Rattle.std.proofs.Common.{sym, ap, ◌∙◌, add-one, arith}
use Rattle.lock.specs.declared.Operation.{Operation}
use Rattle.runs.specs.rules.Ahead.{laid}

pub laid_none : (os ws : List Operation) → laid (take 0 os) ws ≡ ws
unfolding laid
laid_none os ws = refl

pub laid_length : (os ws : List Operation) → length (laid os ws) ≡ length ws
unfolding laid
laid_length [] ws = refl
laid_length (o ∷ os) [] = refl
laid_length (o ∷ os) (w ∷ ws) = ap suc (laid_length os ws)

laid_suc : (i : ℕ) (os ws : List Operation) (d : Operation) → i < length os → set (laid (take i os) ws) i (get_or os i d) ≡ laid (take (suc i) os) ws
unfolding laid
laid_suc i [] ws d b = absurd (omega arith)
laid_suc zero (o ∷ os) [] d b = refl
laid_suc zero (o ∷ os) (w ∷ ws) d b = refl
laid_suc (suc i) (o ∷ os) [] d b = refl
laid_suc (suc i) (o ∷ os) (w ∷ ws) d b = ap (λ (l : List Operation). o ∷ l) (laid_suc i os ws d (omega arith))

pub laid_next : (i : ℕ) (os ws : List Operation) (d : Operation) → i < length os → set (laid (take i os) ws) i (get_or os i d) ≡ laid (take (i + 1) os) ws
laid_next i os ws d b = laid_suc i os ws d b ∙ ap (λ (k : ℕ). laid (take k os) ws) (sym (add-one i))

-- as many as there are, or as there is room for
pub laid_all : (i : ℕ) (os ws : List Operation) → i ≡ min (length ws) (length os) → laid (take i os) ws ≡ laid os ws
unfolding laid
laid_all zero [] ws e = refl
laid_all (suc i) [] ws e = refl
laid_all zero (o ∷ os) [] e = refl
laid_all (suc i) (o ∷ os) [] e = refl
laid_all zero (o ∷ os) (w ∷ ws) e = absurd (omega arith)
laid_all (suc i) (o ∷ os) (w ∷ ws) e = ap (λ (l : List Operation). o ∷ l) (laid_all i os ws (omega arith))
