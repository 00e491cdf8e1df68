-- Laws of lists of operations: what one leads to, reads alone, and lists by place. Assumes nothing.
use Rattle.std.specs.Prelude.{◌≡◌, refl, Bool, true, false, List, [], ◌∷◌, ◌++◌, map, ℕ, suc, ◌-◌, ◌≤◌, ◌<◌, T}
use Rattle.std.proofs.Common.{sym, ap, subst, ◌∙◌, arith}
use Rattle.base.specs.laws.ChoiceLaws.{by_lt}
use Rattle.tree.specs.rules.Lists.{row}
use Rattle.lock.specs.declared.Operation.{Operation}

pub record Leads (os l : List Operation) : Type 0 where
  pub rest : List Operation
  pub whole : os ++ rest ≡ l

-- operations that all leave their word as it is
unfoldable pub Reads : List Operation → Type 0
Reads [] = Unit
Reads (o ∷ os) = (o.kind ≡ 1) × Reads os

abbrev is_some : List Operation → Bool
is_some [] = false
is_some (o ∷ os) = true

pub none_some : (o : Operation) (l : List Operation) → [] ≡ o ∷ l → ⊥
none_some o l e = subst T (sym (ap is_some e)) tt

abbrev head_of : Operation → List Operation → Operation
head_of d [] = d
head_of d (o ∷ l) = o

abbrev tail_of : List Operation → List Operation
tail_of [] = []
tail_of (o ∷ l) = l

pub first_same : (o p : Operation) (l k : List Operation) → o ∷ l ≡ p ∷ k → o ≡ p
first_same o p l k e = ap (head_of o) e

pub rest_same : (o p : Operation) (l k : List Operation) → o ∷ l ≡ p ∷ k → l ≡ k
rest_same o p l k e = ap tail_of e

pub reads_rest : (o : Operation) (l k : List Operation) → Reads l → l ≡ o ∷ k → (o.kind ≡ 1) × Reads k
unfolding Reads
reads_rest o l k v e = subst Reads e v

pub reads_mapped : (f : ℕ → Operation) → ((i : ℕ) → (f i).kind ≡ 1) → (l : List ℕ) → Reads (map f l)
unfolding Reads
reads_mapped f h [] = tt
reads_mapped f h (i ∷ l) = (h i, reads_mapped f h l)

pub nothing_behind : (l : List Operation) → l ++ [] ≡ l
nothing_behind [] = refl
nothing_behind (o ∷ l) = ap (λ (k : List Operation). o ∷ k) (nothing_behind l)

pub joined : (a b c : List Operation) → (a ++ b) ++ c ≡ a ++ (b ++ c)
joined [] b c = refl
joined (o ∷ a) b c = ap (λ (k : List Operation). o ∷ k) (joined a b c)

-- the first of a list by place, and the rest
pub by_place : (f : ℕ → Operation) (n i : ℕ) (o : Operation) (l : List Operation) → map f (row (n - i) i) ≡ o ∷ l → (o ≡ f i) × (i < n) × (l ≡ map f (row (n - suc i) (suc i)))
unfolding row
by_place f n i o l e =
    by_lt i n
    (λ b. let k : n - i ≡ suc (n - suc i) = omega arith in
    let g : f i ∷ map f (row (n - suc i) (suc i)) ≡ o ∷ l = ap (λ (x : ℕ). map f (row x i)) (sym k) ∙ e in
    (sym (first_same _ _ _ _ g), b, sym (rest_same _ _ _ _ g)))
    (λ b. let k : n - i ≡ 0 = omega arith in absurd (none_some o l (ap (λ (x : ℕ). map f (row x i)) (sym k) ∙ e)))

pub past_place : (f : ℕ → Operation) (n i : ℕ) → n ≤ i → map f (row (n - i) i) ≡ []
unfolding row
past_place f n i b = ap (λ (x : ℕ). map f (row x i)) (let k : n - i ≡ 0 = omega arith in k)
