-- Laws of the order of a dictionary, and of the test for it. Assumes nothing.
use Rattle.std.specs.Prelude.{◌≡◌, refl, ◌⊎◌, true, false, not, List, [], ◌∷◌, ℕ, T, eqb, ltb}
use Rattle.std.proofs.Common.{sym, ◌∙◌, subst, inl, inr, ⊎_elim, arith, eqb→eq, ltb→lt, nltb→le, T_not}
use Rattle.std.proofs.Math.Dec.{eqb_refl}
use Rattle.base.specs.rules.Choice.{choose}
use Rattle.base.specs.laws.ChoiceLaws.{on_choose, by_lt}
use Rattle.cover.specs.rules.Cover.{Before}
use Rattle.cover.specs.rules.Search.{before}

pub before_trans : (a b c : List ℕ) → Before a b → Before b c → Before a c
unfolding Before
before_trans [] [] c p q = absurd p
before_trans [] (y ∷ b) [] p q = absurd q
before_trans [] (y ∷ b) (z ∷ c) p q = tt
before_trans (x ∷ a) [] c p q = absurd p
before_trans (x ∷ a) (y ∷ b) [] p q = absurd q
before_trans (x ∷ a) (y ∷ b) (z ∷ c) p q =
    ⊎_elim
    (λ i. ⊎_elim (λ j. inl (omega arith)) (λ j. inl (omega (arith, j.0))) q)
    (λ i. ⊎_elim (λ j. inl (omega (arith, i.0))) (λ j. inr (i.0 ∙ j.0, before_trans a b c i.1 j.1)) q)
    p

-- no list is before itself
pub before_not : (a : List ℕ) → Before a a → ⊥
unfolding Before
before_not [] p = p
before_not (x ∷ a) p = ⊎_elim (λ i. omega arith) (λ i. before_not a i.1) p

-- equal or before
abbrev pub Upto : List ℕ → List ℕ → Type 0
Upto a b = (a ≡ b) ⊎ Before a b

pub upto_trans : (a b c : List ℕ) → Upto a b → Upto b c → Upto a c
upto_trans a b c p q =
    ⊎_elim (λ i. subst (λ x. Upto x c) (sym i) q) (λ i. ⊎_elim (λ j. inr (subst (λ x. Before a x) j i)) (λ j. inr (before_trans a b c i j)) q) p

-- ---- the test of it

pub before_yes : (a b : List ℕ) → T (before a b) → Before a b
unfolding Before before
before_yes [] [] t = absurd t
before_yes [] (y ∷ b) t = tt
before_yes (x ∷ a) [] t = absurd t
before_yes (x ∷ a) (y ∷ b) t =
    on_choose (λ z. T z → Before (x ∷ a) (y ∷ b)) (ltb x y) true (choose (eqb x y) (before a b) false)
    (λ l _. inl (ltb→lt x y l))
    (λ _. on_choose (λ z. T z → Before (x ∷ a) (y ∷ b)) (eqb x y) (before a b) false (λ e s. inr (eqb→eq x y e, before_yes a b s)) (λ _ s. absurd s))
    t

pub before_no : (a b : List ℕ) → T (not (before a b)) → Upto b a
unfolding Before before
before_no [] [] t = inl refl
before_no [] (y ∷ b) t = absurd t
before_no (x ∷ a) [] t = inr tt
before_no (x ∷ a) (y ∷ b) t =
    on_choose (λ z. T (not z) → Upto (y ∷ b) (x ∷ a)) (ltb x y) true (choose (eqb x y) (before a b) false)
    (λ _ s. absurd s)
    (λ l. on_choose (λ z. T (not z) → Upto (y ∷ b) (x ∷ a)) (eqb x y) (before a b) false
    (λ e s. let f : y ≡ x = sym (eqb→eq x y e) in ⊎_elim (λ i. inl (λ j. f j ∷ i j)) (λ i. inr (inr (f, i))) (before_no a b s))
    (λ e s. by_lt y x (λ q. inr (inl q)) (λ q. let g = nltb→le x y l in let f : x ≡ y = omega arith in absurd (T_not (eqb x y) e (subst (λ (z : ℕ). T (eqb x z)) f (eqb_refl x))))))
    t
