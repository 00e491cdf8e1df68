-- Laws: the search finds the least of all covers of at most k nodes, for every k. Assumes nothing.
use Rattle.std.specs.Prelude.{◌≡◌, refl, length, eqb, leb}
use Rattle.std.proofs.Common.{sym, ap, leb→le}
use Rattle.std.proofs.Math.Path.{subst}
use Rattle.std.proofs.Math.Logic.{inl, inr, ⊎_elim}
use mathlib.Core.List.{List, [], ◌∷◌}
use Rattle.std.proofs.Math.Option.{Option, none, some}
use Prim.Native.Nat.{ℕ, zero, suc, ◌≤◌, ◌<◌}
use native.Mathlib.Omega.{arith}
use Rattle.std.proofs.Math.Dec.{eqb→eq, nleb→lt}
use Rattle.base.specs.rules.Choice.{choose}
use Rattle.base.specs.laws.ChoiceLaws.{on_choose, choose_le, choose_gt, choose_eq, by_lt}
use Rattle.tree.specs.rules.Tree.{holder, level, left, right, units}
use Rattle.tree.proofs.laws.Level.{level_pos}
use Rattle.tree.proofs.laws.Range.{holds_holder, holder_node, holder_own, size_pos, root_node, root_left, root_size}
use Rattle.cover.specs.rules.Cover.{total, Before, rank, Least}
use Rattle.cover.proofs.laws.Order.{Upto, upto_trans, before_yes, before_no, before_not, before_trans}
use Rattle.cover.specs.rules.Search.{before, lesser, behind, least_of, rest, search, found, least_cover}
use Rattle.cover.proofs.laws.Chain.{Rest, Chain, covers_chain, chain_covers}

module _ (h l r : ℕ) where
  abbrev Result : Type 0
  Result = Option (List ℕ)

  -- ---- what is found is at least as good as any list of the same kind

  -- a list is found, and c is not before it
  unfoldable pub AtMost : Option (List ℕ) → List ℕ → Type 0
  AtMost none c = ⊥
  AtMost (some b) c = Upto (rank h l r b) (rank h l r c)

  lesser_l : (a b : Result) (c : List ℕ) → AtMost a c → AtMost (lesser h l r a b) c
  unfolding AtMost lesser
  lesser_l none b c v = absurd v
  lesser_l (some a) none c v = v
  lesser_l (some a) (some b) c v =
      let p = rank h l r a in
      let q = rank h l r b in
      on_choose (λ x. AtMost x c) (before p q) (some a) (some b) (λ _. v) (λ t. upto_trans q p (rank h l r c) (before_no p q t) v)

  lesser_r : (a b : Result) (c : List ℕ) → AtMost b c → AtMost (lesser h l r a b) c
  unfolding AtMost lesser
  lesser_r none b c v = v
  lesser_r (some a) none c v = absurd v
  lesser_r (some a) (some b) c v =
      let p = rank h l r a in
      let q = rank h l r b in
      on_choose (λ x. AtMost x c) (before p q) (some a) (some b) (λ t. upto_trans p q (rank h l r c) (inr (before_yes p q t)) v) (λ _. v)

  least_at : (n : ℕ) (f : ℕ → Result) (c : List ℕ) (d : ℕ) → 1 ≤ d → d ≤ n → AtMost (f d) c → AtMost (least_of h l r n f) c
  unfolding least_of
  least_at zero f c d a b v = absurd (omega arith)
  least_at (suc n) f c d a b v =
      by_lt d (suc n)
      (λ q. lesser_r (f (suc n)) (least_of h l r n f) c (least_at n f c d a (omega arith) v))
      (λ q. let e : d ≡ suc n = omega arith in lesser_l (f (suc n)) (least_of h l r n f) c (subst (λ (x : ℕ). AtMost (f x) c) e v))

  behind_at : (p : ℕ) (b : Result) (c : List ℕ) → AtMost b c → AtMost (behind h l r p b) (p ∷ c)
  unfolding AtMost behind rank total Before
  behind_at p none c v = absurd v
  behind_at p (some b) c v =
      ⊎_elim (λ e. let f : b ≡ c = cc in inl (ap (λ (z : List ℕ). rank h l r (p ∷ z)) f))
      (λ x. inr (⊎_elim (λ i. inl (omega arith)) (λ i. inr (omega (arith, i.0), ⊎_elim (λ j. inl (omega arith)) (λ j. inr (omega (arith, j.0), inr (refl, j.1))) i.1)) x))
      v

  rest_least : (k t : ℕ) (c : List ℕ) → Rest h l r t c → length c ≤ k → AtMost (rest h l r k t) c
  unfolding Rest rest AtMost
  rest_least zero t [] v b = subst (λ x. AtMost x []) (sym (choose_le r t (some []) none v)) (inl refl)
  rest_least zero t (p ∷ c) v b = absurd (omega arith)
  rest_least (suc k) t [] v b = subst (λ x. AtMost x []) (sym (choose_le r t (some []) _ v)) (inl refl)
  rest_least (suc k) t (p ∷ c) v b =
      let z = size_pos h p v.1 in
      let e : holder h (level p) t ≡ p = holds_holder h p v.1 t (record { low = omega (arith, v.2); high = omega (arith, v.2) }) in
      subst (λ x. AtMost x (p ∷ c)) (sym (choose_gt r t (some []) _ v.0))
      (least_at h _ (p ∷ c) (level p) (level_pos p) v.1.inside
      (subst (λ (x : ℕ). AtMost (choose (eqb (left h x) t) (behind h l r x (rest h l r k (right h x))) none) (p ∷ c)) (sym e)
      (subst (λ x. AtMost x (p ∷ c)) (sym (choose_eq (left h p) t _ none v.2))
      (behind_at p (rest h l r k (right h p)) c (rest_least k (right h p) c v.3 (omega arith))))))

  pub search_least : (k : ℕ) (c : List ℕ) → Chain h l r c → length c ≤ k → AtMost (search h l r k) c
  unfolding Chain search
  search_least k [] v b = absurd v
  search_least zero (p ∷ c) v b = absurd (omega arith)
  search_least (suc k) (p ∷ c) v b =
      let e : holder h (level p) l ≡ p = holds_holder h p v.0 l v.1 in
      least_at h _ (p ∷ c) (level p) (level_pos p) v.0.inside
      (subst (λ (x : ℕ). AtMost (behind h l r x (rest h l r k (right h x))) (p ∷ c)) (sym e)
      (behind_at p (rest h l r k (right h p)) c (rest_least k (right h p) c v.2 (omega arith))))

  -- ---- and is of that kind

  -- nothing is found, or a list that has P
  unfoldable pub Has : (List ℕ → Type 0) → Option (List ℕ) → Type 0
  Has P none = Unit
  Has P (some b) = P b

  lesser_has : (P : List ℕ → Type 0) (a b : Result) → Has P a → Has P b → Has P (lesser h l r a b)
  unfolding Has lesser
  lesser_has P none b v w = w
  lesser_has P (some a) none v w = v
  lesser_has P (some a) (some b) v w = on_choose (λ x. Has P x) (before (rank h l r a) (rank h l r b)) (some a) (some b) (λ _. v) (λ _. w)

  least_has : (P : List ℕ → Type 0) (n : ℕ) (f : ℕ → Result) → ((d : ℕ) → 1 ≤ d → d ≤ n → Has P (f d)) → Has P (least_of h l r n f)
  unfolding least_of Has
  least_has P zero f v = tt
  least_has P (suc n) f v = lesser_has P (f (suc n)) (least_of h l r n f) (v (suc n) (omega arith) (omega arith)) (least_has P n f (λ d a b. v d a (omega arith)))

  behind_has : (P Q : List ℕ → Type 0) (p : ℕ) (b : Result) → Has P b → ((c : List ℕ) → P c → Q (p ∷ c)) → Has Q (behind h l r p b)
  unfolding behind Has
  behind_has P Q p none v f = tt
  behind_has P Q p (some b) v f = f b v

  module _ (hh : 1 ≤ h) (fits : r ≤ units h) where
    rest_has : (k t : ℕ) → Has (λ c. Rest h l r t c × (length c ≤ k)) (rest h l r k t)
    unfolding Has rest Rest
    rest_has zero t = on_choose (λ x. Has (λ c. Rest h l r t c × (length c ≤ 0)) x) (leb r t) _ _ (λ e. (leb→le r t e, omega arith)) (λ _. tt)
    rest_has (suc k) t =
        let P : List ℕ → Type 0 = λ c. Rest h l r t c × (length c ≤ suc k) in
        on_choose (λ x. Has P x) (leb r t) _ _ (λ e. (leb→le r t e, omega arith))
        (λ e. let b = nleb→lt r t e in
        least_has P h _ (λ d x y. on_choose (λ z. Has P z) (eqb (left h (holder h d t)) t) _ _
        (λ q. behind_has (λ c. Rest h l r (right h (holder h d t)) c × (length c ≤ k)) P (holder h d t) _ (rest_has k (right h (holder h d t)))
        (λ c v. ((b, holder_node h t hh (omega arith) d x y, eqb→eq (left h (holder h d t)) t q, v.0), omega (arith, v.1))))
        (λ _. tt)))

    pub search_chain : (k : ℕ) → l < r → Has (λ c. Chain h l r c × (length c ≤ k)) (search h l r k)
    unfolding Has search Chain
    search_chain zero b = tt
    search_chain (suc k) b =
        let P : List ℕ → Type 0 = λ c. Chain h l r c × (length c ≤ suc k) in
        least_has P h _ (λ d x y.
        behind_has (λ c. Rest h l r (right h (holder h d l)) c × (length c ≤ k)) P (holder h d l) _ (rest_has k (right h (holder h d l)))
        (λ c v. ((holder_node h l hh (omega arith) d x y, holder_own h l hh (omega arith) d x y, v.0), omega (arith, v.1))))

  -- ---- the theorem

  module _ (hh : 1 ≤ h) (some_unit : l < r) (fits : r ≤ units h) (k : ℕ) (k1 : 1 ≤ k) where
    -- the root alone is a cover, so something is found
    root_chain : Chain h l r (1 ∷ [])
    unfolding Chain Rest
    root_chain = (root_node h hh, record { low = omega (arith, root_left h hh); high = omega (arith, root_left h hh, root_size h hh) }, omega (arith, root_left h hh, root_size h hh))

    found_has : (P : List ℕ → Type 0) (s : Result) → AtMost s (1 ∷ []) → Has P s → P (found s)
    unfolding AtMost Has found
    found_has P none v w = absurd v
    found_has P (some c) v w = w

    found_at : (s : Result) (c : List ℕ) → AtMost s c → Upto (rank h l r (found s)) (rank h l r c)
    unfolding AtMost found
    found_at none c v = absurd v
    found_at (some b) c v = v

    pub least_chain : Chain h l r (least_cover k h l r) × (length (least_cover k h l r) ≤ k)
    unfolding least_cover
    least_chain = found_has (λ c. Chain h l r c × (length c ≤ k)) (search h l r k) (search_least k (1 ∷ []) root_chain (omega arith)) (search_chain hh fits k some_unit)

    pub least_upto : (c : List ℕ) → Chain h l r c → length c ≤ k → Upto (rank h l r (least_cover k h l r)) (rank h l r c)
    unfolding least_cover
    least_upto c v b = found_at (search h l r k) c (search_least k c v b)

    same_rank : (c d : List ℕ) → rank h l r c ≡ rank h l r d → c ≡ d
    unfolding rank
    same_rank c d e = cc

    -- document 01's order decides: it is the least of ALL covers of at most k nodes
    pub least_cover_lem : Least k h l r (least_cover k h l r)
    least_cover_lem = record {
      covers = chain_covers h l r some_unit (least_cover k h l r) least_chain.0;
      few = least_chain.1;
      least = λ d v b. ⊎_elim (λ e. inl (same_rank (least_cover k h l r) d e)) (λ e. inr e) (least_upto d (covers_chain h l r some_unit d v) b);
    }

    -- and no other list is
    pub least_only : (c : List ℕ) → Least k h l r c → c ≡ least_cover k h l r
    least_only c v =
        ⊎_elim (λ e. e)
        (λ x. ⊎_elim (λ e. sym e) (λ y. absurd (before_not (rank h l r c) (before_trans (rank h l r c) (rank h l r (least_cover k h l r)) (rank h l r c) x y))) (least_cover_lem.least c v.covers v.few))
        (v.least (least_cover k h l r) least_cover_lem.covers least_cover_lem.few)
