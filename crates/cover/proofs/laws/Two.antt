-- Laws: for two nodes the least cover is the split, since every other cover of one or two nodes has more over-cover. Assumes nothing.
use Rattle.std.specs.Prelude.{◌≡◌, ◌⊎◌, ℕ, suc, ◌+◌, ◌-◌, ◌*◌, ◌≤◌, ◌<◌, eqb, length}
use Rattle.std.proofs.Math.Path.{sym, ap, subst}
use Rattle.std.proofs.Common.{ap₂, ◌∙◌, eqb→eq}
use Rattle.std.proofs.Math.Logic.{inl, inr, ⊎_elim}
use mathlib.Core.List.{List, [], ◌∷◌}
use native.Mathlib.Omega.{arith}
use Rattle.base.specs.laws.ChoiceLaws.{on_choose, choose_eq, choose_ne}
use Rattle.tree.specs.rules.Tree.{size}
use Rattle.tree.proofs.laws.Range.{size_pos}
use Rattle.cover.specs.rules.Cover.{over, total, Before, rank}
use Rattle.cover.specs.rules.Search.{least_cover}
use Rattle.cover.proofs.laws.Chain.{Rest, Chain}
use Rattle.cover.proofs.laws.Least.{least_chain, least_upto}
use Rattle.cover.proofs.laws.Over.{over_le, over_inner, over_grow, part_all, part_ends, part_starts}
use Rattle.cover.specs.laws.Lowest.{lowest, Window}
use Rattle.cover.proofs.laws.Lowest.{Has, low_has, low_least}
use Rattle.cover.specs.laws.Split.{edge_child, cut}
use Rattle.cover.proofs.laws.Split.{split, Shape, Cut, cut_at, Halves, halves}

module _ (h l r : ℕ) (w : Window h l r) where
  abbrev n : ℕ
  n = lowest h l r

  abbrev t : ℕ
  t = cut h l r

  abbrev P : ℕ
  P = lowest h l t

  abbrev Q : ℕ
  Q = lowest h t r

  has : Has h l r n
  has = low_has h l r w

  -- two halves take less than the whole
  halves_less : Halves h l r w → over h l r P + over h l r Q < over h l r n
  halves_less s =
      sum (over h l r P) (over h l r Q) (size h P) (size h Q) (over h l r n) (size h n)
      (rw (part_ends h l r P t s.has_p.low s.end_p (omega (arith, s.before))) at (over_le h l r P))
      (rw (part_starts h l r Q t s.start_q (omega (arith, s.after)) s.has_q.high) at (over_le h l r Q))
      (over_inner h l r n s.inner ∙ ap (λ (k : ℕ). size h n - k) (part_all h l r n has.low has.high))
      s.size_p s.size_q s.after s.before
      (omega (arith, s.has_p.low, s.end_p)) (omega (arith, s.start_q, s.has_q.high)) (size_pos h P s.has_p.node)
    where
      sum : (a b p q c z : ℕ) → a ≤ p - (t - l) → b ≤ q - (r - t) → c ≡ z - (r - l) → 4 * p ≤ z → 4 * q ≤ z → l < t → t < r → t - l ≤ p → r - t ≤ q → 64 ≤ p → a + b < c
      sum a b p q c z h1 h2 h3 h4 h5 h6 h7 h8 h9 h10 = omega arith

  -- ---- every chain of one or two nodes is the split, or has more over-cover

  abbrev Loses : List ℕ → List ℕ → Type 0
  Loses b c = (c ≡ b) ⊎ (total h l r b < total h l r c)

  one_has : (m : ℕ) → Chain h l r (m ∷ []) → Has h l r m
  unfolding Chain Rest
  one_has m c = record { node = c.0; low = c.1.low; high = c.2 }

  one_one : (m : ℕ) → Has h l r m → (m ≡ n) ⊎ (over h l r n < over h l r m)
  one_one m c =
      let a = part_all h l r n has.low has.high in
      let b = part_all h l r m c.low c.high in
      ⊎_elim (λ e. inl e) (λ z. inr (over_grow h l r n m has.node z (a ∙ sym b) (omega (arith, w.some)) (omega (arith, has.low, has.high))))
      (low_least h l r w m c)

  two_shape : (p q : ℕ) → Chain h l r (p ∷ q ∷ []) → Shape h l r w p q
  unfolding Chain Rest
  two_shape p q c =
      let v = c.2 in
      record { vp = c.0; vq = v.1; low = c.1.low; joint = sym v.2; high = v.3; after = omega (arith, v.2, c.1.high); before = omega (arith, v.0, v.2) }

  two_two : Halves h l r w → (p q : ℕ) → Shape h l r w p q → Cut h l r w q → Loses (P ∷ Q ∷ []) (p ∷ q ∷ [])
  unfolding total
  two_two s p q c k =
      let e = k.edge in
      let wp : Window h l t = record { levels = w.levels; most = w.most; some = s.after; fits = omega (arith, w.fits, s.before) } in
      let wq : Window h t r = record { levels = w.levels; most = w.most; some = s.before; fits = w.fits } in
      let ap' = part_ends h l r p t c.low (omega (arith, c.joint)) (omega (arith, s.before)) in
      let a_p = part_ends h l r P t s.has_p.low s.end_p (omega (arith, s.before)) in
      let aq = part_starts h l r q t (sym e) (omega (arith, s.after)) c.high in
      let a_q = part_starts h l r Q t s.start_q (omega (arith, s.after)) s.has_q.high in
      let fp : (p ≡ P) ⊎ (over h l r P < over h l r p) =
      ⊎_elim (λ e. inl e) (λ z. inr (over_grow h l r P p s.has_p.node z (a_p ∙ sym ap') (omega (arith, s.after)) (omega (arith, s.has_p.low, s.end_p))))
      (low_least h l t wp p (record { node = c.vp; low = c.low; high = omega (arith, c.joint) })) in
      let fq : (q ≡ Q) ⊎ (over h l r Q < over h l r q) =
      ⊎_elim (λ e. inl e) (λ z. inr (over_grow h l r Q q s.has_q.node z (a_q ∙ sym aq) (omega (arith, s.before)) (omega (arith, s.has_q.high, s.start_q))))
      (low_least h t r wq q (record { node = c.vq; low = omega arith; high = c.high })) in
      ⊎_elim
      (λ i. let oi : over h l r p ≡ over h l r P = ap (over h l r) i in ⊎_elim (λ j. inl (ap₂ (λ a b. a ∷ b ∷ []) i j)) (λ j. inr (omega arith)) fq)
      (λ i. inr (⊎_elim (λ j. let oj : over h l r q ≡ over h l r Q = ap (over h l r) j in omega arith) (λ j. omega arith) fq))
      fp

  pub split_two : edge_child h l r (r - 1) ≡ suc (edge_child h l r l) → split h l r ≡ lowest h l (cut h l r) ∷ lowest h (cut h l r) r ∷ []
  unfolding split
  split_two e = choose_eq (edge_child h l r (r - 1)) (suc (edge_child h l r l)) _ _ e

  pub split_one : (edge_child h l r (r - 1) ≡ suc (edge_child h l r l) → ⊥) → split h l r ≡ lowest h l r ∷ []
  unfolding split
  split_one e = choose_ne (edge_child h l r (r - 1)) (suc (edge_child h l r l)) _ _ e

  wins : (c : List ℕ) → Chain h l r c → length c ≤ 2 → Loses (split h l r) c
  unfolding Chain split total
  wins [] c b = absurd c
  wins (m ∷ []) c b =
      on_choose (λ z. Loses z (m ∷ [])) (eqb (edge_child h l r (r - 1)) (suc (edge_child h l r l))) (P ∷ Q ∷ []) (n ∷ [])
      (λ e. let z = halves_less (halves h l r w (eqb→eq (edge_child h l r (r - 1)) (suc (edge_child h l r l)) e)) in
      inr (⊎_elim (λ i. let o : over h l r m ≡ over h l r n = ap (over h l r) i in omega arith) (λ i. omega arith) (one_one m (one_has m c))))
      (λ _. ⊎_elim (λ i. inl (ap (λ a. a ∷ []) i)) (λ i. inr (omega arith)) (one_one m (one_has m c)))
  wins (p ∷ q ∷ []) c b =
      let s = two_shape p q c in
      let k = cut_at h l r w p q s in
      subst (λ z. Loses z (p ∷ q ∷ [])) (sym (split_two k.neighbours)) (two_two (halves h l r w k.neighbours) p q s k)
  wins (p ∷ q ∷ m ∷ c) v b = absurd (omega arith)

  -- the split is a chain of at most two nodes

  split_chain : Chain h l r (split h l r) × (length (split h l r) ≤ 2)
  unfolding split Chain Rest
  split_chain =
      on_choose (λ z. Chain h l r z × (length z ≤ 2)) (eqb (edge_child h l r (r - 1)) (suc (edge_child h l r l))) (P ∷ Q ∷ []) (n ∷ [])
      (λ e.
      let s = halves h l r w (eqb→eq (edge_child h l r (r - 1)) (suc (edge_child h l r l)) e) in (
        (s.has_p.node, record { low = s.has_p.low; high = omega (arith, s.end_p, s.after) }, (omega (arith, s.end_p, s.before), s.has_q.node, s.start_q ∙ sym s.end_p, s.has_q.high)),
        omega arith,
      ))
      (λ _. ((has.node, record { low = has.low; high = omega (arith, has.high, w.some) }, has.high), omega arith))

  upto_total : (c : List ℕ) → (rank h l r (least_cover 2 h l r) ≡ rank h l r c) ⊎ Before (rank h l r (least_cover 2 h l r)) (rank h l r c) → total h l r (least_cover 2 h l r) ≤ total h l r c
  unfolding rank Before
  upto_total c v =
      ⊎_elim (λ e. let f : total h l r (least_cover 2 h l r) ≡ total h l r c = cc in omega arith) (λ x. ⊎_elim (λ i. omega arith) (λ i. omega (arith, i.0)) x) v

  -- THE THEOREM for the code: of at most two nodes, the split is the least cover
  pub split_least : least_cover 2 h l r ≡ split h l r
  split_least =
      let a = least_chain h l r w.levels w.some w.fits 2 (omega arith) in
      let b = least_upto h l r w.levels w.some w.fits 2 (omega arith) (split h l r) split_chain.0 split_chain.1 in
      ⊎_elim (λ e. e) (λ x. absurd (omega (arith, upto_total (split h l r) b))) (wins (least_cover 2 h l r) a.0 a.1)
