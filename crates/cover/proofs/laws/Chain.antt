-- Laws: a cover is a chain of nodes, each of which starts where the one before ends, and every such chain is a cover. Assumes nothing.
use Rattle.std.specs.Prelude.{◌≡◌, refl, ℕ, ◌≤◌, ◌<◌}
use Rattle.std.proofs.Math.Path.{sym, ap, subst}
use Rattle.std.proofs.Common.{◌∙◌}
use Rattle.std.proofs.Math.Logic.{inl, inr, ⊎_elim}
use mathlib.Core.List.{List, [], ◌∷◌}
use native.Mathlib.Omega.{arith}
use Rattle.base.specs.laws.ChoiceLaws.{by_lt}
use Rattle.tree.specs.rules.Tree.{left, right, Node, Holds}
use Rattle.tree.proofs.laws.Range.{size_pos}
use Rattle.cover.specs.rules.Cover.{In, Holder, Rising, Covers}

module _ (h l r : ℕ) where
  -- from t on, each node starts where the one before ends, and the last reaches r
  unfoldable pub Rest : ℕ → List ℕ → Type 0
  Rest t [] = r ≤ t
  Rest t (p ∷ c) = (t < r) × Node h p × (left h p ≡ t) × Rest (right h p) c

  -- the first holds l
  unfoldable pub Chain : List ℕ → Type 0
  Chain [] = ⊥
  Chain (p ∷ c) = Node h p × Holds h p l × Rest (right h p) c

rising_tail : (h x : ℕ) (c : List ℕ) → Rising h (x ∷ c) → Rising h c
unfolding Rising
rising_tail h x [] v = tt
rising_tail h x (y ∷ c) v = v.1

rising_after : (h x : ℕ) (c : List ℕ) → Rising h (x ∷ c) → (q : ℕ) → In q c → left h x < left h q
unfolding Rising In
rising_after h x [] v q i = absurd i
rising_after h x (y ∷ c) v q i =
    ⊎_elim (λ e. let f : left h q ≡ left h y = ap (left h) e in omega (arith, v.0)) (λ j. omega (arith, v.0, rising_after h y c v.1 q j)) i

-- ---- a cover is a chain

-- what is left of a cover from t on
record Tail (h r t : ℕ) (c : List ℕ) : Type 0 where
  after : (q : ℕ) → In q c → t ≤ left h q
  node : (q : ℕ) → In q c → Node h q
  before : (q : ℕ) → In q c → left h q < r
  all : (u : ℕ) → t ≤ u → u < r → Holder h c u
  rising : Rising h c
  disjoint : (p q u : ℕ) → In p c → In q c → Holds h p u → Holds h q u → p ≡ q

-- a unit at or after the end of x is held by a node after x
drop : (h x : ℕ) (c : List ℕ) (u : ℕ) → Holder h (x ∷ c) u → right h x ≤ u → Holder h c u
unfolding In
drop h x c u w y =
    ⊎_elim (λ i. let f : right h w.node ≡ right h x = ap (right h) i in absurd (omega (arith, w.holds.high)))
    (λ i. record { node = w.node; among = i; holds = w.holds }) w.among

-- a node after x starts where x ends, or later
past : (h x : ℕ) (c : List ℕ) → Node h x → ((q : ℕ) → In q c → Node h q) → Rising h (x ∷ c)
    → ((p q u : ℕ) → In p (x ∷ c) → In q (x ∷ c) → Holds h p u → Holds h q u → p ≡ q) → (q : ℕ) → In q c → right h x ≤ left h q
unfolding In
past h x c vx v g d q i =
    let a = rising_after h x c g q i in
    let s = size_pos h q (v q i) in
    by_lt (left h q) (right h x)
    (λ b. let e : left h x ≡ left h q = ap (left h) (d x q (left h q) (inl refl) (inr i) (record { low = omega arith; high = b }) (record { low = omega arith; high = omega arith })) in absurd (omega arith))
    (λ b. b)

tail_rest : (h l r t : ℕ) (c : List ℕ) → Tail h r t c → Rest h l r t c
unfolding Rest In
tail_rest h l r t [] v = by_lt t r (λ b. absurd (v.all t (omega arith) b).among) (λ b. b)
tail_rest h l r t (x ∷ c) v =
    let a = v.after x (inl refl) in
    let b = v.before x (inl refl) in
    let vx = v.node x (inl refl) in
    let s = size_pos h x vx in
    let w = v.all t (omega arith) (omega arith) in
    let e : left h x ≡ t =
    ⊎_elim (λ i. let f : left h w.node ≡ left h x = ap (left h) i in omega (arith, w.holds.low)) (λ i. absurd (omega (arith, w.holds.low, rising_after h x c v.rising w.node i))) w.among in (
      omega arith,
      vx,
      e,
      tail_rest h l r (right h x) c (record {
        after = past h x c vx (λ q i. v.node q (inr i)) v.rising v.disjoint;
        node = λ q i. v.node q (inr i);
        before = λ q i. v.before q (inr i);
        all = λ u y z. drop h x c u (v.all u (omega arith) z) y;
        rising = rising_tail h x c v.rising;
        disjoint = λ p q u i j. v.disjoint p q u (inr i) (inr j);
      }),
    )

pub covers_chain : (h l r : ℕ) → l < r → (c : List ℕ) → Covers h l r c → Chain h l r c
unfolding Chain In
covers_chain h l r b [] v = (v.holds l (omega arith) b).among
covers_chain h l r b (p ∷ c) v =
    let m = v.meets p (inl refl) in
    let w = v.holds l (omega arith) b in
    let low : left h p ≤ l =
    ⊎_elim (λ i. let f : left h w.node ≡ left h p = ap (left h) i in omega (arith, w.holds.low)) (λ i. omega (arith, w.holds.low, rising_after h p c v.rising w.node i)) w.among in (
      m.node,
      record { low = low; high = omega (arith, m.low, m.holds.high) },
      tail_rest h l r (right h p) c (record {
        after = past h p c m.node (λ q i. (v.meets q (inr i)).node) v.rising v.disjoint;
        node = λ q i. (v.meets q (inr i)).node;
        before = λ q i. let k = v.meets q (inr i) in omega (arith, k.high, k.holds.low);
        all = λ u y z. drop h p c u (v.holds u (omega (arith, m.low, m.holds.high)) z) y;
        rising = rising_tail h p c v.rising;
        disjoint = λ p' q u i j. v.disjoint p' q u (inr i) (inr j);
      }),
    )

-- ---- a chain is a cover

module _ (h l r : ℕ) where
  -- each node of the rest starts at t or later, and before r
  rest_node : (t : ℕ) (c : List ℕ) → Rest h l r t c → (q : ℕ) → In q c → Node h q × (t ≤ left h q) × (left h q < r)
  unfolding Rest In
  rest_node t [] v q i = absurd i
  rest_node t (x ∷ c) v q i =
      let s = size_pos h x v.1 in
      ⊎_elim
      (λ e. let f : left h q ≡ left h x = ap (left h) e in (subst (λ (n : ℕ). Node h n) (sym e) v.1, omega (arith, v.2), omega (arith, v.0, v.2)))
      (λ j. let k = rest_node (right h x) c v.3 q j in (k.0, omega (arith, k.1, v.2), k.2))
      i

  rest_holds : (t : ℕ) (c : List ℕ) → Rest h l r t c → (u : ℕ) → t ≤ u → u < r → Holder h c u
  unfolding Rest In
  rest_holds t [] v u a b = absurd (omega arith)
  rest_holds t (x ∷ c) v u a b =
      by_lt u (right h x)
      (λ q. record { node = x; among = inl refl; holds = record { low = omega (arith, v.2); high = q } })
      (λ q. let w = rest_holds (right h x) c v.3 u q b in record { node = w.node; among = inr w.among; holds = w.holds })

  -- a node has no unit in common with the rest that starts where it ends
  rest_apart : (x : ℕ) (c : List ℕ) → Rest h l r (right h x) c → (q u : ℕ) → In q c → Holds h x u → Holds h q u → ⊥
  rest_apart x c v q u i a b = omega (arith, a.high, b.low, (rest_node (right h x) c v q i).1)

  rest_rising : (x : ℕ) (c : List ℕ) → Node h x → Rest h l r (right h x) c → Rising h (x ∷ c)
  unfolding Rest Rising
  rest_rising x [] vx v = tt
  rest_rising x (y ∷ c) vx v = (omega (arith, v.2, size_pos h x vx), rest_rising y c v.1 v.3)

  -- no unit in two nodes of c
  abbrev Disjoint : List ℕ → Type 0
  Disjoint c = (n m u : ℕ) → In n c → In m c → Holds h n u → Holds h m u → n ≡ m

  disjoint_cons : (x : ℕ) (c : List ℕ) → ((q u : ℕ) → In q c → Holds h x u → Holds h q u → ⊥) → Disjoint c → Disjoint (x ∷ c)
  unfolding In
  disjoint_cons x c apart d n m u i j a b =
      ⊎_elim
      (λ e. ⊎_elim (λ f. e ∙ sym f) (λ k. absurd (apart m u k (subst (λ (z : ℕ). Holds h z u) e a) b)) j)
      (λ k. ⊎_elim (λ f. absurd (apart n u k (subst (λ (z : ℕ). Holds h z u) f b) a)) (λ g. d n m u k g a b) j)
      i

  rest_disjoint : (t : ℕ) (c : List ℕ) → Rest h l r t c → Disjoint c
  unfolding Rest In
  rest_disjoint t [] v = λ n m u i j a b. absurd i
  rest_disjoint t (x ∷ c) v = disjoint_cons x c (rest_apart x c v.3) (rest_disjoint (right h x) c v.3)

  pub chain_covers : l < r → (c : List ℕ) → Chain h l r c → Covers h l r c
  unfolding Chain In
  chain_covers b [] v = absurd v
  chain_covers b (p ∷ c) v =
      let w = v.1 in
      record {
        meets = λ n i. ⊎_elim
            (λ e. record { node = subst (λ (z : ℕ). Node h z) (sym e) v.0; unit = l; low = omega arith; high = b; holds = subst (λ (z : ℕ). Holds h z l) (sym e) w })
            (λ j. let k = rest_node (right h p) c v.2 n j in
            let s = size_pos h n k.0 in
            record { node = k.0; unit = left h n; low = omega (arith, w.high, k.1); high = k.2; holds = record { low = omega arith; high = omega arith } })
            i;
        holds = λ u x y. by_lt u (right h p)
            (λ q. record { node = p; among = inl refl; holds = record { low = omega (arith, w.low); high = q } })
            (λ q. let k = rest_holds (right h p) c v.2 u q y in record { node = k.node; among = inr k.among; holds = k.holds });
        disjoint = disjoint_cons p c (rest_apart p c v.2) (rest_disjoint (right h p) c v.2);
        rising = rest_rising p c v.0 v.2;
      }
