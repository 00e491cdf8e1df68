-- The invariant of a state that every call keeps, and the law that a call with one of the effects keeps it. Assumes nothing.
use Rattle.std.specs.Prelude.{◌≡◌, refl, ◌≢◌, List, ℕ, zero, suc, ◌+◌, ◌-◌, ◌*◌, ◌%◌, ◌^◌, ◌≤◌, ◌<◌, length, get_or, set}
use Rattle.std.proofs.Common.{sym, ap, subst, ◌∙◌, arith, length-set, get_or-set_same, get_or-set_other}
use Rattle.std.proofs.Math.Decide.{ℕ_discrete}
use Rattle.base.specs.laws.Sum.{sum_by, on_set}
use Rattle.word.specs.rules.Word.{bit, take_bits, give_bits}
use Rattle.word.proofs.laws.Leaf.{wanted_lt}
use Rattle.word.proofs.laws.Swap.{take_lt, give_lt}
use Rattle.tree.specs.rules.Tree.{first, level, left, leaf, units, word_count, Node}
use Rattle.tree.proofs.laws.Climb.{first_width}
use Rattle.tree.proofs.laws.Level.{level_range, node_counted}
use Rattle.tree.proofs.laws.Range.{leaf_level, leaf_some}
use Rattle.lock.specs.declared.Record.{Record}
use Rattle.lock.specs.declared.Settings.{Settings}
use Rattle.lock.specs.rules.Records.{word_at, written}
use Rattle.lock.specs.laws.Active.{Settled}
use Rattle.lock.specs.rules.Steps.{wanted}
use Rattle.lock.proofs.claim.Owned.{owns_unit, owns_falls}
use Rattle.lock.proofs.claim.Fit.{Fit}
use Rattle.lock.proofs.claim.Effect.{Grips, Notices, Effect, quiet, drew, turned, claimed, freed, passed, notified, unnotified, took, gave}
use Rattle.lock.proofs.claim.InnerWords.{nobody, InnerWord, inner_same, inner_drew, inner_turned, inner_claimed, inner_freed, inner_passed, inner_notified, inner_unnotified}
use Rattle.lock.proofs.claim.LeafWords.{LeafBit, leaf_same, leaf_took, leaf_gave}
use Rattle.lock.proofs.claim.Parts.{Parts, record_in}

pub record Invariant (s : Settings) (st : Parts) : Type 0 where
  pub settled : Settled s
  pub count : length st.words ≡ word_count s.levels
  pub few : length st.records ≤ 32767
  -- every record is readable, and its notices fit its phase
  pub fit : (c : ℕ) → Fit s (record_in st c) (st.clock c)
  -- every inner word holds what the records own of it
  pub inner : (n : ℕ) → Node s.levels n → level n ≢ s.levels → InnerWord s st.records n (word_at st.words n)
  -- so does every leaf word, which has 64 bits
  pub small : (n : ℕ) → Node s.levels n → level n ≡ s.levels → word_at st.words n < 2 ^ 64
  pub bits : (u : ℕ) → u < units s.levels → LeafBit s st.records u (word_at st.words (leaf s.levels u))

-- ---- one word written

written_same : (words : List ℕ) (x v : ℕ) → 1 ≤ x → x ≤ length words → word_at (written words x v) x ≡ v
unfolding word_at written
written_same words zero v a b = absurd (omega arith)
written_same words (suc i) v a b = get_or-set_same words i v 0 b

written_other : (words : List ℕ) (x v n : ℕ) → n ≢ x → word_at (written words x v) n ≡ word_at words n
unfolding word_at written
written_other words zero v n d = refl
written_other words (suc i) v zero d = refl
written_other words (suc i) v (suc j) d = get_or-set_other words i j v 0 (λ e. d (ap suc e))

written_length : (words : List ℕ) (x v : ℕ) → length (written words x v) ≡ length words
unfolding written
written_length words zero v = refl
written_length words (suc i) v = length-set words i v

-- ---- an effect

module _ (s : Settings) (st : Parts) (inv : Invariant s st) (c : ℕ) (client : c < length st.records) (x v : ℕ) (q : Record)
    (some : x ≢ 0 → Node s.levels x) (e : Effect s (record_in st c) q x (word_at st.words x) v) where
  abbrev rs : List Record
  rs = st.records

  abbrev r : Record
  r = record_in st c

  -- an inner word that is not touched
  else_kept : (n : ℕ) → Node s.levels n → level n ≢ s.levels → n ≢ x → InnerWord s (set rs c q) n (word_at st.words n)
  else_kept n a b d =
      let w = word_at st.words n in
      let k = inv.inner n a b in
      let grips : (from to : ℕ) → Grips s r q x from to → InnerWord s (set rs c q) n w
      = λ from to g. inner_same s n a.some w rs k c q client (g.else 1 n (omega arith) a.some d) (g.else 2 n (omega arith) a.some d) (g.else 3 n (omega arith) a.some d) (g.notices n a.some) (g.drawn n a.some d) in
      let notes : Notices s r q x → InnerWord s (set rs c q) n w
      = λ g. inner_same s n a.some w rs k c q client (g.owned 1 n (omega arith) a.some) (g.owned 2 n (omega arith) a.some) (g.owned 3 n (omega arith) a.some) (g.else n a.some d) (g.drawn n a.some) in
      elim e [
        | quiet i g ↦ inner_same s n a.some w rs k c q client (g.owned 1 n (omega arith) a.some) (g.owned 2 n (omega arith) a.some) (g.owned 3 n (omega arith) a.some) (g.notices n a.some) (g.drawn n a.some)
        | drew i g t j ↦ grips 0 1 g
        | turned i g t j ↦ grips 1 2 g
        | claimed i g j ↦ grips 2 3 g
        | freed i g j ↦ grips 3 0 g
        | passed i g j ↦ grips 2 0 g
        | notified i g t j ↦ notes g
        | unnotified i g t j ↦ notes g
        | took i g t j ↦ grips 0 3 g
        | gave i g t j ↦ grips 3 0 g
      ]

  -- the inner word that is touched
  here_kept : Node s.levels x → level x ≢ s.levels → InnerWord s (set rs c q) x v
  here_kept a b =
      let w = word_at st.words x in
      let k = inv.inner x a b in
      elim e [
        | quiet i g ↦ rw i (inner_same s x a.some w rs k c q client (g.owned 1 x (omega arith) a.some) (g.owned 2 x (omega arith) a.some) (g.owned 3 x (omega arith) a.some) (g.notices x a.some) (g.drawn x a.some))
        | drew i g t j ↦ rw j (inner_drew s x a.some w rs k c q client 0 1 g inv.few refl refl t)
        | turned i g t j ↦ rw j (inner_turned s x a.some w rs k c q client 1 2 g refl refl t)
        | claimed i g j ↦ rw j (inner_claimed s x a.some w rs k c q client 2 3 g (λ d. owns_falls s 2 x (get_or rs d nobody)) (λ d. owns_falls s 1 x (get_or rs d nobody)) refl refl)
        | freed i g j ↦ rw j (inner_freed s x a.some w rs k c q client 3 0 g refl refl)
        | passed i g j ↦ rw j (inner_passed s x a.some w rs k c q client 2 0 g refl refl)
        | notified i g t j ↦ rw j (inner_notified s x a.some w rs k c q client g t)
        | unnotified i g t j ↦ rw j (inner_unnotified s x a.some w rs k c q client g t)
        | took i g t j ↦ absurd (b i)
        | gave i g t j ↦ absurd (b i)
      ]

  levels_some : 1 ≤ s.levels
  levels_some = omega (arith, inv.settled.levels_some)

  -- a unit of a leaf that is not touched
  else_bit : (u : ℕ) → u < units s.levels → leaf s.levels u ≢ x → LeafBit s (set rs c q) u (word_at st.words (leaf s.levels u))
  else_bit u f d =
      let same = leaf_same s u levels_some f (word_at st.words (leaf s.levels u)) rs (inv.bits u f) c q client in
      elim e [
        | quiet i g ↦ same (g.units u)
        | drew i g t j ↦ same (g.units u d)
        | turned i g t j ↦ same (g.units u d)
        | claimed i g j ↦ same (g.units u d)
        | freed i g j ↦ same (g.units u d)
        | passed i g j ↦ same (g.units u d)
        | notified i g t j ↦ same (g.units u)
        | unnotified i g t j ↦ same (g.units u)
        | took i g t j ↦ same (g.units u d)
        | gave i g t j ↦ same (g.units u d)
      ]

  -- a unit of the leaf that is touched
  here_bit : (u : ℕ) → u < units s.levels → leaf s.levels u ≡ x → LeafBit s (set rs c q) u v
  here_bit u f z =
      let w = word_at st.words x in
      let k : LeafBit s rs u w = subst (λ (n : ℕ). LeafBit s rs u (word_at st.words n)) z (inv.bits u f) in
      let inner : level x ≢ s.levels → LeafBit s (set rs c q) u v = λ d. absurd (d (ap level (sym z) ∙ leaf_level s.levels u levels_some f)) in
      elim e [
        | quiet i g ↦ rw i (leaf_same s u levels_some f w rs k c q client (g.units u))
        | drew i g t j ↦ inner i
        | turned i g t j ↦ inner i
        | claimed i g j ↦ inner i
        | freed i g j ↦ inner i
        | passed i g j ↦ inner i
        | notified i g t j ↦ inner i
        | unnotified i g t j ↦ inner i
        | took i g t j ↦ rw j (subst (λ (n : ℕ). LeafBit s (set rs c q) u (take_bits (wanted s r n) w).word) z (leaf_took s u levels_some f w rs k c q client (rw z g) (rw z t)))
        | gave i g t j ↦ rw j (subst (λ (n : ℕ). LeafBit s (set rs c q) u (give_bits (wanted s r n) w).word) z (leaf_gave s u levels_some f w rs k c q client (rw z g) (rw z t)))
      ]

  -- a leaf word that is touched still has 64 bits
  here_small : Node s.levels x → level x ≡ s.levels → v < 2 ^ 64
  here_small a b =
      let w = word_at st.words x in
      let k = inv.small x a b in
      elim e [
        | quiet i g ↦ rw i k
        | drew i g t j ↦ absurd (i b)
        | turned i g t j ↦ absurd (i b)
        | claimed i g j ↦ absurd (i b)
        | freed i g j ↦ absurd (i b)
        | passed i g j ↦ absurd (i b)
        | notified i g t j ↦ absurd (i b)
        | unnotified i g t j ↦ absurd (i b)
        | took i g t j ↦ rw j (take_lt (wanted s r x) w (wanted_lt (left s.levels x) r.left r.right) k)
        | gave i g t j ↦ rw j (give_lt (wanted s r x) w (wanted_lt (left s.levels x) r.left r.right) k)
      ]

  -- a statement of the word of node n after the call
  on_word : (P : ℕ → Type 0) (n : ℕ) → Node s.levels n → (n ≡ x → P v) → (n ≢ x → P (word_at st.words n)) → P (word_at (written st.words x v) n)
  on_word P n a f g =
      elim (ℕ_discrete n x) [
        | yes i ↦
            let z : x ≤ length st.words = omega (arith, node_counted s.levels n a, inv.count) in
            subst P (sym (ap (word_at (written st.words x v)) i ∙ written_same st.words x v (omega (arith, a.some)) z)) (f i)
        | no d ↦ subst P (sym (written_other st.words x v n d)) (g d)
      ]

  -- the clocks of the other clients stay
  module _ (clock : ℕ → ℕ) (others : (d : ℕ) → d ≢ c → clock d ≡ st.clock d) (fits : Fit s q (clock c)) where
    abbrev after : Parts
    after = record { words = written st.words x v; records = set rs c q; clock = clock }

    pub effect_keeps : Invariant s after
    effect_keeps = record {
      settled = inv.settled;
      count = written_length st.words x v ∙ inv.count;
      few = rw (length-set rs c q) inv.few;
      fit = λ d. on_set (λ (z : Record). Fit s z (clock d)) rs c d q nobody client (λ i. subst (λ (e : ℕ). Fit s q (clock e)) (sym i) fits) (λ i. rw (others d i) (inv.fit d));
      inner = λ n a b. on_word (λ w. InnerWord s (set rs c q) n w) n a (λ i. rw i (here_kept (rw (sym i) a) (rw (sym i) b))) (else_kept n a b);
      small = λ n a b. on_word (λ w. w < 2 ^ 64) n a (λ i. here_small (rw (sym i) a) (rw (sym i) b)) (λ _. inv.small n a b);
      bits = λ u f. on_word (λ w. LeafBit s (set rs c q) u w) (leaf s.levels u)
          (record { some = leaf_some s.levels u levels_some f; inside = omega (arith, leaf_level s.levels u levels_some f) }) (here_bit u f) (else_bit u f);
    }

-- ---- bit b of a leaf is a unit of it, and says what the records own of that

pub leaf_bit : (s : Settings) (st : Parts) → Invariant s st → (n : ℕ) → Node s.levels n → level n ≡ s.levels → (b : ℕ) → b < 64
    → (u : ℕ) × (leaf s.levels u ≡ n) × (bit b (word_at st.words n) ≡ sum_by (owns_unit s u) st.records)
unfolding units
leaf_bit s st inv n v l b c =
    let h = s.levels in
    let base = first h in
    let range = level_range n v.some in
    let low : base ≤ n = subst (λ (x : ℕ). first x ≤ n) l range.0 in
    let up : n < first (suc h) = subst (λ (x : ℕ). n < first (suc x)) l range.1 in
    let e : suc (h - 1) ≡ h = omega (arith, inv.settled.levels_some) in
    let width : first (suc h) ≡ base + 4 ^ (h - 1) = subst (λ (x : ℕ). first (suc x) ≡ first x + 4 ^ (h - 1)) e (first_width (h - 1)) in
    let u = 64 * (n - base) + b in
    let is : leaf h u ≡ n = omega arith in
    let at : u % 64 ≡ b = omega arith in
    let fits : u < units h = omega arith in
    (u, is, ap (λ (x : ℕ). bit x (word_at st.words n)) (sym at) ∙ ap (λ (x : ℕ). bit (u % 64) (word_at st.words x)) (sym is) ∙ inv.bits u fits)
