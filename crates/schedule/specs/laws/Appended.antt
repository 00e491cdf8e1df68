-- What the contracts of `schedule::text` cite: a piece written after what a lent list of bytes holds already. Below it the laws that join pieces.
-- Assumes nothing.
use Rattle.std.specs.Prelude.{◌≡◌, refl, List, [], ◌∷◌, ◌++◌, ℕ, ◌+◌, ◌≤◌, ◌<◌, length, take, set}
use Rattle.std.proofs.Common.{sym, ◌∙◌, ap, append_assoc, append-nil, add-one, arith, length-append, length-set, take-suc-set}

-- `new` is as long as `old`, and up to `end` it holds what `old` has before `at`, then the piece
pub record Appended (old : List ℕ) (at : ℕ) (new : List ℕ) (end : ℕ) (piece : List ℕ) : Type 0 where
  pub same : length new ≡ length old
  pub ends : end ≡ at + length piece
  pub room : end ≤ length old
  pub text : take end new ≡ take at old ++ piece

pub nothing : (old : List ℕ) (at : ℕ) → at ≤ length old → Appended old at old at []
nothing old at h = record { same = refl; ends = omega arith; room = h; text = sym (append-nil (take at old)) }

-- one piece after another is the two joined
pub joined : {a b c : List ℕ} {i j k : ℕ} {p q : List ℕ} → Appended a i b j p → Appended b j c k q → Appended a i c k (p ++ q)
joined {a} {b} {c} {i} {j} {k} {p} {q} f g = record {
  same = g.same ∙ f.same;
  ends = omega (arith, length-append p q, f.ends, g.ends);
  room = omega (arith, f.same, g.room);
  text = g.text ∙ ap (λ (z : List ℕ). z ++ q) f.text ∙ append_assoc (take i a) p q;
}

-- a piece and one byte more
pub one_more : {a b : List ℕ} {i j : ℕ} {p : List ℕ} (v : ℕ) → Appended a i b j p → j < length a → Appended a i (set b j v) (j + 1) (p ++ (v ∷ []))
one_more {a} {b} {i} {j} {p} v f h = record {
  same = length-set b j v ∙ f.same;
  ends = omega (arith, length-append p (v ∷ []), f.ends);
  room = omega arith;
  text =
      ap (λ (n : ℕ). take n (set b j v)) (add-one j) ∙ take-suc-set b j v (omega (arith, f.same, h))
      ∙ ap (λ (z : List ℕ). z ++ (v ∷ [])) f.text
      ∙ append_assoc (take i a) p (v ∷ []);
}

-- the same piece, said in another way, and an end that is equal
pub restated : {a b : List ℕ} {i j : ℕ} {p q : List ℕ} → p ≡ q → Appended a i b j p → Appended a i b j q
restated {a} {b} {i} {j} e f = rw e at f
