-- Laws of the words by node, as the code reads and writes them. Assumes nothing.
use Rattle.std.specs.Prelude.{◌≡◌, List, get_or, set}
use Rattle.std.proofs.Math.Path.{ap}
use Prim.Native.Nat.{ℕ, suc, ◌-◌, ◌<◌}
use native.Mathlib.Omega.{arith}
use Rattle.tree.specs.rules.Tree.{last, word_count}
use Rattle.tree.proofs.laws.Level.{word_count_lem}
use Rattle.lock.specs.rules.Records.{word_at, written}

module _ (words : List ℕ) (n : ℕ) where
  pub word_none : n ≡ 0 → word_at words n ≡ 0
  unfolding word_at
  word_none e = ap (word_at words) e

  pub word_some : 0 < n → word_at words n ≡ get_or words (n - 1) 0
  unfolding word_at
  word_some b = let e : n ≡ suc (n - 1) = omega arith in ap (word_at words) e

  pub written_none : (w : ℕ) → n ≡ 0 → written words n w ≡ words
  unfolding written
  written_none w e = ap (λ (k : ℕ). written words k w) e

  pub written_some : (w : ℕ) → 0 < n → written words n w ≡ set words (n - 1) w
  unfolding written
  written_some w b = let e : n ≡ suc (n - 1) = omega arith in ap (λ (k : ℕ). written words k w) e

pub last_is_count : (h : ℕ) → word_count h ≡ last h
unfolding last
last_is_count h = word_count_lem h
