-- Laws: lines written one after another, a line for each client of a list. Assumes nothing.
use Rattle.std.specs.Prelude.{◌≡◌, length, get_or, take}
use Rattle.std.proofs.Math.Path.{sym, ap}
use Rattle.std.proofs.Common.{◌∙◌, add-one, take_all}
use mathlib.Core.List.{List, [], ◌∷◌, ◌++◌, append_assoc, append-nil}
use Prim.Native.Nat.{ℕ, zero, suc, ◌+◌, ◌≤◌, ◌<◌}
use native.Mathlib.Omega.{arith}
use Rattle.lock.specs.declared.Client.{Client}
use Rattle.lock.specs.declared.Record.{Record}
use Rattle.schedule.specs.laws.Appended.{Appended, nothing, joined, restated}
use Rattle.rangepages.specs.rules.Printed.{line_each}

-- ---- line after line

module _ (line : ℕ → Record → List ℕ) where
  pub line_suc : (n i : ℕ) (cs : List Client) (d : Client) → i < length cs → line_each line n (take i cs) ++ line (n + i) (get_or cs i d).«record» ≡ line_each line n (take (suc i) cs)
  unfolding line_each
  line_suc n i [] d b = absurd (omega arith)
  line_suc n zero (c ∷ cs) d b = ap (λ (m : ℕ). line m c.«record») (let e : n + 0 ≡ n = omega arith in e) ∙ sym (append-nil (line n c.«record»))
  line_suc n (suc i) (c ∷ cs) d b =
      append_assoc (line n c.«record») (line_each line (suc n) (take i cs)) _
      ∙ ap (λ (m : ℕ). line n c.«record» ++ (line_each line (suc n) (take i cs) ++ line m (get_or cs i d).«record»)) (let e : n + suc i ≡ suc n + i = omega arith in e)
      ∙ ap (λ (l : List ℕ). line n c.«record» ++ l) (line_suc (suc n) i cs d (omega arith))

  module _ (cs : List Client) (old : List ℕ) (at : ℕ) where
    -- the lines of the first clients are written
    abbrev pub Lined : List ℕ → ℕ → ℕ → Type 0
    Lined out end client = Appended old at out end (line_each line 0 (take client cs))

    pub lined_none : at ≤ length old → Lined old at 0
    unfolding line_each
    lined_none b = nothing old at b

    pub lined_more : (out new : List ℕ) (end more client : ℕ) (d : Client) → Lined out end client → client < length cs
        → Appended out end new more (line client (get_or cs client d).«record») → Lined new more (client + 1)
    lined_more out new end more client d v b a =
        restated
        (ap (λ (n : ℕ). line_each line 0 (take client cs) ++ line n (get_or cs client d).«record») (let e : client ≡ 0 + client = omega arith in e)
        ∙ line_suc 0 client cs d b ∙ ap (λ (n : ℕ). line_each line 0 (take n cs)) (sym (add-one client)))
        (joined v a)

    pub lined_all : (out : List ℕ) (end client : ℕ) → Lined out end client → length cs ≤ client → Appended old at out end (line_each line 0 cs)
    lined_all out end client v b = restated (ap (line_each line 0) (take_all client cs b)) v
