-- Laws of how many operations of a list count, as the words found come in one by one. Assumes nothing.
use Rattle.std.specs.Prelude.{◌≡◌, refl, ◌≢◌, Bool, true, false, ◌&&◌, ℕ, suc, ◌+◌, eqb, length}
use Rattle.std.proofs.Math.Path.{sym, ap}
use mathlib.Core.List.{List, [], ◌∷◌, ◌++◌}
use Rattle.std.proofs.Common.{arith}
use Rattle.base.specs.rules.Choice.{choose}
use Rattle.lock.specs.declared.Client.{Client}
use Rattle.lock.specs.declared.Operation.{Operation}
use Rattle.lock.specs.declared.Settings.{Settings}
use Rattle.lock.specs.rules.Operations.{operation_answer, completed_answer}
use Rattle.runs.specs.laws.AlongLaws.{no_words}
use Rattle.runs.specs.rules.Ahead.{same, Counted, nothing_more, one_more, along}

module _ (s : Settings) (u : ℕ) where
  -- whether the first of a list counts
  abbrev pub due : Client → Operation → ℕ → Bool
  due c o w = same (operation_answer s c u) o && eqb (completed_answer s c u w).number 0

  abbrev pub after : Client → ℕ → Client
  after c w = (completed_answer s c u w).next

  pub along_one : (c : Client) (o : Operation) (l : List Operation) (w : ℕ) → along s u c (o ∷ l) (w ∷ []) ≡ choose (due c o w) (one_more (nothing_more (after c w))) (nothing_more c)
  unfolding along choose
  along_one c o l w = ap (λ (x : Counted). choose (due c o w) (one_more x) (nothing_more c)) (no_words s u (after c w) l)

  -- where all that were found count, it goes on from there
  pub along_on : (c : Client) (done : List Operation) (found : List ℕ) (l : List Operation) (more : List ℕ) → length done ≡ length found → (along s u c (done ++ l) found).count ≡ length found
      → let next = along s u (along s u c (done ++ l) found).next l more in
      ((along s u c (done ++ l) (found ++ more)).count ≡ length found + next.count) × ((along s u c (done ++ l) (found ++ more)).next ≡ next.next)
  unfolding along choose
  along_on c [] [] l more even all =
      let e = ap (λ (x : Counted). along s u x.next l more) (no_words s u c l) in
      (omega (arith, ap (λ (x : Counted). x.count) e), sym (ap (λ (x : Counted). x.next) e))
  along_on c [] (w ∷ found) l more even all = absurd (omega arith)
  along_on c (o ∷ done) [] l more even all = absurd (omega arith)
  along_on c (o ∷ done) (w ∷ found) l more even all = by_due (due c o w) all (λ f. along_on (after c w) done found l more (omega arith) f)
    where
      before : Counted
      before = along s u (after c w) (done ++ l) found

      then : Counted
      then = along s u (after c w) (done ++ l) (found ++ more)

      by_due : (b : Bool) → (choose b (one_more before) (nothing_more c)).count ≡ suc (length found)
          → (before.count ≡ length found → (then.count ≡ length found + (along s u before.next l more).count) × (then.next ≡ (along s u before.next l more).next))
          → let next = along s u (choose b (one_more before) (nothing_more c)).next l more in
          ((choose b (one_more then) (nothing_more c)).count ≡ suc (length found) + next.count) × ((choose b (one_more then) (nothing_more c)).next ≡ next.next)
      by_due true e f = let v = f (omega (arith, e)) in (omega (arith, v.0), v.1)
      by_due false e f = absurd (omega (arith, e))

  -- where one did not count, nothing behind it does
  pub along_stopped : (c : Client) (done : List Operation) (found : List ℕ) (l : List Operation) (more : List ℕ) → length done ≡ length found → (along s u c (done ++ l) found).count ≢ length found
      → along s u c (done ++ l) (found ++ more) ≡ along s u c (done ++ l) found
  unfolding along choose
  along_stopped c [] [] l more even some = absurd (some (ap (λ (x : Counted). x.count) (no_words s u c l)))
  along_stopped c [] (w ∷ found) l more even some = absurd (omega arith)
  along_stopped c (o ∷ done) [] l more even some = absurd (omega arith)
  along_stopped c (o ∷ done) (w ∷ found) l more even some = by_due (due c o w) some (λ f. along_stopped (after c w) done found l more (omega arith) f)
    where
      before : Counted
      before = along s u (after c w) (done ++ l) found

      then : Counted
      then = along s u (after c w) (done ++ l) (found ++ more)

      by_due : (b : Bool) → (choose b (one_more before) (nothing_more c)).count ≢ suc (length found) → (before.count ≢ length found → then ≡ before)
          → choose b (one_more then) (nothing_more c) ≡ choose b (one_more before) (nothing_more c)
      by_due true d f = ap one_more (f (λ e. d (ap suc e)))
      by_due false d f = refl
