-- No history meets cause 6: after every list of calls from an accepted opening every record is readable, and no call of it is refused by 6. Assumes nothing.
use Rattle.std.specs.Prelude.{◌≡◌, false, ◌≢◌, List, [], ◌∷◌, ◌++◌, length}
use Rattle.std.proofs.Common.{subst, inl, inr, arith}
use Rattle.lock.specs.declared.Record.{Record}
use Rattle.lock.specs.declared.Settings.{Settings}
use Rattle.lock.specs.rules.Calls.{tree_tests, client_tests, request_tests, step_tests, release_tests, cancel_tests}
use Rattle.lock.specs.rules.Table.{State, Call, request, step, release, cancel, client_of, clock_at, own_tests, number_of, call, opening}
use Rattle.lock.specs.rules.Unreadable.{unreadable}
use Rattle.lock.specs.rules.History.{run, events, Some, AllReadable}
use Rattle.lock.proofs.laws.CallLaws.{NotNamed, never_named}
use Rattle.lock.proofs.claim.Parts.{parts_of, record_at_lem}
use Rattle.lock.proofs.claim.Invariant.{Invariant}
use Rattle.lock.proofs.claim.Keeping.{call_keeps, run_keeps}
use Rattle.lock.proofs.claim.Start.{opening_invariant}

-- ---- every record

pub invariant_readable : (s : Settings) (st : State) → Invariant s (parts_of st) → AllReadable s st
invariant_readable s st inv c = subst (λ (r : Record). unreadable s r (clock_at st c) ≡ false) (record_at_lem st c) (inv.fit c).readable

pub every_readable : (s : Settings) (lent : State) → (opening s lent).number ≡ 0 → (ks : List Call) → AllReadable s (run s (opening s lent).state ks)
every_readable s lent e ks = invariant_readable s _ (run_keeps s (opening s lent).state (opening_invariant s lent e) ks)

-- ---- every call

module _ (s : Settings) (st : State) (every : AllReadable s st) where
  -- of the tests of a call only that of its client's record has the number 6
  own_tests_lem : (k : Call) → NotNamed 6 (own_tests s st k)
  unfolding NotNamed own_tests request_tests step_tests release_tests cancel_tests
  own_tests_lem (request c l r) = (inr (every c), (inl (λ z. omega arith), (inl (λ z. omega arith), tt)))
  own_tests_lem (step c t) = (inl (λ z. omega arith), (inr (every c), (inl (λ z. omega arith), tt)))
  own_tests_lem (release c) = (inr (every c), (inl (λ z. omega arith), tt))
  own_tests_lem (cancel c) = (inr (every c), (inl (λ z. omega arith), tt))

  not_6 : (k : Call) → number_of s st k ≢ 6
  unfolding NotNamed number_of tree_tests client_tests
  not_6 k =
      never_named 6 (tree_tests s (length st.words) ++ (client_tests (length st.clients) (client_of k) ++ own_tests s st k)) (λ z. omega arith)
      (inl (λ z. omega arith), (inl (λ z. omega arith), (inl (λ z. omega arith), (inl (λ z. omega arith), own_tests_lem k))))

run_not_6 : (s : Settings) (st : State) → Invariant s (parts_of st) → (ks : List Call) → Some (λ e. e.number ≡ 6) (events s st ks) → ⊥
unfolding events Some call
run_not_6 s st inv [] x = x
run_not_6 s st inv (k ∷ ks) (inl e) = not_6 s st (invariant_readable s st inv) k e
run_not_6 s st inv (k ∷ ks) (inr x) = run_not_6 s (call s st k).state (call_keeps s st inv k) ks x

pub never_unreadable : (s : Settings) (lent : State) → (opening s lent).number ≡ 0 → (ks : List Call)
    → Some (λ e. e.number ≡ 6) (events s (opening s lent).state ks) → ⊥
never_unreadable s lent e ks = run_not_6 s (opening s lent).state (opening_invariant s lent e) ks
