-- Laws: what an accepted call and an accepted opening have passed, test by test. Assumes nothing.
use Rattle.std.specs.Prelude.{◌≡◌, refl, Bool, true, false, ◌||◌, ℕ, ◌≤◌, ◌<◌, leb, ltb, length}
use mathlib.Core.List.{[], ◌∷◌, ◌++◌}
use Rattle.std.proofs.Common.{arith}
use borrow.Author.Tests.{ltb-false, leb-false, eqb-false}
use Rattle.std.proofs.Math.Dec.{eqb}
use Rattle.base.specs.rules.Choice.{choose}
use Rattle.tree.specs.rules.Tree.{word_count}
use Rattle.cover.specs.rules.Answer.{window_outside}
use Rattle.lock.specs.declared.Record.{Record}
use Rattle.lock.specs.declared.Settings.{Settings}
use Rattle.lock.specs.rules.Records.{word_at}
use Rattle.lock.specs.rules.Unreadable.{differ, unreadable}
use Rattle.lock.specs.rules.Steps.{touched, moved}
use Rattle.lock.specs.rules.Calls.{Tests, first_cause, settings_outside, tree_tests, clients_outside, client_tests, request_tests, step_tests, release_tests, cancel_tests}
use Rattle.lock.specs.rules.Table.{State, Call, request, step, release, cancel, client_of, record_at, clock_at, own_tests, number_of, opening_number}
use Rattle.lock.specs.laws.Active.{Settled}
use Rattle.lock.proofs.laws.ReadableLaws.{same_number}
use Rattle.base.specs.laws.TestLaws.{both_false}
use Rattle.lock.proofs.laws.SettledLaws.{settled}

-- a chain that names no cause: its first test is false, and the rest names none
pub test_passed : (b : Bool) (k : ℕ) (ts : Tests) → 0 < k → first_cause ((b, k) ∷ ts) ≡ 0 → (b ≡ false) × (first_cause ts ≡ 0)
unfolding first_cause choose
test_passed true k ts some e = absurd (omega arith)
test_passed false k ts some e = (refl, e)

-- ---- 1 to 4

tree_tested : (s : Settings) (count : ℕ) (ts : Tests) → first_cause (tree_tests s count ++ ts) ≡ 0
    → (settings_outside s ≡ false) × (count ≡ word_count s.levels) × (first_cause ts ≡ 0)
unfolding tree_tests
tree_tested s count ts e =
    let a = test_passed (settings_outside s) 1 ((differ count (word_count s.levels), 2) ∷ ts) (omega arith) e in
    let b = test_passed (differ count (word_count s.levels)) 2 ts (omega arith) a.1 in
    (a.0, same_number count (word_count s.levels) b.0, b.1)

few_clients : (count : ℕ) → clients_outside count ≡ false → count ≤ 32767
unfolding clients_outside
few_clients count e = ltb-false 32767 count (both_false (eqb count 0) (ltb 32767 count) e).1

pub record Tested (s : Settings) (st : State) (k : Call) : Type 0 where
  pub settings : settings_outside s ≡ false
  pub settled : Settled s
  pub count : length st.words ≡ word_count s.levels
  pub clients : clients_outside (length st.clients) ≡ false
  pub few : length st.clients ≤ 32767
  pub client : client_of k < length st.clients
  pub own : first_cause (own_tests s st k) ≡ 0

pub accepted : (s : Settings) (st : State) (k : Call) → number_of s st k ≡ 0 → Tested s st k
unfolding number_of client_tests
accepted s st k e =
    let rest = own_tests s st k in
    let a = tree_tested s (length st.words) (client_tests (length st.clients) (client_of k) ++ rest) e in
    let b = test_passed (clients_outside (length st.clients)) 3 ((leb (length st.clients) (client_of k), 4) ∷ rest) (omega arith) a.2 in
    let c = test_passed (leb (length st.clients) (client_of k)) 4 rest (omega arith) b.1 in
    record {
      settings = a.0;
      settled = settled s a.0;
      count = a.1;
      clients = b.0;
      few = few_clients (length st.clients) b.0;
      client = leb-false (length st.clients) (client_of k) c.0;
      own = c.1;
    }

-- what an accepted opening has tested
pub opening_tested : (s : Settings) (words clients : ℕ) → opening_number s words clients ≡ 0 → (settings_outside s ≡ false) × (words ≡ word_count s.levels) × (clients_outside clients ≡ false)
unfolding opening_number
opening_tested s words clients e =
    let a = tree_tested s words ((clients_outside clients, 3) ∷ []) e in
    (a.0, a.1, (test_passed (clients_outside clients) 3 [] (omega arith) a.2).0)

pub opened_accepted : (s : Settings) (st : State) → opening_number s (length st.words) (length st.clients) ≡ 0
    → Settled s × (length st.words ≡ word_count s.levels) × (length st.clients ≤ 32767)
opened_accepted s st e =
    let a = opening_tested s (length st.words) (length st.clients) e in
    (settled s a.0, a.1, few_clients (length st.clients) a.2)

-- ---- 5 to 9, by the kind of call

module _ (s : Settings) (st : State) (c : ℕ) where
  abbrev r : Record
  r = record_at st c

  -- 6, readable, and the tests behind it
  readable : (ts : Tests) → first_cause ((unreadable s r (clock_at st c), 6) ∷ ts) ≡ 0 → (unreadable s r (clock_at st c) ≡ false) × (first_cause ts ≡ 0)
  readable ts e = test_passed (unreadable s r (clock_at st c)) 6 ts (omega arith) e

  pub request_tested : (a b : ℕ) → first_cause (own_tests s st (request c a b)) ≡ 0
      → (unreadable s (record_at st c) (clock_at st c) ≡ false) × (window_outside s.levels a b ≡ false) × ((record_at st c).phase ≡ 0)
  unfolding own_tests request_tests
  request_tested a b e =
      let u = readable _ e in
      let w = test_passed (window_outside s.levels a b) 7 ((differ r.phase 0, 8) ∷ []) (omega arith) u.1 in
      (u.0, w.0, same_number r.phase 0 (test_passed (differ r.phase 0) 8 [] (omega arith) w.1).0)

  pub step_tested : (t : ℕ) → first_cause (own_tests s st (step c t)) ≡ 0
      → (clock_at st c ≤ t) × (unreadable s (record_at st c) (clock_at st c) ≡ false)
      × ((moved s (record_at st c) (word_at st.words (touched s (record_at st c) t)) t).number ≡ 0)
  unfolding own_tests step_tests
  step_tested t e =
      let n = (moved s r (word_at st.words (touched s r t)) t).number in
      let b = test_passed (ltb t (clock_at st c)) 5 ((unreadable s r (clock_at st c), 6) ∷ (differ n 0, 9) ∷ []) (omega arith) e in
      let u = readable ((differ n 0, 9) ∷ []) b.1 in
      (ltb-false t (clock_at st c) b.0, u.0, same_number n 0 (test_passed (differ n 0) 9 [] (omega arith) u.1).0)

  pub release_tested : first_cause (own_tests s st (release c)) ≡ 0 → (unreadable s (record_at st c) (clock_at st c) ≡ false) × ((record_at st c).phase ≡ 9)
  unfolding own_tests release_tests
  release_tested e =
      let u = readable ((differ r.phase 9, 8) ∷ []) e in
      (u.0, same_number r.phase 9 (test_passed (differ r.phase 9) 8 [] (omega arith) u.1).0)

  pub cancel_tested : first_cause (own_tests s st (cancel c)) ≡ 0
      → (unreadable s (record_at st c) (clock_at st c) ≡ false) × ((record_at st c).phase ≡ 0 → ⊥) × ((record_at st c).phase ≡ 9 → ⊥) × ((record_at st c).phase ≡ 10 → ⊥)
  unfolding own_tests cancel_tests
  cancel_tested e =
      let u = readable ((eqb r.phase 0 || eqb r.phase 9 || eqb r.phase 10, 8) ∷ []) e in
      let p = (test_passed (eqb r.phase 0 || eqb r.phase 9 || eqb r.phase 10) 8 [] (omega arith) u.1).0 in
      let x = both_false _ (eqb r.phase 10) p in
      let y = both_false (eqb r.phase 0) (eqb r.phase 9) x.0 in
      (u.0, eqb-false r.phase 0 y.0, eqb-false r.phase 9 y.1, eqb-false r.phase 10 x.1)
