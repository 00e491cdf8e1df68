-- Laws of the calls on the state that a network shows: those that touch no word, and an operation that is carried out and completed at once. Assumes nothing.
use Rattle.std.specs.Prelude.{◌≡◌, refl, false, ℕ, ◌<◌, length, set}
use Rattle.std.proofs.Math.Path.{sym, ap}
use Rattle.std.proofs.Common.{ap₂, ◌∙◌, arith}
use mathlib.Core.List.{List, [], ◌∷◌, ◌++◌}
use Rattle.std.proofs.lemmas.List.{set-get_or}
use Rattle.base.specs.laws.ChoiceLaws.{choose_eq, by_lt}
use Rattle.base.specs.laws.Mapped.{map_count}
use Rattle.tree.specs.rules.Tree.{word_count}
use Rattle.lock.specs.declared.Client.{Client}
use Rattle.lock.specs.declared.Settings.{Settings}
use Rattle.lock.specs.rules.Records.{word_at, written, client_with, idle_client}
use Rattle.lock.specs.rules.Steps.{applied}
use Rattle.lock.specs.rules.Calls.{Tests, first_cause, settings_outside, tree_tests, clients_outside, answered, requested, released, cancelled, request_tests, release_tests, cancel_tests, request_number, request_answer, release_answer, cancel_answer}
use Rattle.lock.specs.rules.Operations.{access_of, operation_answer, completed_answer, own_request_answer, own_release_answer, own_cancel_answer}
use Rattle.lock.specs.rules.Table.{State, Call, step, client_of, client_at, Out, opening_number, call}
use Rattle.lock.specs.rules.ByValue.{answer_to, words_after}
use Rattle.lock.proofs.laws.CallLaws.{cause_skip, tree_passed, cause_tested}
use Rattle.table.specs.laws.Causes.{table_cause}
use Rattle.table.specs.laws.CauseLaws.{both_none, table_client, table_passed}
use Rattle.table.specs.laws.CallLaws.{table_refuses, table_takes}
use Rattle.network.specs.rules.ByOperation.{by_operation}
use Rattle.network.specs.rules.Network.{Network, seen, shown}
use Rattle.network.proofs.laws.Shown.{set_past}
use Rattle.network.proofs.laws.StepByOperation.{step_by_operation}

-- ---- the calls that touch no word, by value and on lent words

module _ (s : Settings) (c : Client) (words : List ℕ) (inside : settings_outside s ≡ false) (count : length words ≡ word_count s.levels) where
  own_number : (ts : Tests) → first_cause (tree_tests s (length words) ++ ts) ≡ first_cause ((settings_outside s, 1) ∷ ts)
  own_number ts = tree_passed s (length words) ts inside count ∙ sym (cause_skip (settings_outside s) 1 ts inside)

  pub request_same : (a b : ℕ) → request_answer s c words a b ≡ own_request_answer s c a b
  unfolding request_answer request_number own_request_answer
  request_same a b = ap (λ (n : ℕ). answered n c (client_with c.clock (requested s a b))) (own_number (request_tests s c.«record» c.clock a b))

  pub release_same : release_answer s c words ≡ own_release_answer s c
  unfolding release_answer own_release_answer
  release_same = ap (λ (n : ℕ). answered n c (client_with c.clock (released c.«record»))) (own_number (release_tests s c.«record» c.clock))

  pub cancel_same : cancel_answer s c words ≡ own_cancel_answer s c
  unfolding cancel_answer own_cancel_answer
  cancel_same = ap (λ (n : ℕ). answered n c (client_with c.clock (cancelled c.«record»))) (own_number (cancel_tests s c.«record» c.clock))

-- ---- on a state whose opening is accepted

module _ (s : Settings) (st : State) (open_passed : opening_number s (length st.words) (length st.clients) ≡ 0) where
  abbrev With : List ℕ → ℕ → Client → State
  With words c x = record { words = words; clients = set st.clients c x }

  -- a client put back as it was
  pub unchanged : (c : ℕ) (x : Client) → x ≡ client_at st c → With st.words c x ≡ st
  unfolding client_at
  unchanged c x e = ap (λ (cs : List Client). record { words = st.words; clients = cs }) (ap (set st.clients c) e ∙ set-get_or st.clients c idle_client)

  -- a call that touches no word: on any client, also on one that is not there
  pub quiet : (k : Call) → words_after s (client_at st (client_of k)) st.words k ≡ st.words → (x : Client) → (answer_to s (client_at st (client_of k)) st.words k).next ≡ x
      → With st.words (client_of k) x ≡ (call s st k).state
  quiet k w x e =
      let c = client_of k in
      let cause = table_cause s (length st.words) (length st.clients) c in
      by_lt c (length st.clients)
      (λ below.
      ap₂ (λ (ws : List ℕ) (y : Client). With ws c y) (sym w) (sym e)
      ∙ ap (λ (out : Out). out.state) (table_takes s st.clients st.words k c refl (sym (table_passed s (length st.words) (length st.clients) c open_passed below))))
      (λ past.
      let four = table_client s (length st.words) (length st.clients) c open_passed past in
      ap (λ (cs : List Client). record { words = st.words; clients = cs }) (set_past st.clients c x past)
      ∙ ap (λ (out : Out). out.state) (table_refuses s st.clients st.words k 4 four (λ z. omega (arith, z))))

  -- an operation that is carried out, and will be completed by the clock u
  pub carried : (c u : ℕ) → c < length st.clients
      → let o = operation_answer s (client_at st c) u in
      let w = word_at st.words o.node in
      With (written st.words o.node (applied (access_of o) w)) c (completed_answer s (client_at st c) u w).next ≡ (call s st (step c u)).state
  unfolding by_operation table_cause
  carried c u below =
      ap (λ (out : Out). out.state)
      (sym (choose_eq (table_cause s (length st.words) (length st.clients) c) 0 _ _ (sym (table_passed s (length st.words) (length st.clients) c open_passed below)))
      ∙ sym (step_by_operation s st c u))

-- ---- what is shown of a network whose counts and settings an opening accepts

module _ (s : Settings) (net : Network) (open_passed : opening_number s (length net.words) (length net.runs) ≡ 0) where
  abbrev pub st : State
  st = shown s net

  pub passed : opening_number s (length st.words) (length st.clients) ≡ 0
  passed = ap (opening_number s (length net.words)) (map_count (seen s) net.runs) ∙ open_passed

  pub inside : settings_outside s ≡ false
  unfolding opening_number
  inside = (cause_tested s (length net.words) _ refl).settings (both_none (tree_tests s (length net.words)) ((clients_outside (length net.runs), 3) ∷ []) open_passed)

  pub count : length net.words ≡ word_count s.levels
  unfolding opening_number
  count = (cause_tested s (length net.words) _ refl).count_right (both_none (tree_tests s (length net.words)) ((clients_outside (length net.runs), 3) ∷ []) open_passed)
