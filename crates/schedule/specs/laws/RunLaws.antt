-- Laws: the calls of a schedule, made one after another on its table. Assumes nothing.
use Rattle.std.specs.Prelude.{◌≡◌, refl, List, eqb, length, take, drop, get_or, map, replicate}
use Rattle.std.proofs.Math.Path.{sym, ap, ap₂}
use Rattle.std.proofs.Common.{◌∙◌, add-one, drop-cons, length-take, get_or-take}
use Rattle.std.proofs.lemmas.List.{length-replicate, drop_all}
use Prim.Native.Nat.{ℕ, ◌+◌, ◌≤◌, ◌<◌}
use native.Mathlib.Omega.{arith}
use Rattle.base.specs.laws.ChoiceLaws.{on_choose}
use Rattle.base.specs.laws.Sum.{get_d_past}
use Rattle.tree.specs.rules.Tree.{word_count}
use Rattle.lock.specs.declared.Client.{Client}
use Rattle.lock.specs.declared.Settings.{Settings}
use Rattle.lock.specs.rules.Records.{idle_client}
use Rattle.lock.specs.rules.Table.{State, Call, Out, call, opening_number, opened, opening}
use Rattle.lock.specs.rules.History.{run}
use Rattle.lock.proofs.claim.HistoryRecord.{count_run}
use Rattle.table.specs.rules.Lent.{lent}
use Rattle.schedule.specs.rules.Format.{settings_in, clients_in, calls_in, lent_for}
use Rattle.schedule.specs.laws.FormatLaws.{call_of_bytes}
use Rattle.schedule.specs.rules.Running.{opening_in, after_calls}

-- ---- the opening: a fresh table is lent to it, and that is also what it leaves, accepted or refused

pub opening_number_lem : (s : Settings) (clients words n : ℕ) → words ≡ word_count s.levels → n ≡ opening_number s words clients → n ≡ (opening s (lent_for s clients)).number
unfolding opening lent_for
opening_number_lem s clients words n e f =
    f ∙ ap (λ (w : ℕ). opening_number s w clients) (e ∙ sym (length-replicate (word_count s.levels) 0))
    ∙ ap (opening_number s (length (lent_for s clients).words)) (sym (length-replicate clients idle_client))

-- the table before the first call
abbrev pub fresh : Settings → ℕ → State
fresh s clients = (opening s (lent_for s clients)).state

pub opening_fresh : (s : Settings) (clients : ℕ) → fresh s clients ≡ lent_for s clients
unfolding opening opened lent_for
opening_fresh s clients =
    let left : opened (lent_for s clients) ≡ lent_for s clients
    = ap₂ (λ (count words : ℕ). lent (replicate count idle_client) (replicate words 0)) (length-replicate clients idle_client) (length-replicate (word_count s.levels) 0) in
    on_choose (λ (st : State). st ≡ lent_for s clients) (eqb (opening s (lent_for s clients)).number 0) _ _ (λ _. left) (λ _. refl)

-- as many clients as before, after any calls
pub run_count : (s : Settings) (clients : ℕ) (cs : List Call) → length (run s (fresh s clients) cs).clients ≡ clients
unfolding lent_for
run_count s clients cs =
    count_run s cs (fresh s clients) ∙ ap (λ (st : State). length st.clients) (opening_fresh s clients) ∙ length-replicate clients idle_client

-- ---- a client in a table, past it an idle one

pub front_client : (l : List Client) (clients client : ℕ) → client < clients → get_or l client idle_client ≡ get_or (take clients l) client idle_client
front_client l clients client b = sym (get_or-take clients l client idle_client b)

pub no_client : (l : List Client) (clients client : ℕ) → clients ≤ client → idle_client ≡ get_or (take clients l) client idle_client
no_client l clients client b = sym (get_d_past (take clients l) client idle_client (omega (arith, length-take clients l)))

-- ---- the calls from the one with this index on

module _ (s : Settings) (calls : List (List ℕ)) where
  abbrev pub run_from : State → ℕ → State
  run_from st i = run s st (map call_of_bytes (drop i calls))

  pub run_more : (st : State) (i : ℕ) (d : List ℕ) → i < length calls → (out : Out) → call s st (call_of_bytes (get_or calls i d)) ≡ out → run_from out.state (i + 1) ≡ run_from st i
  unfolding run
  run_more st i d h out e =
      ap₂ (λ (o : Out) (n : ℕ). run_from o.state n) (sym e) (add-one i) ∙ sym (ap (λ (l : List (List ℕ)). run s st (map call_of_bytes l)) (drop-cons calls i d h))

  pub run_done : (st : State) (i : ℕ) → length calls ≤ i → run_from st i ≡ st
  unfolding run
  run_done st i h = ap (λ (l : List (List ℕ)). run s st (map call_of_bytes l)) (drop_all i calls h)

-- ---- all calls of a file

module _ (bytes : List ℕ) (s : Settings) (clients : ℕ) (cs : List Call) (e : s ≡ settings_in bytes) (f : clients ≡ clients_in bytes) (g : cs ≡ calls_in bytes) where
  pub all_made : run s (fresh s clients) cs ≡ after_calls bytes
  unfolding after_calls opening_in
  all_made = ap (run s (fresh s clients)) g ∙ ap₂ (λ (x : Settings) (y : ℕ). run x (fresh x y) (calls_in bytes)) e f
