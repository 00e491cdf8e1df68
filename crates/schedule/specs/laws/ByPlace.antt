-- Laws of the calls by their places in a file: call k begins at the offset plus 24 × k, and its bytes are read and tested there. Assumes nothing.
use Rattle.std.specs.Prelude.{◌≡◌, false, ◌++◌, List, length, get_or, take, replicate}
use Rattle.std.proofs.Math.Path.{refl, sym, subst, ap, ap₂}
use Rattle.std.proofs.Common.{◌∙◌, append-nil, append_assoc}
use Rattle.std.proofs.Math.Bool.{true}
use Prim.Native.Nat.{ℕ, zero, suc, ◌+◌, ◌-◌, ◌*◌, ◌≤◌, ◌<◌}
use Rattle.std.proofs.Math.Numerals.{add-one}
use native.Mathlib.Omega.{arith}
use Rattle.base.specs.laws.ChoiceLaws.{by_lt}
use Rattle.base.specs.laws.TestLaws.{true_first, true_later, next_test}
use Rattle.lock.specs.declared.Call.{Call as CallStruct}
use Rattle.lock.specs.declared.Settings.{Settings}
use Rattle.lock.specs.rules.ByValue.{call_of}
use Rattle.lock.specs.rules.History.{run}
use Rattle.lock.specs.rules.Table.{State, Out, call, client_of, record_at}
use Rattle.schedule.specs.rules.Format.{little, settings_in, clients_in, count_in, offset_in, place_of, kind_in, client_in, a_in, b_in, call_in, calls_from, calls_in, call_wrong, any_wrong}
use Rattle.schedule.specs.rules.Log.{header_line, line, lines, log_of}
use Rattle.schedule.specs.rules.Refusal.{refusal}
use Rattle.schedule.specs.rules.Running.{opening_in, after_calls}
use Rattle.schedule.specs.laws.Appended.{Appended}
use Rattle.schedule.specs.laws.Refusing.{run_whole}
use Rattle.schedule.specs.laws.ShelfLaws.{take_replicate}

-- ---- a call

-- the call whose 24 bytes begin at `at`
pub record CallReadAt (bytes : List ℕ) (at : ℕ) (c : CallStruct) : Type 0 where
  pub kind : c.kind ≡ get_or bytes at 0
  pub client : c.client ≡ little 2 bytes (at + 2)
  pub a : c.a ≡ little 8 bytes (at + 8)
  pub b : c.b ≡ little 8 bytes (at + 16)

-- call k
pub record CallRead (bytes : List ℕ) (k : ℕ) (c : CallStruct) : Type 0 where
  pub kind : c.kind ≡ kind_in bytes k
  pub client : c.client ≡ client_in bytes k
  pub a : c.a ≡ a_in bytes k
  pub b : c.b ≡ b_in bytes k

module _ (bytes : List ℕ) (k : ℕ) where
  pub call_at_place : (at : ℕ) (c : CallStruct) → at ≡ place_of bytes k → CallReadAt bytes at c → CallRead bytes k c
  unfolding kind_in client_in a_in b_in
  call_at_place at c e r = record {
    kind = rw (← e) r.kind;
    client = rw (← e) r.client;
    a = rw (← e) r.a;
    b = rw (← e) r.b;
  }

  pub call_read : (c : CallStruct) → CallRead bytes k c → call_of c.kind c.client c.a c.b ≡ call_in bytes k
  unfolding call_in
  call_read c r = rw (r.kind, r.client, r.a, r.b)

  -- its 24 bytes are inside, and so is the header
  pub place_inside : place_of bytes (suc k) ≤ length bytes → place_of bytes k + 24 ≤ length bytes
  unfolding place_of
  place_inside h = omega arith

  pub place_small : place_of bytes (suc k) ≤ length bytes → offset_in bytes + 24 * k ≤ length bytes
  unfolding place_of
  place_small h = omega arith

  pub header_inside : place_of bytes (suc k) ≤ length bytes → 20 ≤ length bytes
  unfolding place_of
  header_inside h = omega arith

  pub earlier_inside : (n : ℕ) → k < n → place_of bytes n ≤ length bytes → place_of bytes (suc k) ≤ length bytes
  unfolding place_of
  earlier_inside n l h = omega arith

pub call_made : (s : Settings) (st : State) (bytes : List ℕ) (k : ℕ) (c : CallStruct) → CallRead bytes k c → call s st (call_of c.kind c.client c.a c.b) ≡ call s st (call_in bytes k)
call_made s st bytes k c r = ap (call s st) (call_read bytes k c r)

-- ---- the tests of all calls

module _ (bytes : List ℕ) where
  pub none_yet : false ≡ any_wrong bytes 0
  unfolding any_wrong
  none_yet = refl

  pub none_next : (k : ℕ) → false ≡ any_wrong bytes k → false ≡ call_wrong bytes k → false ≡ any_wrong bytes (k + 1)
  unfolding any_wrong
  none_next k e f = rw add-one (next_test _ _ _ (sym e) f)

  -- a wrong call among n is found
  pub wrong_below : (n k : ℕ) → k < n → true ≡ call_wrong bytes k → true ≡ any_wrong bytes n
  unfolding any_wrong
  wrong_below zero k h e = absurd (omega arith)
  wrong_below (suc n) k h e =
      by_lt k n (λ l. true_first (any_wrong bytes n) (call_wrong bytes n) (sym (wrong_below n k l e)))
      (λ l. true_later (any_wrong bytes n) (call_wrong bytes n) (let same : k ≡ n = omega arith in subst (λ (m : ℕ). true ≡ call_wrong bytes m) same e))

-- ---- the table before the first call, and what its calls leave

-- as many of the words as the tree has
pub tree_words : (l : List ℕ) (n : ℕ) → l ≡ replicate 1365 0 → n ≤ 1365 → take n l ≡ replicate n 0
tree_words l n e b = ap (take n) e ∙ take_replicate n 1365 0 b

module _ (bytes : List ℕ) (s : Settings) (clients : ℕ) (e : s ≡ settings_in bytes) (f : clients ≡ clients_in bytes) where
  pub all_made : (first last : State) → first ≡ (opening_in bytes).state → last ≡ run s first (calls_in bytes) → last ≡ after_calls bytes
  unfolding after_calls
  all_made first last b g = g ∙ ap₂ (λ (x : Settings) (y : State). run x y (calls_in bytes)) e b

-- from call k on
module _ (s : Settings) (bytes : List ℕ) where
  abbrev pub run_from : State → ℕ → State
  run_from st k = run s st (calls_from bytes k (count_in bytes - k))

  pub run_all : (st : State) → run_from st 0 ≡ run s st (calls_in bytes)
  unfolding calls_in
  run_all st = ap (λ (n : ℕ). run s st (calls_from bytes 0 n)) (let e : count_in bytes - 0 ≡ count_in bytes = omega arith in e)

  pub run_more : (st : State) (k : ℕ) → k < count_in bytes → (out : Out) → out ≡ call s st (call_in bytes k) → run_from out.state (k + 1) ≡ run_from st k
  unfolding run calls_from
  run_more st k b out e =
      let left : count_in bytes - k ≡ suc (count_in bytes - (k + 1)) = omega arith in
      let one : k + 1 ≡ suc k = omega arith in
      ap₂ (λ (o : Out) (n : ℕ). run s o.state (calls_from bytes n (count_in bytes - (k + 1)))) e one
      ∙ sym (ap (λ (n : ℕ). run s st (calls_from bytes k n)) left)

  pub run_done : (st : State) (k : ℕ) → count_in bytes ≤ k → run_from st k ≡ st
  unfolding run calls_from
  run_done st k b = ap (λ (n : ℕ). run s st (calls_from bytes k n)) (let e : count_in bytes - k ≡ 0 = omega arith in e)

-- ---- all calls: what is written so far, and the lines of the calls from k on, are the whole text

module _ (s : Settings) (bytes : List ℕ) (whole : List ℕ) where
  pub record Written (st : State) (k : ℕ) (out : List ℕ) (end : ℕ) : Type 0 where
    pub begun : k ≤ count_in bytes
    pub text : take end out ++ lines s st k (calls_from bytes k (count_in bytes - k)) ≡ whole
    pub inside : end ≤ length out
    pub most : end ≤ 112 + 144 * k

  -- call k is made, and its line written
  pub written_more : (st : State) (k : ℕ) (out : List ℕ) (at : ℕ) → Written st k out at → k < count_in bytes → (o : Out) (new : List ℕ) (end : ℕ) → o ≡ call s st (call_in bytes k)
      → Appended out at new end (line k (call_in bytes k) o.number (record_at o.state (client_of (call_in bytes k)))) → end ≤ at + 144 → Written o.state (k + 1) new end
  unfolding lines calls_from
  written_more st k out at v b o new end e a short =
      let c = call_in bytes k in
      let left : count_in bytes - k ≡ suc (count_in bytes - (k + 1)) = omega arith in
      let rest = calls_from bytes (suc k) (count_in bytes - (k + 1)) in
      let line_of : Out → List ℕ = λ x. line k c x.number (record_at x.state (client_of c)) in
      let after = lines s o.state (suc k) rest in
      let unrolled : lines s st k (calls_from bytes k (count_in bytes - k)) ≡ line_of o ++ after
      = ap (λ (n : ℕ). lines s st k (calls_from bytes k n)) left ∙ sym (ap (λ (x : Out). line_of x ++ lines s x.state (suc k) rest) e) in
      let one : k + 1 ≡ suc k = omega arith in
      record {
        begun = omega arith;
        text = ap (λ (n : ℕ). take end new ++ lines s o.state n (calls_from bytes n (count_in bytes - (k + 1)))) one
            ∙ ap (λ (l : List ℕ). l ++ after) a.text ∙ append_assoc (take at out) (line_of o) after ∙ ap (λ (l : List ℕ). take at out ++ l) (sym unrolled) ∙ v.text;
        inside = omega (arith, a.room, a.same);
        most = omega (arith, v.most);
      }

  -- all calls are made
  pub written_all : (st : State) (k : ℕ) (out : List ℕ) (end : ℕ) → Written st k out end → count_in bytes ≤ k → take end out ≡ whole
  unfolding lines calls_from
  written_all st k out end v b =
      let none : count_in bytes - k ≡ 0 = omega arith in
      sym (append-nil (take end out)) ∙ sym (ap (λ (n : ℕ). take end out ++ lines s st k (calls_from bytes k n)) none) ∙ v.text

-- before the first call
pub written_first : (s : Settings) (bytes : List ℕ) (st : State) (clients : ℕ) (old out : List ℕ) (end : ℕ) → Appended old 0 out end (header_line s clients) → end ≤ 0 + 112
    → Written s bytes (header_line s clients ++ lines s st 0 (calls_in bytes)) st 0 out end
unfolding calls_in
written_first s bytes st clients old out end a b = record {
  begun = omega arith;
  text = ap (λ (l : List ℕ). l ++ lines s st 0 (calls_from bytes 0 (count_in bytes - 0))) a.text
      ∙ ap (λ (n : ℕ). header_line s clients ++ lines s st 0 (calls_from bytes 0 n)) (let e : count_in bytes - 0 ≡ count_in bytes = omega arith in e);
  inside = omega (arith, a.room, a.same);
  most = omega arith;
}

-- ---- the log

pub log_run : (bytes : List ℕ) → refusal bytes ≡ 0 → (s : Settings) (clients : ℕ) → s ≡ settings_in bytes → clients ≡ clients_in bytes → (st : State) → st ≡ (opening_in bytes).state
    → (whole : List ℕ) → whole ≡ header_line s clients ++ lines s st 0 (calls_in bytes) → whole ≡ log_of bytes
unfolding log_of
log_run bytes z s clients e f st g whole t =
    let of : State → List ℕ = λ x. header_line (settings_in bytes) (clients_in bytes) ++ lines (settings_in bytes) x 0 (calls_in bytes) in
    run_whole bytes (of (opening_in bytes).state) z whole
    (t ∙ ap₂ (λ (x : Settings) (y : ℕ). header_line x y ++ lines x st 0 (calls_in bytes)) e f ∙ ap of g)
