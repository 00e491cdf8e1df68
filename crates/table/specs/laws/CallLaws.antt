-- A call over the table is, after the tests of the table and the client, the call by value on that client, who is put back where it was. Assumes nothing.
use Rattle.std.specs.Prelude.{◌≡◌, Bool, List, ◌++◌, ℕ, T, eqb, length, set}
use Rattle.std.proofs.Math.Path.{refl, sym, subst}
use Rattle.std.proofs.Common.{ap, ◌∙◌, arith, eqb→eq}
use Rattle.std.proofs.Math.Bool.{true, false}
use Rattle.std.proofs.lemmas.List.{set-get_or}
use Rattle.base.specs.rules.Choice.{choose}
use Rattle.base.specs.laws.ChoiceLaws.{choose_ne}
use Rattle.lock.specs.declared.Client.{Client}
use Rattle.lock.specs.declared.Settings.{Settings}
use Rattle.lock.specs.declared.Stepped.{Stepped}
use Rattle.lock.specs.rules.Records.{idle_client}
use Rattle.lock.specs.rules.Calls.{first_cause, tree_tests, client_tests, answered, request_number, request_answer, release_answer, cancel_answer, step_number, step_answer, step_words}
use Rattle.lock.specs.rules.Table.{State, Call, request, step, release, cancel, client_of, client_at, Out, own_tests, number_of, after, call}
use Rattle.lock.specs.rules.ByValue.{answer_to, words_after}
use Rattle.table.specs.rules.Lent.{lent, left_with}
use Rattle.table.specs.laws.Causes.{table_cause}
use Rattle.table.specs.laws.CauseLaws.{first_hits, first_passes, both_none}

-- a number, clients and words are what a call leaves
abbrev pub Same : Out → ℕ → List Client → List ℕ → Type 0
Same out n clients words = left_with n clients words ≡ out

module _ (s : Settings) (clients : List Client) (words : List ℕ) where
  abbrev st : State
  st = lent clients words

  -- ---- the number

  module _ (k : Call) where
    pub cause_refuses : (table_cause s (length words) (length clients) (client_of k) ≡ 0 → ⊥) → number_of s st k ≡ table_cause s (length words) (length clients) (client_of k)
    unfolding number_of table_cause tree_tests client_tests
    cause_refuses d = first_hits (tree_tests s (length words) ++ client_tests (length clients) (client_of k)) (own_tests s st k) d

    pub cause_passes : table_cause s (length words) (length clients) (client_of k) ≡ 0 → number_of s st k ≡ first_cause (tree_tests s (length words) ++ own_tests s st k)
    unfolding number_of table_cause tree_tests client_tests
    cause_passes z =
        first_passes (tree_tests s (length words) ++ client_tests (length clients) (client_of k)) (own_tests s st k)
        ((λ e. omega (arith, e)), ((λ e. omega (arith, e)), ((λ e. omega (arith, e)), ((λ e. omega (arith, e)), tt)))) z
        ∙ sym (first_passes (tree_tests s (length words)) (own_tests s st k) ((λ e. omega (arith, e)), ((λ e. omega (arith, e)), tt)) (both_none (tree_tests s (length words)) (client_tests (length clients) (client_of k)) z))

  -- ---- refused by 1, 2, 3 or 4: all as it was

  pub table_refuses : (k : Call) (n : ℕ) → n ≡ table_cause s (length words) (length clients) (client_of k) → (n ≡ 0 → ⊥) → Same (call s st k) n clients words
  unfolding call
  table_refuses k n e d =
      let number : number_of s st k ≡ n = cause_refuses k (λ z. d (e ∙ z)) ∙ sym e in
      let kept : choose (eqb (number_of s st k) 0) (after s st k) st ≡ st = choose_ne (number_of s st k) 0 _ st (λ z. d (sym number ∙ z)) in
      λ i. record { number = sym number i; state = sym kept i }

  -- ---- else the call by value

  choose_same : {A : Type 0} (b : Bool) (x : A) → choose b x x ≡ x
  unfolding choose
  choose_same true x = refl
  choose_same false x = refl

  put_back_by : (c n : ℕ) (next : Client) (others : List ℕ) (b : Bool) → (T b → n ≡ 0)
      → let by_value : Stepped = choose b (record { number = 0; next = next }) (record { number = n; next = client_at st c }) in
      Same (record { number = n; state = choose b (record { words = others; clients = set clients c next }) st }) by_value.number (set clients c by_value.next) (choose b others words)
  unfolding choose client_at
  put_back_by c n next others true z = λ i. left_with (sym (z tt) i) (set clients c next) others
  put_back_by c n next others false z = λ i. left_with n (set-get_or clients c idle_client i) words

  -- an answer by value with the number n, put back into the table
  put_back : (c n : ℕ) (next : Client) (others : List ℕ)
      → let by_value = answered n (client_at st c) next in
      Same (record { number = n; state = choose (eqb n 0) (record { words = others; clients = set clients c next }) st }) by_value.number (set clients c by_value.next) (choose (eqb n 0) others words)
  unfolding answered
  put_back c n next others = put_back_by c n next others (eqb n 0) (eqb→eq n 0)

  -- a call that the number n is known of
  abbrev out_of : Call → ℕ → Out
  out_of k n = record { number = n; state = choose (eqb n 0) (after s st k) st }

  abbrev Taken : Call → Out → Type 0
  Taken k out =
      let by_value = answer_to s (client_at st (client_of k)) words k in
      Same out by_value.number (set clients (client_of k) by_value.next) (words_after s (client_at st (client_of k)) words k)

  -- a call that touches no word
  no_word : (c n : ℕ) (next : Client)
      → let by_value = answered n (client_at st c) next in
      Same (record { number = n; state = choose (eqb n 0) (record { words = words; clients = set clients c next }) st }) by_value.number (set clients c by_value.next) words
  no_word c n next =
      let by_value = answered n (client_at st c) next in
      (λ i. left_with by_value.number (set clients c by_value.next) (sym (choose_same (eqb n 0) words) i)) ∙ put_back c n next words

  by_value : (k : Call) → Taken k (out_of k (first_cause (tree_tests s (length words) ++ own_tests s st k)))
  unfolding own_tests after client_of answer_to words_after request_number request_answer release_answer cancel_answer step_number step_answer step_words
  by_value (request c a b) = no_word c (request_number s (client_at st c) words a b) _
  by_value (step c t) = put_back c (step_number s (client_at st c) words t) _ _
  by_value (release c) = no_word c _ _
  by_value (cancel c) = no_word c _ _

  table_passes : (k : Call) → table_cause s (length words) (length clients) (client_of k) ≡ 0 → Taken k (call s st k)
  unfolding call
  table_passes k z = subst (λ (n : ℕ). Taken k (out_of k n)) (sym (cause_passes k z)) (by_value k)

  -- the same where the client is known by another name
  pub table_takes : (k : Call) (c : ℕ) → client_of k ≡ c → table_cause s (length words) (length clients) c ≡ 0
      → let by_value = answer_to s (client_at st c) words k in Same (call s st k) by_value.number (set clients c by_value.next) (words_after s (client_at st c) words k)
  table_takes k c e z =
      subst (λ (d : ℕ). let by_value = answer_to s (client_at st d) words k in Same (call s st k) by_value.number (set clients d by_value.next) (words_after s (client_at st d) words k)) e
      (table_passes k (ap (table_cause s (length words) (length clients)) e ∙ z))
