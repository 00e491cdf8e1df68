-- Laws of the call by value that a kind names: its client, the first tests, which all kinds have in common, and what is left of each kind after them. Assumes nothing.
use Rattle.std.specs.Prelude.{◌≡◌, Bool, true, false, ◌&&◌, ◌||◌, ℕ, ◌≤◌, eqb, ltb, length}
use Rattle.std.proofs.Math.Path.{refl, sym, ap, subst}
use Rattle.std.proofs.Common.{◌∙◌, arith, eq-eqb, ne_eqb, ltb-false}
use Rattle.std.proofs.Math.Bool.{not}
use mathlib.Core.List.{List, [], ◌∷◌, ◌++◌}
use Rattle.base.specs.rules.Choice.{choose}
use Rattle.base.specs.laws.ChoiceLaws.{choose_eq, choose_ne, on_choose}
use Rattle.tree.specs.rules.Tree.{word_count}
use Rattle.cover.specs.rules.Answer.{window_outside}
use Rattle.lock.specs.declared.Client.{Client}
use Rattle.lock.specs.declared.Record.{Record}
use Rattle.lock.specs.declared.Settings.{Settings}
use Rattle.lock.specs.declared.Stepped.{Stepped}
use Rattle.lock.specs.declared.Kind.{Kind}
use Rattle.lock.specs.declared.Kind.TheVariants.{Request, Step, Release, Cancel}
use Rattle.lock.specs.contracts.Kind.{the_type}
use denote.Enum.Bare.{sameb}
use Rattle.std.specs.Prelude.{Result, Ok, Err}
use Rattle.base.specs.declared.Refusal.{Refusal}
use Rattle.base.specs.declared.Refusal.TheVariants.{Clock, Unreadable}
use Rattle.base.specs.rules.Refusals.{number_of}
use Rattle.lock.specs.rules.Records.{word_at, written, client_with}
use Rattle.lock.specs.rules.Unreadable.{differ, unreadable}
use Rattle.lock.specs.rules.Steps.{Moved, own_touched, out_of_patience, touched, moved, given_up}
use Rattle.lock.specs.laws.Rows.{leaves, own_moved}
use Rattle.lock.proofs.laws.Rows.{Nine, moved_nine}
use Rattle.lock.specs.rules.Calls.{Tests, first_cause, tree_tests, request_tests, step_tests, release_tests, cancel_tests, requested, released, cancelled, answered, stepped_by, request_number, request_answer, release_answer, cancel_answer, step_number, step_answer, step_words}
use Rattle.lock.specs.rules.Table.{Call, request, step, release, cancel, client_of}
use Rattle.lock.specs.rules.ByValue.{call_of, call_by, answer_to, words_after}
use Rattle.lock.specs.laws.Active.{Settled}
use Rattle.lock.proofs.laws.SettledLaws.{settled}
use Rattle.lock.proofs.laws.PatienceLaws.{own_touched_lem, own_moved_lem, sent_back_touched, sent_back_moved}
use Rattle.lock.proofs.laws.CallLaws.{TreeTested, cause_tested, cause_hit, cause_skip, tree_passed, refused_by, cause_some, accepted_by, refused_as}
use Rattle.lock.specs.laws.ByKind.{clear_bit, left_by}

module _ (kind client a b : ℕ) where
  pub kind_request : kind ≡ 0 → call_of kind client a b ≡ request client a b
  unfolding call_of
  kind_request e = choose_eq kind 0 _ _ e

  pub kind_step : kind ≡ 1 → call_of kind client a b ≡ step client a
  unfolding call_of
  kind_step e = choose_ne kind 0 _ _ (λ z. omega (arith, z, e)) ∙ choose_eq kind 1 _ _ e

  pub kind_release : kind ≡ 2 → call_of kind client a b ≡ release client
  unfolding call_of
  kind_release e = choose_ne kind 0 _ _ (λ z. omega (arith, z, e)) ∙ choose_ne kind 1 _ _ (λ z. omega (arith, z, e)) ∙ choose_eq kind 2 _ _ e

  pub kind_cancel : (kind ≡ 0 → ⊥) → (kind ≡ 1 → ⊥) → (kind ≡ 2 → ⊥) → call_of kind client a b ≡ cancel client
  unfolding call_of
  kind_cancel d e f = choose_ne kind 0 _ _ d ∙ choose_ne kind 1 _ _ e ∙ choose_ne kind 2 _ _ f

  pub client_of_kind : client_of (call_of kind client a b) ≡ client
  unfolding call_of client_of
  client_of_kind =
      on_choose (λ (k : Call). client_of k ≡ client) (eqb kind 0) _ _ (λ _. refl)
      (λ _. on_choose (λ (k : Call). client_of k ≡ client) (eqb kind 1) _ _ (λ _. refl) (λ _. on_choose (λ (k : Call). client_of k ≡ client) (eqb kind 2) _ _ (λ _. refl) (λ _. refl)))

-- ---- the first tests

-- 5, which "only a step tests"
unfoldable pub back_of : ℕ → Call → Bool
back_of last (request c a b) = false
back_of last (step c t) = ltb t last
back_of last (release c) = false
back_of last (cancel c) = false

pub back_of_kind : (kind : Kind) (client a b last : ℕ) → (sameb the_type kind Step && ltb a last) ≡ back_of last (call_by kind client a b)
unfolding back_of
back_of_kind Request client a b last = refl
back_of_kind Step client a b last = refl
back_of_kind Release client a b last = refl
back_of_kind Cancel client a b last = refl

pub step_onward : (kind : Kind) (clock last : ℕ) → kind ≡ Step → (sameb the_type kind Step && ltb clock last) ≡ false → last ≤ clock
step_onward kind clock last e =
    let P : Kind → Type 0 = λ k. (sameb the_type k Step && ltb clock last) ≡ false → last ≤ clock in subst P (sym e) (λ h. ltb-false clock last h)

module _ (s : Settings) (own : Client) (words : List ℕ) where
  abbrev r : Record
  r = own.«record»

  abbrev last : ℕ
  last = own.clock

  -- what a kind tests itself, behind 1, 2, 5 and 6
  unfoldable pub rest_of : Call → Tests
  rest_of (request c a b) = (window_outside s.levels a b, 7) ∷ (differ r.phase 0, 8) ∷ []
  rest_of (step c t) = (differ (moved s r (word_at words (touched s r t)) t).number 0, 9) ∷ []
  rest_of (release c) = (differ r.phase 9, 8) ∷ []
  rest_of (cancel c) = (eqb r.phase 0 || eqb r.phase 9 || eqb r.phase 10, 8) ∷ []

  -- all tests of a call, the first ones in common
  abbrev pub number_by : Call → ℕ
  number_by k = first_cause (tree_tests s (length words) ++ ((back_of last k, 5) ∷ (unreadable s r last, 6) ∷ rest_of k))

  -- a call that is refused, and one that is not
  pub refused_call : (k : Call) (n : ℕ) (x : Stepped) → number_by k ≡ n → (n ≡ 0 → ⊥) → x ≡ record { number = n; next = own }
      → (x ≡ answer_to s own words k) × (words ≡ words_after s own words k)
  unfolding tree_tests first_cause choose back_of rest_of answer_to words_after request_tests step_tests release_tests cancel_tests request_number request_answer release_answer cancel_answer step_number step_answer step_words
  refused_call (request c a b) n x e d q = (q ∙ refused_by _ own _ n e d, refl)
  refused_call (step c t) n x e d q = (q ∙ refused_by _ own _ n e d, sym (choose_ne (step_number s own words t) 0 _ words (λ z. d (sym e ∙ z))))
  refused_call (release c) n x e d q = (q ∙ refused_by _ own _ n e d, refl)
  refused_call (cancel c) n x e d q = (q ∙ refused_by _ own _ n e d, refl)

  -- the client and the words that an accepted call leaves, where the word that it finds has no clear bit
  unfoldable pub next_by : Call → Client
  next_by (request c a b) = client_with last (requested s a b)
  next_by (step c t) = client_with t (moved s r (word_at words (touched s r t)) t).next
  next_by (release c) = client_with last (released r)
  next_by (cancel c) = client_with last (cancelled r)

  unfoldable pub words_by : Call → List ℕ
  words_by (request c a b) = words
  words_by (step c t) = left_by s r words t
  words_by (release c) = words
  words_by (cancel c) = words

  -- where the first tests pass, what is left of the call decides
  pub left_call : (k : Call) (x : Stepped) (vs : List ℕ) → number_by k ≡ first_cause (rest_of k) → x ≡ answered (first_cause (rest_of k)) own (next_by k) → vs ≡ words_by k
      → (x ≡ answer_to s own words k) × (vs ≡ words_after s own words k)
  unfolding tree_tests first_cause choose back_of rest_of next_by words_by answer_to words_after request_tests step_tests release_tests cancel_tests request_number request_answer release_answer cancel_answer step_number step_answer step_words
  left_call (request c a b) x vs e q w = (q ∙ ap (λ (m : ℕ). answered m own (next_by (request c a b))) (sym e), w)
  left_call (step c t) x vs e q w =
      (q ∙ ap (λ (m : ℕ). answered m own (next_by (step c t))) (sym e), w ∙ ap (λ (m : ℕ). choose (eqb m 0) (written words (touched s r t) (moved s r (word_at words (touched s r t)) t).word) words) (sym e))
  left_call (release c) x vs e q w = (q ∙ ap (λ (m : ℕ). answered m own (next_by (release c))) (sym e), w)
  left_call (cancel c) x vs e q w = (q ∙ ap (λ (m : ℕ). answered m own (next_by (cancel c))) (sym e), w)

-- a call in code, on the words that it leaves
module _ (s : Settings) (own : Client) (words : List ℕ) (k : Call) where
  abbrev Gives : Result Client Refusal → List ℕ → Type 0
  Gives x vs = (stepped_by own x ≡ answer_to s own words k) × (vs ≡ words_after s own words k)

  abbrev unread : Bool
  unread = unreadable s own.«record» own.clock

  refuses : (e : Refusal) → number_by s own words k ≡ number_of e → Gives (Err e) words
  refuses e q = refused_call s own words k (number_of e) _ q (cause_some e) refl

  -- 1 and 2, at the exit of a `?`
  pub refuses_tree : (x : Result Client Refusal) (y e : Refusal) → x ≡ Err y → y ≡ e → number_of e ≡ first_cause (tree_tests s (length words)) → Gives x words
  refuses_tree x y e f g q =
      let tested = cause_tested s (length words) (number_of e) q in
      subst (λ (z : Result Client Refusal). Gives z words) (sym (f ∙ ap Err g)) (refuses e (tested.refused (cause_some e) _))

  module _ (z : 0 ≡ first_cause (tree_tests s (length words))) where
    tested : TreeTested s (length words) 0
    tested = cause_tested s (length words) 0 z

    pub settles : Settled s
    settles = settled s (tested.settings refl)

    pub counts : length words ≡ word_count s.levels
    counts = tested.count_right refl

    behind_tree : number_by s own words k ≡ first_cause ((back_of own.clock k, 5) ∷ (unread, 6) ∷ rest_of s own words k)
    behind_tree = tree_passed s (length words) _ (tested.settings refl) counts

    pub refuses_back : back_of own.clock k ≡ true → Gives (Err Clock) words
    refuses_back e = refuses Clock (behind_tree ∙ cause_hit (back_of own.clock k) 5 _ e)

    module _ (b : back_of own.clock k ≡ false) where
      pub refuses_unreadable : unread ≡ true → Gives (Err Unreadable) words
      refuses_unreadable e = refuses Unreadable (behind_tree ∙ cause_skip (back_of own.clock k) 5 _ b ∙ cause_hit unread 6 _ e)

      module _ (u : unread ≡ false) (j : Call) (i : k ≡ j) (vs : List ℕ) (w : vs ≡ words_by s own words j) where
        behind : (x : Result Client Refusal) → stepped_by own x ≡ answered (first_cause (rest_of s own words j)) own (next_by s own words j) → Gives x vs
        behind x q =
            let rest = behind_tree ∙ cause_skip (back_of own.clock k) 5 _ b ∙ cause_skip unread 6 _ u in
            let a = left_call s own words j _ vs (ap (number_by s own words) (sym i) ∙ rest ∙ ap (λ (m : Call). first_cause (rest_of s own words m)) i) q w in
            (a.0 ∙ ap (answer_to s own words) (sym i), a.1 ∙ ap (words_after s own words) (sym i))

        -- by the tests of its own kind, at the exit of a `?`
        pub refuses_own : (x : Result Client Refusal) (y e : Refusal) → x ≡ Err y → y ≡ e → number_of e ≡ first_cause (rest_of s own words j) → Gives x vs
        refuses_own x y e f g q = behind x (refused_as _ own _ x y e f g q)

        pub accepts : (next : Client) → 0 ≡ first_cause (rest_of s own words j) → next ≡ next_by s own words j → Gives (Ok next) vs
        accepts next z q = behind (Ok next) (accepted_by _ own _ next z q)

-- ---- what is left of a step

module _ (s : Settings) (r : Record) (words : List ℕ) (clock : ℕ) where
  abbrev made : Moved
  made = moved s r (word_at words (touched s r clock)) clock

  module _ (m : Moved) (e : m ≡ made) where
    pub step_refused : (m.number ≡ 0 → ⊥) → (m.number ≡ clear_bit s r words clock) × (words ≡ left_by s r words clock)
    step_refused d =
        let nine : clear_bit s r words clock ≡ 9 = cause_hit _ 9 [] (ap not (ne_eqb made.number 0 (λ z. d (ap (λ y. y.number) e ∙ z)))) in
        (subst Nine (sym e) (moved_nine s r _ clock) d ∙ sym nine, sym (choose_ne (clear_bit s r words clock) 0 _ words (λ z. omega arith)))

    pub step_taken : (vs : List ℕ) → m.number ≡ 0 → vs ≡ written words (touched s r clock) m.word → (0 ≡ clear_bit s r words clock) × (m.next ≡ made.next) × (vs ≡ left_by s r words clock)
    unfolding first_cause
    step_taken vs z q =
        let none : clear_bit s r words clock ≡ 0 = cause_skip _ 9 [] (ap not (eq-eqb made.number 0 (sym (ap (λ y. y.number) e) ∙ z))) in (
          sym none,
          ap (λ y. y.next) e,
          q ∙ ap (λ (y : ℕ). written words (touched s r clock) y) (ap (λ y. y.word) e) ∙ sym (choose_eq (clear_bit s r words clock) 0 _ words none),
        )

  -- patience has run out
  pub step_sent_back : out_of_patience s r clock ≡ true → (q : Record) → q ≡ given_up r → (0 ≡ clear_bit s r words clock) × (q ≡ made.next) × (words ≡ left_by s r words clock)
  unfolding written
  step_sent_back e q f =
      let w = word_at words (touched s r clock) in
      step_taken (leaves w q) (ap (leaves w) f ∙ sym (sent_back_moved s r clock e w)) words refl (sym (ap (λ (n : ℕ). written words n w) (sent_back_touched s r clock e)))

-- the work of the phase, where patience has not run out: on the node n, where `found` is
pub step_work : (s : Settings) (r : Record) (words : List ℕ) (clock : ℕ) → out_of_patience s r clock ≡ false → (n found : ℕ) (m : Moved) → n ≡ own_touched s r → found ≡ word_at words n
    → m ≡ own_moved s r found clock → m ≡ moved s r (word_at words (touched s r clock)) clock
step_work s r words clock e n found m i j k =
    k ∙ ap (λ (x : ℕ). own_moved s r x clock) (j ∙ ap (word_at words) (i ∙ sym (own_touched_lem s r clock e))) ∙ sym (own_moved_lem s r clock e _)
