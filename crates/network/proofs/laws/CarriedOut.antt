-- Laws of a list in flight: an operation that is carried out counts, and is the client's next step, or it is dropped, and leaves its word as it was. Assumes nothing.
use Rattle.std.specs.Prelude.{◌≡◌, refl, ◌≢◌, ◌⊎◌, Bool, true, false, ◌&&◌, List, [], ◌∷◌, ◌++◌, ℕ, suc, ◌+◌, length, take, drop}
use Rattle.std.proofs.Math.Path.{sym, ap}
use Rattle.std.proofs.Common.{subst, ◌∙◌, inl, inr, ⊎_elim, arith, take-append-drop, length-append}
use borrow.Author.Tests.{eqb-true, eq-eqb}
use Rattle.std.proofs.Math.Dec.{T}
use Rattle.base.specs.rules.Choice.{choose}
use Rattle.base.specs.laws.ChoiceLaws.{by_eq}
use Rattle.base.specs.laws.TestLaws.{by_test, both_true}
use Rattle.lock.specs.declared.Client.{Client}
use Rattle.lock.specs.declared.Operation.{Operation}
use Rattle.lock.specs.declared.Record.{Record}
use Rattle.lock.specs.declared.Settings.{Settings}
use Rattle.lock.specs.declared.Stepped.{Stepped}
use Rattle.lock.specs.rules.Calls.{first_cause}
use Rattle.lock.specs.rules.Steps.{completed, moved}
use Rattle.lock.specs.rules.Operations.{post_tests, operation_answer, completed_answer}
use Rattle.lock.proofs.laws.OperationLaws.{completed_taken}
use Rattle.runs.specs.laws.FirstDue.{not_empty, first_due, same_itself, same_equal}
use Rattle.runs.specs.rules.Ahead.{ahead_of, same, Counted, nothing_more, one_more, along}
use Rattle.network.specs.rules.Clocks.{claims}
use Rattle.runs.specs.laws.AlongLaws.{no_words}
use Rattle.network.proofs.laws.Counted.{due, after, along_one, along_on, along_stopped}
use Rattle.network.proofs.laws.Leading.{Alike}
use Rattle.runs.specs.laws.OperationLists.{Leads, Reads, joined}
use Rattle.network.proofs.laws.Underway.{then, read_unclaimed}

reads_front : (os rest : List Operation) → Reads (os ++ rest) → Reads os
unfolding Reads
reads_front [] rest v = tt
reads_front (o ∷ os) rest v = (v.0, reads_front os rest v.1)

-- a list of which nothing is left had nothing
none_front : (os rest : List Operation) → os ++ rest ≡ [] → os ≡ []
none_front [] rest e = refl
none_front (o ∷ os) rest e = absurd (omega (arith, ap (λ (l : List Operation). length l) e))

alike_on : (s : Settings) (r q p : Record) → Alike s r q → Alike s q p → Alike s r p
alike_on s r q p a b = record {
  claiming = b.claiming ∙ a.claiming;
  kept = λ z. let x = a.kept z in let y = b.kept (a.claiming ∙ z) in (y.0 ∙ x.0, y.1 ∙ x.1);
}

module _ (s : Settings) (c : Client) (u : ℕ) where
  -- how many have counted, and the client after those
  abbrev pub sofar : List ℕ → Counted
  sofar found = along s u c (ahead_of s c u) found

  abbrev pub seen_after : List ℕ → Client
  seen_after found = (sofar found).next

  -- every word found was as hoped: what is left is what the client would post, claims where the list has claims
  pub record Led (os : List Operation) (found : List ℕ) : Type 0 where
    pub all : (sofar found).count ≡ length found
    pub leads : Leads os (ahead_of s (seen_after found) u)
    pub alike : (os ≡ []) ⊎ Alike s c.«record» (seen_after found).«record»

  pub record Underway (os : List Operation) (found : List ℕ) : Type 0 where
    pub done : List Operation
    pub more : List Operation
    pub whole : done ++ (os ++ more) ≡ ahead_of s c u
    pub even : length done ≡ length found
    pub goes : Led os found ⊎ (Reads os × (claims c.«record» ≡ false))

  -- as it was posted
  pub begun : (room : ℕ) (l : List Operation) → l ≡ ahead_of s c u → Underway (take room l) []
  begun room l e =
      let none = no_words s u c (ahead_of s c u) in
      let whole = take-append-drop room l ∙ e in
      record {
        done = [];
        more = drop room l;
        whole = whole;
        even = refl;
        goes = inl (record {
          all = ap (λ (x : Counted). x.count) none;
          leads = subst (λ (x : Client). Leads (take room l) (ahead_of s x u)) (sym (ap (λ (x : Counted). x.next) none)) (record { rest = drop room l; whole = whole });
          alike = inr (subst (λ (x : Client). Alike s c.«record» x.«record») (sym (ap (λ (x : Counted). x.next) none)) (record { claiming = refl; kept = λ _. (refl, refl) }));
        });
      }

  module _ (o : Operation) (os : List Operation) (found : List ℕ) (w : ℕ) where
    abbrev longer : List ℕ
    longer = found ++ (w ∷ [])

    pub record Counting : Type 0 where
      pub more : (sofar longer).count ≡ suc (sofar found).count
      pub is : o ≡ operation_answer s (seen_after found) u
      pub accepted : (completed_answer s (seen_after found) u w).number ≡ 0
      pub next : seen_after longer ≡ (completed_answer s (seen_after found) u w).next
      pub alike : Alike s c.«record» (seen_after found).«record»

    pub record Dropped : Type 0 where
      pub more : (sofar longer).count ≡ (sofar found).count
      pub next : seen_after longer ≡ seen_after found
      pub reads : o.kind ≡ 1

    module _ (v : Underway (o ∷ os) found) where
      abbrev rest : List Operation
      rest = os ++ v.more

      abbrev Sofar : List Operation → List ℕ → Counted
      Sofar l f = along s u c l f

      -- the next word, where all before it counted
      on : (sofar found).count ≡ length found → let next = choose (due s u (seen_after found) o w) (one_more (nothing_more (after s u (seen_after found) w))) (nothing_more (seen_after found)) in
          ((sofar longer).count ≡ length found + next.count) × (seen_after longer ≡ next.next)
      on all =
          let l = v.done ++ (o ∷ rest) in
          let e = subst (λ (k : List Operation). (Sofar k found).count ≡ length found → let next = along s u (Sofar k found).next (o ∷ rest) (w ∷ []) in ((Sofar k longer).count ≡ length found + next.count) × ((Sofar k longer).next ≡ next.next)) v.whole
          (along_on s u c v.done found (o ∷ rest) (w ∷ []) v.even) all in
          let one = along_one s u (seen_after found) o rest w in
          (e.0 ∙ ap (λ (x : Counted). length found + x.count) one, e.1 ∙ ap (λ (x : Counted). x.next) one)

      stopped : (sofar found).count ≢ length found → sofar longer ≡ sofar found
      stopped = subst (λ (k : List Operation). (Sofar k found).count ≢ length found → Sofar k longer ≡ Sofar k found) v.whole (along_stopped s u c v.done found (o ∷ rest) (w ∷ []) v.even)

      -- one that is due counts
      counting : (sofar found).count ≡ length found → due s u (seen_after found) o w ≡ true → Alike s c.«record» (seen_after found).«record» → Counting
      unfolding choose
      counting all is alike =
          let e = on all in
          let f : choose (due s u (seen_after found) o w) (one_more (nothing_more (after s u (seen_after found) w))) (nothing_more (seen_after found)) ≡ one_more (nothing_more (after s u (seen_after found) w)) = ap (λ (b : Bool). choose b (one_more (nothing_more (after s u (seen_after found) w))) (nothing_more (seen_after found))) is in
          let b = both_true _ _ is in
          record {
            more = omega (arith, all, e.0, ap (λ (x : Counted). x.count) f);
            is = sym (same_equal (operation_answer s (seen_after found) u) o b.0);
            accepted = eqb-true _ 0 b.1;
            next = e.1 ∙ ap (λ (x : Counted). x.next) f;
            alike = alike;
          }

      -- the list when one more is carried out
      under : Led os longer ⊎ (Reads os × (claims c.«record» ≡ false)) → Underway os longer
      under g = record {
        done = v.done ++ (o ∷ []);
        more = v.more;
        whole = joined v.done (o ∷ []) rest ∙ v.whole;
        even = omega (arith, v.even, length-append v.done (o ∷ []), length-append found (w ∷ []));
        goes = g;
      }

      module _ (accepted : first_cause (post_tests s (seen_after found) u) ≡ 0 → o ≡ operation_answer s (seen_after found) u → (completed s (seen_after found).«record» w u).number ≡ 0)
          (readable : Counting → first_cause (post_tests s (completed_answer s (seen_after found) u w).next u) ≡ 0) where
        -- as hoped so far: it is due
        led : Led (o ∷ os) found → Counting × Underway os longer
        led g =
            let x = seen_after found in
            let behind = g.leads.rest in
            let p = not_empty s x u o (os ++ behind) (sym g.leads.whole) in
            let is = first_due s x u o (os ++ behind) p in
            let fine = accepted p.passed is in
            let number : (completed_answer s x u w).number ≡ 0 = sym (ap (λ (a : Stepped). a.number) (completed_taken s x u _ refl w p.passed (moved s x.«record» w u) refl fine)) in
            let same_now : due s u x o w ≡ true = λ i. (subst (λ (y : Operation). same y o ≡ true) is (same_itself o)) i && eq-eqb _ 0 number i in
            let alike : Alike s c.«record» x.«record» = ⊎_elim (λ e. absurd (omega (arith, ap (λ (l : List Operation). length l) e))) (λ e. e) g.alike in
            let k = counting g.all same_now alike in
            let all : (sofar longer).count ≡ length longer = omega (arith, k.more, g.all, length-append found (w ∷ [])) in (
              k,
              under (⊎_elim
                  (λ e. let none = none_front os behind e in
                  inl (record { all = all; leads = subst (λ (l : List Operation). Leads l (ahead_of s (seen_after longer) u)) (sym none) (record { rest = ahead_of s (seen_after longer) u; whole = refl }); alike = inl none }))
                  (λ y. ⊎_elim
                  (λ e. inr (reads_front os behind e.0, sym alike.claiming ∙ e.1))
                  (λ e. inl (record {
                    all = all;
                    leads = subst (λ (z : Client). Leads os (ahead_of s z u)) (sym k.next) (record { rest = behind ++ e.0.rest; whole = sym (joined os behind e.0.rest) ∙ e.0.whole });
                    alike = inr (subst (λ (z : Client). Alike s c.«record» z.«record») (sym k.next) (alike_on s c.«record» x.«record» _ alike e.1));
                  })) y)
                  (then s x u o (os ++ behind) p w fine (readable k))),
            )

        -- only reads are left: it is due or not
        read_ahead : Reads (o ∷ os) → claims c.«record» ≡ false → (Counting ⊎ Dropped) × Underway os longer
        unfolding Reads choose
        read_ahead g early =
            let later = under (inr (g.1, early)) in
            by_eq (sofar found).count (length found)
            (λ all. by_test (due s u (seen_after found) o w)
            (λ is. let k = same_equal (operation_answer s (seen_after found) u) o (both_true _ _ is).0 in
            (inl (counting all is (record { claiming = read_unclaimed s (seen_after found) u (ap (λ (y : Operation). y.kind) k ∙ g.0) ∙ sym early; kept = λ z. absurd (subst T (sym z ∙ early) tt) })), later))
            (λ is. let e = on all in
            let f : choose (due s u (seen_after found) o w) (one_more (nothing_more (after s u (seen_after found) w))) (nothing_more (seen_after found)) ≡ nothing_more (seen_after found) = ap (λ (b : Bool). choose b (one_more (nothing_more (after s u (seen_after found) w))) (nothing_more (seen_after found))) is in
            (inr (record { more = omega (arith, all, e.0, ap (λ (x : Counted). x.count) f); next = e.1 ∙ ap (λ (x : Counted). x.next) f; reads = g.0 }), later)))
            (λ some. (inr (record { more = ap (λ (x : Counted). x.count) (stopped some); next = ap (λ (x : Counted). x.next) (stopped some); reads = g.0 }), later))

        pub carried_out : (Counting ⊎ Dropped) × Underway os longer
        carried_out = ⊎_elim (λ g. let k = led g in (inl k.0, k.1)) (λ g. read_ahead g.0 g.1) v.goes
