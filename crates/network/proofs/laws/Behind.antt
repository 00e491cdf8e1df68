-- Law: what stands behind the first operation of a list is of reads alone, or leads on: it is again what the client would post next, whatever the word found. Assumes nothing.
use Rattle.std.specs.Prelude.{◌≡◌, ◌≢◌, Bool, ◌||◌, length}
use Rattle.std.proofs.Math.Path.{refl, sym, ap, subst}
use Rattle.std.proofs.Common.{◌∙◌, arith, eqb→eq}
use Rattle.std.proofs.Math.Logic.{inl, inr}
use Rattle.std.proofs.Math.Bool.{true, false}
use mathlib.Core.List.{List, [], ◌∷◌, ◌++◌, map}
use Prim.Native.Nat.{ℕ, zero, suc, ◌-◌, ◌≤◌}
use Rattle.std.proofs.lemmas.Bool.{eqb-false}
use Rattle.std.proofs.Math.Dec.{T, eqb}
use Rattle.base.specs.rules.Choice.{choose}
use Rattle.base.specs.laws.ChoiceLaws.{on_choose, choose_eq, choose_lt, choose_ge, by_lt}
use Rattle.base.specs.laws.TestLaws.{test_false, both_false}
use Rattle.tree.specs.rules.Lists.{row}
use Rattle.word.specs.rules.Word.{matches}
use Rattle.lock.specs.declared.Operation.{Operation}
use Rattle.lock.specs.declared.Record.{Record}
use Rattle.lock.specs.declared.Settings.{Settings}
use Rattle.lock.specs.rules.Records.{Phase, returning, phase_of, pieces, piece_at, given_piece, is_leaf, grip_of, notices_of, with_giving, with_place, idle_with}
use Rattle.lock.specs.rules.Unreadable.{list_length}
use Rattle.lock.specs.rules.Steps.{Completion, access_in, wanted, word_returned, piece_returned, bits_returned, grip_returned, given_back, completed_in}
use Rattle.lock.specs.rules.Operations.{operation_at}
use Rattle.lock.proofs.laws.Phases.{on_phase, at_returning}
use Rattle.lock.proofs.laws.PatienceLaws.{patient_taken}
use Rattle.lock.proofs.laws.Pieces.{grip_before, grip_current, grip_after, notices_current}
use Rattle.lock.proofs.laws.Ready.{Ready}
use Rattle.runs.specs.rules.Ahead.{standing, walk, gives_back, ahead_in}
use Rattle.network.specs.rules.Clocks.{claims}
use Rattle.runs.specs.laws.OperationLists.{Leads, Reads, none_some, rest_same, reads_rest, nothing_behind, joined, past_place}
use Rattle.network.proofs.laws.Leading.{Onward, Behind, reads_climb, reads_check, read_behind, claim_behind, notify_behind}

-- 10: what more pieces would add stands behind
back_longer : (s : Settings) (count : ℕ) (q : Record) → Leads (gives_back count s q) (gives_back (suc count) s q)
unfolding gives_back choose
back_longer s zero q = record { rest = gives_back 1 s q; whole = refl }
back_longer s (suc count) q =
    by_grip (eqb (grip_of q (suc q.giving)) 0) (back_longer s count (with_place 0 (with_giving (suc q.giving) q)))
  where
    after : Record
    after = with_place 0 (with_giving (suc q.giving) q)

    by_grip : (b : Bool) → Leads (gives_back count s after) (gives_back (suc count) s after)
        → Leads (walk s q returning q.place ++ choose b [] (gives_back count s after)) (walk s q returning q.place ++ choose b [] (gives_back (suc count) s after))
    by_grip true more = record { rest = []; whole = nothing_behind (walk s q returning q.place ++ []) }
    by_grip false more =
        record { rest = more.rest; whole = joined (walk s q returning q.place) (gives_back count s after) more.rest ∙ ap (λ (k : List Operation). walk s q returning q.place ++ k) more.whole }

module _ (s : Settings) (r : Record) (last : ℕ) (rd : Ready s r last) (e : r.phase ≡ 10) (count : ℕ) (many : length (pieces r) ≡ suc count) where
  abbrev given : ℕ
  given = notices_of s r r.giving

  abbrev after : Record
  after = with_place 0 (with_giving (suc r.giving) r)

  -- the pieces behind the one that is being given back
  abbrev later : List Operation
  later = choose (eqb (grip_of r (suc r.giving)) 0) [] (gives_back count s after)

  abbrev rest : List Operation
  rest = map (standing s r returning) (row (suc given - suc r.place) (suc r.place)) ++ later

  unclaimed : claims r ≡ false
  unfolding claims
  unclaimed = ap (λ (p : ℕ). eqb p 5 || eqb p 6) e

  goes_on : (q : Record) → q.phase ≡ 10 → (os : List Operation) → Leads os (gives_back (length (pieces q)) s q) → Onward s r os q
  unfolding claims ahead_in
  goes_on q f os v = record {
    leads = subst (λ (p : Phase). Leads os (ahead_in s q p)) (sym (at_returning q.phase f)) v;
    alike = record { claiming = ap (λ (p : ℕ). eqb p 5 || eqb p 6) f ∙ sym unclaimed; kept = λ z. absurd (subst T (sym z ∙ unclaimed) tt) };
    patient = λ t _. patient_taken s q t (omega arith);
  }

  same_piece : Leads rest (gives_back (length (pieces (with_place (suc r.place) r))) s (with_place (suc r.place) r))
  unfolding gives_back walk standing list_length grip_of notices_of pieces piece_at
  same_piece = record { rest = []; whole = nothing_behind rest ∙ ap (λ (n : ℕ). gives_back n s (with_place (suc r.place) r)) (sym many) }

  next_piece_lem : Leads (gives_back count s after) (gives_back (length (pieces after)) s after)
  unfolding pieces
  next_piece_lem = subst (λ (n : ℕ). Leads (gives_back count s after) (gives_back n s after)) (sym many) (back_longer s count after)

  by_grip : (b : Bool) → Behind s r (choose b [] (gives_back count s after)) (choose b (idle_with r.outcome) after)
  unfolding choose
  by_grip true = inl refl
  by_grip false = inr (inr (goes_on after e (gives_back count s after) next_piece_lem))

  word_behind : Behind s r rest (word_returned s r)
  unfolding word_returned piece_returned
  word_behind =
      by_lt r.place given
      (λ b. subst (Behind s r rest) (sym (choose_lt r.place given _ _ b)) (inr (inr (goes_on (with_place (suc r.place) r) e rest same_piece))))
      (λ b. subst (Behind s r rest) (sym (choose_ge r.place given _ _ b))
      (let none = past_place (standing s r returning) (suc given) (suc r.place) (omega arith) in
      subst (λ (k : List Operation). Behind s r (k ++ later) (piece_returned r)) (sym none) (by_grip (eqb (grip_of r (suc r.giving)) 0))))

  -- a ticket that waits for its turn is the last piece's, and has no notices
  ticket_alone : r.place ≡ 0 → grip_of r r.giving ≢ 3 → rest ≡ []
  ticket_alone z d =
      let here : r.giving ≡ r.current = by_lt r.giving r.current (λ b. absurd (d (grip_before r r.giving b))) (λ b. omega (arith, rd.active.giving_begun)) in
      let grip = grip_current r r.giving here in
      let none : r.notices ≡ 0 = rd.no_notices (by_lt r.grip 3 (λ b. b) (λ b. absurd (d (omega (arith, grip, rd.grip_most e))))) in
      let few : suc given ≤ suc r.place = omega (arith, notices_current s r r.giving (omega arith)) in
      ap (λ (k : List Operation). k ++ later) (past_place (standing s r returning) (suc given) (suc r.place) few)
      ∙ choose_eq (grip_of r (suc r.giving)) 0 [] _ (grip_after r (suc r.giving) (omega arith))

  returned_behind : (w : ℕ) → (given_back s r w).number ≡ 0 → Behind s r rest (given_back s r w).next
  unfolding given_back bits_returned grip_returned
  returned_behind w =
      let P : Completion → Type 0 = λ c. c.number ≡ 0 → Behind s r rest c.next in
      on_choose P (eqb r.place 0) _ _
      (λ z. on_choose P (is_leaf s (given_piece r)) _ _
      (λ _. on_choose P (matches (wanted s r (given_piece r)) (wanted s r (given_piece r)) w) _ _ (λ _ _. word_behind) (λ _ f. absurd (omega arith)))
      (λ _ _. on_choose (Behind s r rest) (eqb (grip_of r r.giving) 3 || eqb (grip_of r r.giving) 2) _ _ (λ _. word_behind)
      (λ t. inl (ticket_alone (eqb→eq r.place 0 z) (eqb-false _ 3 (both_false (eqb (grip_of r r.giving) 3) _ (test_false _ t)).0)))))
      (λ _ _. word_behind)

module _ (s : Settings) (r : Record) (last : ℕ) (rd : Ready s r last) where
  -- the list of a return: its first, and the rest
  return_behind : r.phase ≡ 10 → (count : ℕ) → length (pieces r) ≡ count → (o : Operation) (l : List Operation) → gives_back count s r ≡ o ∷ l → (w : ℕ) → (given_back s r w).number ≡ 0 → Behind s r l (given_back s r w).next
  unfolding gives_back walk list_length row
  return_behind e zero many o l q w z = absurd (none_some o l q)
  return_behind e (suc count) many o l q w z =
      let given = notices_of s r r.giving in
      let k : suc given - r.place ≡ suc (suc given - suc r.place) = omega (arith, rd.active.returning e) in
      let behind = choose (eqb (grip_of r (suc r.giving)) 0) [] (gives_back count s (with_place 0 (with_giving (suc r.giving) r))) in
      subst (λ (m : List Operation). Behind s r m (given_back s r w).next) (rest_same _ _ _ _ (ap (λ (x : ℕ). map (standing s r returning) (row x r.place) ++ behind) (sym k) ∙ q)) (returned_behind s r last rd e count many w z)

  abbrev Owed : (w t : ℕ) → Phase → Type 0
  Owed w t p = (o : Operation) (l : List Operation) → ahead_in s r p ≡ o ∷ l → (completed_in s r w t p).number ≡ 0 → Behind s r l (completed_in s r w t p).next

  -- for every phase, and every word that is not refused
  pub behind : (w t : ℕ) → Owed w t (phase_of r.phase)
  unfolding ahead_in completed_in Reads standing access_in operation_at
  behind w t =
      on_phase r.phase (Owed w t)
      (λ e o l q z. absurd (none_some o l q))
      (λ e o l q z. read_behind s r 1 e refl l (subst Reads (rest_same _ _ _ _ q) (refl, reads_climb s r 0)) _)
      (λ e o l q z. read_behind s r 2 e refl l (subst Reads (rest_same _ _ _ _ q) (reads_climb s r 0)) _)
      (λ e o l q z. read_behind s r 3 e refl l (reads_rest o _ l (reads_climb s r r.place) q).1 _)
      (λ e o l q z. read_behind s r 4 e refl l (subst Reads (rest_same _ _ _ _ q) (reads_climb s r 0)) _)
      (λ e o l q z. claim_behind s r e w t l (rest_same _ _ _ _ q))
      (λ e o l q z. notify_behind s r e t o l q)
      (λ e o l q z. absurd (none_some o l q))
      (λ e o l q z. read_behind s r 8 e refl l (reads_rest o _ l (reads_check s r r.place) q).1 _)
      (λ e o l q z. absurd (none_some o l q))
      (λ e o l q z. return_behind e (length (pieces r)) refl o l q w z)
      (λ e o l q z. absurd (none_some o l q))
