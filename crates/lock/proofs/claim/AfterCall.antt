-- Laws: the record of a client after a call. Only an accepted call of its own changes it, and none but a request gives it other edges. Assumes nothing.
use Rattle.std.specs.Prelude.{◌≡◌, ◌⊎◌, ℕ, eqb, get_or, set}
use Rattle.std.proofs.Math.Path.{refl, ap, subst}
use Rattle.std.proofs.Common.{sym, ◌∙◌, get_or-set_same, get_or-set_other}
use Rattle.std.proofs.Math.Logic.{inl, inr}
use mathlib.Core.List.{List}
use Rattle.std.proofs.Math.Dec.{eqb→eq}
use Rattle.std.proofs.Math.ListN.{length, length-set}
use Rattle.base.specs.laws.ChoiceLaws.{on_choose, choose_eq, by_eq}
use Rattle.lock.specs.declared.Client.{Client}
use Rattle.lock.specs.declared.Record.{Record}
use Rattle.lock.specs.declared.Settings.{Settings}
use Rattle.lock.specs.rules.Records.{Phase, idle, ticket, turn, climb, blocked, claim, notify, wait, check, held, returning, unknown, phase_of, word_at, client_with, idle_client}
use Rattle.lock.specs.rules.Steps.{Moved, begin, first_noted, taken, ticket_taken, turn_awaited, go_up, climbed, unblocked, bits_claimed, occ_claimed, all_notified, notice_given, waited, check_passed, piece_returned, word_returned, turn_returned, touched, moved}
use Rattle.lock.specs.laws.Rows.{claim_piece, return_bits, return_inner, give_back, moved_in}
use Rattle.lock.proofs.laws.Rows.{on_moved}
use Rattle.lock.specs.rules.Calls.{requested, released, cancelled}
use Rattle.lock.specs.rules.Table.{State, Call, request, step, release, cancel, client_of, client_at, record_at, clock_at, number_of, after, call}
use Rattle.lock.proofs.laws.Accepted.{accepted}

-- ---- the record that an accepted call gives back

unfoldable pub record_after : Settings → State → Call → Record
record_after s st (request c l r) = requested s l r
record_after s st (step c t) = (moved s (record_at st c) (word_at st.words (touched s (record_at st c) t)) t).next
record_after s st (release c) = released (record_at st c)
record_after s st (cancel c) = cancelled (record_at st c)

-- and its clock beside it: "An accepted step sets the last clock."
unfoldable clock_after : Settings → State → Call → ℕ
clock_after s st (request c l r) = clock_at st c
clock_after s st (step c t) = t
clock_after s st (release c) = clock_at st c
clock_after s st (cancel c) = clock_at st c

module _ (s : Settings) (st : State) where
  clients_after : (k : Call) → (after s st k).clients ≡ set st.clients (client_of k) (client_with (clock_after s st k) (record_after s st k))
  unfolding after clock_after record_after client_of
  clients_after (request c l r) = refl
  clients_after (step c t) = refl
  clients_after (release c) = refl
  clients_after (cancel c) = refl

  own_after : (k : Call) (c : ℕ) → number_of s st k ≡ 0 → client_of k ≡ c → record_at (after s st k) c ≡ record_after s st k
  unfolding client_at
  own_after k c a e =
      ap (λ (d : ℕ). record_at (after s st k) d) (sym e)
      ∙ ap (λ (cs : List Client). (get_or cs (client_of k) idle_client).«record») (clients_after k)
      ∙ ap (λ (x : Client). x.«record») (get_or-set_same st.clients (client_of k) _ idle_client (accepted s st k a).client)

  other_after : (k : Call) (c : ℕ) → (client_of k ≡ c → ⊥) → record_at (after s st k) c ≡ record_at st c
  unfolding client_at
  other_after k c d =
      ap (λ (cs : List Client). (get_or cs c idle_client).«record») (clients_after k)
      ∙ ap (λ (x : Client). x.«record») (get_or-set_other st.clients (client_of k) c _ idle_client (λ e. d (sym e)))

  pub own_record : (k : Call) (c : ℕ) → number_of s st k ≡ 0 → client_of k ≡ c → record_at (call s st k).state c ≡ record_after s st k
  unfolding call
  own_record k c a e = ap (λ (x : State). record_at x c) (choose_eq (number_of s st k) 0 (after s st k) st a) ∙ own_after k c a e

  -- what holds of the record, and of what an accepted call of its client gives back, holds of the record after the call
  pub on_call : (P : Record → Type 0) (k : Call) (c : ℕ) → P (record_at st c) → (number_of s st k ≡ 0 → client_of k ≡ c → P (record_after s st k))
      → P (record_at (call s st k).state c)
  unfolding call
  on_call P k c old new =
      on_choose (λ x. P (record_at x c)) (eqb (number_of s st k) 0) (after s st k) st
      (λ t.
      let a = eqb→eq (number_of s st k) 0 t in
      by_eq (client_of k) c (λ e. subst P (sym (own_after k c a e)) (new a e)) (λ d. subst P (sym (other_after k c d)) old))
      (λ _. old)

  pub count_after : (k : Call) → length (call s st k).state.clients ≡ length st.clients
  unfolding call
  count_after k =
      on_choose (λ x. length x.clients ≡ length st.clients) (eqb (number_of s st k) 0) (after s st k) st
      (λ _. ap length (clients_after k) ∙ length-set st.clients (client_of k) _) (λ _. refl)

-- ---- a step leaves the edges as the request set them, or makes the record idle

module _ (l q : ℕ) where
  -- [l, q) are the edges of r
  abbrev pub HasEdges : Record → Type 0
  HasEdges r = (r.left ≡ l) × (r.right ≡ q)

  abbrev pub EdgesOrIdle : Record → Type 0
  EdgesOrIdle r = (r.phase ≡ 0) ⊎ HasEdges r

  module _ (s : Settings) where
    edges_taken : (r : Record) (t : ℕ) → HasEdges r → HasEdges (taken s r t)
    unfolding taken begin first_noted
    edges_taken r t e =
        let noted : HasEdges (first_noted r t) = on_choose HasEdges _ _ _ (λ _. e) (λ _. e) in
        on_choose HasEdges _ _ _ (λ _. noted) (λ _. noted)

    edges_up : (r : Record) → HasEdges r → HasEdges (go_up r)
    unfolding go_up
    edges_up r e = on_choose HasEdges _ _ _ (λ _. e) (λ _. e)

    edges_notified : (r : Record) (t : ℕ) → HasEdges r → HasEdges (all_notified s r t)
    unfolding all_notified
    edges_notified r t e = on_choose HasEdges _ _ _ (λ _. e) (λ _. on_choose HasEdges _ _ _ (λ _. edges_taken r t e) (λ _. e))

    edges_returned : (r : Record) → HasEdges r → EdgesOrIdle (word_returned s r)
    unfolding word_returned piece_returned
    edges_returned r e = on_choose EdgesOrIdle _ _ _ (λ _. inr e) (λ _. on_choose EdgesOrIdle _ _ _ (λ _. inl refl) (λ _. inr e))

    edges_given : (r : Record) (w : ℕ) → HasEdges r → EdgesOrIdle (give_back s r w).next
    unfolding give_back return_bits return_inner turn_returned
    edges_given r w e =
        let Q : Moved → Type 0 = λ x. EdgesOrIdle x.next in
        let back = edges_returned r e in
        on_choose Q _ _ _
        (λ _. on_choose Q _ _ _ (λ _. on_choose Q _ _ _ (λ _. back) (λ _. inr e))
        (λ _. on_choose Q _ _ _ (λ _. back) (λ _. on_choose Q _ _ _ (λ _. back) (λ _. inr (on_choose HasEdges _ _ _ (λ _. e) (λ _. e))))))
        (λ _. back)

    -- each row of the table
    edges_moved : (r : Record) (w t : ℕ) (p : Phase) → HasEdges r → EdgesOrIdle (moved_in s r w t p).next
    unfolding moved_in ticket_taken turn_awaited climbed unblocked claim_piece bits_claimed occ_claimed notice_given waited check_passed
    edges_moved r w t idle e = inr e
    edges_moved r w t ticket e = inr e
    edges_moved r w t turn e = inr (on_choose HasEdges _ _ _ (λ _. e) (λ _. e))
    edges_moved r w t climb e = inr (on_choose HasEdges _ _ _ (λ _. e) (λ _. edges_up _ (on_choose HasEdges _ _ _ (λ _. e) (λ _. e))))
    edges_moved r w t blocked e = inr (on_choose HasEdges _ _ _ (λ _. e) (λ _. e))
    edges_moved r w t claim e = inr (on_choose (λ (x : Moved). HasEdges x.next) _ _ _ (λ _. on_choose HasEdges _ _ _ (λ _. e) (λ _. e)) (λ _. e))
    edges_moved r w t notify e = inr (on_choose HasEdges _ _ _ (λ _. e) (λ _. edges_notified _ t e))
    edges_moved r w t wait e = inr (on_choose HasEdges _ _ _ (λ _. e) (λ _. e))
    edges_moved r w t check e = inr (on_choose HasEdges _ _ _ (λ _. on_choose HasEdges _ _ _ (λ _. e) (λ _. edges_taken r t e)) (λ _. e))
    edges_moved r w t held e = inr e
    edges_moved r w t returning e = edges_given r w e
    edges_moved r w t unknown e = inr e

    -- or patience has run out
    pub edges_stepped : (r : Record) (w t : ℕ) → HasEdges r → EdgesOrIdle (moved s r w t).next
    edges_stepped r w t e = on_moved s r w (λ (x : Moved). EdgesOrIdle x.next) t (inr e) (edges_moved r w t (phase_of r.phase) e)
