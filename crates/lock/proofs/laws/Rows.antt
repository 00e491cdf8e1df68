-- Laws of the rows of the phase table (specs/laws/Rows.antt): each is its operation, applied, and its completion. That it is the step of the rules is `moved_row`. Assumes nothing.
use Rattle.std.specs.Prelude.{◌≡◌, ◌≢◌, Bool, ◌||◌, ℕ, eqb}
use Rattle.std.proofs.Math.Path.{refl, ap, ap₂}
use Rattle.std.proofs.Common.{sym, ◌∙◌, subst}
use Rattle.std.proofs.Math.Bool.{true, false, not}
use Rattle.std.proofs.Math.Dec.{T}
use Rattle.base.specs.rules.Choice.{choose}
use Rattle.base.specs.laws.ChoiceLaws.{on_choose, choose_no}
use Rattle.word.specs.rules.Word.{add_occ, add_tcnt, add_dcnt, matches, replaced, take_bits, give_bits, return_occ, masked_swap, deltas}
use Rattle.word.proofs.laws.Inner.{one_in_occ, one_in_tcnt, one_in_tmax, one_in_dcnt, one_in_dmax, return_occ_one_add}
use Rattle.lock.specs.declared.Record.{Record}
use Rattle.lock.specs.declared.Settings.{Settings}
use Rattle.lock.specs.rules.Records.{Phase, idle, ticket, turn, climb, blocked, claim, notify, wait, check, held, returning, unknown, phase_of, current_piece, given_piece, is_leaf, grip_of}
use Rattle.lock.specs.rules.Steps.{Moved, ticket_taken, bits_claimed, occ_claimed, notice_given, word_returned, turn_returned, wanted, Access, none, read, add, swap, applied, claim_access, own_word_access, return_access, access_in, Completion, goes_to, piece_claimed, bits_returned, grip_returned, given_back, completed_in, out_of_patience, access, completed, moved, given_up}
use Rattle.lock.specs.laws.Rows.{leaves, claim_piece, return_bits, return_inner, give_back, moved_in, own_moved}

-- ---- each row is its operation, applied, and its completion

-- an operation at the word w, and a completion
abbrev made : Access → ℕ → Completion → Moved
made a w c = record { number = c.number; word = applied a w; next = c.next }

-- a step that is refused is refused by 9
abbrev pub Nine : Moved → Type 0
Nine m = m.number ≢ 0 → m.number ≡ 9

module _ (s : Settings) (r : Record) (w : ℕ) where
  abbrev claim_bits : ℕ
  claim_bits = wanted s r (current_piece r)

  abbrev bits : ℕ
  bits = wanted s r (given_piece r)

  abbrev inner : Access
  inner = choose (eqb (grip_of r r.giving) 3) (add (deltas 0 1 1 0 0 0)) (choose (eqb (grip_of r r.giving) 2) (add (deltas 0 0 1 0 0 0)) read)

  claim_made : (t : ℕ) → made (claim_access s r) w (goes_to (piece_claimed s r w t)) ≡ claim_piece s r w t
  unfolding claim_access piece_claimed claim_piece applied take_bits masked_swap choose
  claim_made t = by_leaf (is_leaf s (current_piece r))
    where
      by_leaf : (b : Bool) → made (choose b (swap claim_bits 0 claim_bits claim_bits) (add (deltas 0 1 0 0 0 0))) w (goes_to (choose b (bits_claimed r (matches claim_bits 0 w)) (occ_claimed r t)))
          ≡ choose b (leaves (take_bits claim_bits w).word (bits_claimed r (take_bits claim_bits w).done)) (leaves (add_occ 1 w) (occ_claimed r t))
      by_leaf true = refl
      by_leaf false = ap (λ (v : ℕ). leaves v (occ_claimed r t)) (one_in_occ w)

  bits_made : made (swap bits bits bits 0) w (bits_returned s r w) ≡ return_bits s r w
  unfolding bits_returned return_bits applied give_bits masked_swap choose
  bits_made = by_match (matches bits bits w)
    where
      by_match : (b : Bool) → record { number = (choose b (goes_to (word_returned s r)) (record { number = 9; next = r })).number; word = choose b (replaced bits 0 w) w; next = (choose b (goes_to (word_returned s r)) (record { number = 9; next = r })).next }
          ≡ choose b (leaves (choose b (replaced bits 0 w) w) (word_returned s r)) (record { number = 9; word = w; next = r })
      by_match true = refl
      by_match false = refl

  inner_made : made inner w (goes_to (grip_returned s r w)) ≡ return_inner s r w
  unfolding grip_returned return_inner applied choose
  inner_made = by_grip (eqb (grip_of r r.giving) 3) (eqb (grip_of r r.giving) 2)
    where
      by_grip : (a b : Bool) → made (choose a (add (deltas 0 1 1 0 0 0)) (choose b (add (deltas 0 0 1 0 0 0)) read)) w (goes_to (choose (a || b) (word_returned s r) (turn_returned r w)))
          ≡ choose a (leaves (return_occ w) (word_returned s r)) (choose b (leaves (add_tcnt 1 w) (word_returned s r)) (leaves w (turn_returned r w)))
      by_grip true b = ap (λ (v : ℕ). leaves v (word_returned s r)) (return_occ_one_add w)
      by_grip false true = ap (λ (v : ℕ). leaves v (word_returned s r)) (one_in_tcnt w)
      by_grip false false = refl

  return_made : made (return_access s r) w (given_back s r w) ≡ give_back s r w
  unfolding return_access own_word_access given_back give_back applied choose
  return_made = by_place (eqb r.place 0) (is_leaf s (given_piece r))
    where
      by_place : (a b : Bool) → made (choose a (choose b (swap bits bits bits 0) inner) (add (deltas 0 0 0 0 1 0))) w (choose a (choose b (bits_returned s r w) (goes_to (grip_returned s r w))) (goes_to (word_returned s r)))
          ≡ choose a (choose b (return_bits s r w) (return_inner s r w)) (leaves (add_dcnt 1 w) (word_returned s r))
      by_place true true = bits_made
      by_place true false = inner_made
      by_place false b = ap (λ (v : ℕ). leaves v (word_returned s r)) (one_in_dcnt w)

  row_made : (t : ℕ) (p : Phase) → made (access_in s r p) w (completed_in s r w t p) ≡ moved_in s r w t p
  unfolding access_in completed_in moved_in applied
  row_made t idle = refl
  row_made t ticket = ap (λ (v : ℕ). leaves v (ticket_taken r w)) (one_in_tmax w)
  row_made t turn = refl
  row_made t climb = refl
  row_made t blocked = refl
  row_made t claim = claim_made t
  row_made t notify = ap (λ (v : ℕ). leaves v (notice_given s r t)) (one_in_dmax w)
  row_made t wait = refl
  row_made t check = refl
  row_made t held = refl
  row_made t returning = return_made
  row_made t unknown = refl

  -- ---- the step of the rules, by its row

  pub moved_row : (t : ℕ) → out_of_patience s r t ≡ false → moved s r w t ≡ own_moved s r w t
  moved_row t e =
      let p : T (not (out_of_patience s r t)) = subst (λ (b : Bool). T (not b)) (sym e) tt in
      let a : access s r t ≡ access_in s r (phase_of r.phase) = choose_no (out_of_patience s r t) _ _ p in
      let d : completed s r w t ≡ completed_in s r w t (phase_of r.phase) = choose_no (out_of_patience s r t) _ _ p in
      ap₂ (λ (x : Access) (y : Completion). made x w y) a d ∙ row_made t (phase_of r.phase)

  pub moved_impatient : (t : ℕ) → out_of_patience s r t ≡ true → moved s r w t ≡ leaves w (given_up r)
  unfolding choose applied
  moved_impatient t e = ap (λ (b : Bool). made (choose b none (access_in s r (phase_of r.phase))) w (choose b (goes_to (given_up r)) (completed_in s r w t (phase_of r.phase)))) e

  pub moved_chosen : (t : ℕ) → moved s r w t ≡ choose (out_of_patience s r t) (leaves w (given_up r)) (own_moved s r w t)
  unfolding choose
  moved_chosen t = by_patience (out_of_patience s r t) refl
    where
      by_patience : (b : Bool) → out_of_patience s r t ≡ b → moved s r w t ≡ choose b (leaves w (given_up r)) (own_moved s r w t)
      by_patience true e = moved_impatient t e
      by_patience false e = moved_row t e

  -- what holds of the row, and of the record that is sent back, holds of the step
  pub on_moved : (P : Moved → Type 0) (t : ℕ) → P (leaves w (given_up r)) → P (own_moved s r w t) → P (moved s r w t)
  on_moved P t back row = subst P (sym (moved_chosen t)) (on_choose P (out_of_patience s r t) _ _ (λ _. back) (λ _. row))

  -- ---- the number of a refused step

  row_nine : (t : ℕ) (p : Phase) → Nine (moved_in s r w t p)
  unfolding moved_in claim_piece give_back return_bits return_inner
  row_nine t idle = λ d. absurd (d refl)
  row_nine t ticket = λ d. absurd (d refl)
  row_nine t turn = λ d. absurd (d refl)
  row_nine t climb = λ d. absurd (d refl)
  row_nine t blocked = λ d. absurd (d refl)
  row_nine t claim = on_choose Nine _ _ _ (λ _ d. absurd (d refl)) (λ _ d. absurd (d refl))
  row_nine t notify = λ d. absurd (d refl)
  row_nine t wait = λ d. absurd (d refl)
  row_nine t check = λ d. absurd (d refl)
  row_nine t held = λ d. absurd (d refl)
  row_nine t returning =
      on_choose Nine _ _ _
      (λ _. on_choose Nine _ _ _ (λ _. on_choose Nine _ _ _ (λ _ d. absurd (d refl)) (λ _ _. refl))
      (λ _. on_choose Nine _ _ _ (λ _ d. absurd (d refl)) (λ _. on_choose Nine _ _ _ (λ _ d. absurd (d refl)) (λ _ d. absurd (d refl))))) (λ _ d. absurd (d refl))
  row_nine t unknown = λ d. absurd (d refl)

  pub moved_nine : (t : ℕ) → Nine (moved s r w t)
  moved_nine t = on_moved Nine t (λ d. absurd (d refl)) (row_nine t (phase_of r.phase))
