-- The rows of the phase table as the code and the claim meet them: what a step leaves at the touched node, and the next record, in one. Their laws: proofs/laws/Rows.antt. Assumes nothing.
use Rattle.std.specs.Prelude.{ℕ, eqb, Result, Ok, Err}
use Rattle.base.specs.declared.Refusal.{Refusal}
use Rattle.base.specs.rules.Refusals.{number_of}
use Rattle.base.specs.rules.Choice.{choose}
use Rattle.word.specs.rules.Word.{add_occ, add_tcnt, add_tmax, add_dcnt, add_dmax, take_bits, give_bits, return_occ}
use Rattle.lock.specs.declared.Record.{Record}
use Rattle.lock.specs.declared.Settings.{Settings}
use Rattle.lock.specs.declared.moves.Moved as moves
use Rattle.lock.specs.declared.operations.Access as operations
use Rattle.lock.specs.declared.operations.Access.TheVariants.{None, Read, Add, Swap}
use Rattle.lock.specs.rules.Records.{Phase, idle, ticket, turn, climb, blocked, claim, notify, wait, check, held, returning, unknown, phase_of, current_piece, given_piece, is_leaf, grip_of}
use Rattle.lock.specs.rules.Steps.{Moved, Access, none, read, add, swap, ticket_taken, turn_awaited, climbed, unblocked, bits_claimed, occ_claimed, notice_given, waited, check_passed, word_returned, turn_returned, wanted}

abbrev pub leaves : ℕ → Record → Moved
leaves w r = record { number = 0; word = w; next = r }

-- what a row answers, of the record and the word found: the word that it leaves and the next record, or the cause of a refusal, which leaves both as they were
abbrev pub moved_of : Record → ℕ → Result moves.Moved Refusal → Moved
moved_of r w (Ok m) = leaves m.word m.next
moved_of r w (Err e) = record { number = number_of e; word = w; next = r }

-- the access that a row makes
abbrev pub access_made : operations.Access → Access
access_made None = none
access_made Read = read
access_made (Add deltas) = add deltas
access_made (Swap compared expected swapped value) = swap compared expected swapped value

unfoldable pub claim_piece : Settings → Record → ℕ → ℕ → Moved
claim_piece s r w t =
    choose (is_leaf s (current_piece r))
    (leaves (take_bits (wanted s r (current_piece r)) w).word (bits_claimed r (take_bits (wanted s r (current_piece r)) w).done))
    (leaves (add_occ 1 w) (occ_claimed r t))

unfoldable pub return_bits : Settings → Record → ℕ → Moved
return_bits s r w =
    choose (give_bits (wanted s r (given_piece r)) w).done
    (leaves (give_bits (wanted s r (given_piece r)) w).word (word_returned s r))
    (record { number = 9; word = w; next = r })

unfoldable pub return_inner : Settings → Record → ℕ → Moved
return_inner s r w =
    choose (eqb (grip_of r r.giving) 3) (leaves (return_occ w) (word_returned s r))
    (choose (eqb (grip_of r r.giving) 2) (leaves (add_tcnt 1 w) (word_returned s r))
    (leaves w (turn_returned r w)))

unfoldable pub give_back : Settings → Record → ℕ → Moved
give_back s r w =
    choose (eqb r.place 0)
    (choose (is_leaf s (given_piece r)) (return_bits s r w) (return_inner s r w))
    (leaves (add_dcnt 1 w) (word_returned s r))

unfoldable pub moved_in : Settings → Record → ℕ → ℕ → Phase → Moved
moved_in s r w t idle = leaves w r
moved_in s r w t ticket = leaves (add_tmax 1 w) (ticket_taken r w)
moved_in s r w t turn = leaves w (turn_awaited r w)
moved_in s r w t climb = leaves w (climbed r w t)
moved_in s r w t blocked = leaves w (unblocked r w)
moved_in s r w t claim = claim_piece s r w t
moved_in s r w t notify = leaves (add_dmax 1 w) (notice_given s r t)
moved_in s r w t wait = leaves w (waited s r t)
moved_in s r w t check = leaves w (check_passed s r w t)
moved_in s r w t held = leaves w r
moved_in s r w t returning = give_back s r w
moved_in s r w t unknown = leaves w r

abbrev pub own_moved : Settings → Record → ℕ → ℕ → Moved
own_moved s r w t = moved_in s r w t (phase_of r.phase)
