-- Laws of returning, one for each way through its rules, as the code meets them. Assumes nothing.
use Rattle.std.specs.Prelude.{◌≡◌, Bool, true, false}
use Rattle.std.proofs.Common.{sym, ◌∙◌, eqb-true}
use Rattle.std.proofs.Math.Path.{ap}
use Prim.Native.Nat.{ℕ, suc, ◌+◌, ◌≤◌, ◌<◌}
use native.Mathlib.Omega.{arith}
use Rattle.base.specs.rules.Choice.{choose}
use Rattle.base.specs.laws.ChoiceLaws.{choose_eq, choose_ne, choose_lt, choose_ge}
use Rattle.word.specs.rules.Word.{Swap, tcnt, add_tcnt, add_dcnt, give_bits, return_occ}
use Rattle.tree.specs.rules.Tree.{level}
use Rattle.lock.specs.declared.Record.{Record}
use Rattle.lock.specs.declared.Settings.{Settings}
use Rattle.lock.specs.rules.Records.{given_piece, is_leaf, grip_of, notices_of, with_giving, with_grip, with_place, idle_with}
use Rattle.lock.specs.rules.Steps.{piece_returned, word_returned, turn_returned, wanted}
use Rattle.lock.specs.laws.Rows.{leaves, return_bits, return_inner, give_back}

module _ (r : Record) where
  plus_one : r.giving + 1 ≡ suc r.giving
  plus_one = omega arith

  pub piece_last : grip_of r (r.giving + 1) ≡ 0 → piece_returned r ≡ idle_with r.outcome
  unfolding piece_returned
  piece_last e = choose_eq (grip_of r (suc r.giving)) 0 _ _ (ap (grip_of r) (sym plus_one) ∙ e)

  pub piece_next : (grip_of r (r.giving + 1) ≡ 0 → ⊥) → piece_returned r ≡ with_place 0 (with_giving (r.giving + 1) r)
  unfolding piece_returned
  piece_next d =
      choose_ne (grip_of r (suc r.giving)) 0 _ _ (λ e. d (ap (grip_of r) plus_one ∙ e)) ∙ ap (λ (g : ℕ). with_place 0 (with_giving g r)) (sym plus_one)

  pub turn_mine : (w : ℕ) → tcnt w ≡ r.ticket → turn_returned r w ≡ with_grip 2 r
  unfolding turn_returned
  turn_mine w e = choose_eq (tcnt w) r.ticket _ r e

  pub turn_not_mine : (w : ℕ) → (tcnt w ≡ r.ticket → ⊥) → turn_returned r w ≡ r
  unfolding turn_returned
  turn_not_mine w d = choose_ne (tcnt w) r.ticket _ r d

module _ (s : Settings) (r : Record) where
  pub word_more : r.place < notices_of s r r.giving → word_returned s r ≡ with_place (r.place + 1) r
  unfolding word_returned
  word_more b = choose_lt r.place _ _ _ b ∙ ap (λ (p : ℕ). with_place p r) (let e : suc r.place ≡ r.place + 1 = omega arith in e)

  pub word_last : notices_of s r r.giving ≤ r.place → word_returned s r ≡ piece_returned r
  unfolding word_returned
  word_last b = choose_ge r.place _ _ _ b

  module _ (w : ℕ) where
    abbrev swap : Swap
    swap = give_bits (wanted s r (given_piece r)) w

    pub bits_returned_lem : (x : Swap) → x ≡ give_bits (wanted s r (given_piece r)) w → x.done ≡ true → return_bits s r w ≡ leaves x.word (word_returned s r)
    unfolding return_bits choose
    bits_returned_lem x e d =
        ap (λ (b : Bool). choose b (leaves swap.word (word_returned s r)) (record { number = 9; word = w; next = r })) (sym (ap (λ y. y.done) e) ∙ d)
        ∙ ap (λ (y : Swap). leaves y.word (word_returned s r)) (sym e)

    pub bits_clear : (x : Swap) → x ≡ give_bits (wanted s r (given_piece r)) w → x.done ≡ false → return_bits s r w ≡ record { number = 9; word = w; next = r }
    unfolding return_bits choose
    bits_clear x e d = ap (λ (b : Bool). choose b (leaves swap.word (word_returned s r)) (record { number = 9; word = w; next = r })) (sym (ap (λ y. y.done) e) ∙ d)

    pub inner_occ : grip_of r r.giving ≡ 3 → return_inner s r w ≡ leaves (return_occ w) (word_returned s r)
    unfolding return_inner
    inner_occ e = choose_eq (grip_of r r.giving) 3 _ _ e

    pub inner_turn : grip_of r r.giving ≡ 2 → return_inner s r w ≡ leaves (add_tcnt 1 w) (word_returned s r)
    unfolding return_inner
    inner_turn e = choose_ne (grip_of r r.giving) 3 _ _ (λ f. omega arith) ∙ choose_eq (grip_of r r.giving) 2 _ _ e

    pub inner_ticket : (grip_of r r.giving ≡ 3 → ⊥) → (grip_of r r.giving ≡ 2 → ⊥) → return_inner s r w ≡ leaves w (turn_returned r w)
    unfolding return_inner
    inner_ticket d e = choose_ne (grip_of r r.giving) 3 _ _ d ∙ choose_ne (grip_of r r.giving) 2 _ _ e

    own_word : r.place ≡ 0 → give_back s r w ≡ choose (is_leaf s (given_piece r)) (return_bits s r w) (return_inner s r w)
    unfolding give_back
    own_word e = choose_eq r.place 0 _ _ e

    pub own_leaf : r.place ≡ 0 → is_leaf s (given_piece r) ≡ true → give_back s r w ≡ return_bits s r w
    unfolding choose
    own_leaf e f = own_word e ∙ ap (λ (b : Bool). choose b (return_bits s r w) (return_inner s r w)) f

    pub own_inner : r.place ≡ 0 → is_leaf s (given_piece r) ≡ false → give_back s r w ≡ return_inner s r w
    unfolding choose
    own_inner e f = own_word e ∙ ap (λ (b : Bool). choose b (return_bits s r w) (return_inner s r w)) f

    pub own_notice : (r.place ≡ 0 → ⊥) → give_back s r w ≡ leaves (add_dcnt 1 w) (word_returned s r)
    unfolding give_back
    own_notice d = choose_ne r.place 0 _ _ d

pub leaf_level : (s : Settings) (n : ℕ) → is_leaf s n ≡ true → level n ≡ s.levels
unfolding is_leaf
leaf_level s n e = eqb-true (level n) s.levels e
