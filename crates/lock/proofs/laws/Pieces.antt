-- Laws of a record's pieces, grips and notices, as the code meets them. Assumes nothing.
use Rattle.std.specs.Prelude.{◌≡◌, refl, [], ◌∷◌, ℕ, ◌≤◌, ◌<◌, eqb}
use Rattle.std.proofs.Common.{sym, ap, ◌∙◌, arith}
use Rattle.std.proofs.Math.Dec.{eqb→eq}
use Rattle.std.proofs.Math.ListN.{length, get_or}
use Rattle.base.specs.laws.ChoiceLaws.{on_choose, choose_eq, choose_ne, choose_lt, choose_ge, by_lt}
use Rattle.tree.specs.rules.Lists.{notify_list}
use Rattle.lock.specs.declared.Record.{Record}
use Rattle.lock.specs.declared.Settings.{Settings}
use Rattle.lock.specs.rules.Records.{pieces, piece_at, grip_of, notices_of}

module _ (r : Record) where
  one_piece : r.second ≡ 0 → pieces r ≡ r.first ∷ []
  unfolding pieces
  one_piece e = choose_eq r.second 0 _ _ e

  two_pieces : (r.second ≡ 0 → ⊥) → pieces r ≡ r.first ∷ r.second ∷ []
  unfolding pieces
  two_pieces d = choose_ne r.second 0 _ _ d

  pub count_one : r.second ≡ 0 → length (pieces r) ≡ 1
  count_one e = ap length (one_piece e)

  pub count_two : (r.second ≡ 0 → ⊥) → length (pieces r) ≡ 2
  count_two d = ap length (two_pieces d)

  pub piece_first : piece_at r 0 ≡ r.first
  unfolding piece_at pieces
  piece_first = on_choose (λ c. get_or c 0 0 ≡ r.first) (eqb r.second 0) _ _ (λ _. refl) (λ _. refl)

  pub piece_second : 1 < length (pieces r) → piece_at r 1 ≡ r.second
  unfolding piece_at pieces
  piece_second =
      on_choose (λ c. 1 < length c → get_or c 1 0 ≡ r.second) (eqb r.second 0) (r.first ∷ []) (r.first ∷ r.second ∷ []) (λ _ b. absurd (omega arith)) (λ _ b. refl)

  -- "0 for none"
  pub second_is : r.second ≡ get_or (pieces r) 1 0
  unfolding pieces
  second_is = on_choose (λ c. r.second ≡ get_or c 1 0) (eqb r.second 0) (r.first ∷ []) (r.first ∷ r.second ∷ []) (λ t. eqb→eq r.second 0 t) (λ _. refl)

  pub few_pieces : length (pieces r) ≤ 2
  unfolding pieces
  few_pieces = on_choose (λ c. length c ≤ 2) (eqb r.second 0) (r.first ∷ []) (r.first ∷ r.second ∷ []) (λ _. omega arith) (λ _. omega arith)

  module _ (i : ℕ) where
    pub grip_before : i < r.current → grip_of r i ≡ 3
    unfolding grip_of
    grip_before b = choose_lt i r.current 3 _ b

    pub grip_current : i ≡ r.current → grip_of r i ≡ r.grip
    unfolding grip_of
    grip_current e = choose_ge i r.current 3 _ (omega arith) ∙ choose_eq i r.current r.grip 0 e

    pub grip_after : r.current < i → grip_of r i ≡ 0
    unfolding grip_of
    grip_after b = choose_ge i r.current 3 _ (omega arith) ∙ choose_ne i r.current r.grip 0 (λ e. omega arith)

  -- with a grip on the current piece there is one on the first
  pub first_gripped : (r.grip ≡ 0 → ⊥) → grip_of r 0 ≡ 0 → ⊥
  first_gripped d e = by_lt 0 r.current (λ b. omega (arith, grip_before 0 b)) (λ b. d (sym (grip_current 0 (omega arith)) ∙ e))

module _ (s : Settings) (r : Record) (i : ℕ) where
  pub notices_before : i < r.current → notices_of s r i ≡ length (notify_list s.distance (piece_at r i))
  unfolding notices_of
  notices_before b = choose_lt i r.current _ r.notices b

  pub notices_current : r.current ≤ i → notices_of s r i ≡ r.notices
  unfolding notices_of
  notices_current b = choose_ge i r.current _ r.notices b
