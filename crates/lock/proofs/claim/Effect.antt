-- What a call changes: of what its client's record owns, and of the one word that it touches. r is the record before the call and q after it, x the touched
-- node, w its word before and v after it. Assumes nothing.
use Rattle.std.specs.Prelude.{◌≡◌, ◌≢◌, true, ℕ, suc, ◌≤◌, leb, ltb}
use Rattle.std.proofs.Common.{sym, ◌∙◌, arith}
use Rattle.base.specs.rules.Choice.{choose}
use Rattle.word.specs.rules.Word.{tcnt, tmax, add_occ, add_tcnt, add_tmax, add_dcnt, add_dmax, take_bits, give_bits, return_occ}
use Rattle.tree.specs.rules.Tree.{leaf, level}
use Rattle.lock.specs.declared.Record.{Record}
use Rattle.lock.specs.declared.Settings.{Settings}
use Rattle.lock.specs.rules.Steps.{wanted}
use Rattle.lock.proofs.claim.Owned.{reaches, owns, owns_unit, owns_notice}

-- v, if u is in the record's window
unfoldable pub in_window : Record → ℕ → ℕ → ℕ
in_window r u v = choose (leb r.left u) (choose (ltb u r.right) v 0) 0

module _ (s : Settings) (r q : Record) where
  -- the record owns what it owned, and waits with the ticket that it had
  pub record Same : Type 0 where
    pub owned : (k n : ℕ) → 1 ≤ k → 1 ≤ n → owns s k n q ≡ owns s k n r
    pub units : (u : ℕ) → owns_unit s u q ≡ owns_unit s u r
    pub notices : (n : ℕ) → 1 ≤ n → owns_notice s n q ≡ owns_notice s n r
    pub drawn : (n : ℕ) → 1 ≤ n → owns s 1 n q ≡ 1 → owns s 2 n q ≢ 1 → q.ticket ≡ r.ticket

  -- its grip on node x goes from one number to another, and nothing else that it owns changes
  pub record Grips (x from to : ℕ) : Type 0 where
    pub before : (k : ℕ) → 1 ≤ k → owns s k x r ≡ reaches k from
    pub after : (k : ℕ) → 1 ≤ k → owns s k x q ≡ reaches k to
    pub else : (k n : ℕ) → 1 ≤ k → 1 ≤ n → n ≢ x → owns s k n q ≡ owns s k n r
    pub units : (u : ℕ) → leaf s.levels u ≢ x → owns_unit s u q ≡ owns_unit s u r
    pub units_before : (u : ℕ) → leaf s.levels u ≡ x → owns_unit s u r ≡ in_window r u (reaches 3 from)
    pub units_after : (u : ℕ) → leaf s.levels u ≡ x → owns_unit s u q ≡ in_window r u (reaches 3 to)
    pub notices : (n : ℕ) → 1 ≤ n → owns_notice s n q ≡ owns_notice s n r
    pub drawn : (n : ℕ) → 1 ≤ n → n ≢ x → owns s 1 n q ≡ 1 → owns s 2 n q ≢ 1 → q.ticket ≡ r.ticket

  -- the notices that it owns at node x change, and nothing else that it owns
  pub record Notices (x : ℕ) : Type 0 where
    pub owned : (k n : ℕ) → 1 ≤ k → 1 ≤ n → owns s k n q ≡ owns s k n r
    pub units : (u : ℕ) → owns_unit s u q ≡ owns_unit s u r
    pub else : (n : ℕ) → 1 ≤ n → n ≢ x → owns_notice s n q ≡ owns_notice s n r
    pub drawn : (n : ℕ) → 1 ≤ n → owns s 1 n q ≡ 1 → owns s 2 n q ≢ 1 → q.ticket ≡ r.ticket

  pub data Effect (x w v : ℕ) : Type 0 where
    -- nothing is written, nothing changes hands
    quiet : v ≡ w → Same → Effect x w v
    -- "TMax + 1 at the piece; old TMax is the ticket"
    drew : level x ≢ s.levels → Grips x 0 1 → q.ticket ≡ tmax w → v ≡ add_tmax 1 w → Effect x w v
    -- "TCnt equals the ticket"
    turned : level x ≢ s.levels → Grips x 1 2 → tcnt w ≡ r.ticket → v ≡ w → Effect x w v
    -- "Inner: Occ + 1"
    claimed : level x ≢ s.levels → Grips x 2 3 → v ≡ add_occ 1 w → Effect x w v
    -- "Occ - 1 and TCnt + 1 in one add"
    freed : level x ≢ s.levels → Grips x 3 0 → v ≡ return_occ w → Effect x w v
    -- "Turn reached, Occ not set: TCnt + 1"
    passed : level x ≢ s.levels → Grips x 2 0 → v ≡ add_tcnt 1 w → Effect x w v
    -- "DMax + 1 at the next ancestor"
    notified : level x ≢ s.levels → Notices x → owns_notice s x q ≡ suc (owns_notice s x r) → v ≡ add_dmax 1 w → Effect x w v
    -- "DCnt + 1 at each ancestor notified"
    unnotified : level x ≢ s.levels → Notices x → owns_notice s x r ≡ suc (owns_notice s x q) → v ≡ add_dcnt 1 w → Effect x w v
    -- "leaf: swap the wanted bits from all 0 to all 1"
    took : level x ≡ s.levels → Grips x 0 3 → (take_bits (wanted s r x) w).done ≡ true → v ≡ (take_bits (wanted s r x) w).word → Effect x w v
    -- "swap them from all 1 to all 0"
    gave : level x ≡ s.levels → Grips x 3 0 → (give_bits (wanted s r x) w).done ≡ true → v ≡ (give_bits (wanted s r x) w).word → Effect x w v

-- ---- one change after another that changes no ownership

module _ (s : Settings) (r q p : Record) (y : Same s q p) where
  one_still : (n : ℕ) → 1 ≤ n → owns s 1 n p ≡ 1 → owns s 1 n q ≡ 1
  one_still n b i = sym (y.owned 1 n (omega arith) b) ∙ i

  two_still : (n : ℕ) → 1 ≤ n → owns s 2 n p ≢ 1 → owns s 2 n q ≢ 1
  two_still n b j z = j (y.owned 2 n (omega arith) b ∙ z)

  pub grips_then : (x from to : ℕ) → 1 ≤ x → Grips s r q x from to → Grips s r p x from to
  grips_then x from to c e = record {
    before = e.before;
    after = λ k a. y.owned k x a c ∙ e.after k a;
    else = λ k n a b d. y.owned k n a b ∙ e.else k n a b d;
    units = λ u d. y.units u ∙ e.units u d;
    units_before = e.units_before;
    units_after = λ u f. y.units u ∙ e.units_after u f;
    notices = λ n b. y.notices n b ∙ e.notices n b;
    drawn = λ n b d i j. y.drawn n b i j ∙ e.drawn n b d (one_still n b i) (two_still n b j);
  }

  pub notices_then : (x : ℕ) → Notices s r q x → Notices s r p x
  notices_then x e = record {
    owned = λ k n a b. y.owned k n a b ∙ e.owned k n a b;
    units = λ u. y.units u ∙ e.units u;
    else = λ n b d. y.notices n b ∙ e.else n b d;
    drawn = λ n b i j. y.drawn n b i j ∙ e.drawn n b (one_still n b i) (two_still n b j);
  }
