-- Laws: where every client is idle nobody owns anything, and the tree is clean. Assumes nothing.
use Rattle.std.specs.Prelude.{◌≡◌, ℕ, ◌<◌, get_or}
use Rattle.std.proofs.Common.{sym, ◌∙◌, arith}
use Rattle.base.specs.laws.Sum.{sum_zero}
use Rattle.base.specs.laws.Tickets.{none_own}
use Rattle.word.proofs.laws.Fields.{field_lt}
use Rattle.word.proofs.laws.Bits.{bit_zero, bits_ext}
use Rattle.tree.specs.rules.Tree.{level, Node}
use Rattle.lock.specs.declared.Settings.{Settings}
use Rattle.lock.specs.rules.Records.{word_at}
use Rattle.lock.specs.rules.History.{CleanInner, Clean}
use Rattle.lock.proofs.claim.Owned.{owns, owns_unit, owns_notice}
use Rattle.lock.proofs.claim.InnerWords.{nobody, ticket_of}
use Rattle.lock.proofs.claim.Parts.{Parts, record_in}
use Rattle.lock.proofs.claim.Invariant.{Invariant, leaf_bit}
use Rattle.lock.proofs.claim.Forward.{Empty, empty_owns, empty_unit, empty_notice, fit_empty}

module _ (s : Settings) (st : Parts) (inv : Invariant s st) (idle : (c : ℕ) → (record_in st c).phase ≡ 0) where
  abbrev h : ℕ
  h = s.levels

  all_empty : (c : ℕ) → Empty s (get_or st.records c nobody)
  all_empty c = fit_empty s (record_in st c) (st.clock c) (inv.fit c) (idle c)

  clean_inner : (n : ℕ) → Node h n → level n < h → CleanInner (word_at st.words n)
  clean_inner n v l =
      let w = word_at st.words n in
      let k = inv.inner n v (λ e. omega arith) in
      record {
        exp_clear = k.exp_clear;
        occ_clear = k.occ_is ∙ sum_zero (owns s 3 n) st.records nobody (λ c. empty_owns s _ (all_empty c) 3 n (omega arith));
        tickets = none_own (owns s 1 n) (owns s 2 n) ticket_of nobody _ _ st.records k.tickets (λ c. empty_owns s _ (all_empty c) 1 n (omega arith));
        notices = omega (arith, k.notices, field_lt 16 16 w, sum_zero (owns_notice s n) st.records nobody (λ c. empty_notice s _ (all_empty c) n));
      }

  clean_leaf : (n : ℕ) → Node h n → level n ≡ h → word_at st.words n ≡ 0
  clean_leaf n v l =
      bits_ext 64 (word_at st.words n) 0 (inv.small n v l) (omega arith) (λ b c.
      let at = leaf_bit s st inv n v l b c in
      at.2 ∙ sum_zero (owns_unit s at.0) st.records nobody (λ d. empty_unit s _ (all_empty d) at.0) ∙ sym (bit_zero b))

  pub clean : Clean s st.words
  clean = record { leaf = clean_leaf; inner = clean_inner }
