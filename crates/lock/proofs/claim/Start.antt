-- Laws: what an accepted opening leaves has the invariant, and nothing is noted there of which a moment would have to be known. Assumes nothing.
use Rattle.std.specs.Prelude.{◌≡◌, refl, ℕ, zero, suc, ◌+◌, ◌%◌, ◌≤◌, get_or}
use Rattle.std.proofs.Math.Path.{sym, ap, subst}
use Rattle.std.proofs.Common.{◌∙◌, arith}
use mathlib.Core.List.{List}
use Rattle.std.proofs.Math.ListN.{length, replicate}
use Rattle.std.proofs.lemmas.List.{length-replicate}
use Rattle.base.specs.laws.ChoiceLaws.{choose_eq}
use Rattle.base.specs.laws.Sum.{sum_by, sum_zero, get_d_fresh}
use Rattle.base.specs.laws.Tickets.{none_yet}
use Rattle.word.specs.rules.Word.{field, bit}
use Rattle.word.proofs.laws.Bits.{bit_zero}
use Rattle.tree.specs.rules.Tree.{leaf, word_count}
use Rattle.lock.specs.declared.Client.{Client}
use Rattle.lock.specs.declared.Record.{Record}
use Rattle.lock.specs.declared.Settings.{Settings}
use Rattle.lock.specs.rules.Records.{word_at, idle_client}
use Rattle.lock.specs.rules.Table.{State, client_at, record_at, clock_at, opening_number, opened, opening}
use Rattle.lock.specs.rules.History.{Event}
use Rattle.lock.specs.laws.Active.{Settled}
use Rattle.lock.proofs.laws.Accepted.{opened_accepted}
use Rattle.lock.proofs.claim.Owned.{owns, owns_unit, owns_notice}
use Rattle.lock.proofs.claim.Fit.{Fit, idle_fit}
use Rattle.lock.proofs.claim.InnerWords.{nobody, ticket_of, InnerWord}
use Rattle.lock.proofs.claim.Parts.{parts_of, records_fresh}
use Rattle.lock.proofs.claim.Timed.{Timed}
use Rattle.lock.proofs.claim.Onward.{Unclaimed, unclaimed_first}
use Rattle.lock.proofs.claim.Invariant.{Invariant}
use Rattle.lock.proofs.claim.Noted.{Noted, Timing, timed_none}
use Rattle.lock.proofs.claim.Forward.{Empty, empty_owns, empty_unit, empty_notice, fresh_empty}

zero_words : (count n : ℕ) → word_at (replicate count 0) n ≡ 0
unfolding word_at
zero_words count zero = refl
zero_words count (suc i) = get_d_fresh count i 0

module _ (s : Settings) where
  nobody_empty : Empty s nobody
  nobody_empty = fresh_empty s nobody (λ e. omega arith) refl refl refl

  none : (f : Record → ℕ) (k : ℕ) → f nobody ≡ 0 → sum_by f (replicate k nobody) ≡ 0
  none f k z = sum_zero f (replicate k nobody) nobody (λ i. ap f (get_d_fresh k i nobody) ∙ z)

  zero_kept : (n k : ℕ) → InnerWord s (replicate k nobody) n 0
  unfolding field
  zero_kept n k = record {
    exp_clear = refl;
    tickets = none_yet (owns s 1 n) (owns s 2 n) ticket_of nobody k (empty_owns s nobody nobody_empty 1 n (omega arith));
    occ_is = sym (none (owns s 3 n) k (empty_owns s nobody nobody_empty 3 n (omega arith)));
    notices = ap (λ (m : ℕ). (0 + m) % 65536) (none (owns_notice s n) k (empty_notice s nobody nobody_empty n));
  }

  fresh_invariant : (count clients : ℕ) (clock : ℕ → ℕ) → Settled s → count ≡ word_count s.levels → clients ≤ 32767
      → Invariant s (record { words = replicate count 0; records = replicate clients nobody; clock = clock })
  fresh_invariant count clients clock g whole few =
      let free : (c : ℕ) → nobody ≡ get_or (replicate clients nobody) c nobody = λ c. sym (get_d_fresh clients c nobody) in
      let word : (n : ℕ) → 0 ≡ word_at (replicate count 0) n = λ n. sym (zero_words count n) in
      record {
        settled = g;
        count = length-replicate count 0 ∙ whole;
        few = rw (length-replicate clients nobody) few;
        fit = λ c. subst (λ x. Fit s x (clock c)) (free c) (idle_fit s 0 (clock c) (omega arith));
        inner = λ n _ _. subst (λ (w : ℕ). InnerWord s (replicate clients nobody) n w) (word n) (zero_kept n clients);
        small = λ n _ _. omega (arith, word n);
        bits = λ u _. sym (ap (bit (u % 64)) (word (leaf s.levels u))) ∙ bit_zero (u % 64) ∙ sym (none (owns_unit s u) clients (empty_unit s nobody nobody_empty u));
      }

  -- nothing is noted yet, so that nothing need be known of moments
  nobody_unclaimed : Unclaimed nobody
  nobody_unclaimed = unclaimed_first nobody refl (omega arith) (λ _. refl)

  fresh_timing : (words : List ℕ) (clients : ℕ) (clock : ℕ → ℕ) (rest : List Event) (found : ℕ → Record) (touch reading : ℕ → ℕ)
      → Timing s (record { words = words; records = replicate clients nobody; clock = clock }) rest found touch reading
  fresh_timing words clients clock rest found touch reading =
      let free : (c : ℕ) → nobody ≡ get_or (replicate clients nobody) c nobody = λ c. sym (get_d_fresh clients c nobody) in
      record {
        claim = λ _. 0;
        parent = λ _. 0;
        present = 0;
        later = λ j d u a. omega arith;
        noted = λ c. subst (λ x. Noted s x 0 0 0 rest found reading c) (free c)
            (record { past = λ n. omega arith; not_slow = λ n. absurd (n nobody_unclaimed.none); not_fast = λ a. absurd (omega arith) });
        timed = λ c d _. subst (λ x. Timed s x (get_or (replicate clients nobody) d nobody) 0 0 0) (free c) (timed_none s nobody nobody_unclaimed _ 0 0 0);
      }

  module _ (st : State) where
    pub opened_invariant : opening_number s (length st.words) (length st.clients) ≡ 0 → Invariant s (parts_of (opened st))
    unfolding opened
    opened_invariant e =
        let a = opened_accepted s st e in
        let k = length st.clients in
        subst (λ (rs : List Record). Invariant s (record { words = replicate (length st.words) 0; records = rs; clock = clock_at (opened st) })) (sym (records_fresh k))
        (fresh_invariant (length st.words) k (clock_at (opened st)) a.0 a.1 a.2)

    pub opened_timing : (rest : List Event) (found : ℕ → Record) (touch reading : ℕ → ℕ) → Timing s (parts_of (opened st)) rest found touch reading
    unfolding opened
    opened_timing rest found touch reading =
        let k = length st.clients in
        subst (λ (rs : List Record). Timing s (record { words = replicate (length st.words) 0; records = rs; clock = clock_at (opened st) }) rest found touch reading) (sym (records_fresh k))
        (fresh_timing (replicate (length st.words) 0) k (clock_at (opened st)) rest found touch reading)

pub opening_invariant : (s : Settings) (lent : State) → (opening s lent).number ≡ 0 → Invariant s (parts_of (opening s lent).state)
unfolding opening
opening_invariant s lent e = subst (λ (st : State). Invariant s (parts_of st)) (sym (choose_eq (opening s lent).number 0 (opened lent) lent e)) (opened_invariant s lent e)

-- and every client is idle
pub opened_idle : (st : State) (c : ℕ) → (record_at (opened st) c).phase ≡ 0
unfolding client_at opened
opened_idle st c = ap (λ (x : Client). x.«record».phase) (get_d_fresh (length st.clients) c idle_client)

pub opening_idle : (s : Settings) (lent : State) → (opening s lent).number ≡ 0 → (c : ℕ) → (record_at (opening s lent).state c).phase ≡ 0
unfolding opening
opening_idle s lent e c = subst (λ (st : State). (record_at st c).phase ≡ 0) (sym (choose_eq (opening s lent).number 0 (opened lent) lent e)) (opened_idle lent c)
