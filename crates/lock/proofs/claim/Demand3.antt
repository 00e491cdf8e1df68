-- Demand 3, proved: after every list of calls from an accepted opening, if its accepted steps have true moments, no two different clients hold windows that overlap; and with any
-- clocks, if all clients are idle the tree is clean. Assumes nothing.
use Rattle.std.specs.Prelude.{◌≡◌, List, ℕ}
use Rattle.std.proofs.Math.Path.{sym, ap, subst}
use Rattle.std.proofs.Common.{◌∙◌, arith}
use Rattle.base.specs.rules.Overlap.{Overlap}
use Rattle.base.specs.laws.ChoiceLaws.{choose_eq}
use Rattle.lock.specs.declared.Record.{Record}
use Rattle.lock.specs.declared.Settings.{Settings}
use Rattle.lock.specs.rules.Table.{State, Call, record_at, opened, opening}
use Rattle.lock.specs.rules.History.{run, events, Clean, SingleHolding, Demand3}
use Rattle.lock.specs.rules.Readings.{found_in, ReadApart}
use Rattle.lock.proofs.claim.HistoryRecord.{holds_record, all_idle}
use Rattle.lock.proofs.claim.Parts.{parts_of, record_at_lem}
use Rattle.lock.proofs.claim.Keeping.{run_keeps}
use Rattle.lock.proofs.claim.Start.{opened_invariant, opened_timing, opening_idle}
use Rattle.lock.proofs.claim.MomentsKept.{run_checked, read_at_once}
use Rattle.lock.proofs.claim.HeldApart.{held, apart}
use Rattle.lock.proofs.claim.IdleClean.{clean}

module _ (s : Settings) (lent : State) (e : (opening s lent).number ≡ 0) (ks : List Call) where
  opens : opened lent ≡ (opening s lent).state
  unfolding opening
  opens = sym (choose_eq (opening s lent).number 0 (opened lent) lent e)

  -- where each clock is read before or after its word is touched, on the safe side, no two different clients' records are held with windows that overlap
  pub records_apart : (touch reading : ℕ → ℕ) → ReadApart s (opening s lent).state ks touch reading
      → (c d : ℕ) → (c ≡ d → ⊥) → let r = record_at (run s (opening s lent).state ks) c in let q = record_at (run s (opening s lent).state ks) d in
      r.phase ≡ 9 → q.phase ≡ 9 → Overlap r.left r.right q.left q.right → ⊥
  unfolding opening
  records_apart touch reading =
      subst (λ st. ReadApart s st ks touch reading → (c d : ℕ) → (c ≡ d → ⊥) → let r = record_at (run s st ks) c in let q = record_at (run s st ks) d in r.phase ≡ 9 → q.phase ≡ 9 → Overlap r.left r.right q.left q.right → ⊥) opens
      (λ read c d n a b o.
      let st = opened lent in
      let p = parts_of (run s st ks) in
      let first = opened_invariant s lent e in
      let after = run_keeps s st first ks in
      let checked = run_checked s ks st first touch reading read (opened_timing s lent (events s st ks) (found_in s st ks) touch reading) in
      let i = record_at_lem (run s st ks) c in
      let j = record_at_lem (run s st ks) d in
      apart s p after checked c d o.unit n
      (held s p after checked c o.unit (ap (λ (z : Record). z.phase) i ∙ a) (omega (arith, ap (λ (z : Record). z.left) i, o.low)) (omega (arith, ap (λ (z : Record). z.right) i, o.high)))
      (held s p after checked d o.unit (ap (λ (z : Record). z.phase) j ∙ b) (omega (arith, ap (λ (z : Record). z.left) j, o.other_low)) (omega (arith, ap (λ (z : Record). z.right) j, o.other_high))))

  -- so single holding holds of the history
  pub read_apart_holding : (touch reading : ℕ → ℕ) → ReadApart s (opening s lent).state ks touch reading → SingleHolding (events s (opening s lent).state ks)
  read_apart_holding touch reading read c d l r k q n x y o =
      let st = (opening s lent).state in
      let a = holds_record s st ks c l r x in
      let b = holds_record s st ks d k q y in
      records_apart touch reading read c d n a.0 b.0
      (record { unit = o.unit; low = omega (arith, a.1, o.low); high = omega (arith, a.2, o.high); other_low = omega (arith, b.1, o.other_low); other_high = omega (arith, b.2, o.other_high) })

  -- with any clocks, if all records are idle the tree is clean
  pub records_clean : ((c : ℕ) → (record_at (run s (opening s lent).state ks) c).phase ≡ 0) → Clean s (run s (opening s lent).state ks).words
  unfolding opening
  records_clean =
      subst (λ st. ((c : ℕ) → (record_at (run s st ks) c).phase ≡ 0) → Clean s (run s st ks).words) opens
      (λ idle. let st = opened lent in
      clean s (parts_of (run s st ks)) (run_keeps s st (opened_invariant s lent e) ks) (λ c. ap (λ (z : Record). z.phase) (record_at_lem (run s st ks) c) ∙ idle c))

  -- for every H, m, T and P, every number of clients, every content of what was lent to the opening, and every list of calls
  pub demand_3 : Demand3 s (opening s lent).state ks
  demand_3 = (
    λ moment true_moments. read_apart_holding moment moment (read_at_once s (opening s lent).state ks moment true_moments),
    λ idle. records_clean (all_idle s (opening s lent).state ks (opening_idle s lent e) idle),
  )
