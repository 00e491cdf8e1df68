-- Laws: a piece is taken, after which the next begins or the window is held. Assumes nothing.
use Rattle.std.specs.Prelude.{◌≡◌, ◌≢◌, List, ℕ, suc, ◌≤◌, ◌<◌, eqb, ltb, length}
use Rattle.std.proofs.Math.Path.{refl}
use Rattle.std.proofs.Common.{arith, ltb→lt, nltb→le}
use Rattle.base.specs.laws.ChoiceLaws.{on_choose}
use Rattle.tree.specs.rules.Tree.{Node}
use Rattle.tree.specs.rules.Lists.{notify_list}
use Rattle.lock.specs.declared.Record.{Record}
use Rattle.lock.specs.declared.Settings.{Settings}
use Rattle.lock.specs.rules.Records.{pieces, piece_at, current_piece, is_leaf, to_phase, with_notices, with_taken}
use Rattle.lock.specs.rules.Steps.{start_phase, begin, first_noted, taken}
use Rattle.lock.specs.laws.Active.{Settled}
use Rattle.lock.proofs.laws.Ready.{Ready}
use Rattle.lock.proofs.laws.WhenReadable.{readable_begin, readable_held}
use Rattle.lock.proofs.claim.Fit.{fit_readable}
use Rattle.lock.proofs.claim.Effect.{Same, Effect}
use Rattle.lock.proofs.claim.InnerWords.{nobody}
use Rattle.lock.proofs.claim.Timed.{Timely}
use Rattle.lock.proofs.claim.Forward.{kin, onward_unreturned, forward_same, begin_same}
use Rattle.lock.proofs.claim.Onward.{asked_kin, timely_begin}
use Rattle.lock.proofs.claim.Keeps.{Keeps}

pub start_low : (s : Settings) (n : ℕ) → (1 ≤ start_phase s n) × (start_phase s n ≤ 4)
unfolding start_phase
start_low s n = on_choose (λ (p : ℕ). (1 ≤ p) × (p ≤ 4)) (is_leaf s n) 3 1 (λ _. (omega arith, omega arith)) (λ _. (omega arith, omega arith))

-- p is the record whose current piece is taken: r with all notices of that piece
module _ (s : Settings) (rs : List Record) (r : Record) (c last now : ℕ) (later : last ≤ now) (g : Settled s) (rd : Ready s r last) (ahead : r.phase ≢ 10) (grip : r.grip ≡ 3)
    (whole : c ≡ length (notify_list s.distance (current_piece r))) (x w v : ℕ) (node : x ≢ 0 → Node s.levels x)
    (effect : (q : Record) → Same s (with_notices c r) q → Effect s r q x w v) (time : (t : ℕ) → Timely s rs nobody r (to_phase 9 (with_taken t (with_notices c r))) now) where
  abbrev p : Record
  p = with_notices c r

  -- with the third time t
  next_begins : (t : ℕ) → t ≤ now → suc r.current < length (pieces r) → Keeps s rs r x w v (begin s (with_taken t p) (suc r.current)) now
  unfolding begin pieces piece_at
  next_begins t past b =
      let q = begin s (with_taken t p) (suc r.current) in
      let z = kin p q refl refl refl refl in
      let low = start_low s (piece_at r (suc r.current)) in
      let aheadq : q.phase ≢ 10 = λ f. omega (arith, low.1) in
      record {
        node = node;
        effect = effect q (begin_same s p q z refl refl refl grip whole (onward_unreturned s p ahead) (onward_unreturned s q aheadq));
        fits = fit_readable s q now
            (readable_begin s q now g (asked_kin s r q last now rd (kin r q refl refl refl refl) b (omega arith) (omega arith) (omega arith) past (λ e. absurd (omega arith))) (rd.no_outcome ahead) (rd.no_giving ahead) refl refl refl refl)
            (λ a. omega (arith, low.1));
        time = timely_begin s rs nobody r now q (to_phase 9 (with_taken t p)) (time t) (record { pieces_same = refl; left_same = refl; right_same = refl }) refl refl low.1 refl;
      }

  all_taken : (t : ℕ) → t ≤ now → length (pieces r) ≤ suc r.current → Keeps s rs r x w v (to_phase 9 (with_taken t p)) now
  unfolding pieces piece_at
  all_taken t past b =
      let q = to_phase 9 (with_taken t p) in
      let z = kin p q refl refl refl refl in
      record {
        node = node;
        effect = effect q (forward_same s p q z refl (onward_unreturned s p ahead) (onward_unreturned s q (λ f. omega arith)) refl refl refl);
        fits = record {
          readable = readable_held s q now g
              (asked_kin s r q last now rd (kin r q refl refl refl refl) rd.active.exists rd.active.ticket_most (omega (arith, rd.active.t1_past)) (omega (arith, rd.active.t0_past)) past (λ _ d. absurd (d refl)))
              (rd.no_outcome ahead) (rd.no_giving ahead)
              grip (omega arith) refl refl (omega arith);
          all_noticed = λ _ _. whole;
        };
        time = time t;
      }

  -- the third time is noted now, or stays as it was
  noted : (next : Record → Record) → ((t : ℕ) → t ≤ now → Keeps s rs r x w v (next (with_taken t p)) now) → Keeps s rs r x w v (next (first_noted p now)) now
  unfolding first_noted
  noted next keeps =
      on_choose (λ q. Keeps s rs r x w v (next q) now) (eqb r.current 0) (with_taken now p) p (λ _. keeps now (omega arith)) (λ _. keeps r.taken (omega (arith, rd.active.taken_past)))

  pub taken_keeps : Keeps s rs r x w v (taken s p now) now
  unfolding taken pieces
  taken_keeps =
      on_choose (λ q. Keeps s rs r x w v q now) (ltb (suc r.current) (length (pieces r))) (begin s (first_noted p now) (suc r.current)) (to_phase 9 (first_noted p now))
      (λ y. noted (λ q. begin s q (suc r.current)) (λ t past. next_begins t past (ltb→lt (suc r.current) (length (pieces r)) y)))
      (λ y. noted (to_phase 9) (λ t past. all_taken t past (nltb→le (suc r.current) (length (pieces r)) y)))
