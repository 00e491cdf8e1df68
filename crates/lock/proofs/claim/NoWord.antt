-- Laws: what touches no word, a request, a release, a cancel, and a step that is out of patience, owes nothing to the invariant. Assumes nothing.
use Rattle.std.specs.Prelude.{◌≡◌, ◌≢◌, false, ℕ, ◌≤◌, ◌<◌, eqb, get_or}
use Rattle.std.proofs.Math.Path.{refl, sym, ap}
use Rattle.std.proofs.Common.{◌∙◌}
use mathlib.Core.List.{List, [], ◌∷◌}
use native.Mathlib.Omega.{arith}
use Rattle.std.proofs.Math.Dec.{eqb→eq}
use Rattle.std.proofs.Math.ListN.{length}
use Rattle.base.specs.laws.ChoiceLaws.{on_choose, by_lt, neqb→ne}
use Rattle.cover.specs.rules.Cover.{In}
use Rattle.cover.specs.rules.Answer.{window_outside}
use Rattle.cover.specs.laws.Lowest.{Window}
use Rattle.cover.proofs.laws.Code.{window_inside}
use Rattle.cover.proofs.laws.Least.{least_cover_lem}
use Rattle.lock.specs.declared.Record.{Record}
use Rattle.lock.specs.declared.Settings.{Settings}
use Rattle.lock.specs.rules.Records.{cover_of, pieces, piece_at, grip_of, idle_with, sent_back}
use Rattle.lock.proofs.laws.Pieces.{piece_first, grip_before, grip_current, first_gripped}
use Rattle.lock.specs.rules.Steps.{start_phase, given_up}
use Rattle.lock.specs.rules.Calls.{requested, released, cancelled}
use Rattle.lock.specs.laws.Active.{Settled}
use Rattle.lock.proofs.laws.ActiveLaws.{pieces_are}
use Rattle.lock.proofs.laws.Ready.{Ready, any_grip_leaf, any_grip_most}
use Rattle.lock.proofs.laws.WhenReadable.{asked, readable_begin, readable_returning}
use Rattle.lock.proofs.claim.Fit.{Fit, fit_readable, idle_fit}
use Rattle.lock.proofs.claim.Effect.{quiet}
use Rattle.lock.proofs.claim.InnerWords.{nobody}
use Rattle.lock.proofs.claim.Forward.{kin, entering_unreturned, Empty, empty_same, fresh_empty}
use Rattle.lock.proofs.claim.Onward.{asked_same, Unclaimed, unclaimed_returning, unclaimed_first, timely_none}
use Rattle.lock.proofs.claim.Keeps.{Keeps, keeps_quiet}
use Rattle.lock.proofs.claim.Taking.{start_low}

-- ---- request: an idle record gets a window

module _ (s : Settings) (g : Settled s) (l r : ℕ) (inside : window_outside s.levels l r ≡ false) where
  window : Window s.levels l r
  window = window_inside s.levels l r (omega (arith, g.levels_some)) g.levels_most inside

  some_piece : (n : ℕ) (c : List ℕ) → In n c → 0 < length c
  unfolding In
  some_piece n [] i = absurd i
  some_piece n (m ∷ c) i = omega arith

  requested_fit : (now : ℕ) → Fit s (requested s l r) now
  unfolding requested
  requested_fit now =
      let q = requested s l r in
      let w = window in
      let least = least_cover_lem s.levels l r w.levels w.some w.fits 2 (omega arith) in
      let held = least.covers.holds l (omega arith) w.some in
      let is : pieces q ≡ cover_of s l r = pieces_are q (cover_of s l r) held.node held.among least.few (λ m i. (least.covers.meets m i).node.some) refl refl in
      fit_readable s q now
      (readable_begin s q now g
      (asked s q now w is (omega (arith, ap length is, some_piece held.node (cover_of s l r) held.among)) (omega arith) (omega arith) (omega arith) (omega arith) (λ _ _ _. refl))
      refl refl (ap (start_phase s) (sym (piece_first q))) refl refl refl)
      (λ a. omega (arith, start_low s (get_or (cover_of s l r) 0 0)))

  pub requested_unclaimed : Unclaimed (requested s l r)
  unfolding requested
  requested_unclaimed = unclaimed_first (requested s l r) refl (start_low s (get_or (cover_of s l r) 0 0)).1 (λ _. refl)

  pub request_keeps : (rs : List Record) (r' : Record) (now : ℕ) → Empty s r' → (w : ℕ) → Keeps s rs r' 0 w w (requested s l r) now
  unfolding requested
  request_keeps rs r' now v w =
      let q = requested s l r in
      let low = start_low s (get_or (cover_of s l r) 0 0) in
      record {
        node = λ d. absurd (d refl);
        effect = quiet refl (empty_same s r' q v (fresh_empty s q (λ e. omega (arith, low.1)) refl refl refl));
        fits = requested_fit now;
        time = timely_none s rs nobody r' now q requested_unclaimed;
      }

-- ---- release, cancel, and patience that has run out: a record begins to return

module _ (s : Settings) (rs : List Record) (r : Record) (now : ℕ) (g : Settled s) (rd : Ready s r now) (ahead : r.phase ≢ 10) (w : ℕ) where
  returns : (o : ℕ) → o ≢ 0 → o ≤ 4 → (o ≡ 4 → r.current ≢ 0) → (r.current ≡ 0 → o ≢ 1 → r.taken ≡ 0) → grip_of r 0 ≢ 0 → Keeps s rs r 0 w w (sent_back o r) now
  unfolding pieces piece_at grip_of
  returns o a b j f d =
      let q = sent_back o r in
      let k = kin r q refl refl refl refl in
      keeps_quiet s rs r q 0 w now (λ z. absurd (z refl)) k refl ahead (entering_unreturned s q refl (rd.no_giving ahead) refl) refl refl refl
      (fit_readable s q now
      (readable_returning s q now g (asked_same s r q now now rd k (omega arith) refl refl refl refl refl (λ e _ other. f e (other refl))) (any_grip_most s r now rd) (any_grip_leaf s r now rd) refl a b j (omega arith) rd.active.noticed
      rd.no_notices rd.active.giving_begun (λ z. d (ap (grip_of r) (sym (rd.no_giving ahead)) ∙ z))) (λ x. omega arith))
      (timely_none s rs nobody r now q (unclaimed_returning q refl))

  pub release_keeps : r.phase ≡ 9 → Keeps s rs r 0 w w (released r) now
  unfolding released
  release_keeps e = returns 1 (λ z. omega arith) (omega arith) (λ z. absurd (omega arith)) (λ _ z. absurd (z refl)) (first_gripped r (λ z. omega (arith, rd.claimed (omega arith) (omega arith))))

  pub cancel_keeps : r.phase ≢ 9 → Keeps s rs r 0 w w (cancelled r) now
  unfolding cancelled
  cancel_keeps early =
      on_choose (λ q. Keeps s rs r 0 w w q now) (eqb (grip_of r 0) 0) (idle_with 3) (sent_back 3 r)
      (λ t. let z = eqb→eq (grip_of r 0) 0 t in
      let first : r.current ≡ 0 = by_lt 0 r.current (λ b. absurd (omega (arith, grip_before r 0 b))) (λ b. omega arith) in
      let none : r.grip ≡ 0 = sym (grip_current r 0 (sym first)) ∙ z in
      record {
        node = λ d. absurd (d refl);
        effect = quiet refl (empty_same s r (idle_with 3) (fresh_empty s r ahead first none (rd.no_notices (omega arith))) (fresh_empty s (idle_with 3) (λ e. omega arith) refl refl refl));
        fits = idle_fit s 3 now (omega arith);
        time = timely_none s rs nobody r now (idle_with 3) (unclaimed_first (idle_with 3) refl (omega arith) (λ _. refl));
      })
      (λ t. returns 3 (λ z. omega arith) (omega arith) (λ z. absurd (omega arith)) (λ e _. rd.no_early_time e early (λ z. absurd (ahead z))) (neqb→ne (grip_of r 0) 0 t))

  pub out_of_patience_keeps : 0 < r.current → Keeps s rs r 0 w w (given_up r) now
  out_of_patience_keeps b = returns 4 (λ z. omega arith) (omega arith) (λ _ z. omega arith) (λ z. absurd (omega arith)) (λ z. omega (arith, grip_before r 0 b))
