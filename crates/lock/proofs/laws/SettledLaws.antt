-- Laws: settings that no test of cause 1 refuses are within their ranges, as far as anything rests on it. Assumes nothing.
use Rattle.std.specs.Prelude.{◌≡◌, false, ◌||◌, ℕ, ◌≤◌, ltb}
use Rattle.std.proofs.Common.{ltb-false, le-ltb}
use Rattle.base.specs.laws.TestLaws.{both_false}
use Rattle.cover.specs.rules.Answer.{levels_outside}
use Rattle.lock.specs.declared.Settings.{Settings}
use Rattle.lock.specs.rules.Calls.{levels_or_distance_outside, settings_outside}
use Rattle.lock.specs.laws.Active.{Settled}

-- the test behind those of H and m
past_shape : (s : Settings) → settings_outside s ≡ false → (levels_or_distance_outside s.levels s.distance ≡ false) × (1 ≤ s.wait) × (s.wait ≤ 4294967295) × (1 ≤ s.patience)
unfolding settings_outside
past_shape s e =
    let p = both_false _ (ltb s.patience 1) (both_false _ (ltb 4294967295 s.patience) e).0 in
    let w = both_false _ (ltb 4294967295 s.wait) p.0 in
    let c = both_false (levels_or_distance_outside s.levels s.distance) (ltb s.wait 1) w.0 in
    (c.0, ltb-false s.wait 1 c.1, ltb-false 4294967295 s.wait w.1, ltb-false s.patience 1 p.1)

pub in_range : (s : Settings) → settings_outside s ≡ false → levels_or_distance_outside s.levels s.distance ≡ false
in_range s e = (past_shape s e).0

pub wait_some : (s : Settings) → settings_outside s ≡ false → 1 ≤ s.wait
wait_some s e = (past_shape s e).1

pub patience_some : (s : Settings) → settings_outside s ≡ false → 1 ≤ s.patience
patience_some s e = (past_shape s e).3

-- the test of H and m, both ways
pub shape_inside : (h m : ℕ) → levels_or_distance_outside h m ≡ false → (2 ≤ h) × (h ≤ 12) × (1 ≤ m) × (m ≤ 4)
unfolding levels_outside
shape_inside h m e =
    let b = both_false _ (ltb 4 m) e in
    let a = both_false (levels_outside h) (ltb m 1) b.0 in
    let l = both_false (ltb h 2) (ltb 12 h) a.0 in
    (ltb-false h 2 l.0, ltb-false 12 h l.1, ltb-false m 1 a.1, ltb-false 4 m b.1)

pub shape_right : (s : Settings) → Settled s → levels_or_distance_outside s.levels s.distance ≡ false
unfolding levels_outside
shape_right s g = λ i. le-ltb s.levels 2 g.levels_some i || le-ltb 12 s.levels g.levels_most i || le-ltb s.distance 1 g.distance_some i || le-ltb 4 s.distance g.distance_most i

pub settled : (s : Settings) → settings_outside s ≡ false → Settled s
settled s e =
    let p = past_shape s e in
    let h = shape_inside s.levels s.distance p.0 in
    record { levels_some = h.0; levels_most = h.1; distance_some = h.2; distance_most = h.3; wait_most = p.2 }
