-- Laws: for each phase one expression that is what it asks, as the code has it. A later test of an expression may use that the earlier ones are false. Assumes nothing.
use Rattle.std.specs.Prelude.{◌≡◌, Bool, true, ◌&&◌, T, leb, length}
use Rattle.std.proofs.Math.Path.{refl, sym, ap, ap₂}
use Rattle.std.proofs.Common.{◌∙◌, eqb→eq}
use Rattle.std.proofs.Math.Bool.{false, ◌||◌, or-false}
use Prim.Native.Nat.{ℕ, suc, ◌+◌, ◌-◌, ◌≤◌, ◌<◌}
use native.Mathlib.Omega.{arith}
use borrow.Author.Tests.{lt-ltb, le-ltb, leb-false, eqb-false, eq-eqb, ne_eqb}
use Rattle.std.proofs.Math.Dec.{eqb, ltb}
use Rattle.base.specs.rules.Choice.{choose}
use Rattle.base.specs.laws.ChoiceLaws.{on_choose, choose_eq, by_lt}
use Rattle.base.specs.laws.TestLaws.{true_first}
use Rattle.tree.specs.rules.Tree.{level, Node}
use Rattle.tree.specs.rules.Lists.{ancestors, check_list}
use Rattle.tree.proofs.laws.Level.{level_root}
use Rattle.tree.proofs.laws.Ancestors.{ancestors_count}
use Rattle.tree.proofs.laws.Notify.{notify_count_lem}
use Rattle.tree.proofs.laws.Code.{bounded, count_none}
use Rattle.lock.specs.declared.Record.{Record}
use Rattle.lock.specs.declared.Settings.{Settings}
use Rattle.lock.specs.rules.Records.{pieces, current_piece, is_leaf, is_root, grip_of, notices_of}
use Rattle.lock.specs.rules.Unreadable.{nonzero, differ, number_too_large, place_past, notices_wrong, outcome_wrong, held_early, giving_wrong, out_of_patience_first}
use Rattle.lock.specs.laws.ReadableLaws.{Begun}
use Rattle.lock.proofs.laws.ReadableLaws.{same_number, past_some, place_is, list_climbing, list_notifying, list_checking, list_returning, elsewhere_leaf, elsewhere_root, elsewhere_none, grip_climbing, grip_taken, grip_returning}
use Rattle.lock.proofs.laws.ActiveLaws.{below_root, notified, checked}
use Rattle.lock.specs.laws.OwnTests.{own_wrong}
use Rattle.lock.proofs.laws.OwnTests.{untaken_is, past_or, past_or_root, elsewhere, lacking, count, own_taking, notices_at, notices_few, notices_many, notices_waiting, notices_place, none_walked, bare}

in_order : (n p q o l v i : Bool) → ((((((n || p) || q) || o) || l) || v) || i) ≡ (n || (p || (q || (false || (false || (o || (l || (v || i))))))))
in_order true p q o l v i = refl
in_order false true q o l v i = refl
in_order false false true o l v i = refl
in_order false false false true l v i = refl
in_order false false false false true v i = refl
in_order false false false false false true i = refl
in_order false false false false false false i = refl

module _ {s : Settings} {r : Record} (v : Begun s r) where
  abbrev piece : ℕ
  piece = current_piece r

  here : Node s.levels piece
  here = v.node r.current v.exists

  in_tree : Node 12 piece
  in_tree = record { some = here.some; inside = omega (arith, here.inside, v.settled.levels_most) }

  at_root : T (is_root piece) → level piece ≡ 1
  at_root t = level_root piece (omega (arith, eqb→eq piece 1 t))

  -- outcome and piece being given back, which are 0 in 1 to 9
  abbrev strange : Bool
  strange = nonzero r.outcome || nonzero r.giving

  early_few : choose (is_leaf s piece) 0 2 < 3
  early_few = on_choose {A = ℕ} (λ k. k < 3) (is_leaf s piece) 0 2 (λ _. omega arith) (λ _. omega arith)

  -- ---- at a leaf or above

  module _ {leaf : Bool} (leaf_is : leaf ≡ is_leaf s piece) where
    leaf_elsewhere : 1 ≤ r.phase → r.phase < 9 → (3 ≤ r.phase → r.phase < 7 → ⊥) → leaf ≡ elsewhere s r
    leaf_elsewhere a b c = leaf_is ∙ elsewhere_leaf s r r.phase a b c

    -- 1 ticket, 2 turn
    pub own_asking : 1 ≤ r.phase → r.phase ≤ 2 → (k : ℕ) → k < 3 → differ r.grip k ≡ lacking s r
        → (((strange || differ r.grip k) || (leaf || nonzero r.place)) || nonzero r.notices) ≡ own_wrong s r
    own_asking x y k low q =
        own_taking s r (omega arith) _ _ _ q
        (λ _. ap₂ ◌||◌ (leaf_elsewhere x (omega arith) (λ a b. omega arith)) (none_walked s r (λ a b. omega arith) (λ a. omega arith) (λ a. omega arith) (λ a. omega arith)))
        (λ z _. notices_few s r (omega arith) (omega (arith, same_number r.grip k z)))

    -- the grip in 3, 4 and 5
    module _ {l : Bool} (g : l ≡ choose leaf (differ r.grip 0) (differ r.grip 2)) (x : 3 ≤ r.phase) (y : r.phase ≤ 5) where
      grip_is : l ≡ differ r.grip (choose (is_leaf s piece) 0 2)
      grip_is = g ∙ untaken_is leaf r.grip ∙ ap (λ (b : Bool). differ r.grip (choose b 0 2)) leaf_is

      notices_climbing : l ≡ false → nonzero r.notices ≡ (held_early r || notices_wrong s r)
      notices_climbing z = notices_few s r y (omega (arith, same_number r.grip _ (sym grip_is ∙ z), early_few))

      -- 3 climb, 4 blocked
      pub own_climbing : r.phase ≤ 4 → {d : ℕ} → d ≡ level piece → (((strange || l) || leb (d - 1) r.place) || nonzero r.notices) ≡ own_wrong s r
      own_climbing w {d} e =
          let c = ancestors_count piece in
          own_taking s r (omega arith) l _ _ (grip_is ∙ grip_climbing (is_leaf s piece) r.grip r.phase x (omega arith))
          (λ _. past_or_root (is_root piece) (d - 1) r.place (λ z. omega (arith, below_root piece here.some z)) (λ t. omega (arith, at_root t))
          ∙ ap₂ ◌||◌ (elsewhere_root s r r.phase x (omega arith) (λ a. omega arith)) (place_is s r (d - 1) ((let f : d - 1 ≡ length (ancestors piece) = omega arith in f) ∙ list_climbing s r r.phase x (omega arith))))
          (λ z _. notices_climbing z)

      -- 5 claim
      pub own_claiming : r.phase ≡ 5 → (((strange || l) || nonzero r.place) || nonzero r.notices) ≡ own_wrong s r
      own_claiming e =
          own_taking s r (omega arith) l _ _ (grip_is ∙ grip_climbing (is_leaf s piece) r.grip r.phase x (omega arith))
          (λ _. bare s r (omega arith) (λ a b. omega arith) (λ a b. omega arith)) (λ z _. notices_climbing z)

    -- ---- with the count of notices

    module _ {n : ℕ} (counted : n ≡ count s r) where
      -- the grip in 6 to 9
      taken : (a k : Bool) → 6 ≤ r.phase → r.phase ≤ 9 → (3 ≤ r.grip → a ≡ (elsewhere s r || place_past s r)) → (3 ≤ r.grip → a ≡ false → k ≡ (held_early r || notices_wrong s r))
          → (((strange || differ r.grip 3) || a) || k) ≡ own_wrong s r
      taken a k x y f g =
          let full : differ r.grip 3 ≡ false → 3 ≤ r.grip = λ z. omega (arith, same_number r.grip 3 z) in
          own_taking s r y _ a k (grip_taken (is_leaf s piece) r.grip r.phase x (omega arith)) (λ z. f (full z)) (λ z. g (full z))

      -- 6 notify
      pub own_notifying : r.phase ≡ 6 → (((strange || differ r.grip 3) || leb n r.place) || differ r.notices r.place) ≡ own_wrong s r
      own_notifying e =
          taken _ _ (omega arith) (omega arith)
          (λ _. past_or_root (is_root piece) n r.place (λ z. omega (arith, notified s.distance piece v.settled.distance_some v.settled.distance_most in_tree (below_root piece here.some z)))
          (λ t. counted ∙ notify_count_lem s.distance piece (bounded s.distance piece v.settled.distance_some v.settled.distance_most in_tree) ∙ count_none s.distance (level piece) (omega (arith, at_root t)))
          ∙ ap₂ ◌||◌ (elsewhere_root s r r.phase (omega arith) (omega arith) (λ a. omega arith)) (place_is s r n (counted ∙ list_notifying s r r.phase e)))
          (λ g y. notices_place s r e g (omega (arith, leb-false n r.place y)))

      more : (b : Bool) → ltb (count s r) r.notices ≡ b → ltb n r.notices ≡ b
      more b e = ap (λ (m : ℕ). ltb m r.notices) counted ∙ e

      -- 7 wait
      pub own_waiting : r.phase ≡ 7 → (((strange || differ r.grip 3) || (leaf || nonzero r.place)) || ltb n r.notices) ≡ own_wrong s r
      own_waiting e =
          taken _ _ (omega arith) (omega arith)
          (λ _. ap₂ ◌||◌ (leaf_elsewhere (omega arith) (omega arith) (λ a b. omega arith)) (none_walked s r (λ a b. omega arith) (λ a. omega arith) (λ a. omega arith) (λ a. omega arith)))
          (λ g _. more _ (notices_waiting s r (omega arith) (omega arith) g))

      -- 8 check
      pub own_checking : r.phase ≡ 8 → {m : ℕ} → m ≡ length (check_list s.levels s.distance piece)
          → (((strange || differ r.grip 3) || (leaf || leb m r.place)) || ltb n r.notices) ≡ own_wrong s r
      unfolding is_leaf
      own_checking e {m} h =
          taken _ _ (omega arith) (omega arith)
          (λ _. past_or leaf m r.place (λ z.
          let other = eqb-false (level piece) s.levels (sym leaf_is ∙ z) in
          omega (arith, checked s.levels s.distance piece v.settled.distance_some (by_lt (level piece) s.levels (λ q. q) (λ q. absurd (other (omega (arith, here.inside)))))))
          ∙ ap₂ ◌||◌ (leaf_elsewhere (omega arith) (omega arith) (λ a b. omega arith)) (place_is s r m (h ∙ list_checking s r r.phase e)))
          (λ g _. more _ (notices_waiting s r (omega arith) (omega arith) g))

      -- 9 held
      pub own_holding : r.phase ≡ 9 → {p : ℕ} → p ≡ length (pieces r)
          → (((strange || differ r.grip 3) || nonzero r.place) || (ltb (r.current + 1) p || ltb n r.notices)) ≡ own_wrong s r
      unfolding held_early
      own_holding e q =
          let next : r.current + 1 ≡ suc r.current = omega arith in
          taken _ _ (omega arith) (omega arith)
          (λ _. bare s r (omega arith) (λ a b. omega arith) (λ a b. omega arith))
          (λ g _. ap₂ ◌||◌ (λ i. sym (eq-eqb r.phase 9 e) i && ltb (next i) (q i)) (more _ (notices_many s r (λ a. omega arith) g)))

      -- 10 returning
      pub own_returning : r.phase ≡ 10 → {past lack : Bool} → past ≡ ltb (notices_of s r r.giving) r.place → lack ≡ choose leaf (differ r.grip 0 && differ r.grip 3) (ltb 3 r.grip)
          → {g : ℕ} → g ≡ grip_of r r.giving
          → ((((((ltb 4 r.outcome || past) || (ltb n r.notices || nonzero r.notices && ltb r.grip 3)) || eqb r.outcome 0) || lack) || (ltb r.current r.giving || eqb g 0))
          || eqb r.outcome 4 && eqb r.current 0) ≡ own_wrong s r
      unfolding own_wrong number_too_large outcome_wrong held_early giving_wrong out_of_patience_first
      own_returning e {past} {lack} p l {g} h =
          let listed = suc (notices_of s r r.giving) in
          let number : ltb 4 r.outcome ≡ (ltb 10 r.phase || ltb 4 r.outcome) = sym (ap (λ (b : Bool). b || ltb 4 r.outcome) (le-ltb 10 r.phase (omega arith))) in
          let place = p ∙ past_some listed r.place (λ z. omega arith) ∙ place_is s r listed (list_returning s r r.phase e) in
          let notices = ap (λ (b : Bool). b || nonzero r.notices && ltb r.grip 3) (more _ refl) ∙ sym (or-false _) ∙ notices_at s r _ false refl (ne_eqb r.phase 6 (λ z. omega arith)) in
          let nowhere = elsewhere_none s r r.phase (λ a b. omega arith) (λ a b. omega arith) in
          let held = sym (ap (λ (b : Bool). b && ltb (suc r.current) (length (pieces r))) (ne_eqb r.phase 9 (λ z. omega arith))) in
          let outcome = sym (choose_eq r.phase 10 (eqb r.outcome 0) (nonzero r.outcome) e) in
          let grip = l ∙ ap (λ (b : Bool). choose b (differ r.grip 0 && differ r.grip 3) (ltb 3 r.grip)) leaf_is ∙ grip_returning (is_leaf s piece) r.grip r.phase e in
          let giving = ap (λ (x : ℕ). ltb r.current r.giving || eqb x 0) h ∙ ap (λ (b : Bool). ltb r.current r.giving || b) (sym (choose_eq r.phase 10 _ (nonzero r.giving) e)) in
          let impatient = sym (ap (λ (b : Bool). b && eqb r.outcome 4 && eqb r.current 0) (eq-eqb r.phase 10 e)) in
          in_order (ltb 4 r.outcome) past (ltb n r.notices || nonzero r.notices && ltb r.grip 3) (eqb r.outcome 0) lack (ltb r.current r.giving || eqb g 0)
          (eqb r.outcome 4 && eqb r.current 0)
          ∙ (λ i. number i || (place i || (notices i || (nowhere i || (held i || (outcome i || (grip i || (giving i || impatient i))))))))

  -- a number that is no phase
  pub own_unknown : 10 < r.phase → true ≡ own_wrong s r
  unfolding own_wrong number_too_large
  own_unknown b = true_first (number_too_large r) _ (ap (λ (c : Bool). c || ltb 4 r.outcome) (lt-ltb 10 r.phase b))
