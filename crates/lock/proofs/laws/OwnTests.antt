-- Laws: the test of a record that is not idle in two parts, what every phase asks and what its own phase asks; and of the second part, for phases 1 to 9, the clauses
-- that no other implies. PhaseTests.antt has the expression of each phase. Assumes nothing.
use Rattle.std.specs.Prelude.{◌≡◌, refl, Bool, true, false, not, ◌&&◌, ℕ, suc, ◌≤◌, ◌<◌, leb, length}
use Rattle.std.proofs.Math.Path.{sym, ap, ap₂, subst}
use Rattle.std.proofs.Common.{◌∙◌, lt-ltb, le-ltb, le-leb, eq-eqb, ne_eqb}
use Rattle.std.proofs.Math.Bool.{◌||◌, or-false}
use native.Mathlib.Omega.{arith}
use Rattle.std.proofs.Math.Dec.{T, eqb, ltb, lt→ltb, ltb→lt}
use Rattle.base.specs.rules.Choice.{choose}
use Rattle.base.specs.laws.ChoiceLaws.{choose_eq, choose_ne}
use Rattle.base.specs.laws.TestLaws.{true_later}
use Rattle.tree.specs.rules.Lists.{notify_list}
use Rattle.lock.specs.declared.Record.{Record}
use Rattle.lock.specs.declared.Settings.{Settings}
use Rattle.lock.specs.rules.Records.{phase_of, pieces, current_piece}
use Rattle.lock.specs.rules.Unreadable.{nonzero, differ, number_too_large, idle_filled, not_covered, no_current, ticket_too_large, place_past, notices_wrong, time_ahead, phase_elsewhere, held_early, outcome_wrong, grip_lacking, giving_wrong, out_of_patience_first, fields_wrong, unreadable}
use Rattle.lock.proofs.laws.ReadableLaws.{past_list, past_none, past_some, place_is, list_none, elsewhere_none}
use Rattle.lock.specs.laws.OwnTests.{not_begun, own_wrong}

-- the clauses in the documents' order, and in two parts
parted : (n c u t p q a e h o l v i f : Bool)
    → (n || ((c || u) || ((((((((((t || p) || q) || a) || e) || h) || o) || l) || v) || i) || f)))
    ≡ (((((c || u) || t) || a) || f) || (n || (p || (q || (e || (h || (o || (l || (v || i)))))))))
parted n true u t p q a e h o l v i f = sym (true_later n _ refl)
parted n false true t p q a e h o l v i f = sym (true_later n _ refl)
parted n false false true p q a e h o l v i f = sym (true_later n _ refl)
parted n false false false p q true e h o l v i f =
    sym (true_later n _ (ap (λ x. ((((((x || e) || h) || o) || l) || v) || i) || f) (true_later (p || q) true refl)))
parted n false false false p q false e h o l v i true =
    sym (true_later n _ (true_later ((((((((p || q) || false) || e) || h) || o) || l) || v) || i) true refl))
parted n false false false true q false e h o l v i false = refl
parted n false false false false true false e h o l v i false = refl
parted n false false false false false false true h o l v i false = refl
parted n false false false false false false false true o l v i false = refl
parted n false false false false false false false false true l v i false = refl
parted n false false false false false false false false false true v i false = refl
parted n false false false false false false false false false false true i false = refl
parted n false false false false false false false false false false false i false = ap (λ x. n || x) (or-false i)

pub unreadable_parts : (s : Settings) (r : Record) (last : ℕ) → (r.phase ≡ 0 → ⊥) → unreadable s r last ≡ (not_begun s r last || own_wrong s r)
unfolding unreadable fields_wrong not_begun own_wrong
unreadable_parts s r last d =
    ap (λ b. number_too_large r || b) (choose_ne r.phase 0 (idle_filled r) _ d)
    ∙ parted (number_too_large r) (not_covered s r) (no_current r) (ticket_too_large r) (place_past s r) (notices_wrong s r) (time_ahead r last) _ _ _ _ _ _ _

pub unreadable_idle : (s : Settings) (r : Record) (last : ℕ) → r.phase ≡ 0 → unreadable s r last ≡ (ltb 4 r.outcome || idle_filled r)
unfolding unreadable number_too_large
unreadable_idle s r last e =
    ap₂ (λ (b c : Bool). (b || ltb 4 r.outcome) || c) (le-ltb 10 r.phase (omega arith)) (choose_eq r.phase 0 (idle_filled r) _ e)

-- ---- tests that say the same

pub untaken_is : (leaf : Bool) (grip : ℕ) → choose leaf (differ grip 0) (differ grip 2) ≡ differ grip (choose leaf 0 2)
unfolding choose
untaken_is true grip = refl
untaken_is false grip = refl

-- a place past a list of n nodes, which is empty only where the phase may not be
pub past_or : (elsewhere : Bool) (n place : ℕ) → (elsewhere ≡ false → 0 < n) → (elsewhere || leb n place) ≡ (elsewhere || past_list n place)
past_or true n place f = refl
past_or false n place f = past_some n place (λ z. omega (arith, f refl))

pub past_or_root : (root : Bool) (n place : ℕ) → (root ≡ false → 0 < n) → (T root → n ≡ 0) → leb n place ≡ (root || past_list n place)
past_or_root true n place f g = let z = g tt in le-leb n place (omega arith)
past_or_root false n place f g = past_or false n place f

-- the notices, by the grip and whether the phase is 6
few : (c k x : Bool) → (T c → T k) → k ≡ ((c || k && true) || false && x)
few true true x f = refl
few true false x f = absurd (f tt)
few false true x f = refl
few false false x f = refl

many : (c k x : Bool) → c ≡ ((c || k && false) || false && x)
many true k x = refl
many false true x = refl
many false false x = refl

unlike : (c k x : Bool) → (T c → T x) → x ≡ ((c || k && false) || true && x)
unlike true k true f = refl
unlike true k false f = absurd (f tt)
unlike false true x f = refl
unlike false false x f = refl

swapped : (h q : Bool) → (h || q) ≡ (q || (h || false))
swapped true true = refl
swapped true false = refl
swapped false true = refl
swapped false false = refl

-- the clauses but those that others imply, in the order of the code
shortened : (n p q e h o l v w a k : Bool) → (T n → T o) → (T v → T w) → (l ≡ false → a ≡ (e || p)) → (l ≡ false → a ≡ false → k ≡ (h || q))
    → ((((o || w) || l) || a) || k) ≡ (n || (p || (q || (e || (h || (o || (l || (v || w))))))))
shortened n p q e h true l v w a k fn fv fa fk = true_later n _ (true_later p _ (true_later q _ (true_later e _ (true_later h _ refl))))
shortened n p q e h false l v true a k fn fv fa fk =
    true_later n _ (true_later p _ (true_later q _ (true_later e _ (true_later h _ (true_later l _ (true_later v _ refl))))))
shortened true p q e h false l v false a k fn fv fa fk = absurd (fn tt)
shortened false p q e h false l true false a k fn fv fa fk = absurd (fv tt)
shortened false p q e h false true false false a k fn fv fa fk = true_later p _ (true_later q _ (true_later e _ (true_later h _ refl)))
shortened false p q true h false false false false a k fn fv fa fk = ap (λ b. b || k) (fa refl) ∙ true_later p _ (true_later q _ refl)
shortened false true q false h false false false false a k fn fv fa fk = ap (λ b. b || k) (fa refl)
shortened false false q false h false false false false a k fn fv fa fk = ap (λ b. b || k) (fa refl) ∙ fk refl (fa refl) ∙ swapped h q

module _ (s : Settings) (r : Record) where
  abbrev pub elsewhere : Bool
  elsewhere = phase_elsewhere s r (phase_of r.phase)

  abbrev pub lacking : Bool
  lacking = grip_lacking s r (phase_of r.phase)

  abbrev pub count : ℕ
  count = length (notify_list s.distance (current_piece r))

  -- ---- 1 to 9: tests of the grip, of where the phase may be and its place, of the notices

  not_impatient : (r.phase ≡ 10 → ⊥) → out_of_patience_first r ≡ false
  unfolding out_of_patience_first
  not_impatient d = ap (λ b. b && eqb r.outcome 4 && eqb r.current 0) (ne_eqb r.phase 10 d)

  pub own_taking : r.phase ≤ 9 → (l a k : Bool) → l ≡ lacking → (l ≡ false → a ≡ (elsewhere || place_past s r)) → (l ≡ false → a ≡ false → k ≡ (held_early r || notices_wrong s r))
      → ((((nonzero r.outcome || nonzero r.giving) || l) || a) || k) ≡ own_wrong s r
  unfolding own_wrong number_too_large outcome_wrong giving_wrong
  own_taking b l a k q f g =
      let d : r.phase ≡ 10 → ⊥ = λ e. omega arith in
      shortened (number_too_large r) (place_past s r) (notices_wrong s r) elsewhere (held_early r) (nonzero r.outcome) l (ltb r.current r.giving) (nonzero r.giving) a k
      (λ t. lt→ltb 0 r.outcome (let u : T (ltb 4 r.outcome) = subst (λ (c : Bool). T (c || ltb 4 r.outcome)) (le-ltb 10 r.phase (omega arith)) t in omega (arith, ltb→lt 4 r.outcome u)))
      (λ t. lt→ltb 0 r.giving (omega (arith, ltb→lt r.current r.giving t))) f g
      ∙ ap₂ (λ (x y : Bool). number_too_large r || (place_past s r || (notices_wrong s r || (elsewhere || (held_early r || (x || y))))))
      (sym (choose_ne r.phase 10 (eqb r.outcome 0) (nonzero r.outcome) d))
      (ap₂ ◌||◌ q
      (sym (or-false _) ∙ ap₂ ◌||◌ (ap (λ (y : Bool). ltb r.current r.giving || y) (sym (choose_ne r.phase 10 _ (nonzero r.giving) d))) (sym (not_impatient d))))

  -- ---- the notices

  pub notices_at : (g six : Bool) → ltb r.grip 3 ≡ g → eqb r.phase 6 ≡ six
      → ((ltb count r.notices || nonzero r.notices && g) || six && differ r.notices r.place) ≡ notices_wrong s r
  unfolding notices_wrong
  notices_at g six p q = ap₂ (λ (x y : Bool). (ltb count r.notices || nonzero r.notices && x) || y && differ r.notices r.place) (sym p) (sym q)

  not_early : (b : Bool) → (r.phase ≡ 9 → ⊥) → b ≡ notices_wrong s r → b ≡ (held_early r || notices_wrong s r)
  unfolding held_early
  not_early b d e = e ∙ sym (ap (λ c. (c && ltb (suc r.current) (length (pieces r))) || notices_wrong s r) (ne_eqb r.phase 9 d))

  -- before the piece is taken
  pub notices_few : r.phase ≤ 5 → r.grip < 3 → nonzero r.notices ≡ (held_early r || notices_wrong s r)
  notices_few b g =
      not_early _ (λ e. omega arith)
      (few (ltb count r.notices) (nonzero r.notices) (differ r.notices r.place) (λ t. lt→ltb 0 r.notices (omega (arith, ltb→lt count r.notices t)))
      ∙ notices_at true false (lt-ltb r.grip 3 g) (ne_eqb r.phase 6 (λ e. omega arith)))

  -- after it
  pub notices_many : (r.phase ≡ 6 → ⊥) → 3 ≤ r.grip → ltb count r.notices ≡ notices_wrong s r
  notices_many d g =
      many (ltb count r.notices) (nonzero r.notices) (differ r.notices r.place)
      ∙ notices_at false false (le-ltb r.grip 3 g) (ne_eqb r.phase 6 d)

  pub notices_waiting : 7 ≤ r.phase → r.phase ≤ 8 → 3 ≤ r.grip → ltb count r.notices ≡ (held_early r || notices_wrong s r)
  notices_waiting a b g = not_early _ (λ z. omega arith) (notices_many (λ z. omega arith) g)

  -- in 6, with a place within the list
  pub notices_place : r.phase ≡ 6 → 3 ≤ r.grip → r.place < count → differ r.notices r.place ≡ (held_early r || notices_wrong s r)
  notices_place e g b =
      not_early _ (λ z. omega arith)
      (unlike (ltb count r.notices) (nonzero r.notices) (differ r.notices r.place)
      (λ t. subst (λ (c : Bool). T (not c)) (sym (ne_eqb r.notices r.place (λ z. omega (arith, ltb→lt count r.notices t)))) tt)
      ∙ notices_at false true (le-ltb r.grip 3 g) (eq-eqb r.phase 6 e))

  -- ---- where the phase walks no list

  pub none_walked : (3 ≤ r.phase → r.phase < 5 → ⊥) → (r.phase ≡ 6 → ⊥) → (r.phase ≡ 8 → ⊥) → (r.phase ≡ 10 → ⊥) → nonzero r.place ≡ place_past s r
  none_walked a d6 d8 d10 = past_none r.place ∙ place_is s r 0 (list_none s r r.phase a d6 d8 d10)

  pub bare : r.phase ≤ 9 → (1 ≤ r.phase → r.phase < 5 → ⊥) → (6 ≤ r.phase → r.phase < 9 → ⊥) → nonzero r.place ≡ (elsewhere || place_past s r)
  bare b x y = none_walked (λ c d. x (omega arith) d) (λ e. y (omega arith) (omega arith)) (λ e. y (omega arith) (omega arith)) (λ e. omega arith) ∙ ap (λ c. c || place_past s r) (elsewhere_none s r r.phase x y)
