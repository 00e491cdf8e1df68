-- Laws: the history of runs that read their clocks in time has each step's clock read on the safe side of its touch. Assumes nothing.
use Rattle.std.specs.Prelude.{◌≡◌, ◌≢◌, ◌⊎◌, Bool, ◌&&◌, ◌||◌, ℕ, ◌+◌, ◌≤◌, ◌<◌, eqb, leb}
use Rattle.std.proofs.Math.Path.{refl, sym, ap, subst}
use Rattle.std.proofs.Common.{◌∙◌, arith, leb-true, eqb-true}
use Rattle.std.proofs.Math.Logic.{inl, inr, ⊎_elim}
use Rattle.std.proofs.Math.Bool.{true, false}
use mathlib.Core.List.{List, [], ◌∷◌, ◌++◌, map}
use Rattle.base.specs.rules.Choice.{choose}
use Rattle.base.specs.laws.ChoiceLaws.{on_choose}
use Rattle.base.specs.laws.TestLaws.{test_true, test_false, by_test, both_true, second_false}
use Rattle.lock.specs.declared.Client.{Client}
use Rattle.lock.specs.declared.Operation.{Operation}
use Rattle.lock.specs.declared.Record.{Record}
use Rattle.lock.specs.declared.Settings.{Settings}
use Rattle.lock.specs.rules.Records.{word_at, current_piece}
use Rattle.lock.specs.rules.Steps.{out_of_patience}
use Rattle.lock.specs.rules.Table.{State, Call, request, step, release, cancel, client_of, record_at, call}
use Rattle.lock.specs.rules.History.{run}
use Rattle.lock.specs.rules.Readings.{LateAt}
use Rattle.lock.specs.rules.Operations.{operation_answer}
use Rattle.lock.proofs.laws.PatienceLaws.{out_of_patience_lem}
use Rattle.lock.proofs.laws.Ready.{Ready}
use Rattle.lock.proofs.claim.Fit.{later_below, fit_ready}
use Rattle.lock.proofs.claim.Invariant.{Invariant}
use Rattle.lock.proofs.claim.Keeping.{run_keeps}
use Rattle.lock.proofs.claim.Parts.{parts_of, record_at_lem}
use Rattle.network.specs.rules.Clocks.{claims, completing, OwnRead, ClocksRead, moment_after, InTime}
use Rattle.network.specs.rules.Network.{Flight, free, flying, Network, run_at, client_on, Act, own, post, carry, complete, own_calls, touches_none, between, act, asked_by, counts, carried_by, calls_of, history_of, shown}
use Rattle.network.proofs.laws.ActLaws.{Fair, Kept, act_kept, act_shown}
use Rattle.network.proofs.laws.CarryLaws.{outcome, is_seen, counting_counts, dropped_counts}
use Rattle.network.proofs.laws.CarriedOut.{Underway, Counting}
use Rattle.network.proofs.laws.Leading.{Alike}
use Rattle.network.proofs.laws.ReadOnce.{Moments, ReadOne, EachRead, each_earlier}
use Rattle.network.proofs.laws.InTimeLaws.{reading_of, moments_by, moments_of, moments_in, ReadFlight, AllRead, act_read}

-- ---- whether a record claims

claims_phase : (r : Record) → claims r ≡ true → (r.phase ≡ 5) ⊎ (r.phase ≡ 6)
unfolding claims
claims_phase r e =
    by_test (eqb r.phase 5) (λ f. inl (eqb-true r.phase 5 f)) (λ f. inr (eqb-true r.phase 6 (sym (ap (λ b. b || eqb r.phase 6) f) ∙ e)))

phase_claims : (r : Record) → (r.phase ≡ 5) ⊎ (r.phase ≡ 6) → claims r ≡ true
unfolding claims
phase_claims r = ⊎_elim (λ e. ap (λ p. eqb p 5 || eqb p 6) e) (λ e. ap (λ p. eqb p 5 || eqb p 6) e)

phase_early : (r : Record) → (r.phase ≡ 3) ⊎ (r.phase ≡ 7) → claims r ≡ false
unfolding claims
phase_early r = ⊎_elim (λ e. ap (λ p. eqb p 5 || eqb p 6) e) (λ e. ap (λ p. eqb p 5 || eqb p 6) e)

-- ---- the calls of an act: none, or one that is read on the safe side

pub record OneRead (s : Settings) (clocks : ℕ → ℕ → ℕ) (present : ℕ) (st : State) (m : Moments) (later : ℕ) (ks : List Call) : Type 0 where
  pub made : Call
  pub only : ks ≡ made ∷ []
  pub read : ReadOne s clocks present (record_at st (client_of made)) made m
  pub at : m.touch ≡ later

abbrev Shape : Settings → (ℕ → ℕ → ℕ) → (present : ℕ) → State → Moments → (later : ℕ) → List Call → Type 0
Shape s clocks p st m q ks = (ks ≡ []) ⊎ OneRead s clocks p st m q ks

-- a call of a run's own is that call, or none
asked_shape : (s : Settings) (net : Network) (k : Call) (f : Flight) → (asked_by s net k f ≡ []) ⊎ (asked_by s net k f ≡ k ∷ [])
unfolding asked_by own_calls client_of
asked_shape s net (request d a b) free = inr refl
asked_shape s net (step d t) free = on_choose (λ (l : List Call). (l ≡ []) ⊎ (l ≡ step d t ∷ [])) (touches_none (operation_answer s (client_on net d) t)) _ _ (λ _. inr refl) (λ _. inl refl)
asked_shape s net (release d) free = inr refl
asked_shape s net (cancel d) free = inr refl
asked_shape s net k (flying u m n os found) = inl refl

-- the clock of a step
abbrev clock_of : Call → ℕ
clock_of (request c l r) = 0
clock_of (step c t) = t
clock_of (release c) = 0
clock_of (cancel c) = 0

module _ (s : Settings) (clocks : ℕ → ℕ → ℕ) (net : Network) (kept : Kept s net) (inv : Invariant s (parts_of (shown s net))) (p : ℕ) where
  abbrev now : State
  now = shown s net

  own_shape : (k : Call) (at : ℕ) (f : Flight) → OwnRead clocks k at → p ≤ at → Shape s clocks p now (record { touch = at; reading = at }) at (asked_by s net k f)
  unfolding OwnRead
  own_shape k at f v b =
      ⊎_elim inl
      (λ e. inr (record {
        made = k;
        only = e;
        read = record {
          onward = b;
          clock = λ c t f. inl (subst (λ (j : Call). OwnRead clocks j at) f v);
          read_first = λ _. omega arith;
          touched_first = λ _. omega arith;
        };
        at = refl;
      })) (asked_shape s net k f)

  module _ (c at u m n : ℕ) (o : Operation) (os : List Operation) (found : List ℕ) (e : (run_at net c).flight ≡ flying u m n (o ∷ os) found) (v : Underway s (client_on net c) u (o ∷ os) found)
      (k : Counting s (client_on net c) u o os found (word_at net.words o.node)) (is : u ≡ completing s (client_on net c).«record» (clocks c m) (clocks c n)) (b : p ≤ at) (first : m ≤ at) (last : at ≤ n) where
    -- the record at the posting, and the one that is seen
    abbrev r : Record
    r = (client_on net c).«record»

    abbrev q : Record
    q = record_at now c

    alike : Alike s r q
    alike = subst (λ (x : Client). Alike s r x.«record») (sym (is_seen s net kept.passed inv c u m n o os found e v)) k.alike

    -- a claim of a later piece is no claim of the root
    later_piece : claims q ≡ true → 0 < q.current → current_piece q ≢ 1
    later_piece z some =
        let same = record_at_lem now c in
        let rd = subst (λ (x : Record). Ready s x ((parts_of now).clock c)) same (fit_ready s _ _ (inv.fit c) inv.settled (λ y. ⊎_elim (λ five. omega (arith, five, y, ap (λ (x : Record). x.phase) same)) (λ six. omega (arith, six, y, ap (λ (x : Record). x.phase) same)) (claims_phase q z))) in
        later_below s q rd.active.window rd.active.cover q.current some rd.active.exists

    -- the clock: as read, or late in any case
    abbrev Read : ℕ → Type 0
    Read t = (t ≡ clocks c (reading_of (client_on net c) m n)) ⊎ (((q.phase ≡ 5) ⊎ (q.phase ≡ 6)) × LateAt s q t)

    -- where the list claims its clock is read after it, else before
    read_after : claims r ≡ true → clocks c n ≡ clocks c (reading_of (client_on net c) m n)
    unfolding choose
    read_after a = ap (λ (x : Bool). clocks c (choose x n m)) (sym a)

    read_before : claims r ≡ false → clocks c m ≡ clocks c (reading_of (client_on net c) m n)
    unfolding choose
    read_before a = ap (λ (x : Bool). clocks c (choose x n m)) (sym a)

    late : claims r ≡ true → out_of_patience s r (clocks c n) ≡ true → (t : ℕ) → r.t1 + s.wait ≤ t → LateAt s q t
    late a out t b =
        let claiming : claims q ≡ true = alike.claiming ∙ a in
        (omega (arith, b, (alike.kept a).0), later_piece claiming (omega (arith, (alike.kept a).1, (out_of_patience_lem s r (clocks c n) out).later)))

    by_claim : Read u
    unfolding completing
    by_claim =
        subst Read (sym is)
        (on_choose Read (claims r) _ _
        (λ a. let yes = test_true (claims r) a in
        on_choose Read (out_of_patience s r (clocks c n)) _ _ (λ out. inr (claims_phase q (alike.claiming ∙ yes), late yes (test_true _ out) _ (omega arith))) (λ _. inl (read_after yes)))
        (λ a. inl (read_before (test_false (claims r) a))))

    carried_read : ReadOne s clocks p q (step c u) (record { touch = at; reading = reading_of (client_on net c) m n })
    unfolding client_of choose
    carried_read = record {
      onward = b;
      clock = λ d t f. subst (λ (x : ℕ). (t ≡ clocks x (reading_of (client_on net c) m n)) ⊎ (((q.phase ≡ 5) ⊎ (q.phase ≡ 6)) × LateAt s q t)) (ap client_of f) (subst Read (ap clock_of f) by_claim);
      read_first = λ z. let a : claims r ≡ false = sym alike.claiming ∙ phase_early q z in omega (arith, ap (λ (x : Bool). choose x n m) a, first);
      touched_first = λ z. let a : claims r ≡ true = sym alike.claiming ∙ phase_claims q z in omega (arith, ap (λ (x : Bool). choose x n m) a, last);
    }

  carry_shape : (c at : ℕ) (f : Flight) → (run_at net c).flight ≡ f → Fair s (client_on net c) f → ReadFlight s clocks c (client_on net c) f → p ≤ at → Shape s clocks p now (moments_by net c at f) at (carried_by s net c at f)
  unfolding carried_by moments_by Fair ReadFlight client_of choose between
  carry_shape c at free e v is b = inl refl
  carry_shape c at (flying u m n [] found) e v is b = inl refl
  carry_shape c at (flying u m n (o ∷ os) found) e v is b =
      ⊎_elim
      (λ k. by_test (between m at n)
      (λ a. let in_between = both_true (leb m at) (leb at n) a in
      inr (record {
        made = step c u;
        only = λ i. choose (a i && counting_counts s net kept.passed inv c u m n o os found e v k i) (step c u ∷ []) [];
        read = carried_read c at u m n o os found e v k is b (leb-true m at in_between.0) (leb-true at n in_between.1);
        at = refl;
      }))
      (λ a. inl (ap (λ (x : Bool). choose (x && counts s (client_on net c) u found (word_at net.words o.node)) (step c u ∷ []) []) a)))
      (λ k. inl (ap (λ (x : Bool). choose x (step c u ∷ []) []) (second_false (between m at n) _ (dropped_counts s net kept.passed inv c u m n o os found e v k))))
      (outcome s net kept.passed inv c u m n o os found e v).0

  act_shape : AllRead s clocks net → (a : Act) → ClocksRead s clocks net a → p ≤ moment_after a p → Shape s clocks p now (moments_of net a) (moment_after a p) (calls_of s net a)
  unfolding calls_of moments_of moment_after ClocksRead
  act_shape all (own k at) v b = own_shape k at _ v b
  act_shape all (post c room t u m n) v b = inl refl
  act_shape all (carry c at) v b = carry_shape c at _ refl (kept.fair c) (all c) b
  act_shape all (complete c) v b = inl refl

-- ---- a whole list of acts

-- the calls of an act before those of the rest
joined_read : (s : Settings) (clocks : ℕ → ℕ → ℕ) (p q : ℕ) → p ≤ q → (st : State) (m : Moments) (ks : List Call) → Shape s clocks p st m q ks → (js : List Call) (ms : List Moments) → EachRead s clocks q (run s st ks) js ms
    → EachRead s clocks p st (ks ++ js) (map (λ (k : Call). m) ks ++ ms)
unfolding run EachRead
joined_read s clocks p q b st m ks shape js ms =
    ⊎_elim
    (λ e. subst (λ (l : List Call). EachRead s clocks q (run s st l) js ms → EachRead s clocks p st (l ++ js) (map (λ (k : Call). m) l ++ ms)) (sym e) (each_earlier s clocks p q b st js ms))
    (λ o. subst (λ (l : List Call). EachRead s clocks q (run s st l) js ms → EachRead s clocks p st (l ++ js) (map (λ (k : Call). m) l ++ ms)) (sym o.only)
    (λ v. (o.read, subst (λ (t : ℕ). EachRead s clocks t (call s st o.made).state js ms) (sym o.at) v)))
    shape

pub acts_read : (s : Settings) (clocks : ℕ → ℕ → ℕ) (happened : List Act) (net : Network) → Kept s net → Invariant s (parts_of (shown s net)) → AllRead s clocks net → (p : ℕ) → InTime s clocks net p happened
    → EachRead s clocks p (shown s net) (history_of s net happened) (moments_in s net happened)
unfolding history_of moments_in InTime EachRead
acts_read s clocks [] net kept inv all p v = tt
acts_read s clocks (a ∷ later) net kept inv all p v =
    let one = act_shown s net kept.passed kept.fair inv a in
    joined_read s clocks p (moment_after a p) v.1 (shown s net) (moments_of net a) (calls_of s net a) (act_shape s clocks net kept inv p all a v.0 v.1) (history_of s (act s net a) later) (moments_in s (act s net a) later)
    (subst (λ (st : State). EachRead s clocks (moment_after a p) st (history_of s (act s net a) later) (moments_in s (act s net a) later)) one
    (acts_read s clocks later (act s net a) (act_kept s net kept.passed kept.fair inv a)
    (subst (λ (st : State). Invariant s (parts_of st)) (sym one) (run_keeps s (shown s net) inv (calls_of s net a))) (act_read s clocks net all a v.0) (moment_after a p) v.2))
