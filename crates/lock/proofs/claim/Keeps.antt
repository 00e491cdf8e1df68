-- Laws: what each accepted call owes to the invariant, and the calls that leave the record as it is. Assumes nothing.
use Rattle.std.specs.Prelude.{◌≡◌, refl, ◌≢◌, List, ℕ, ◌≤◌, ◌<◌, length, get_or, set}
use Rattle.std.proofs.Common.{ap, ◌∙◌, arith}
use Rattle.base.specs.laws.ChoiceLaws.{by_lt}
use Rattle.base.specs.laws.Sum.{sum_by, sum_at, sum_le, get_d_past}
use Rattle.word.specs.rules.Word.{occ, dcnt, dmax}
use Rattle.word.proofs.laws.Fields.{field_lt}
use Rattle.tree.specs.rules.Tree.{level, Node}
use Rattle.tree.specs.rules.Lists.{notify_list}
use Rattle.tree.proofs.laws.Notify.{notify_count, notify_count_lem, notify_place, notify_node_lem, notify_higher}
use Rattle.tree.proofs.laws.Code.{bounded}
use Rattle.lock.specs.declared.Record.{Record}
use Rattle.lock.specs.declared.Settings.{Settings}
use Rattle.lock.specs.rules.Records.{word_at, written, idle_with}
use Rattle.lock.proofs.laws.Pieces.{few_pieces}
use Rattle.lock.specs.laws.Active.{Settled}
use Rattle.lock.proofs.laws.Placed.{widen}
use Rattle.lock.proofs.claim.Owned.{owns, owns_notice}
use Rattle.lock.proofs.claim.Fit.{Fit, notice_le, ready_apart, ready_noticed, fit_later, on_fit}
use Rattle.lock.proofs.claim.Effect.{Same, Effect, quiet}
use Rattle.lock.proofs.claim.InnerWords.{nobody}
use Rattle.lock.proofs.claim.Parts.{Parts, record_in}
use Rattle.lock.proofs.claim.Timed.{Timely}
use Rattle.lock.proofs.claim.Invariant.{Invariant, effect_keeps}
use Rattle.lock.proofs.claim.Forward.{Kin, Unreturned, onward_unreturned, forward_same, Empty, empty_owns, empty_notice, fresh_empty}
use Rattle.lock.proofs.claim.Onward.{timely_stay}

-- a call on record r at the clock `now`, which touches node x (0 for none) with word w, leaves there v, and gives back q
pub record Keeps (s : Settings) (rs : List Record) (r : Record) (x w v : ℕ) (q : Record) (now : ℕ) : Type 0 where
  pub node : x ≢ 0 → Node s.levels x
  pub effect : Effect s r q x w v
  pub fits : Fit s q now
  pub time : Timely s rs nobody r q now

pub keeps_invariant : (s : Settings) (st : Parts) (c x v : ℕ) (q : Record) (clock : ℕ → ℕ) (now : ℕ) → Invariant s st → c < length st.records → clock c ≡ now
    → ((d : ℕ) → d ≢ c → clock d ≡ st.clock d) → Keeps s st.records (record_in st c) x (word_at st.words x) v q now
    → Invariant s (record { words = written st.words x v; records = set st.records c q; clock = clock })
keeps_invariant s st c x v q clock now inv client own others f = effect_keeps s st inv c client x v q f.node f.effect clock others (rw own f.fits)

pub same_refl : (s : Settings) (r : Record) → Same s r r
same_refl s r = record { owned = λ _ _ _ _. refl; units = λ _. refl; notices = λ _ _. refl; drawn = λ _ _ _ _. refl }

-- the record stays
pub keeps_stay : (s : Settings) (rs : List Record) (r : Record) (x w last now : ℕ) → last ≤ now → Fit s r last → (x ≢ 0 → Node s.levels x)
    → Keeps s rs r x w w r now
keeps_stay s rs r x w last now later v n =
    record { node = n; effect = quiet refl (same_refl s r); fits = fit_later s r last v now later; time = timely_stay s rs nobody r now }

-- nothing changes hands
pub keeps_quiet : (s : Settings) (rs : List Record) (r q : Record) (x w now : ℕ) → (x ≢ 0 → Node s.levels x) → Kin r q → q.current ≡ r.current
    → r.phase ≢ 10 → Unreturned s q → q.grip ≡ r.grip → q.notices ≡ r.notices → q.ticket ≡ r.ticket → Fit s q now → Timely s rs nobody r q now → Keeps s rs r x w w q now
keeps_quiet s rs r q x w now n k c d u e f g v t = record {
  node = n;
  effect = quiet refl (forward_same s r q k c (onward_unreturned s r d) u e f g);
  fits = v;
  time = t;
}

-- ---- what a word says of all records

module _ (s : Settings) (st : Parts) (inv : Invariant s st) (x : ℕ) (v : Node s.levels x) (inner : level x ≢ s.levels) where
  idle_empty : (o : ℕ) → Empty s (idle_with o)
  idle_empty o = fresh_empty s (idle_with o) (λ e. omega arith) refl refl refl

  -- a client past the table owns nothing
  past : (f : Record → ℕ) → f nobody ≡ 0 → ((d : ℕ) → d < length st.records → f (record_in st d) ≡ 0) → (d : ℕ) → f (get_or st.records d nobody) ≡ 0
  past f z h d = by_lt d (length st.records) (λ b. h d b) (λ b. ap f (get_d_past st.records d nobody b) ∙ z)

  -- Occ is clear: nobody has it
  pub occ_none : occ (word_at st.words x) ≢ 1 → (d : ℕ) → owns s 3 x (get_or st.records d nobody) ≡ 0
  occ_none n = past (owns s 3 x) (empty_owns s nobody (idle_empty 0) 3 x (omega arith))
      (λ d b. omega (arith, (inv.inner x v inner).occ_is, field_lt 62 1 (word_at st.words x), sum_at (owns s 3 x) st.records d nobody b))

  notice_few : (d : ℕ) → owns_notice s x (get_or st.records d nobody) ≤ 2
  notice_few d =
      let r = get_or st.records d nobody in
      on_fit s r (st.clock d) (inv.fit d) inv.settled
      (λ e. omega (arith, ap (owns_notice s x) e, empty_notice s (idle_with r.outcome) (idle_empty r.outcome) x))
      (λ l. omega (arith, notice_le s r (ready_apart s r (st.clock d) l) inv.settled (ready_noticed s r (st.clock d) l) x, few_pieces r))

  -- the notice counts are equal: nobody has a notice there
  pub notice_none : dcnt (word_at st.words x) ≡ dmax (word_at st.words x) → (d : ℕ) → owns_notice s x (get_or st.records d nobody) ≡ 0
  notice_none e =
      let w = word_at st.words x in
      let all : sum_by (owns_notice s x) st.records ≡ 0
      = omega (arith, (inv.inner x v inner).notices, field_lt 16 16 w, sum_le (owns_notice s x) 2 nobody st.records notice_few, inv.few) in
      past (owns_notice s x) (empty_notice s nobody (idle_empty 0) x) (λ d b. omega (arith, all, sum_at (owns_notice s x) st.records d nobody b))

-- ---- the nodes that a piece notifies

-- each is an inner node of the tree
pub notified_inner : (s : Settings) → Settled s → (n : ℕ) → Node s.levels n → (i : ℕ) → i < length (notify_list s.distance n)
    → Node s.levels (get_or (notify_list s.distance n) i 0) × (level (get_or (notify_list s.distance n) i 0) ≢ s.levels)
notified_inner s g n v i b =
    let m = s.distance in
    let y = bounded m n g.distance_some g.distance_most (widen s.levels n g.levels_most v) in
    let l : i < notify_count m (level n) = omega (arith, notify_count_lem m n y) in
    let at = notify_place m n y i l in
    let is = notify_node_lem m n y i l v.some in
    let higher = notify_higher m (level n) i y l in
    let lx = ap level at in
    (record { some = omega (arith, at, is.0); inside = omega (arith, is.1, v.inside) }, λ f. omega (arith, is.1, v.inside))
