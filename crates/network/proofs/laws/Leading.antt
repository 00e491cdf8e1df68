-- Laws of the lists that are posted together: what stands behind a claim or a notice leads on: it is again what the client would post next. Assumes nothing.
use Rattle.std.specs.Prelude.{◌≡◌, ◌⊎◌, Bool, ◌&&◌, ◌||◌, ℕ, suc, ◌-◌, ◌≤◌}
use Rattle.std.proofs.Math.Path.{refl, sym, ap, subst}
use Rattle.std.proofs.Common.{◌∙◌, arith}
use Rattle.std.proofs.Math.Logic.{inl, inr}
use Rattle.std.proofs.Math.Bool.{true, false}
use mathlib.Core.List.{List, [], ◌∷◌, map}
use borrow.Author.Tests.{eqb-true, le-leb}
use Rattle.std.proofs.Math.Dec.{eqb, leb, ltb}
use Rattle.std.proofs.Math.ListN.{length}
use Rattle.base.specs.rules.Choice.{choose}
use Rattle.base.specs.laws.ChoiceLaws.{choose_lt, by_lt}
use Rattle.tree.specs.rules.Tree.{level, level_within}
use Rattle.tree.specs.rules.Lists.{row, notified_from, notify_levels, notify_list}
use Rattle.word.specs.rules.Word.{matches}
use Rattle.lock.specs.declared.Operation.{Operation}
use Rattle.lock.specs.declared.Record.{Record}
use Rattle.lock.specs.declared.Settings.{Settings}
use Rattle.lock.specs.rules.Records.{climb, notify, check, phase_of, pieces, piece_at, current_piece, is_leaf, is_root, to_phase, with_grip, with_place, with_notices, with_t0}
use Rattle.lock.specs.rules.Unreadable.{list_length}
use Rattle.lock.specs.rules.Steps.{touched_in, access_in, out_of_patience, wanted, bits_claimed, piece_claimed, occ_claimed, notice_given}
use Rattle.lock.specs.rules.Operations.{operation_at}
use Rattle.lock.proofs.laws.Phases.{at_notify}
use Rattle.runs.specs.rules.Ahead.{standing, walk, ahead_in}
use Rattle.network.specs.rules.Clocks.{claims}
use Rattle.runs.specs.laws.OperationLists.{Leads, Reads, reads_mapped, nothing_behind, by_place, past_place}

module _ (s : Settings) (r : Record) where
  -- ---- climb and check read

  pub reads_climb : (i : ℕ) → Reads (walk s r climb i)
  unfolding walk standing access_in operation_at
  reads_climb i = reads_mapped (standing s r climb) (λ _. refl) (row (list_length s r climb - i) i)

  pub reads_check : (i : ℕ) → Reads (walk s r check i)
  unfolding walk standing access_in operation_at
  reads_check i = reads_mapped (standing s r check) (λ _. refl) (row (list_length s r check - i) i)

  -- ---- what stands behind it

  -- claims or not, as the record; and a claim keeps its piece and its t1
  pub record Alike (q : Record) : Type 0 where
    pub claiming : claims q ≡ claims r
    pub kept : claims r ≡ true → (q.t1 ≡ r.t1) × (q.current ≡ r.current)

  -- it is again what the client would post
  pub record Onward (rest : List Operation) (q : Record) : Type 0 where
    pub leads : Leads rest (ahead_in s q (phase_of q.phase))
    pub alike : Alike q
    pub patient : (t : ℕ) → out_of_patience s r t ≡ false → out_of_patience s q t ≡ false

  abbrev pub Behind : List Operation → Record → Type 0
  Behind rest q = (rest ≡ []) ⊎ ((Reads rest × (claims r ≡ false)) ⊎ Onward rest q)

  pub read_behind : (k : ℕ) → r.phase ≡ k → (eqb k 5 || eqb k 6) ≡ false → (rest : List Operation) → Reads rest → (q : Record) → Behind rest q
  unfolding claims
  read_behind k e f rest v q = inr (inl (v, ap (λ (p : ℕ). eqb p 5 || eqb p 6) e ∙ f))

  -- patience goes by the piece and the clock
  still_patient : (q : Record) → 1 ≤ r.phase → r.phase ≤ 8 → q.current ≡ r.current → q.taken ≡ r.taken → (t : ℕ) → out_of_patience s r t ≡ false → out_of_patience s q t ≡ false
  unfolding out_of_patience
  still_patient q a b c d t e =
      let later = ltb 0 r.current && leb s.patience (t - r.taken) in
      let short : later ≡ false = sym (λ i. le-leb 1 r.phase a i && le-leb r.phase 8 b i && ltb 0 r.current && leb s.patience (t - r.taken)) ∙ e in
      (λ i. leb 1 q.phase && leb q.phase 8 && ltb 0 (c i) && leb s.patience (t - d i)) ∙ both (leb 1 q.phase) (leb q.phase 8) (ltb 0 r.current) (leb s.patience (t - r.taken)) short
    where
      both : (w x y z : Bool) → (y && z) ≡ false → (w && x && y && z) ≡ false
      both true true y z f = f
      both true false y z f = refl
      both false x y z f = refl

  root_none : current_piece r ≡ 1 → walk s r notify 0 ≡ []
  unfolding walk list_length notify_list notify_levels notified_from level level_within choose row
  root_none e = ap (λ (n : ℕ). map (standing s r notify) (row (length (notify_list s.distance n) - 0) 0)) e

  notices_on : r.phase ≡ 5 → (t : ℕ) → Onward (walk s r notify 0) (to_phase 6 (with_t0 t (with_grip 3 r)))
  unfolding ahead_in walk standing list_length touched_in access_in piece_at pieces phase_of choose claims
  notices_on e t = record {
    leads = record { rest = []; whole = nothing_behind _ };
    alike = record { claiming = sym (ap (λ (p : ℕ). eqb p 5 || eqb p 6) e); kept = λ _. (refl, refl) };
    patient = still_patient (to_phase 6 (with_t0 t (with_grip 3 r))) (omega arith) (omega arith) refl refl;
  }

  -- 5: a leaf's claim stands alone; an inner one has its notices behind it, and the root has none
  pub claim_behind : r.phase ≡ 5 → (w t : ℕ) (l : List Operation) → choose (is_leaf s (current_piece r)) [] (walk s r notify 0) ≡ l → Behind l (piece_claimed s r w t)
  unfolding piece_claimed occ_claimed choose
  claim_behind e w t l q = subst (λ (k : List Operation). Behind k (piece_claimed s r w t)) q (by_kind (is_leaf s (current_piece r)) (is_root (current_piece r)) refl)
    where
      by_kind : (leaf root : Bool) → is_root (current_piece r) ≡ root
          → Behind (choose leaf [] (walk s r notify 0)) (choose leaf (bits_claimed r (matches (wanted s r (current_piece r)) 0 w)) (to_phase (choose root 7 6) (with_t0 t (with_grip 3 r))))
      by_kind true root f = inl refl
      by_kind false true f = inl (root_none (eqb-true (current_piece r) 1 f))
      by_kind false false f = inr (inr (notices_on e t))

  next_notice : r.phase ≡ 6 → (l : List Operation) → l ≡ map (standing s r notify) (row (length (notify_list s.distance (current_piece r)) - suc r.place) (suc r.place))
      → Onward l (with_place (suc r.place) (with_notices (suc r.place) r))
  unfolding ahead_in walk standing list_length touched_in access_in piece_at pieces claims
  next_notice e l q =
      let a = with_place (suc r.place) (with_notices (suc r.place) r) in
      record {
        leads = record { rest = []; whole = nothing_behind l ∙ q ∙ ap (ahead_in s a) (sym (at_notify r.phase e)) };
        alike = record { claiming = refl; kept = λ _. (refl, refl) };
        patient = still_patient a (omega arith) (omega arith) refl refl;
      }

  -- 6: the rest of the notices, and behind the last nothing
  pub notify_behind : r.phase ≡ 6 → (t : ℕ) (o : Operation) (l : List Operation) → walk s r notify r.place ≡ o ∷ l → Behind l (notice_given s r t)
  unfolding walk notice_given list_length
  notify_behind e t o l q =
      let n = length (notify_list s.distance (current_piece r)) in
      let p = by_place (standing s r notify) n r.place o l q in
      by_lt (suc r.place) n
      (λ b. subst (Behind l) (sym (choose_lt (suc r.place) n _ _ b)) (inr (inr (next_notice e l p.2))))
      (λ b. inl (p.2 ∙ past_place (standing s r notify) n (suc r.place) b))
