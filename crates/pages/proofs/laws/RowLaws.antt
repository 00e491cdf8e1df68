-- Laws of the rows: what the row of a readable record is, and that each record is readable where none is unreadable. Assumes nothing.
use Rattle.std.specs.Prelude.{◌≡◌, Ok, false, List, [], ◌∷◌, ℕ, zero, suc, ◌<◌, length, get_or}
use Rattle.std.proofs.Math.Path.{sym, ap, ap₂, subst}
use Rattle.std.proofs.Common.{◌∙◌, not-suc-le-zero, le_of_suc-le-suc}
use Rattle.base.specs.laws.TestLaws.{both_false}
use Rattle.base.specs.laws.ChoiceLaws.{choose_eq, choose_ne}
use Rattle.tree.specs.rules.Tree.{Node}
use Rattle.cover.specs.declared.Answer.{Answer}
use Rattle.cover.specs.declared.Pieces.{Pieces}
use Rattle.cover.specs.laws.Lowest.{Window}
use Rattle.cover.specs.rules.Cover.{total}
use Rattle.cover.specs.rules.Answer.{window_outside, accepted, answer, pieces_of, answer_of}
use Rattle.cover.proofs.laws.Code.{window_covered, levels_right, window_right}
use Rattle.lock.specs.declared.Client.{Client}
use Rattle.lock.specs.declared.Record.{Record}
use Rattle.lock.specs.declared.Settings.{Settings}
use Rattle.lock.specs.rules.Records.{cover_of, pieces}
use Rattle.lock.specs.rules.StepCount.{step_count}
use Rattle.lock.specs.rules.Unreadable.{unreadable}
use Rattle.lock.specs.laws.Active.{Settled}
use Rattle.lock.proofs.laws.ActiveLaws.{active}
use Rattle.lock.specs.laws.PieceSteps.{pieces_steps}
use Rattle.lock.proofs.laws.SettledLaws.{shape_right}
use Rattle.lock.proofs.claim.StepCountLaws.{window_steps}
use Rattle.pages.specs.declared.Row.{Row}
use Rattle.pages.specs.rules.Pages.{row_of, any_unreadable}

-- ---- the row of a record

pub row_idle : (s : Settings) (r : Record) → r.phase ≡ 0 → record { phase = 0; left = 0; right = 0; first = 0; second = 0; over = 0; steps = 0 } ≡ row_of s r
unfolding row_of
row_idle s r z = sym (choose_eq r.phase 0 _ _ z)

module _ (s : Settings) (r : Record) (last : ℕ) (v : Settled s) (u : unreadable s r last ≡ false) (d : r.phase ≡ 0 → ⊥) where
  abbrev h : ℕ
  h = s.levels

  pub its_window : Window h r.left r.right
  its_window = (active s r last v u d).window

  -- the pieces of its window, as the answer that C is told
  pub told : (p : Pieces) → p ≡ pieces_of h r.left r.right (cover_of s r.left r.right) → answer_of (Ok p) ≡ answer h r.left r.right
  unfolding accepted
  told p e =
      ap (λ (x : Pieces). answer_of (Ok x)) e
      ∙ window_covered h r.left r.right (levels_right h r.left r.right v.levels_some v.levels_most) (window_right h r.left r.right its_window)

  -- the answer of its window's cover
  module _ (a : Answer) (e : a ≡ answer h r.left r.right) where
    within : window_outside h r.left r.right ≡ false
    within = window_right h r.left r.right (active s r last v u d).window

    covered : a ≡ accepted h r.left r.right (cover_of s r.left r.right)
    covered = e ∙ sym (window_covered h r.left r.right (levels_right h r.left r.right v.levels_some v.levels_most) within)

    -- its pieces are nodes, and their steps are the window's
    pub answer_steps : Node h a.first × ((a.second ≡ 0 → ⊥) → Node h a.second) × (pieces_steps h s.distance a.first a.second ≡ step_count h s.distance r.left r.right)
    unfolding accepted
    answer_steps =
        subst (λ (x : Answer). Node h x.first × ((x.second ≡ 0 → ⊥) → Node h x.second) × (pieces_steps h s.distance x.first x.second ≡ step_count h s.distance r.left r.right))
        (sym covered) (window_steps h s.distance r.left r.right (shape_right s v) within)

    -- its over-cover is that of the record's pieces, since these are its cover
    over_is : a.over ≡ total h r.left r.right (pieces r)
    unfolding accepted
    over_is = ap (λ (x : Answer). x.over) covered ∙ ap (total h r.left r.right) (sym (active s r last v u d).cover)

    -- its row, with this over-cover and so many steps
    abbrev row_with : (over steps : ℕ) → Row
    row_with o k = record { phase = r.phase; left = r.left; right = r.right; first = r.first; second = r.second; over = o; steps = k }

    pub row_active : (k : ℕ) → k ≡ pieces_steps h s.distance a.first a.second → row_with a.over k ≡ row_of s r
    unfolding row_of
    row_active k f = ap₂ row_with over_is (f ∙ answer_steps.2) ∙ sym (choose_ne r.phase 0 _ _ d)

-- ---- none of the clients' records is unreadable

pub each_readable : (s : Settings) (cs : List Client) → any_unreadable s cs ≡ false → (i : ℕ) (d : Client) → i < length cs
    → unreadable s (get_or cs i d).«record» (get_or cs i d).clock ≡ false
unfolding any_unreadable
each_readable s [] e i d b = absurd (not-suc-le-zero b)
each_readable s (c ∷ cs) e zero d b = (both_false (unreadable s c.«record» c.clock) _ e).0
each_readable s (c ∷ cs) e (suc i) d b = each_readable s cs (both_false (unreadable s c.«record» c.clock) _ e).1 i d (le_of_suc-le-suc b)
