-- Laws: what the methods of a window of the tree give, from the plain numbers of laws/Code.antt. Assumes nothing.
use Rattle.std.specs.Prelude.{◌≡◌, Ok, Bool, true, false, not, ◌||◌, List, refl, ℕ, ◌+◌, ◌-◌, ◌*◌, ◌/◌, ◌%◌, ◌^◌, ◌≤◌, ◌<◌, eqb, get_or}
use Rattle.std.proofs.Common.{sym, ap, ◌∙◌}
use native.Mathlib.Omega.{arith}
use Rattle.base.specs.declared.Refusal.{Refusal}
use Rattle.base.specs.rules.Choice.{choose}
use Rattle.base.specs.laws.RefusalLaws.{some_number}
use Rattle.base.specs.rules.Refusals.{number_of}
use Rattle.base.specs.laws.TestLaws.{by_test}
use Rattle.cover.specs.declared.Answer.{Answer}
use Rattle.cover.specs.declared.Pieces.{Pieces}
use Rattle.cover.specs.declared.window.Piece.{Piece}
use Rattle.cover.specs.declared.window.TreeWindow.{TreeWindow}
use Rattle.cover.specs.rules.Search.{least_cover}
use Rattle.cover.specs.rules.Answer.{levels_outside, window_outside, refused, accepted, answer, pieces_of, answer_of}
use Rattle.cover.specs.laws.Lowest.{lowest}
use Rattle.cover.specs.laws.Code.{lowest_piece, cut_unit, not_cover}
use Rattle.cover.specs.laws.Parts.{Parts}
use Rattle.cover.proofs.laws.Code.{over_small, one_is, pair_is, one_least, two_least, one_code, pair_code, other_two, levels_refused, window_refused_lem, window_covered, window_inside, window_tested, levels_left, low_small, node_code, leaf_code, window_le, leaf_piece, inner_piece, cut_leaf, cut_none, cut_code}
use Rattle.cover.specs.laws.Rise.{rise}
use Rattle.tree.specs.rules.Tree.{first}
use Rattle.tree.proofs.laws.Climb.{first_pos}

module _ (w : TreeWindow) where
  abbrev pub node_in : ℕ
  node_in = lowest w.levels w.left w.right

  abbrev pub piece_in : Piece
  piece_in = lowest_piece w.levels w.left w.right

  abbrev pub cover_in : List ℕ
  cover_in = least_cover 2 w.levels w.left w.right

-- ---- the lowest node

pub rise_small : (w : TreeWindow) → rise w.left (w.right - 1) < 12
rise_small w = omega (arith, levels_left w.within refl)

pub node_small_in : (w : TreeWindow) → node_in w < 5592406
node_small_in w = low_small w.within refl

module _ (w : TreeWindow) (k f : ℕ) (e : k ≡ rise w.left (w.right - 1)) where
  pub node_is : f ≡ first w.levels → (f - 1) / 2 ^ (2 * k) + w.left / 2 ^ (2 * k + 6) + 1 ≡ node_in w
  node_is d = node_code w.within e d

  pub leaf_is : k ≡ 0 → f ≡ first w.levels → f + w.left / 64 ≡ node_in w
  leaf_is z d = leaf_code w.within e z d

module _ (w : TreeWindow) (k : ℕ) (e : k ≡ rise w.left (w.right - 1)) where
  pub size_over : w.right - w.left ≤ (64 * 2 ^ (2 * k)) % 2 ^ 64
  size_over = window_le w.within e

  pub leaf_piece_is : (n : ℕ) → n ≡ node_in w → k ≡ 0 → record { node = n; over = 0 } ≡ piece_in w
  leaf_piece_is n d z = leaf_piece w.within e d z

  pub inner_piece_is : (n : ℕ) → n ≡ node_in w → (k ≡ 0 → ⊥) → record { node = n; over = (64 * 2 ^ (2 * k)) % 2 ^ 64 - (w.right - w.left) } ≡ piece_in w
  inner_piece_is n d z = inner_piece w.within e d z

  pub leaf_uncut : k ≡ 0 → cut_unit w.levels w.left w.right ≡ 0
  leaf_uncut z = sym (cut_leaf w.within e z)

  pub uncut : (k ≡ 0 → ⊥) → ((w.right - 1) / 2 ^ (2 * k + 4) ≡ w.left / 2 ^ (2 * k + 4) + 1 → ⊥) → cut_unit w.levels w.left w.right ≡ 0
  uncut z d = sym (cut_none w.within e z d)

  pub cut_is : (k ≡ 0 → ⊥) → (w.right - 1) / 2 ^ (2 * k + 4) ≡ w.left / 2 ^ (2 * k + 4) + 1
      → ((w.right - 1) / 2 ^ (2 * k + 4) * 2 ^ (2 * k + 4)) % 2 ^ 64 ≡ cut_unit w.levels w.left w.right
  cut_is z q = cut_code w.within e z q

-- ---- the pieces

pub sum_fits : (v w : TreeWindow) (p q : Piece) → p ≡ piece_in v → q ≡ piece_in w → p.over + q.over < 2 ^ 64
sum_fits v w p q e f = omega (arith, over_small v.levels v.left v.right p v.within e, over_small w.levels w.left w.right q w.within f)

abbrev pieces_in : Answer → Pieces
pieces_in a = record { first = a.first; second = a.second; over = a.over }

module _ (w : TreeWindow) (z : cut_unit w.levels w.left w.right ≡ 0) where
  pub whole_pieces : (p : Piece) → p ≡ piece_in w → record { first = p.node; second = 0; over = p.over } ≡ pieces_of w.levels w.left w.right (cover_in w)
  unfolding accepted
  whole_pieces p e = ap pieces_in (one_is w.levels w.left w.right p e ∙ one_code w.within (sym z) refl)

  pub whole_first : node_in w ≡ get_or (cover_in w) 0 0
  whole_first = ap (λ (c : List ℕ). get_or c 0 0) (one_least w.within (sym z) refl)

  pub whole_second : 0 ≡ get_or (cover_in w) 1 0
  whole_second = ap (λ (c : List ℕ). get_or c 1 0) (one_least w.within (sym z) refl)

module _ (w p q : TreeWindow) (s : Parts w p q) where
  abbrev cut_at : ℕ
  cut_at = cut_unit w.levels w.left w.right

  is_cut : cut_at ≡ 0 → ⊥
  is_cut z = omega (arith, p.within.some, s.p_right)

  -- the lowest node of each, and its piece
  node_p : node_in p ≡ lowest w.levels w.left cut_at
  node_p = λ i. lowest (s.p_levels i) (s.p_left i) (s.p_right i)

  node_q : node_in q ≡ lowest w.levels cut_at w.right
  node_q = λ i. lowest (s.q_levels i) (s.q_left i) (s.q_right i)

  piece_p : piece_in p ≡ lowest_piece w.levels w.left cut_at
  piece_p = λ i. lowest_piece (s.p_levels i) (s.p_left i) (s.p_right i)

  piece_q : piece_in q ≡ lowest_piece w.levels cut_at w.right
  piece_q = λ i. lowest_piece (s.q_levels i) (s.q_left i) (s.q_right i)

  pub parts_pieces : (x y : Piece) → x ≡ piece_in p → y ≡ piece_in q
      → record { first = x.node; second = y.node; over = x.over + y.over } ≡ pieces_of w.levels w.left w.right (cover_in w)
  unfolding accepted
  parts_pieces x y e f = ap pieces_in (pair_is w.levels w.left cut_at w.right x y (e ∙ piece_p) (f ∙ piece_q) ∙ pair_code w.within refl is_cut)

  module _ (n m : ℕ) (e : n ≡ node_in p) (f : m ≡ node_in q) where
    pub parts_first : n ≡ get_or (cover_in w) 0 0
    parts_first = e ∙ node_p ∙ ap (λ (c : List ℕ). get_or c 0 0) (two_least w.within refl is_cut)

    pub parts_second : m ≡ get_or (cover_in w) 1 0
    parts_second = f ∙ node_q ∙ ap (λ (c : List ℕ). get_or c 1 0) (two_least w.within refl is_cut)

    pub other_parts : (first second : ℕ) → (not (eqb first n) || not (eqb second m)) ≡ not_cover false (cover_in w) first second
    other_parts first second = other_two w.within refl first second is_cut (e ∙ node_p) (f ∙ node_q)

-- ---- the call's tests

module _ (h l r : ℕ) where
  abbrev cause_of : Bool → Bool → ℕ
  cause_of a b = choose a 1 (choose b 7 0)

  module _ {n : ℕ} (e : n ≡ cause_of (levels_outside h) (window_outside h l r)) where
    is_cause : (a b : Bool) → levels_outside h ≡ a → window_outside h l r ≡ b → n ≡ cause_of a b
    is_cause a b f g = e ∙ (λ i. cause_of (f i) (g i))

    told : 0 < n → refused n ≡ answer h l r
    unfolding choose
    told some =
        by_test (levels_outside h)
        (λ t. ap refused (is_cause true (window_outside h l r) t refl) ∙ levels_refused h l r t)
        (λ f. by_test (window_outside h l r)
        (λ t. ap refused (is_cause false true f t) ∙ window_refused_lem h l r f t)
        (λ g. absurd (omega (arith, some, is_cause false false f g))))

    passed : n ≡ 0 → accepted h l r (least_cover 2 h l r) ≡ answer h l r
    unfolding choose
    passed none =
        by_test (levels_outside h)
        (λ t. absurd (omega (arith, none, is_cause true (window_outside h l r) t refl)))
        (λ f. by_test (window_outside h l r)
        (λ t. absurd (omega (arith, none, is_cause false true f t)))
        (λ g. window_covered h l r f g))

  pub call_refused : (cause : Refusal) → number_of cause ≡ cause_of (levels_outside h) (window_outside h l r) → refused (number_of cause) ≡ answer h l r
  call_refused cause e = told e (some_number cause)

  pub call_covered : 0 ≡ cause_of (levels_outside h) (window_outside h l r) → answer_of (Ok (pieces_of h l r (least_cover 2 h l r))) ≡ answer h l r
  unfolding accepted
  call_covered e = passed e refl

-- what the check tries at each goal of the code
pub ruleset methods = (first_pos, rise_small, node_small_in, node_is, leaf_is, size_over, leaf_piece_is, inner_piece_is, leaf_uncut, uncut, cut_is, sum_fits, whole_pieces, whole_first, whole_second, parts_pieces, parts_first, parts_second, other_parts, window_inside, window_tested)
