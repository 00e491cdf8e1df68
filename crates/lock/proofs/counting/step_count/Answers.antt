-- `lock::counting::step_count_lem` meets its contract. Assumes nothing.
use mathlib.Core.Path.{sym, subst, ◌∙◌}
use native.Mathlib.Omega.{arith}
use Rattle.tree.specs.rules.Tree.{Node}
use Rattle.cover.proofs.laws.Code.{window_inside}
use Rattle.lock.specs.laws.PieceSteps.{pieces_steps}
use Rattle.lock.proofs.laws.SettledLaws.{shape_inside}
use Rattle.lock.proofs.claim.StepCountLaws.{counts_refused, counts_outside, counts_accepted, window_steps}
use Rattle.lock.proofs.counting.step_count.Goals as goal

pub returns-then-levels_or_distance_outside : goal.returns-then-levels_or_distance_outside
returns-then-levels_or_distance_outside c =
    let a = c.args in
    counts_refused a.h a.m a.l a.r (sym c.levels_or_distance_outside.ensures ∙ c.if-levels_or_distance_outside.true)

pub outside-requires : goal.outside-requires
outside-requires c =
    let a = c.args in
    let shape = shape_inside a.h a.m (sym c.levels_or_distance_outside.ensures ∙ c.if-levels_or_distance_outside.false) in
    (shape.0, shape.1)

pub returns-then-outside : goal.returns-then-outside
returns-then-outside c =
    let a = c.args in
    counts_outside a.h a.m a.l a.r (sym c.levels_or_distance_outside.ensures ∙ c.if-levels_or_distance_outside.false) (sym c.outside.ensures ∙ c.if-outside.true)

pub piece_numbers-pieces-requires : goal.piece_numbers-pieces-requires
piece_numbers-pieces-requires c =
    let a = c.args in
    let shape = shape_inside a.h a.m (sym c.levels_or_distance_outside.ensures ∙ c.if-levels_or_distance_outside.false) in
    window_inside a.h a.l a.r (omega (arith, shape.0)) shape.1 (sym c.outside.ensures ∙ c.if-outside.false)

pub pieces_steps-requires : goal.pieces_steps-requires
pieces_steps-requires c =
    let a = c.args in
    let shape = shape_inside a.h a.m (sym c.levels_or_distance_outside.ensures ∙ c.if-levels_or_distance_outside.false) in
    let w = window_steps a.h a.m a.l a.r (sym c.levels_or_distance_outside.ensures ∙ c.if-levels_or_distance_outside.false) (sym c.outside.ensures ∙ c.if-outside.false) in
    (shape.1, shape.2, shape.3, subst (Node a.h) (sym c.piece_numbers-pieces.ensures.first) w.0, λ d. subst (Node a.h) (sym c.piece_numbers-pieces.ensures.second) (w.1 (λ e. d (c.piece_numbers-pieces.ensures.second ∙ e))))

pub returns : goal.returns
returns c =
    let a = c.args in
    let w = window_steps a.h a.m a.l a.r (sym c.levels_or_distance_outside.ensures ∙ c.if-levels_or_distance_outside.false) (sym c.outside.ensures ∙ c.if-outside.false) in
    counts_accepted a.h a.m a.l a.r (sym c.levels_or_distance_outside.ensures ∙ c.if-levels_or_distance_outside.false) (sym c.outside.ensures ∙ c.if-outside.false) _
    (c.pieces_steps.ensures ∙ (λ i. pieces_steps a.h a.m (c.piece_numbers-pieces.ensures.first i) (c.piece_numbers-pieces.ensures.second i)) ∙ w.2)
