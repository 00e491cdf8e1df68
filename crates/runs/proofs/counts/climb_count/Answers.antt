-- `runs::counts::climb_count` meets its contract. Assumes nothing.
use mathlib.Core.Path.{ap, ◌∙◌}
use mathlib.Core.Logic.{inl, inr}
use native.Mathlib.Omega.{arith}
use Rattle.tree.specs.rules.Tree.{level}
use Rattle.tree.proofs.laws.Code.{bounded}
use Rattle.tree.proofs.laws.Ancestors.{ancestors_count}
use Rattle.lock.specs.rules.Records as P
use Rattle.lock.proofs.laws.Placed.{pieced}
use Rattle.base.specs.laws.ChoiceLaws.{by_lt}
use Rattle.runs.specs.laws.AheadLaws.{ticket_length, climb_length, other_length}
use Rattle.runs.proofs.counts.climb_count.Goals as goal

pub overflow_sub-result : goal.overflow_sub-result
overflow_sub-result c =
    let a = c.args in let g = c.requires.0 in let k = (pieced a.settings.values a.own c.args.settings.settled g).nodes a.own.current g.exists in let v = bounded a.settings.values.distance (P.current_piece a.own) c.args.settings.settled.distance_some c.args.settings.settled.distance_most k in omega (arith, v.d_some, c.level-d.ensures, ap level c.current_piece.ensures)

pub overflow_sub-result-in-3 : goal.overflow_sub-result-in-3
overflow_sub-result-in-3 c =
    let a = c.args in let g = c.requires.0 in let k = (pieced a.settings.values a.own c.args.settings.settled g).nodes a.own.current g.exists in let v = bounded a.settings.values.distance (P.current_piece a.own) c.args.settings.settled.distance_some c.args.settings.settled.distance_most k in omega (arith, v.d_some, c.level-d.ensures, ap level c.current_piece.ensures, ancestors_count (P.current_piece a.own), g.climbing (inl c.in-3.is))

pub returns-in-1 : goal.returns-in-1
returns-in-1 c =
    let a = c.args in let g = c.requires.0 in let k = (pieced a.settings.values a.own c.args.settings.settled g).nodes a.own.current g.exists in let v = bounded a.settings.values.distance (P.current_piece a.own) c.args.settings.settled.distance_some c.args.settings.settled.distance_most k in let e = c.level-d.ensures ∙ ap level c.current_piece.ensures in ticket_length a.settings.values a.own _ e (omega (arith, v.d_some, e)) c.in-1.is

pub returns-in-3 : goal.returns-in-3
returns-in-3 c =
    let a = c.args in let g = c.requires.0 in let k = (pieced a.settings.values a.own c.args.settings.settled g).nodes a.own.current g.exists in let v = bounded a.settings.values.distance (P.current_piece a.own) c.args.settings.settled.distance_some c.args.settings.settled.distance_most k in let e = c.level-d.ensures ∙ ap level c.current_piece.ensures in climb_length a.settings.values a.own _ e (omega (arith, v.d_some, e)) c.in-3.is

pub returns-in_default : goal.returns-in_default
returns-in_default c =
    let a = c.args in let g = c.requires.0 in let k = (pieced a.settings.values a.own c.args.settings.settled g).nodes a.own.current g.exists in let v = bounded a.settings.values.distance (P.current_piece a.own) c.args.settings.settled.distance_some c.args.settings.settled.distance_most k in let e = c.level-d.ensures ∙ ap level c.current_piece.ensures in other_length a.settings.values a.own _ e (omega (arith, v.d_some, e)) (by_lt a.own.phase 3 (λ q. inl (omega (arith, c.requires.1))) (λ q. inr (omega (arith, c.requires.2))))
