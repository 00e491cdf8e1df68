-- `runs::counts::return_count` meets its contract. Assumes nothing.
use mathlib.Core.Path.{◌≡◌, sym, ap, ◌∙◌}
use Prim.Native.Nat.{◌+◌, ◌<◌}
use native.Mathlib.Omega.{arith}
use native.Mathlib.Numerals.{add-one}
use lib.ListN.{length}
use Rattle.lock.specs.rules.Records as P
use Rattle.lock.proofs.laws.Placed.{pieced}
use Rattle.lock.proofs.laws.Pieces.{few_pieces}
use Rattle.runs.specs.laws.GivesBack.{gripped_begun, last_count, both_count}
use Rattle.runs.specs.laws.Standing.{notices_few}
use Rattle.runs.proofs.counts.return_count.Goals as goal

pub overflow_add-left : goal.overflow_add-left
overflow_add-left c =
    let a = c.args in omega (arith, c.notices_of.ensures, notices_few a.settings.values a.own c.args.settings.settled c.requires.0 a.own.giving c.requires.0.giving_begun)

pub overflow_add-next : goal.overflow_add-next
overflow_add-next c =
    let a = c.args in omega (arith, c.requires.0.giving_begun, c.requires.0.exists, few_pieces a.own)

pub returns-then-grip_of-eq0 : goal.returns-then-grip_of-eq0
returns-then-grip_of-eq0 c =
    let a = c.args in let e = c.grip_of.ensures ∙ ap (P.grip_of a.own) (add-one a.own.giving) in omega (arith, c.notices_of.ensures, last_count a.settings.values a.own c.requires.0 (sym e ∙ c.if-grip_of-eq0.true))

pub notices_of-requires-2 : goal.notices_of-requires-2
notices_of-requires-2 c =
    let a = c.args in let g = c.requires.0 in let k = a.own.giving + 1 in let d : P.grip_of a.own k ≡ 0 → ⊥ = λ e. c.if-grip_of-eq0.false (c.grip_of.ensures ∙ e) in let b = gripped_begun a.own k d in let w : k < length (P.pieces a.own) = omega (arith, b, g.exists) in (c.args.settings.settled.distance_some, c.args.settings.settled.distance_most, w, (pieced a.settings.values a.own c.args.settings.settled g).nodes k w)

pub overflow_add-result : goal.overflow_add-result
overflow_add-result c =
    let a = c.args in let g = c.requires.0 in let k = a.own.giving + 1 in let d : P.grip_of a.own k ≡ 0 → ⊥ = λ e. c.if-grip_of-eq0.false (c.grip_of.ensures ∙ e) in let b = gripped_begun a.own k d in let f = notices_few a.settings.values a.own c.args.settings.settled g in omega (arith, c.notices_of.ensures, c.notices_of-2.ensures, f a.own.giving g.giving_begun, f k b)

pub overflow_add-result-2 : goal.overflow_add-result-2
overflow_add-result-2 c =
    let a = c.args in let g = c.requires.0 in let k = a.own.giving + 1 in let d : P.grip_of a.own k ≡ 0 → ⊥ = λ e. c.if-grip_of-eq0.false (c.grip_of.ensures ∙ e) in let b = gripped_begun a.own k d in let f = notices_few a.settings.values a.own c.args.settings.settled g in omega (arith, c.notices_of.ensures, c.notices_of-2.ensures, f a.own.giving g.giving_begun, f k b)

pub returns : goal.returns
returns c =
    let a = c.args in let g = c.requires.0 in let k = a.own.giving + 1 in let d : P.grip_of a.own k ≡ 0 → ⊥ = λ e. c.if-grip_of-eq0.false (c.grip_of.ensures ∙ e) in let b = gripped_begun a.own k d in let e = add-one a.own.giving in omega (arith, c.notices_of.ensures, c.notices_of-2.ensures ∙ ap (P.notices_of a.settings.values a.own) e, both_count a.settings.values a.own g (λ z. d (ap (P.grip_of a.own) e ∙ z)))
