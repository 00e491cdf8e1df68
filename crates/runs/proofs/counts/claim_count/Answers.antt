-- `runs::counts::claim_count` meets its contract. Assumes nothing.
use mathlib.Core.Path.{sym, ap, ◌∙◌}
use Prim.Native.Nat.{ℕ}
use native.Mathlib.Omega.{arith}
use lib.ListN.{length}
use Rattle.tree.specs.rules.Lists.{notify_list}
use Rattle.lock.specs.rules.Records as P
use Rattle.lock.specs.rules.Unreadable.{list_length}
use Rattle.runs.specs.laws.Standing.{list_short}
use Rattle.runs.specs.laws.AheadLaws.{leaf_count, inner_count}
use Rattle.runs.proofs.counts.claim_count.Goals as goal

pub overflow_add-all : goal.overflow_add-all
unfolding list_length
overflow_add-all c =
    let a = c.args in omega (arith, c.notify_count-all.ensures, ap (λ (n : ℕ). length (notify_list a.settings.values.distance n)) c.current_piece-n.ensures, list_short a.settings.values a.own c.args.settings.settled c.requires P.notify)

pub returns-then-is_leaf : goal.returns-then-is_leaf
returns-then-is_leaf c =
    let a = c.args in leaf_count a.settings.values a.own (sym (c.is_leaf.ensures ∙ ap (P.is_leaf a.settings.values) c.current_piece-n.ensures) ∙ c.if-is_leaf.true)

pub returns : goal.returns
unfolding list_length
returns c =
    let a = c.args in omega (arith, c.notify_count-all.ensures, ap (λ (n : ℕ). length (notify_list a.settings.values.distance n)) c.current_piece-n.ensures, inner_count a.settings.values a.own (sym (c.is_leaf.ensures ∙ ap (P.is_leaf a.settings.values) c.current_piece-n.ensures) ∙ c.if-is_leaf.false))
