-- `lock::Record::taken_wrong` meets its contract. Assumes nothing.
use mathlib.Core.Path.{ap, ◌∙◌}
use Prim.Native.Nat.{ℕ}
use native.Mathlib.Omega.{arith}
use Rattle.std.proofs.Common.{rules}
use lib.ListN.{length}
use Rattle.tree.specs.rules.Lists.{notify_list, check_list}
use Rattle.lock.proofs.laws.Pieces.{few_pieces}
use Rattle.lock.proofs.laws.Phases.{over_10}
use Rattle.lock.proofs.laws.PhaseTests.{own_notifying, own_waiting, own_checking, own_holding, own_unknown}
use Rattle.lock.proofs.Record.taken_wrong.Goals as goal

pub overflow_add-early : goal.overflow_add-early
overflow_add-early c =
    omega (arith, c.requires.0.exists, few_pieces c.args.self)

pub returns-in-6 : goal.returns-in-6
returns-in-6 c =
    own_notifying c.requires.0 c.requires.3 (c.notify_count-count.ensures ∙ ap (λ (x : ℕ). length (notify_list c.args.settings.values.distance x)) c.requires.2) c.in-6.is

pub returns-in-7 : goal.returns-in-7
returns-in-7 c =
    own_waiting c.requires.0 c.requires.3 (c.notify_count-count.ensures ∙ ap (λ (x : ℕ). length (notify_list c.args.settings.values.distance x)) c.requires.2) c.in-7.is

pub returns-in-8 : goal.returns-in-8
returns-in-8 c =
    own_checking c.requires.0 c.requires.3 (c.notify_count-count.ensures ∙ ap (λ (x : ℕ). length (notify_list c.args.settings.values.distance x)) c.requires.2) c.in-8.is (c.check_count-checked.ensures ∙ ap (λ (x : ℕ). length (check_list c.args.settings.values.levels c.args.settings.values.distance x)) c.requires.2)

pub returns-in-9 : goal.returns-in-9
returns-in-9 c =
    own_holding c.requires.0 c.requires.3 (c.notify_count-count.ensures ∙ ap (λ (x : ℕ). length (notify_list c.args.settings.values.distance x)) c.requires.2) c.in-9.is c.piece_count.ensures

pub returns-in_default : goal.returns-in_default
returns-in_default c =
    own_unknown c.requires.0 (over_10 _ c.requires.1 (search rules) (search rules) (search rules) (search rules) (search rules))
