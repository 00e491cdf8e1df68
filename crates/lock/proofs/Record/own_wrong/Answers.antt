-- `lock::Record::own_wrong` meets its contract. Assumes nothing.
use mathlib.Core.Path.{ap, ◌∙◌}
use Prim.Native.Nat.{ℕ}
use native.Mathlib.Omega.{arith}
use Rattle.std.proofs.Common.{rules}
use lib.Dec.{eqb}
use Rattle.tree.specs.rules.Tree.{level}
use Rattle.tree.proofs.laws.Level.{level_pos}
use Rattle.lock.specs.rules.Records.{is_leaf}
use Rattle.lock.proofs.laws.ReadableLaws.{grip_ticket, grip_turn}
use Rattle.lock.proofs.laws.Phases.{over_5}
use Rattle.lock.proofs.laws.PhaseTests.{own_asking, own_climbing, own_claiming}
use Rattle.lock.proofs.Record.own_wrong.Goals as goal

pub overflow_sub-result : goal.overflow_sub-result
overflow_sub-result c =
    omega (arith, c.level-level.ensures, level_pos c.piece_at-node.result)

pub overflow_sub-result-in-4 : goal.overflow_sub-result-in-4
overflow_sub-result-in-4 c =
    omega (arith, c.level-level.ensures, level_pos c.piece_at-node.result)

pub taken_wrong-requires : goal.taken_wrong-requires
unfolding is_leaf
taken_wrong-requires c =
    (c.requires.0, over_5 _ c.requires.1 (search rules) (search rules) (search rules) (search rules) (search rules), c.piece_at-node.ensures, (ap (λ (x : ℕ). eqb x c.args.settings.values.levels) (c.level-level.ensures ∙ ap level c.piece_at-node.ensures)))

pub returns-in-1 : goal.returns-in-1
unfolding is_leaf
returns-in-1 c =
    own_asking c.requires.0 (ap (λ (x : ℕ). eqb x c.args.settings.values.levels) (c.level-level.ensures ∙ ap level c.piece_at-node.ensures)) (omega (arith, c.in-1.is)) (omega (arith, c.in-1.is)) 0 (omega arith) (grip_ticket _ _ _ c.in-1.is)

pub returns-in-2 : goal.returns-in-2
unfolding is_leaf
returns-in-2 c =
    own_asking c.requires.0 (ap (λ (x : ℕ). eqb x c.args.settings.values.levels) (c.level-level.ensures ∙ ap level c.piece_at-node.ensures)) (omega (arith, c.in-2.is)) (omega (arith, c.in-2.is)) 1 (omega arith) (grip_turn _ _ _ c.in-2.is)

pub returns-in-3 : goal.returns-in-3
unfolding is_leaf
returns-in-3 c =
    own_climbing c.requires.0 (ap (λ (x : ℕ). eqb x c.args.settings.values.levels) (c.level-level.ensures ∙ ap level c.piece_at-node.ensures)) c.lacks_turn.ensures (omega (arith, c.in-3.is)) (omega (arith, c.in-3.is)) (omega (arith, c.in-3.is)) (c.level-level.ensures ∙ ap level c.piece_at-node.ensures)

pub returns-in-4 : goal.returns-in-4
unfolding is_leaf
returns-in-4 c =
    own_climbing c.requires.0 (ap (λ (x : ℕ). eqb x c.args.settings.values.levels) (c.level-level.ensures ∙ ap level c.piece_at-node.ensures)) c.lacks_turn-in-4.ensures (omega (arith, c.in-4.is)) (omega (arith, c.in-4.is)) (omega (arith, c.in-4.is)) (c.level-level.ensures ∙ ap level c.piece_at-node.ensures)

pub returns-in-5 : goal.returns-in-5
unfolding is_leaf
returns-in-5 c =
    own_claiming c.requires.0 (ap (λ (x : ℕ). eqb x c.args.settings.values.levels) (c.level-level.ensures ∙ ap level c.piece_at-node.ensures)) c.lacks_turn-in-5.ensures (omega (arith, c.in-5.is)) (omega (arith, c.in-5.is)) c.in-5.is
