-- `schedule::examined::word_count` meets its contract. Assumes nothing.
use mathlib.Core.Path.{sym, ap, ◌∙◌}
use Prim.Native.Nat.{suc}
use native.Mathlib.Omega.{arith}
use Rattle.tree.specs.rules.Tree.{last, word_count}
use Rattle.tree.proofs.laws.Climb.{first_mono, first_closed}
use Rattle.tree.proofs.laws.Level.{word_count_lem}
use Rattle.schedule.proofs.examined.word_count.Goals as goal

pub returns-then-levels-eq0 : goal.returns-then-levels-eq0
unfolding word_count
returns-then-levels-eq0 c =
    (sym (ap word_count c.if-levels-eq0.true), omega arith)

pub returns : goal.returns
unfolding last
returns c =
    let d = c.args.levels in
    (c.last_node.ensures ∙ sym (word_count_lem d), omega (arith, c.last_node.ensures, c.requires, first_mono (suc d) 7 (omega arith) (omega (arith, c.requires)), first_closed 6))
