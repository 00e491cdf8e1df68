-- `table::by_levels::nolthewyr_word_count` meets its contract. Assumes nothing.
use mathlib.Core.Path.{◌∙◌}
use Rattle.cover.specs.rules.Answer.{levels_outside}
use Rattle.table.specs.laws.WantedLaws.{wanted_none, wanted_counted}
use Rattle.table.proofs.by_levels.nolthewyr_word_count.Goals as goal

pub returns-then-levels : goal.returns-then-levels
unfolding levels_outside
returns-then-levels c =
    wanted_none c.args.levels c.if-levels.true

pub returns : goal.returns
unfolding levels_outside
returns c =
    c.last_node.ensures ∙ wanted_counted c.args.levels c.if-levels.false
