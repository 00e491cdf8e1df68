-- To be believed: document 01, section "The tree": how many words a tree of so many levels wants. Assumes nothing.
use Rattle.std.specs.Prelude.{ℕ}
use Rattle.base.specs.rules.Choice.{choose}
use Rattle.tree.specs.rules.Tree.{word_count}
use Rattle.cover.specs.rules.Answer.{levels_outside}

-- "Levels H are 2..12", and "the lent 64-bit words, whose count is exactly (4^H - 1) / 3"; for any other number of levels 0, a count that no tree has
unfoldable pub words_wanted : ℕ → ℕ
words_wanted h = choose (levels_outside h) 0 (word_count h)
