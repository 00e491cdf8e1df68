-- Laws of the words that a tree wants: where no tree has so many levels, and where the last node's number is their count. Assumes nothing.
use Rattle.std.specs.Prelude.{◌≡◌, true, false, ℕ}
use Rattle.std.proofs.Common.{sym, ◌∙◌}
use Rattle.base.specs.rules.Choice.{choose}
use Rattle.tree.specs.rules.Tree.{last}
use Rattle.tree.proofs.laws.Level.{word_count_lem}
use Rattle.cover.specs.rules.Answer.{levels_outside}
use Rattle.table.specs.rules.Wanted.{words_wanted}

pub wanted_none : (h : ℕ) → levels_outside h ≡ true → 0 ≡ words_wanted h
unfolding words_wanted choose
wanted_none h e = rw e

pub wanted_counted : (h : ℕ) → levels_outside h ≡ false → last h ≡ words_wanted h
unfolding words_wanted choose last
wanted_counted h e = sym (word_count_lem h) ∙ rw e
