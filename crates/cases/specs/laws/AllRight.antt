-- The theorem that every case marked P is right. Assumes nothing.
use Rattle.std.specs.Prelude.{refl}
use Rattle.base.specs.rules.Choice.{choose}
use Rattle.word.proofs.laws.Inner.{largest_tcnt_returned}
use Rattle.tree.specs.rules.Tree.{climb, leftmost, first, level, level_within, size, left, units, holder}
use Rattle.tree.specs.rules.Lists.{notifies, notified_from, notify_levels}
use Rattle.cover.specs.rules.Cover.{part, over, total, rank}
use Rattle.cover.specs.rules.Search.{before, lesser, behind, least_of, rest, search, found, least_cover}
use Rattle.cover.specs.rules.Answer.{levels_outside, window_outside, refused, accepted, answer}
use Rattle.cases.specs.rules.Cases.{Right, AllRight, table}

pub all_right : AllRight table
unfolding AllRight Right answer accepted refused levels_outside window_outside least_cover found search rest least_of behind lesser before rank total over part holder left size units level level_within first leftmost climb notify_levels notified_from notifies choose
all_right = (refl, (refl, (refl, (refl, (refl, (refl, (refl, (refl, (refl, (largest_tcnt_returned, tt))))))))))
