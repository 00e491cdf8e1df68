-- `word::masked_swap` meets its contract. Assumes nothing.
use borrow.Author.Tests.{eq-eqb, ne_eqb}
use Rattle.word.specs.rules.Word.{matches, replaced}
use Rattle.word.proofs.laws.Swap.{swap_done, swap_failed}
use Rattle.word.proofs.masked_swap.Goals as goal

pub returns-then-word-compared : goal.returns-then-word-compared
unfolding matches replaced
returns-then-word-compared c =
    let a = c.args in
    swap_done a.compared a.expected a.swapped a.value a.word (eq-eqb _ _ c.if-word-compared.true)

pub returns-else-word-compared : goal.returns-else-word-compared
unfolding matches
returns-else-word-compared c =
    let a = c.args in
    swap_failed a.compared a.expected a.swapped a.value a.word (ne_eqb _ _ c.if-word-compared.false)
