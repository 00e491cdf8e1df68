-- `word::give_bits` meets its contract. Assumes nothing.
use Rattle.word.specs.rules.Word.{give_bits}
use Rattle.word.proofs.give_bits.Goals as goal

pub returns : goal.returns
unfolding give_bits
returns c = c.masked_swap.ensures
