-- `word::take_bits` meets its contract. Assumes nothing.
use Rattle.word.specs.rules.Word.{take_bits}
use Rattle.word.proofs.take_bits.Goals as goal

pub returns : goal.returns
unfolding take_bits
returns c = c.masked_swap.ensures
