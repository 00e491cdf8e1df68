-- `word::leaf_bits` meets its contract. Assumes nothing.
use Rattle.word.proofs.Masks.{leaf_made}
use Rattle.word.proofs.leaf_bits.Goals as goal

pub returns : goal.returns
returns c = leaf_made c.args.low c.args.high c.requires.0 c.requires.1
