-- `word::field` meets its contract. Assumes nothing.
use lib.Bits.{and_mask}
use Rattle.word.specs.rules.Word.{field}
use Rattle.word.proofs.Masks.{one_shl}
use Rattle.word.proofs.field.Goals as goal

pub returns : goal.returns
unfolding field
returns c = rw (one_shl c.args.width c.requires.short) (and_mask _ c.args.width)
