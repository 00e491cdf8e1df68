-- `word::add_field` meets its contract. Assumes nothing.
use Rattle.word.proofs.Masks.{one_shl, added}
use Rattle.word.proofs.add_field.Goals as goal

pub returns : goal.returns
returns c =
    rw (one_shl c.args.width c.requires.short) (added c.args.shift c.args.width c.args.delta c.args.word c.requires.inside c.ranges.word.fits)
