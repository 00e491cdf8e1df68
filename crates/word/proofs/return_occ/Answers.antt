-- `word::return_occ` meets its contract. Assumes nothing.
use mathlib.Core.Path.{◌∙◌}
use Rattle.word.proofs.laws.Inner.{return_occ_one_add}
use Rattle.word.proofs.return_occ.Goals as goal

pub returns : goal.returns
returns c = c.add_fields.ensures ∙ return_occ_one_add c.args.word
