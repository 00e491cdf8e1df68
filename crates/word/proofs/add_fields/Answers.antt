-- `word::add_fields` meets its contract. Assumes nothing.
use mathlib.Core.List.{[], ◌∷◌}
use Rattle.word.proofs.FieldsAtOnce.{tops, lows, widths, fields_at_once}
use Rattle.word.proofs.add_fields.Goals as goal

pub returns : goal.returns
unfolding tops lows widths
returns c = fields_at_once (15 ∷ 15 ∷ 14 ∷ 14 ∷ 0 ∷ 0 ∷ []) c.args.deltas c.args.word c.ranges.word.fits
