-- `word::wanted_bits` meets its contract. Assumes nothing.
use mathlib.Core.Path.{ap₂, ◌∙◌}
use native.Mathlib.Omega.{arith}
use Rattle.word.specs.rules.Word.{leaf_bits, wanted_bits}
use Rattle.word.proofs.wanted_bits.Goals as goal

pub returns : goal.returns
unfolding wanted_bits
returns c =
    c.leaf_bits.ensures ∙ ap₂ leaf_bits (omega (arith, c.saturating_sub-low.ensures)) (omega (arith, c.saturating_sub-high.ensures))
