use Rattle.std.proofs.Common.{◌++◌}
use Rattle.schedule.specs.laws.Numbers.{in_order}
use Rattle.schedule.specs.rules.Log.{header_line}
use Rattle.schedule.specs.rules.Text.{text, spaced}
use Rattle.schedule.proofs.logging.header.Goals as goal

pub returns-clause-line : goal.returns-clause-line
unfolding header_line
returns-clause-line c =
    let s = c.args.settings in
    simp (c.text.ensures, c.named-4.ensures.piece, c.named-3.ensures.piece, c.named-2.ensures.piece, c.named.ensures.piece, c.new-line.ensures)
    (in_order (text "tree" ++ spaced s.levels) (text " m" ++ spaced s.distance) (text " wait" ++ spaced s.wait) (text " clients" ++ spaced c.args.clients) (text "\n"))
