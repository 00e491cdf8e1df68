use Rattle.rangepages.specs.rules.Printed.{row_text}
use Rattle.rangepages.proofs.lines.row.Goals as goal

pub returns-clause-line : goal.returns-clause-line
unfolding row_text
returns-clause-line c = c.numbered.ensures.line
