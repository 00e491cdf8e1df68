use Rattle.rangepages.specs.rules.Printed.{record_line}
use Rattle.rangepages.proofs.lines.record.Goals as goal

pub returns-clause-line : goal.returns-clause-line
unfolding record_line
returns-clause-line c = c.numbered.ensures.line
