use Rattle.std.proofs.Common.{append_assoc}
use Rattle.schedule.specs.rules.Refusal.{refused_line}
use Rattle.schedule.proofs.logging.refused.Goals as goal

pub returns-clause-line : goal.returns-clause-line
unfolding refused_line
returns-clause-line c = simp (c.text.ensures, c.named.ensures.piece, c.new-line.ensures, append_assoc)
