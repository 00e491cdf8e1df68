-- The digits that `io::decimal` writes are those of the log.
use Rattle.std.proofs.Common.{◌++◌, List, ℕ, ap, ◌∙◌}
use Rattle.schedule.specs.laws.Decimal.{digits_decimal}
use Rattle.schedule.proofs.text.Line.decimal.Goals as goal

pub returns-clause-piece : goal.returns-clause-piece
returns-clause-piece c =
    let count = c.decimal-count in
    c.text.ensures ∙ ap (λ (l : List ℕ). c.args.self.now ++ l) (count.ensures.digits ∙ digits_decimal c.args.n count.result count.ensures.len)
