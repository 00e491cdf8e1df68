use Rattle.std.proofs.Common.{◌++◌, List, ℕ, ap, ◌∙◌, append_assoc}
use Rattle.schedule.specs.laws.Numbers.{all_spaced, spaced_rest}
use Rattle.schedule.specs.rules.Text.{text, decimal}
use Rattle.rangepages.proofs.lines.numbered.Goals as goal

pub returns-clause-line : goal.returns-clause-line
returns-clause-line c =
    let numbers = c.args.numbers.now in
    simp (c.text.ensures, c.numbers.ensures.pieces, c.decimal.ensures.piece, c.new-line.ensures)
    (append_assoc (decimal c.args.client) (all_spaced numbers) (text "\n") ∙ ap (λ (l : List ℕ). decimal c.args.client ++ l) (spaced_rest numbers (text "\n")))
