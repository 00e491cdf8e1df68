use Rattle.std.proofs.Common.{◌++◌, List, [], ◌∷◌, ℕ, ap, ◌∙◌}
use Rattle.lock.proofs.laws.ByKind.{client_of_kind}
use Rattle.lock.specs.rules.ByValue.{call_of}
use Rattle.schedule.specs.laws.Numbers.{all_spaced, spaced_rest, in_order}
use Rattle.schedule.specs.laws.Writing.{line_of_lem}
use Rattle.schedule.specs.rules.Log.{kind_text}
use Rattle.schedule.specs.rules.Text.{text, decimal}
use Rattle.schedule.proofs.logging.made.Goals as goal

pub returns-clause-line : goal.returns-clause-line
returns-clause-line c =
    let x = c.args.call in
    let kind = call_of x.kind x.client x.a x.b in
    let numbers = x.client ∷ c.args.number ∷ c.args.after.phase ∷ c.args.after.left ∷ c.args.after.right ∷ [] in
    let named = c.kind_name.ensures.name x.client x.a x.b ∙ ap kind_text (c.from.ensures x.client x.a x.b) in
    simp (c.text-3.ensures, c.numbers.ensures.pieces, c.text-2.ensures, named, c.text.ensures, c.decimal.ensures.piece, c.new-line.ensures)
    (in_order (decimal c.args.k) (text " ") (kind_text kind) (all_spaced numbers) (text "\n")
    ∙ ap (λ (l : List ℕ). decimal c.args.k ++ (text " " ++ (kind_text kind ++ l))) (spaced_rest numbers (text "\n"))
    ∙ line_of_lem c.args.k kind x.client c.args.number c.args.after (client_of_kind x.kind x.client x.a x.b))
