-- `lock::Record::request` meets its contract. Assumes nothing.
use Rattle.std.proofs.Common.{sym, ap, ◌∙◌, eq-eqb, ne_eqb}
use Rattle.std.proofs.Math.Bool.{not}
use mathlib.Core.List.{[], ◌∷◌}
use Rattle.lock.specs.rules.Unreadable.{differ}
use Rattle.lock.specs.rules.Calls.{first_cause}
use Rattle.lock.proofs.laws.CallLaws.{cause_hit, cause_skip}
use Rattle.lock.proofs.laws.CoverLaws.{inside_window}
use Rattle.lock.proofs.Record.request.Goals as goal

pub returns-then-outside-clause-number : goal.returns-then-outside-clause-number
returns-then-outside-clause-number c =
    sym (cause_hit _ 7 _ (sym c.outside.ensures ∙ c.if-outside.true))

pub returns-then-self-ne0-clause-number : goal.returns-then-self-ne0-clause-number
returns-then-self-ne0-clause-number c =
    sym (cause_skip _ 7 _ (sym c.outside.ensures ∙ c.if-outside.false) ∙ cause_hit _ 8 [] (ap not (ne_eqb c.args.self.phase 0 c.if-self-ne0.true)))

pub piece_numbers-pieces-requires : goal.piece_numbers-pieces-requires
piece_numbers-pieces-requires c =
    inside_window c.args.settings.settled (sym c.outside.ensures ∙ c.if-outside.false)

pub requested-requires : goal.requested-requires
requested-requires c =
    (inside_window c.args.settings.settled (sym c.outside.ensures ∙ c.if-outside.false), c.piece_numbers-pieces.ensures.first, c.piece_numbers-pieces.ensures.second)

pub returns-clause-number : goal.returns-clause-number
unfolding first_cause
returns-clause-number c =
    sym (cause_skip _ 7 ((differ c.args.self.phase 0, 8) ∷ []) (sym c.outside.ensures ∙ c.if-outside.false) ∙ cause_skip _ 8 [] (ap not (eq-eqb c.args.self.phase 0 c.if-self-ne0.false)))
