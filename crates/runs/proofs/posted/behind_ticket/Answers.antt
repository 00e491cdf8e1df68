-- `runs::posted::behind_ticket` meets its contract. Assumes nothing.
use mathlib.Core.Path.{◌∙◌}
use native.Mathlib.Omega.{arith}
use Rattle.base.specs.rules.Choice.{choose}
use Rattle.lock.specs.rules.Records.{phase_of}
use Rattle.runs.specs.laws.AheadLaws.{ticket_first, ticket_later, ticket_count}
use Rattle.runs.specs.laws.Standing.{stands_first}
use Rattle.runs.proofs.posted.behind_ticket.Goals as goal

pub standing-requires : goal.standing-requires
standing-requires c =
    let a = c.args in (stands_first a.settings.values a.own c.requires.0 1 0 (λ e. omega arith) (λ e. omega arith) (λ e. omega arith) (λ e. omega arith) (λ e. omega arith))

pub returns-then-i-eq0 : goal.returns-then-i-eq0
unfolding phase_of choose
returns-then-i-eq0 c =
    let a = c.args in c.standing.ensures ∙ ticket_first a.settings.values a.own a.i c.if-i-eq0.true

pub before_list-requires : goal.before_list-requires
unfolding phase_of choose
before_list-requires c =
    let a = c.args in (c.requires.0, stands_first a.settings.values a.own c.requires.0 2 0 (λ e. omega arith) (λ e. omega arith) (λ e. omega arith) (λ e. omega arith) (λ e. omega arith), omega (arith, c.requires.1, ticket_count a.settings.values a.own, c.if-i-eq0.false))

pub returns : goal.returns
unfolding phase_of choose
returns c =
    let a = c.args in c.before_list.ensures ∙ ticket_later a.settings.values a.own a.i c.if-i-eq0.false
