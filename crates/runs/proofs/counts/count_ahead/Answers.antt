-- `runs::counts::count_ahead` meets its contract. Assumes nothing.
use mathlib.Core.Path.{sym, ap, ◌∙◌}
use Prim.Native.Nat.{ℕ, ◌-◌}
use native.Mathlib.Omega.{arith}
use lib.ListN.{length}
use Rattle.tree.specs.rules.Lists.{notify_list, check_list}
use Rattle.lock.specs.rules.Records.{Phase}
use Rattle.lock.proofs.laws.Phases.{at_claim, at_returning}
use Rattle.runs.specs.rules.Ahead.{ahead_in}
use Rattle.runs.specs.laws.AheadLaws.{notify_length, check_length, none_length}
use Rattle.runs.proofs.counts.count_ahead.Goals as goal

pub returns-in-5 : goal.returns-in-5
returns-in-5 c =
    let a = c.args in c.claim_count.ensures ∙ ap (λ (q : Phase). length (ahead_in a.settings.values a.own q)) (sym (at_claim a.own.phase c.in-5.is))

pub returns-in-6 : goal.returns-in-6
returns-in-6 c =
    let a = c.args in ap (λ (k : ℕ). k - a.own.place) (c.notify_count.ensures ∙ ap (λ (n : ℕ). length (notify_list a.settings.values.distance n)) c.current_piece.ensures) ∙ notify_length a.settings.values a.own c.in-6.is

pub returns-in-8 : goal.returns-in-8
returns-in-8 c =
    let a = c.args in ap (λ (k : ℕ). k - a.own.place) (c.check_count.ensures ∙ ap (λ (n : ℕ). length (check_list a.settings.values.levels a.settings.values.distance n)) c.current_piece-n.ensures) ∙ check_length a.settings.values a.own c.in-8.is

pub returns-in-10 : goal.returns-in-10
returns-in-10 c =
    let a = c.args in c.return_count.ensures ∙ ap (λ (q : Phase). length (ahead_in a.settings.values a.own q)) (sym (at_returning a.own.phase c.in-10.is))

pub returns-in_default : goal.returns-in_default
returns-in_default c =
    none_length c.args.settings.values c.args.own (λ e. omega (arith, e)) (λ e. omega (arith, e)) (λ e. omega (arith, e)) (λ e. omega (arith, e)) (λ e. omega (arith, e)) (λ e. omega (arith, e))
    (λ e. omega (arith, e)) (λ e. omega (arith, e))
