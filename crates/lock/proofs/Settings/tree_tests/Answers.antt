-- `lock::Settings::tree_tests` meets its contract. Assumes nothing.
use Rattle.std.proofs.Common.{sym, ◌∙◌, arith}
use Rattle.std.proofs.lemmas.Result.{err_from_is_err_and}
use mathlib.Core.List.{[]}
use Rattle.lock.specs.rules.Calls.{first_cause, tree_tests}
use Rattle.lock.proofs.laws.CallLaws.{cause_some, settings_refused, settings_passed, tree_count, tree_passed}
use Rattle.lock.proofs.laws.SettledLaws.{settled}
use Rattle.lock.proofs.laws.WordLaws.{last_is_count}
use Rattle.lock.proofs.Settings.tree_tests.Goals as goal

pub returns-in_err-valid-clause-number : goal.returns-in_err-valid-clause-number
unfolding tree_tests
returns-in_err-valid-clause-number c =
    let p = err_from_is_err_and c.from_residual.result c.from_residual.ensures.1 in
    rw (p.1, p.2) (sym (settings_refused c.args.self _ _ c.in_err-valid.ensures.number (cause_some _)))

pub returns-then-count-last_node-clause-number : goal.returns-then-count-last_node-clause-number
unfolding tree_tests
returns-then-count-last_node-clause-number c =
    sym (tree_count c.args.self c.args.count [] (settings_passed c.args.self c.in_ok-valid.ensures.number) (λ e. c.if-count-last_node.true (e ∙ last_is_count c.args.self.levels ∙ sym c.last_node.ensures)))

pub returns-clause-number : goal.returns-clause-number
unfolding tree_tests first_cause
returns-clause-number c =
    sym (tree_passed c.args.self c.args.count [] (settings_passed c.args.self c.in_ok-valid.ensures.number) (c.if-count-last_node.false ∙ c.last_node.ensures ∙ sym (last_is_count c.args.self.levels)))
