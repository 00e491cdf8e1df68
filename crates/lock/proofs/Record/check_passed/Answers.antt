-- `lock::Record::check_passed` meets its contract. Assumes nothing.
use mathlib.Core.Path.{sym, ap, ◌∙◌}
use Prim.Native.Nat.{ℕ}
use native.Mathlib.Omega.{arith}
use lib.ListN.{length}
use Rattle.tree.specs.rules.Lists.{check_list}
use Rattle.lock.specs.rules.Records.{current_piece}
use Rattle.lock.proofs.laws.StepLaws.{check_stays, check_more, check_last, check_small}
use Rattle.lock.proofs.Record.check_passed.Goals as goal

pub returns-then-get : goal.returns-then-get
returns-then-get c =
    let a = c.args in
    let h = a.settings.values.levels in
    let m = a.settings.values.distance in
    sym (check_stays a.settings.values a.self a.found a.clock (λ e. c.if-get.true (c.get.ensures ∙ e ∙ sym c.get-2.ensures)))

pub overflow_add-passed : goal.overflow_add-passed
overflow_add-passed c =
    let a = c.args in
    let q = c.requires in
    let h = a.settings.values.levels in
    let m = a.settings.values.distance in
    omega (arith, check_small h m (current_piece a.self) c.args.settings.settled.levels_most c.args.settings.settled.distance_some, q.2)

pub returns-then-passed-check_count : goal.returns-then-passed-check_count
returns-then-passed-check_count c =
    let a = c.args in
    let h = a.settings.values.levels in
    let m = a.settings.values.distance in
    sym (check_more a.settings.values a.self a.found a.clock (sym c.get.ensures ∙ c.if-get.false ∙ c.get-2.ensures)
    (omega (arith, c.check_count.ensures ∙ ap (λ (x : ℕ). length (check_list h m x)) c.current_piece-n.ensures, c.if-passed-check_count.true)))

pub returns : goal.returns
returns c =
    let a = c.args in
    let h = a.settings.values.levels in
    let m = a.settings.values.distance in
    c.taken.ensures ∙ sym (check_last a.settings.values a.self a.found a.clock (sym c.get.ensures ∙ c.if-get.false ∙ c.get-2.ensures)
    (omega (arith, c.check_count.ensures ∙ ap (λ (x : ℕ). length (check_list h m x)) c.current_piece-n.ensures, c.if-passed-check_count.false)))
