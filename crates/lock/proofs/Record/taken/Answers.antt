-- `lock::Record::taken` meets its contract. Assumes nothing.
use mathlib.Core.Path.{sym, ap, ◌∙◌}
use Prim.Native.Nat.{◌+◌}
use native.Mathlib.Omega.{arith}
use Rattle.lock.specs.rules.Records.{to_phase}
use Rattle.lock.specs.rules.Steps.{begin}
use Rattle.lock.proofs.laws.Pieces.{few_pieces}
use Rattle.lock.proofs.laws.PatienceLaws.{noted_pieced}
use Rattle.lock.proofs.laws.StepLaws.{taken_more, taken_last}
use Rattle.lock.proofs.Record.taken.Goals as goal

pub overflow_add-next : goal.overflow_add-next
overflow_add-next c =
    omega (arith, few_pieces c.args.self, c.requires.exists)

pub begin-requires : goal.begin-requires
begin-requires c =
    let r = c.args.self in
    noted_pieced r c.args.clock _ c.first_noted-noted.ensures c.requires _ (omega (arith, c.piece_count.ensures, c.if-next-piece_count.true))

pub returns-then-next-piece_count : goal.returns-then-next-piece_count
returns-then-next-piece_count c =
    let a = c.args in
    c.begin.ensures ∙ ap (λ x. begin a.settings x (a.self.current + 1)) c.first_noted-noted.ensures ∙ sym (taken_more a.settings a.self a.clock (omega (arith, c.piece_count.ensures, c.if-next-piece_count.true)))

pub returns : goal.returns
returns c =
    let a = c.args in
    ap (to_phase 9) c.first_noted-noted.ensures ∙ sym (taken_last a.settings a.self a.clock (omega (arith, c.piece_count.ensures, c.if-next-piece_count.false)))
