-- `cover::cover` meets its contract. Assumes nothing.
use Rattle.std.specs.Prelude.{◌≡◌, Ok}
use Rattle.std.proofs.Common.{ap, ◌∙◌}
use Rattle.std.proofs.lemmas.Result.{err_from_is_err_and}
use Rattle.cover.specs.declared.Pieces.{Pieces}
use Rattle.cover.specs.rules.Answer.{pieces_of, answer_of}
use Rattle.cover.specs.rules.Search.{least_cover}
use Rattle.cover.proofs.laws.Pieces.{call_refused, call_covered}
use Rattle.cover.proofs.cover.Goals as goal

pub returns-in_err-tested : goal.returns-in_err-tested
returns-in_err-tested c =
    let a = c.args in
    let p = err_from_is_err_and c.from_residual.result c.from_residual.ensures.1 in
    rw (p.1, p.2) (call_refused a.h a.l a.r _ c.in_err-tested.ensures.refused)

pub returns : goal.returns
returns c =
    let a = c.args in
    let w = c.in_ok-tested.ensures.window in
    let q : c.pieces.result ≡ pieces_of a.h a.l a.r (least_cover 2 a.h a.l a.r) = rw (← w.0, ← w.1, ← w.2) c.pieces.ensures in
    ap (λ (p : Pieces). answer_of (Ok p)) q ∙ call_covered a.h a.l a.r c.in_ok-tested.ensures.refused
