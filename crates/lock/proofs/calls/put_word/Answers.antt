-- `lock::calls::put_word` meets its contract. Assumes nothing.
use mathlib.Core.Path.{sym}
use native.Mathlib.Omega.{arith}
use Rattle.lock.proofs.laws.WordLaws.{written_none, written_some}
use Rattle.lock.proofs.calls.put_word.Goals as goal

pub returns-then-n-eq0 : goal.returns-then-n-eq0
returns-then-n-eq0 c =
    sym (written_none c.args.words.now c.args.n c.args.word c.if-n-eq0.true)

pub returns : goal.returns
returns c =
    sym (written_some c.args.words.now c.args.n c.args.word (omega (arith, c.if-n-eq0.false)))
