-- `lock::calls::word_at` meets its contract. Assumes nothing.
use mathlib.Core.Path.{sym}
use native.Mathlib.Omega.{arith}
use Rattle.lock.proofs.laws.WordLaws.{word_none, word_some}
use Rattle.lock.proofs.calls.word_at.Goals as goal

pub returns-then-n-eq0 : goal.returns-then-n-eq0
returns-then-n-eq0 c =
    sym (word_none c.args.words.now c.args.n c.if-n-eq0.true)

pub returns : goal.returns
returns c =
    sym (word_some c.args.words.now c.args.n (omega (arith, c.if-n-eq0.false)))
