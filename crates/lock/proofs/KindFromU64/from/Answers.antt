-- `lock::KindFromU64::from` meets its contract. Assumes nothing.
use Rattle.std.proofs.Common.{rules, sym}
use Rattle.lock.proofs.laws.ByKind.{kind_request, kind_step, kind_release, kind_cancel}
use Rattle.lock.proofs.KindFromU64.from.Goals as goal

pub returns-in-0 : goal.returns-in-0
returns-in-0 c = λ client a b. sym (kind_request _ client a b c.in-0.is)

pub returns-in-1 : goal.returns-in-1
returns-in-1 c = λ client a b. sym (kind_step _ client a b c.in-1.is)

pub returns-in-2 : goal.returns-in-2
returns-in-2 c = λ client a b. sym (kind_release _ client a b c.in-2.is)

pub returns-in_default : goal.returns-in_default
returns-in_default c = λ client a b. sym (kind_cancel _ client a b (search rules) (search rules) (search rules))
