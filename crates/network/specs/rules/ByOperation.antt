-- To be believed: a step over the client table, made as a run makes it: the operation is found, applied to the word at its node, and completed. Assumes nothing.
use Rattle.std.specs.Prelude.{◌++◌, ℕ, eqb, length, set}
use Rattle.base.specs.rules.Choice.{choose}
use Rattle.lock.specs.declared.Settings.{Settings}
use Rattle.lock.specs.rules.Records.{word_at, written}
use Rattle.lock.specs.rules.Steps.{applied}
use Rattle.lock.specs.rules.Calls.{first_cause, tree_tests, client_tests}
use Rattle.lock.specs.rules.Operations.{access_of, operation_answer, completed_answer}
use Rattle.lock.specs.rules.Table.{State, client_at, Out}

-- 1 to 4 are tests of what is lent, and refuse the step; else all is said by operation, application and completion
unfoldable pub by_operation : Settings → State → (client clock : ℕ) → Out
by_operation s st c t =
    let o = operation_answer s (client_at st c) t in
    let w = word_at st.words o.node in
    let a = completed_answer s (client_at st c) t w in
    let cause = first_cause (tree_tests s (length st.words) ++ client_tests (length st.clients) c) in
    choose (eqb cause 0)
    (record { number = a.number; state = record { words = written st.words o.node (applied (access_of o) w); clients = set st.clients c a.next } })
    (record { number = cause; state = st })
