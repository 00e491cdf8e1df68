-- The number of the tests that stand before a client's own, 1 to 4, over counts: the beginning of `lock`'s chain, by CallLaws.antt. Assumes nothing.
use Rattle.std.specs.Prelude.{◌++◌, ℕ}
use Rattle.lock.specs.declared.Settings.{Settings}
use Rattle.lock.specs.rules.Calls.{first_cause, tree_tests, client_tests}

unfoldable pub table_cause : Settings → ℕ → ℕ → ℕ → ℕ
table_cause s words clients client = first_cause (tree_tests s words ++ client_tests clients client)
