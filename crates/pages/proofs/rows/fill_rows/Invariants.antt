-- `pages::rows::fill_rows`: the first rows are the clients', and the rest as they were. Assumes nothing.
use Rattle.std.proofs.Common.{◌≡◌}
use lib.Seq.{paste}
use Rattle.pages.specs.rules.Pages.{rows_of}
use Rattle.pages.proofs.rows.fill_rows.Given as goal

abbrev pub invariant-loop-at : goal.invariant-loop-at
invariant-loop-at l = l.rows ≡ paste l.initial.rows 0 (rows_of l.settings.values l.clients) l.at
