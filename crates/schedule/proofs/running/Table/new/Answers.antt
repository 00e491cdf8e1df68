use Rattle.std.proofs.Common.{ℕ, ap, ap₂, ◌∙◌, take, replicate}
use Rattle.table.specs.rules.Lent.{lent}
use Rattle.schedule.specs.rules.Format.{lent_for}
use Rattle.schedule.specs.laws.ShelfLaws.{take_replicate}
use Rattle.schedule.proofs.running.Table.new.Goals as goal

pub returns : goal.returns
unfolding lent_for
returns c =
    let count = c.word_count.ensures in
    ap₂ lent (ap (take c.args.clients) c.filled.ensures ∙ take_replicate _ 64 _ c.requires.1 ∙ ap (replicate c.args.clients) c.idle.ensures)
    (ap (take c.word_count.result) c.filled-2.ensures ∙ take_replicate _ 1365 0 count.1 ∙ ap (λ (n : ℕ). replicate n 0) count.0)
