use Rattle.std.proofs.Common.{ap, sym, ◌∙◌, map}
use Rattle.lock.proofs.laws.CallLaws.{cause_some}
use Rattle.schedule.specs.rules.Refusal.{refused_line}
use Rattle.schedule.specs.laws.Appended.{restated}
use Rattle.schedule.specs.laws.FormatLaws.{call_of_bytes, chunks_calls}
use Rattle.schedule.specs.laws.Refusing.{refused_whole, put_whole}
use Rattle.rangepages.specs.rules.Printed.{pages_of}
use Rattle.rangepages.specs.laws.Paging.{pages_run}
use Rattle.rangepages.proofs.paging.put_pages.Goals as goal

pub returns-in-Ok-clause-pages : goal.returns-in-Ok-clause-pages
returns-in-Ok-clause-pages c =
    let read = c.in-Ok.ensures in
    let schedule = c.in-Ok.schedule in
    put_whole _ _ _ c.if-out-lt-ROOM.false _ _
    (pages_run c.args.bytes.now (sym read.number) schedule.settings schedule.clients (map call_of_bytes schedule.calls.now) read.schedule.0 read.schedule.1
    (ap (map call_of_bytes) read.schedule.2 ∙ chunks_calls c.args.bytes.now) _ c.put_both.ensures.pages)

pub returns-in-Err-clause-pages : goal.returns-in-Err-clause-pages
unfolding pages_of
returns-in-Err-clause-pages c =
    put_whole _ _ _ c.if-out-lt-ROOM.false _ _
    (refused_whole _ _ _ c.in-Err.ensures.number (cause_some c.in-Err.refusal) _ _ _ (restated (c.refused.ensures.line ∙ ap refused_line c.number.ensures) c.put.ensures))
