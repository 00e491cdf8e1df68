use Rattle.std.proofs.Common.{ap, sym, ◌∙◌, map}
use Rattle.lock.proofs.laws.CallLaws.{cause_some}
use Rattle.schedule.specs.rules.Log.{log_of}
use Rattle.schedule.specs.rules.Refusal.{refused_line}
use Rattle.schedule.specs.laws.Appended.{restated}
use Rattle.schedule.specs.laws.FormatLaws.{call_of_bytes, chunks_calls}
use Rattle.schedule.specs.laws.Refusing.{refused_whole, put_whole}
use Rattle.schedule.specs.laws.Writing.{log_run}
use Rattle.schedule.proofs.logging.log.Goals as goal

pub returns-in-Ok-clause-log : goal.returns-in-Ok-clause-log
returns-in-Ok-clause-log c =
    let read = c.in-Ok.ensures in
    put_whole _ _ _ c.if-out-lt-ROOM.false _ _
    (log_run c.args.bytes.now (sym read.number) c.in-Ok.schedule.settings c.in-Ok.schedule.clients (map call_of_bytes c.in-Ok.schedule.calls.now) read.schedule.0 read.schedule.1
    (ap (map call_of_bytes) read.schedule.2 ∙ chunks_calls c.args.bytes.now) _ c.put_log.ensures.log)

pub returns-in-Err-clause-log : goal.returns-in-Err-clause-log
unfolding log_of
returns-in-Err-clause-log c =
    put_whole _ _ _ c.if-out-lt-ROOM.false _ _
    (refused_whole _ _ _ c.in-Err.ensures.number (cause_some c.in-Err.refusal) _ _ _ (restated (c.refused.ensures.line ∙ ap refused_line c.number.ensures) c.put.ensures))
