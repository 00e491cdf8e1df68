-- After each call its line is behind the others.
use Rattle.std.proofs.Common.{[], sym, ap, ◌∙◌, arith}
use Rattle.lock.specs.rules.Table.{Call, call}
use Rattle.schedule.specs.laws.Appended.{restated}
use Rattle.schedule.specs.laws.FormatLaws.{call_read}
use Rattle.schedule.specs.laws.Writing.{line_in, written_more, written_all}
use Rattle.schedule.proofs.logging.put_log.Goals as goal

pub put-end-requires-in-loop-k : goal.put-end-requires-in-loop-k
put-end-requires-in-loop-k c = omega (arith, c.loop-k.invariant.short, c.made.ensures.short, c.args.schedule.now.few_calls)

pub loop-k-preserved : goal.loop-k-preserved
loop-k-preserved c =
    let s = c.args.schedule.now.settings in
    let put = c.put-end-in-loop-k.ensures in
    record {
      text =
          written_more s c.args.schedule.now.calls.now _ c.loop-k.out _ c.loop-k.table c.loop-k.k c.loop-k.end _ [] c.loop-k.invariant.text c.loop-k-test.true _
          (ap (λ (k : Call). call s c.loop-k.table k) (sym (call_read _ _ c.call_in-call.ensures)) ∙ c.make-number.ensures)
          (restated (c.made.ensures.line ∙ line_in c.loop-k.k c.make-number.result _ c.call_in-call.result c.make-number.new.self c.client-after.result c.call_in-call.ensures c.client-after.ensures) put);
      inside = omega (arith, put.room, put.same);
      short = omega (arith, c.loop-k.invariant.short, c.made.ensures.short, put.ends);
    }

pub returns-clause-log : goal.returns-clause-log
returns-clause-log c =
    written_all c.args.schedule.now.settings c.args.schedule.now.calls.now _ c.loop-k.out c.loop-k.table c.loop-k.k c.loop-k.end c.loop-k.invariant.text c.loop-k-test.false
