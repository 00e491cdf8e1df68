use Rattle.std.proofs.Common.{[], sym, ap, ◌∙◌, length, map}
use Rattle.lock.specs.rules.Table.{Call, State, call}
use Rattle.schedule.specs.laws.FormatLaws.{call_of_bytes, call_read}
use Rattle.schedule.specs.laws.RunLaws.{run_more, run_done, run_count}
use Rattle.schedule.proofs.examined.Schedule.run.Goals as goal

pub loop-call-preserved : goal.loop-call-preserved
loop-call-preserved c =
    let s = c.args.self.now.settings in
    run_more s c.args.self.now.calls.now c.loop-call.table c.loop-call.call-index [] c.loop-call-test.true _ (ap (λ (k : Call). call s c.loop-call.table k) (sym (call_read _ _ c.call_in.ensures)) ∙ c.make.ensures)
    ∙ c.loop-call.invariant

pub returns : goal.returns
returns c =
    let own = c.args.self.now in
    let made = sym (run_done own.settings own.calls.now c.loop-call.table c.loop-call.call-index c.loop-call-test.false) ∙ c.loop-call.invariant in
    record { table = made; clients = ap (λ (st : State). length st.clients) made ∙ run_count own.settings own.clients (map call_of_bytes own.calls.now) }
