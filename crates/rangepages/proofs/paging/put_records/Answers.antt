-- After each client its line is behind the others.
use Rattle.std.proofs.Common.{List, ap, arith}
use Rattle.lock.specs.declared.Client.{Client}
use Rattle.lock.specs.rules.Records.{idle_client}
use Rattle.schedule.specs.laws.Appended.{restated}
use Rattle.rangepages.specs.rules.Printed.{record_line, line_each}
use Rattle.rangepages.specs.laws.Lines.{lined_none, lined_more, lined_all}
use Rattle.rangepages.proofs.paging.put_records.Goals as goal

pub loop-client-init : goal.loop-client-init
loop-client-init c = record { piece = lined_none (record_line c.args.held) c.clients-clients.result.now c.args.out.now c.args.at (omega (arith, c.requires)); short = omega arith }

pub put-end-requires : goal.put-end-requires
put-end-requires c = omega (arith, c.loop-client.invariant.short, c.record.ensures.short, c.clients-clients.ensures.few, c.requires)

pub loop-client-preserved : goal.loop-client-preserved
loop-client-preserved c =
    record {
      piece =
          lined_more (record_line c.args.held) c.clients-clients.result.now c.args.out.now c.args.at c.loop-client.out _ c.loop-client.end _ c.loop-client.client idle_client c.loop-client.invariant.piece
          c.loop-client-test.true (restated c.record.ensures.line c.put-end.ensures);
      short = omega (arith, c.loop-client.invariant.short, c.record.ensures.short, c.put-end.ensures.ends);
    }

pub returns : goal.returns
returns c =
    restated (ap (λ (l : List Client). line_each (record_line c.args.held) 0 l) c.clients-clients.ensures.clients)
    (lined_all (record_line c.args.held) c.clients-clients.result.now c.args.out.now c.args.at c.loop-client.out c.loop-client.end c.loop-client.client c.loop-client.invariant.piece c.loop-client-test.false)
