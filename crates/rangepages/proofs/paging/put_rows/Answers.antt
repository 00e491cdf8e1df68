-- After each client its line is behind the others.
use Rattle.std.proofs.Common.{◌≡◌, false, List, get_or, sym, ap, subst, refl, ◌∙◌, arith}
use Prim.Native.Nat.{zero-le}
use Rattle.lock.specs.declared.Client.{Client}
use Rattle.lock.specs.rules.Records.{idle_client}
use Rattle.lock.specs.rules.Table.{client_at}
use Rattle.lock.specs.rules.Unreadable.{unreadable}
use Rattle.schedule.specs.laws.Appended.{restated}
use Rattle.rangepages.specs.rules.Printed.{row_line, line_each}
use Rattle.rangepages.specs.laws.Lines.{lined_none, lined_more, lined_all}
use Rattle.rangepages.specs.laws.Paging.{settled, row_put}
use Rattle.rangepages.proofs.paging.put_rows.Goals as goal

pub loop-client-init : goal.loop-client-init
loop-client-init c = record { piece = lined_none (row_line c.args.schedule.now.settings) c.clients-clients.result.now c.args.out.now 0 zero-le; short = omega arith }

pub row_of-row-requires : goal.row_of-row-requires
unfolding client_at
row_of-row-requires c =
    let s = c.args.schedule.now.settings in
    let i = c.loop-client.client in
    let readable = subst (λ (l : List Client). unreadable s (get_or l i idle_client).«record» (get_or l i idle_client).clock ≡ false) (sym c.clients-clients.ensures.clients) (c.requires.readable i) in
    (settled s c.args.schedule.now.clients c.args.schedule.now.opened, readable)

pub put-end-requires : goal.put-end-requires
put-end-requires c = omega (arith, c.loop-client.invariant.short, c.row.ensures.short, c.clients-clients.ensures.few, c.requires.room)

pub loop-client-preserved : goal.loop-client-preserved
loop-client-preserved c =
    let s = c.args.schedule.now.settings in
    let clients = c.clients-clients.result.now in
    let i = c.loop-client.client in
    let own = get_or clients i idle_client in
    record {
      piece =
          lined_more (row_line s) clients c.args.out.now 0 c.loop-client.out _ c.loop-client.end _ i idle_client c.loop-client.invariant.piece c.loop-client-test.true
          (restated (c.row.ensures.line ∙ row_put s i own own c.row_of-row.result refl c.row_of-row.ensures) c.put-end.ensures);
      short = omega (arith, c.loop-client.invariant.short, c.row.ensures.short, c.put-end.ensures.ends);
    }

pub returns : goal.returns
returns c =
    let s = c.args.schedule.now.settings in
    record {
      piece =
          restated (ap (λ (l : List Client). line_each (row_line s) 0 l) c.clients-clients.ensures.clients)
          (lined_all (row_line s) c.clients-clients.result.now c.args.out.now 0 c.loop-client.out c.loop-client.end c.loop-client.client c.loop-client.invariant.piece c.loop-client-test.false);
      short = omega (arith, c.loop-client.invariant.short, c.clients-clients.ensures.few);
    }
