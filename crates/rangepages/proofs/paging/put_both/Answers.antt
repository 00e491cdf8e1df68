use Rattle.std.proofs.Common.{ap, ◌∙◌, subst, sym, arith}
use Rattle.lock.specs.rules.History.{AllReadable}
use Rattle.lock.specs.rules.Table.{State}
use Rattle.pages.specs.rules.Pages.{held_count}
use Rattle.rangepages.specs.rules.Printed.{pages_text}
use Rattle.rangepages.specs.laws.Paging.{readable_after, pages_whole}
use Rattle.rangepages.proofs.paging.put_both.Goals as goal

pub put_rows-end-requires : goal.put_rows-end-requires
put_rows-end-requires c =
    let schedule = c.args.schedule.now in
    record {
      readable = subst (AllReadable schedule.settings) (sym c.run-table.ensures.table) (readable_after schedule.settings schedule.clients schedule.opened _);
      room = c.requires;
    }

pub put_records-requires : goal.put_records-requires
put_records-requires c = omega (arith, c.put_rows-end.ensures.short, c.put_rows-end.ensures.piece.same, c.requires)

pub returns : goal.returns
returns c =
    let s = c.args.schedule.now.settings in
    let rows = c.put_rows-end.ensures in
    let records = c.put_records.ensures in
    record {
      pages =
          pages_whole s c.run-table.result.clients c.held_count-held.result (c.held_count-held.ensures ∙ ap held_count c.clients.ensures.clients) _ _ _ _ _ rows.piece records
          ∙ ap (λ (st : State). pages_text s st.clients) c.run-table.ensures.table;
      inside = omega (arith, records.room, records.same);
    }
