use Rattle.rga_ops.specs.Identifier.{Identifier}
use Rattle.rga_pages.specs.declared.entry.Record.{Record}
use Rattle.rga_records.proofs.ToldLaws.{told_deletions, told_insertions, told_more, deletions_split, insertions_split}
use Rattle.rga_records.proofs.telling.tell_entries.Goals as goal

pub loop-entry-preserved : goal.loop-entry-preserved
loop-entry-preserved g c =
    let e : Identifier × Record = c.entry-item.result in (
      told_more g.L.Listener.hears g.L.Listener.hears_on told_insertions insertions_split c.args.entries.now c.loop-entry.entry-index e c.loop-entry-test.true c.entry-item.is c.args.of_insertions.now c.loop-entry.of_insertions _ c.loop-entry.invariant.0 c.in_ok-tell_insertion.ensures.ok,
      told_more g.M.Listener.hears g.M.Listener.hears_on told_deletions deletions_split c.args.entries.now c.loop-entry.entry-index e c.loop-entry-test.true c.entry-item.is c.args.of_deletions.now c.loop-entry.of_deletions _ c.loop-entry.invariant.1 c.in_ok-tell_deletion.ensures.ok,
    )
