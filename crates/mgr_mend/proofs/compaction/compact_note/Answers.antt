use Rattle.std.proofs.Common.{◌≡◌, ◌∙◌, Some, Ok, Err, ap, inr}
use Rattle.std.proofs.lemmas.Result.{on_ok_weaker, on_err_weaker}
use Rattle.std.proofs.lemmas.Option.{IfSome_then}
use Rattle.rga_exchange.specs.Counting.{Calls}
use Rattle.mgr_port.specs.Disk.{whole_steps}
use Rattle.mgr_port.specs.Logs.{StopsEarly, renamed}
use Rattle.rga_store.specs.declared.text_store.TheConstants.{MAX_LIMIT}
use Rattle.mgr_show.specs.Log.{log_of}
use Rattle.mgr_mend.specs.CompactionEnds.{failures_after_compaction}
use Rattle.mgr_mend.proofs.CompactionLaws.{after_naming, after_leaving, both_raised}
use Rattle.mgr_mend.proofs.compaction.compact_note.Goals as goal

pub returns-in-Ok-answer-clause-compacted : goal.returns-in-Ok-answer-clause-compacted
returns-in-Ok-answer-clause-compacted g c =
    on_ok_weaker c.give_name.result (λ named.
    after_naming (λ bytes s. g.L.Logs.standing c.give_name.new.logs c.args.name.now ≡ Some (renamed whole_steps bytes)) g.L.Log.Read.remaining g.L.Next.Write.contents _ c.new-reader.result _ c.new-writer.result _ c.args.dels _ _ _
    c.open_log.ensures.same c.make_next.ensures.same c.in-Ok.ensures.log c.in-Ok-make_next.ensures.empty
    (ap (λ (r : Calls g.row.L-Log.Denot). r.inner) c.new-reader.ensures) (ap (λ (w : Calls g.row.L-Next.Denot). w.inner) c.new-writer.ensures)
    c.in-Ok-answer.ensures.compacted named) c.give_name.ensures.named

pub returns-in-Ok-answer-clause-begun : goal.returns-in-Ok-answer-clause-begun
returns-in-Ok-answer-clause-begun g c =
    on_err_weaker c.give_name.result (λ begun. IfSome_then (g.L.Logs.standing c.args.logs.now c.args.name.now)
    (after_naming (λ bytes s. StopsEarly bytes s (g.L.Logs.standing c.give_name.new.logs c.args.name.now)) g.L.Log.Read.remaining g.L.Next.Write.contents _ c.new-reader.result _ c.new-writer.result _ c.args.dels _ _ _
    c.open_log.ensures.same c.make_next.ensures.same c.in-Ok.ensures.log c.in-Ok-make_next.ensures.empty
    (ap (λ (r : Calls g.row.L-Log.Denot). r.inner) c.new-reader.ensures) (ap (λ (w : Calls g.row.L-Next.Denot). w.inner) c.new-writer.ensures)
    c.in-Ok-answer.ensures.compacted begun) (λ s stops. inr stops)) c.give_name.ensures.begun

pub returns-in-Ok-answer-clause-device : goal.returns-in-Ok-answer-clause-device
returns-in-Ok-answer-clause-device g c =
    c.give_name.ensures.device ∙ ap (failures_after_compaction c.give_name.result)
    (both_raised (Ok tt) _ _ _ _ _
    (ap (λ (r : Calls g.row.L-Log.Denot). r.failures) c.new-reader.ensures) (ap (λ (w : Calls g.row.L-Next.Denot). w.failures) c.new-writer.ensures)
    c.in-Ok-answer.ensures.reads c.in-Ok-answer.ensures.writes ∙ c.in-Ok-make_next.ensures.device ∙ c.in-Ok.ensures.device)

pub returns-in-Err-clause-refused : goal.returns-in-Err-clause-refused
returns-in-Err-clause-refused g c = λ input.
    after_leaving (λ bytes. log_of MAX_LIMIT bytes ≡ Err c.in-Err.fault) g.L.Log.Read.remaining _ c.new-reader.result _ _ _ _
    c.open_log.ensures.same c.make_next.ensures.same c.in-Ok.ensures.log (ap (λ (r : Calls g.row.L-Log.Denot). r.inner) c.new-reader.ensures)
    (c.in-Err.ensures.refused input) c.leave_next.ensures.left
