use Rattle.std.proofs.Common.{refl}
use Rattle.std.proofs.lemmas.Result.{err_from_is_err_and}
use Rattle.rga_ops.proofs.CaseSteps.{on_err_always}
use Rattle.mgr_show.proofs.ShownLaws.{content_of_input, made_of_nothing, read_failed, whole_from}
use Rattle.mgr_show.proofs.CompactedLaws.{compacts, begins_to_compact}
use Rattle.mgr_show.proofs.compact.compact_log.Goals as goal

pub returns-clause-compacted : goal.returns-clause-compacted
returns-clause-compacted g c =
    let made = made_of_nothing c.in-Ok.records (c.in-Ok.ensures.made refl) in
    let content = content_of_input _ _ _ _ made.1 made.0 c.in_ok-take_whole_log.ensures.ok in
    compacts _ _ _ _ _ _ _ content c.in_ok-take_whole_log.ensures.deletion_runs c.in_ok-compact_records.ensures.stands c.in_ok-compact_records.ensures.ended c.in_ok-compact_records.ensures.written

pub returns-in_err-compact_records-clause-begun : goal.returns-in_err-compact_records-clause-begun
returns-in_err-compact_records-clause-begun g c =
    let made = made_of_nothing c.in-Ok.records (c.in-Ok.ensures.made refl) in
    let content = content_of_input _ _ _ _ made.1 made.0 c.in_ok-take_whole_log.ensures.ok in
    on_err_always c.from_residual-in_err-compact_records.result (begins_to_compact _ _ _ _ _ _ _ content c.in_ok-take_whole_log.ensures.deletion_runs c.in_err-compact_records.ensures.begun)

pub returns-in_err-take_whole_log-clause-whole_lines : goal.returns-in_err-take_whole_log-clause-whole_lines
returns-in_err-take_whole_log-clause-whole_lines g c =
    let made = made_of_nothing c.in-Ok.records (c.in-Ok.ensures.made refl) in
    λ read. whole_from made.1 made.0 (c.in_err-take_whole_log.ensures.whole_lines (read_failed c.from_residual.result _ (err_from_is_err_and c.from_residual.result c.from_residual.ensures.1) read))
