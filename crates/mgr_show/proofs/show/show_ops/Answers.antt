use Rattle.std.proofs.Common.{◌∙◌, refl}
use Rattle.std.proofs.lemmas.Result.{on_ok_weaker, err_from_is_err_and}
use Rattle.rga_ops.proofs.CaseSteps.{on_err_always}
use Rattle.mgr_show.proofs.ShownLaws.{content_of_input, made_of_nothing, shows, begins_to_show, read_failed, whole_from}
use Rattle.mgr_show.proofs.show.show_ops.Goals as goal

pub returns-clause-shown : goal.returns-clause-shown
returns-clause-shown g c =
    let made = made_of_nothing c.in-Ok.records (c.in-Ok.ensures.made refl) in
    let content = content_of_input _ _ _ _ made.1 made.0 c.in_ok-take_whole_log.ensures.ok in
    on_ok_weaker c.write_text.result (λ written. shows _ _ c.args.writer.now c.write_text.new.writer _ _ content (c.as_str.ensures.value ∙ c.in_ok-text.ensures.ok) written) c.write_text.ensures.written

pub returns-clause-begun : goal.returns-clause-begun
returns-clause-begun g c =
    let made = made_of_nothing c.in-Ok.records (c.in-Ok.ensures.made refl) in
    let content = content_of_input _ _ _ _ made.1 made.0 c.in_ok-take_whole_log.ensures.ok in
    on_err_always c.write_text.result (begins_to_show _ _ _ _ _ _ content (c.as_str.ensures.value ∙ c.in_ok-text.ensures.ok) c.write_text.ensures.begun)

pub returns-in_err-take_whole_log-clause-whole_lines : goal.returns-in_err-take_whole_log-clause-whole_lines
returns-in_err-take_whole_log-clause-whole_lines g c =
    let made = made_of_nothing c.in-Ok.records (c.in-Ok.ensures.made refl) in
    λ read. whole_from made.1 made.0 (c.in_err-take_whole_log.ensures.whole_lines (read_failed c.from_residual.result _ (err_from_is_err_and c.from_residual.result c.from_residual.ensures.1) read))
