use Rattle.std.proofs.Common.{refl, ap, ◌∙◌}
use Rattle.mg_buffer.specs.OpenState.{OpenState}
use Rattle.mgr_mend.proofs.MergeLemmas.{if_error, stops_first}
use Rattle.mgr_mend.proofs.writing.write_note.Goals as goal

pub returns-in_err-put_text-clause-begun : goal.returns-in_err-put_text-clause-begun
returns-in_err-put_text-clause-begun g c =
    if_error c.from_residual.result c.from_residual.ensures.1 (λ e is. stops_first _ _ c.args.owner c.args.beside.now c.args.opened.now is (c.name.ensures ∙ ap (λ (o : OpenState). o.buffer.name) c.opened.view_is) refl c.in-Some.ensures c.in_err-put_text.ensures.tells)
