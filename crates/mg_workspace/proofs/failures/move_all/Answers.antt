use Rattle.std.proofs.Common.{arith, ◌≡◌, ◌∙◌, ◌<◌, List, length, get_or, ap, slice_index_or, slice_set}
use Rattle.std.proofs.lemmas.List.{length-set}
use Rattle.std.proofs.lemmas.List.Edits.{map_over_more}
use Rattle.mg_workspace.specs.Failures.{moved_failed}
use Rattle.mg_workspace.specs.declared.failures.Failed.{Failed}
use Rattle.mg_workspace.proofs.FailureLaws.{refilled}
use Rattle.mg_workspace.proofs.failures.move_all.Goals as goal

pub loop-index-preserved : goal.loop-index-preserved
loop-index-preserved c =
    let old : List Failed = c.args.standing.now.items in
    let now : List Failed = c.loop-index.standing.items in
    let i = c.loop-index.index in
    let x = c.index-as_slice-index.result in
    let inside : i < length old = omega (arith, c.loop-index-test.true, ap length c.as_slice-index-end.ensures.value) in
    let read : x ≡ get_or now i x = c.index-as_slice-index.is ∙ ap (λ (ys : List Failed). slice_index_or ys i x) c.as_slice.ensures.value in
    let put : slice_set c.deref_mut.result.now i c.moved_failed.result ≡ slice_set now i (moved_failed c.args.gone x) =
    λ k. slice_set (c.deref_mut.ensures.value k) i (c.moved_failed.ensures k) in
    let count = length-set c.deref_mut.result.now i c.moved_failed.result ∙ ap length c.deref_mut.ensures.value in
    refilled now (slice_set c.deref_mut.result.now i c.moved_failed.result) count ∙ put
    ∙ map_over_more (moved_failed c.args.gone) old now i x inside c.loop-index.invariant read
