use Rattle.std.proofs.Common.{◌∙◌, ap}
use Rattle.std.specs.Prelude.{string_bytes}
use Rattle.mgr_show.proofs.LeftLogLemmas.{told_at, tells_next}
use Rattle.mgr_show.proofs.join.take_logs.Goals as goal

pub loop-index-preserved : goal.loop-index-preserved
loop-index-preserved g c =
    let inv = c.loop-index.invariant in
    let told = g.S.Sources.contents c.args.sources.now in
    let same = inv.same c.as_str.result.now ∙ ap told c.as_str.ensures.value in
    let split = told_at told string_bytes c.args.names.now c.loop-index.index c.index-names-index.result c.loop-index-test.true c.index-names-index.is in
    record {
      left = tells_next _ _ _ _ _ _ _ _ _ _ _ inv.limit same split _ _ _ inv.left c.in_default.ensures.ok c.in_default.ensures.deletion_runs;
      same = λ other. c.take_named.ensures.same other ∙ inv.same other;
      failures = c.in_default.ensures.device ∙ inv.failures;
      limit = c.take_named.ensures.limit ∙ inv.limit;
    }
