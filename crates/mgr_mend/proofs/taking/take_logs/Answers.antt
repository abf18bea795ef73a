use Rattle.std.proofs.Common.{[], ◌∙◌, ap, refl}
use Rattle.std.specs.Prelude.{string_bytes}
use Rattle.rga_ops.specs.Content.{clock_of}
use Rattle.mgr_show.proofs.LeftLogLemmas.{told_at, follows_more}
use Rattle.mg_buffer.specs.Following.{takes_no_operations, takes_more_operations}
use Rattle.mgr_mend.proofs.TakingLemmas.{leads_none, leads_next, leads_fault}
use Rattle.mgr_mend.proofs.MergeLemmas.{if_error}
use Rattle.mgr_mend.proofs.taking.take_logs.Goals as goal

pub loop-index-init : goal.loop-index-init
loop-index-init g c = record {
  left = leads_none c.args.adopt _ _ _ _ c.new-torn.ensures.items;
  same = λ other. refl;
  failures = refl;
  limit = refl;
  taken = record { ops = []; taken = refl; follows = takes_no_operations c.args.buffer.now };
}

pub loop-index-preserved : goal.loop-index-preserved
loop-index-preserved g c =
    let inv = c.loop-index.invariant in
    let told = g.F.Sources.contents c.args.sources.now in
    let same = inv.same c.as_str.result.now ∙ ap told c.as_str.ensures.value in
    let split = told_at told string_bytes c.args.logs.now c.loop-index.index c.index-logs-index.result c.loop-index-test.true c.index-logs-index.is in
    let at = c.clock-clock.ensures ∙ ap clock_of c.store.ensures.content in
    record {
      left = leads_next _ _ _ _ _ _ _ _ _ _ _ _ _ inv.limit at same split _ _ _ _ c.in_ok-push_torn.ensures.noted inv.left c.in_ok-read.ensures.taken;
      same = λ other. c.take_named.ensures.same other ∙ inv.same other;
      failures = c.in_ok-read.ensures.reads ∙ inv.failures;
      limit = c.take_named.ensures.limit ∙ inv.limit;
      taken = follows_more inv.limit (λ xs ys f g. takes_more_operations f g) inv.taken c.in_ok-read.ensures.follows;
    }

pub returns-in_err-read-clause-refused : goal.returns-in_err-read-clause-refused
returns-in_err-read-clause-refused g c =
    let inv = c.loop-index.invariant in
    let told = g.F.Sources.contents c.args.sources.now in
    let same = inv.same c.as_str.result.now ∙ ap told c.as_str.ensures.value in
    let split = told_at told string_bytes c.args.logs.now c.loop-index.index c.index-logs-index.result c.loop-index-test.true c.index-logs-index.is in
    let at = c.clock-clock.ensures ∙ ap clock_of c.store.ensures.content in
    if_error c.from_residual.result c.from_residual.ensures.1 (λ e is own. leads_fault _ _ _ _ _ _ _ _ _ _ _ _ _ inv.limit at same split e _ _ is inv.left c.in_err-read.ensures.refused own)
