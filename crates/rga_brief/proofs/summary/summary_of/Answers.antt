use Rattle.rga_brief.proofs.Prelude.{[], ◌∙◌, insertions, deletions, hears_on}
use Rattle.rga_brief.proofs.summary.summary_of.Goals as goal

pub returns : goal.returns
returns g c = record {
  ok =
      let content = g.S.Taker.content c.args.store.now in
      let told = hears_on c.new-told.result c.tell_insertions.new.listener c.tell_deletions.new.listener (insertions content) (deletions content) c.in_ok-tell_insertions.ensures.ok c.in_ok-tell_deletions.ensures.ok in
      record { in_order = c.in_ok-digests.ensures.ordered; digests = λ b. c.in_ok-digests.ensures.ok b ∙ told [] c.new-told.ensures b };
}
