use Rattle.rga_brief.proofs.Prelude.{ap, ◌∙◌, Lacking, lacks_on}
use Rattle.rga_brief.proofs.MissingLaws.{missing_kept}
use Rattle.rga_brief.proofs.lacks.missing.Goals as goal

pub returns : goal.returns
returns g c = record {
  ok =
      ap (λ (l : Lacking). l.ops) c.lacked-2.view_is
      ∙ missing_kept (g.S.Taker.content c.args.store.now) c.in_ok-own.own c.args.summary.now c.new-lacked.result c.tell_deletions.new.listener c.in_ok-own.ensures.ok c.new-lacked.ensures
      (lacks_on c.in_ok-tell_insertions.ensures.ok c.in_ok-tell_deletions.ensures.ok);
}
