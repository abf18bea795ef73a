use Rattle.std.proofs.Common.{sym, ap, ◌∙◌}
use Rattle.rga_flat.specs.Placing.{taken_out}
use Rattle.rga_flat.proofs.EntryLaws.{taken_out-push}
use Rattle.rga_flat.proofs.placing.go_back.Goals as goal

pub loop-last-preserved : goal.loop-last-preserved
loop-last-preserved c = record {
  start = ap (taken_out c.pop.new.self.items) c.take_out.ensures
      ∙ sym (taken_out-push c.pop.new.self.items c.in-Some.last c.loop-last.sequence)
      ∙ ap (λ ks. taken_out ks c.loop-last.sequence) (sym c.in-Some.ensures.items) ∙ c.loop-last.invariant.start;
}
