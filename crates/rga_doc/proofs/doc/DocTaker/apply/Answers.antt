use Rattle.rga_doc.proofs.Prelude.{rules, ◌≡◌, sym, ◌∙◌, Ok}
use Rattle.rga_ops.specs.declared.refusal.Taken.TheVariants.{New}
use Rattle.rga_doc.proofs.doc.DocTaker.apply.Goals as goal

-- the lists are those from before the operation, which is new
pub follow_one-requires : goal.follow_one-requires
follow_one-requires g c = λ listed.
    let is_new : c.apply-answer.result ≡ Ok New = search rules in
    record {
      limit = g.S.Taker.limit c.self.inside.store;
      before = g.S.Taker.content c.self.inside.store;
      new = sym (c.apply-answer.ensures.exact (λ h. cc)) ∙ is_new;
      taken = c.apply-answer.ensures.new is_new;
      text_before = c.self.invariant.1 listed;
      deleted_at = c.index_deleted-index.ensures;
    }
