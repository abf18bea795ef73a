use Rattle.std.proofs.Common.{◌∙◌, map}
use Rattle.std.specs.List.{zip}
use Rattle.rga_ops.specs.Identifier.{Identifier}
use Rattle.mgr_show.proofs.AuthorLaws.{authored_is}
use Rattle.mgr_show.proofs.authors.authored.Goals as goal

pub returns : goal.returns
returns c = record {
  ok =
      c.in_ok-written.ensures
      ∙ (λ k. zip (map (λ (id : Identifier). id.replica) (c.deref.ensures.value k)) (c.deref-2.ensures.value k))
      ∙ (λ k. zip (map (λ (id : Identifier). id.replica) (c.in_ok-ids.ensures.elements k)) (c.in_ok-ids.ensures.characters k))
      ∙ authored_is c.args.store.now.content;
}
