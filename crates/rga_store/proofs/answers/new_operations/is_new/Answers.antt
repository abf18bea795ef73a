use Rattle.rga_store.proofs.Prelude.{sym, ap, ◌∙◌, subst, join, single, get-deletion, on_ok_map, Reaches}
use Rattle.rga_store.proofs.ElementSteps.{pair_of}
use Rattle.rga_store.proofs.StepLaws.{deleted_then}
use Rattle.rga_store.proofs.answers.new_operations.is_new.Goals as goal

pub returns-in-Insert-clause-added : goal.returns-in-Insert-clause-added
returns-in-Insert-clause-added g c =
    on_ok_map c.insertion_is_new.result
    (λ added d reached. subst (λ op. Reaches (g.S.Taker.content c.args.store.now) c.insertion_is_new.new.added c.args.deleted.now (join d (single op))) (sym c.in-Insert.is) (record {
      elements = added d reached.elements;
      deletions = λ q. reached.deletions q ∙ sym (deleted_then d c.in-Insert.id c.in-Insert.parent c.in-Insert.ch q);
    }))
    c.insertion_is_new.ensures.added

pub returns-in-Delete-clause-added : goal.returns-in-Delete-clause-added
returns-in-Delete-clause-added g c =
    on_ok_map c.deletion_is_new.result
    (λ added d reached. subst (λ op. Reaches (g.S.Taker.content c.args.store.now) c.args.inserted.now c.deletion_is_new.new.added (join d (single op))) (sym c.in-Delete.is) (record {
      elements = λ q. reached.elements q ∙ ap pair_of (sym (get-deletion d c.in-Delete.id q));
      deletions = added d reached.deletions;
    }))
    c.deletion_is_new.ensures.added
