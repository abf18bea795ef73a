use Rattle.rga_store.proofs.Prelude.{◌||◌, ap, ◌∙◌, option_or, list_any, lookup, or-false, is_id, Content, or_none}
use Rattle.std.specs.FinMap as finite_map
use Rattle.std.specs.FinSet as finite_set
use Rattle.rga_store.proofs.ElementSteps.{pair_of}
use Rattle.rga_store.proofs.answers.new_operations.new_operations_at.Goals as goal

pub pick_new-requires-clause-reached : goal.pick_new-requires-clause-reached
pick_new-requires-clause-reached g c =
    let s : Content = g.S.Taker.content c.args.store.now in
    record {
      elements = λ q.
          ap (λ es. option_or (pair_of (finite_map.get s.inserted q)) (lookup (is_id q) es)) c.new-inserted.ensures.empty
          ∙ or_none (pair_of (finite_map.get s.inserted q));
      deletions = λ q.
          ap (λ ks. finite_set.contains s.deleted q || list_any (is_id q) ks) c.new-deleted.ensures.empty
          ∙ or-false (finite_set.contains s.deleted q);
    }

pub pick_new-requires-clause-none : goal.pick_new-requires-clause-none
pick_new-requires-clause-none g c = c.new-picked.ensures.items

pub returns : goal.returns
returns g c = record { ok = c.in_ok-pick_new.ensures.ok }
