use Rattle.std.proofs.Common.{sym, ap, ◌∙◌}
use Rattle.std.specs.Option.{option_map}
use Rattle.std.specs.FinMap as finite_map
use Rattle.std.specs.FinSet as finite_set
use Rattle.rga_ops.specs.Content.{element, known_ids}
use Rattle.rga_pages.specs.declared.entry.Record.{Record}
use Rattle.rga_store.specs.Kept.{Kept}
use Rattle.rga_records.proofs.RecordLaws.{element_of, mark_of, element_back, inserted_at, deleted_at}
use Rattle.rga_records.proofs.records_by_id.Records.look_up.Goals as goal

pub returns-clause-facts : goal.returns-clause-facts
returns-clause-facts c = λ k. record {
  found = (ap (option_map (λ x. element x.0 x.1)) c.element.ensures ∙ element_back c.found_or_new-record.result
      ∙ c.found_or_new-record.ensures.element ∙ ap element_of c.look_up.ensures.value
      ∙ sym (inserted_at c.self.inside.entries c.self.invariant.ordered c.args.id)
      ∙ ap (λ (v : Kept). finite_map.get v.content.inserted c.args.id) c.self.view_is) k;
  deleted = (ap (λ (r : Record). r.deleted) c.record.view_is ∙ c.found_or_new-record.ensures.mark ∙ ap mark_of c.look_up.ensures.value
      ∙ sym (deleted_at c.self.inside.entries c.self.invariant.ordered c.args.id)
      ∙ ap (λ (v : Kept). finite_set.contains v.content.deleted c.args.id) c.self.view_is) k;
  known = (c.self.invariant.counted.known ∙ ap (λ (v : Kept). finite_set.len (known_ids v.content)) c.self.view_is) k;
  limit = ap (λ (v : Kept). v.limit) c.self.view_is k;
}
