use Rattle.std.proofs.Common.{◌≤◌, ◌-◌, cond, sym, ap, ◌∙◌, subst}
use Rattle.std.specs.FinMap as finite_map
use Rattle.rga_ops.specs.Content.{Content, clock_of}
use Rattle.rga_store.specs.Kept.{Kept}
use Rattle.rga_store.specs.Without.{without_insertion}
use Rattle.rga_store.proofs.WithoutLaws.{one_inserted, one_insertion_known}
use Rattle.rga_records.specs.Records.{content_of_records}
use Rattle.rga_records.proofs.CountedLaws.{IsFound, found_there, records_without_insertion}
use Rattle.rga_records.proofs.records_by_id.Records.remove_insertion.Goals as goal

pub overflow_sub-self : goal.overflow_sub-self
overflow_sub-self c =
    let held : Content = content_of_records c.self.inside.entries in
    let its : IsFound held c.args.id = found_there held c.args.id (ap (λ (v : Kept). finite_map.contains_key v.content.inserted c.args.id) c.self.view_is ∙ c.requires.inserted) in
    one_inserted held c.self.inside.clock c.self.inside.inserted c.self.inside.known c.self.inside.limit c.self.invariant.counted c.args.id its.element its.found

pub uncount_unless-requires : goal.uncount_unless-requires
uncount_unless-requires c =
    let held : Content = content_of_records c.self.inside.entries in
    let its : IsFound held c.args.id = found_there held c.args.id (ap (λ (v : Kept). finite_map.contains_key v.content.inserted c.args.id) c.self.view_is ∙ c.requires.inserted) in
    subst (λ b. cond b 0 1 ≤ c.self.inside.known) (sym c.clear_element-deleted.ensures.deleted)
    (one_insertion_known held c.self.inside.clock c.self.inside.inserted c.self.inside.known c.self.inside.limit c.self.invariant.counted c.args.id its.element its.found)

pub invariant_of-self : goal.invariant_of-self
invariant_of-self c =
    let held : Content = content_of_records c.self.inside.entries in
    let its : IsFound held c.args.id = found_there held c.args.id (ap (λ (v : Kept). finite_map.contains_key v.content.inserted c.args.id) c.self.view_is ∙ c.requires.inserted) in
    records_without_insertion c.self.inside.entries c.clear_element-deleted.new.entries c.self.inside.clock c.self.inside.inserted c.self.inside.known c.self.inside.limit c.self.invariant
    c.clear_element-deleted.ensures.ordered c.args.id its.element c.args.clock c.uncount_unless.new.count its.found
    c.clear_element-deleted.ensures.content
    (c.requires.clock ∙ ap (λ (v : Kept). clock_of (without_insertion c.args.id v.content)) (sym c.self.view_is))
    (c.uncount_unless.ensures ∙ ap (λ b. cond b c.self.inside.known (c.self.inside.known - 1)) c.clear_element-deleted.ensures.deleted)
