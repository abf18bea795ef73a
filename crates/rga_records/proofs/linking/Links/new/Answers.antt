use Rattle.std.proofs.Common.{◌++◌, ◌∷◌, [], ap, ◌∙◌}
use Rattle.rga_records.proofs.LinkedRecordLaws.{links_as, links_nothing}
use Rattle.rga_records.proofs.linking.Links.new.Goals as goal

pub returns : goal.returns
returns c = record {
  ok =
      links_as [] [] c.in_ok-with_capacity.field-0.items (0 ∷ []) c.push.new.self.items
      c.in_ok-with_capacity.ensures.items
      (c.in_ok-push.ensures.items ∙ ap (λ xs. xs ++ 0 ∷ []) c.in_ok-next.ensures.items)
      links_nothing;
}
