use Rattle.std.proofs.Common.{ap, ◌∙◌}
use Rattle.std.specs.List.{filter_map}
use Rattle.rga_ops.specs.ListAnswer.{least_conflict}
use Rattle.rga_records.specs.Records.{content_of_records, first_conflicting, insertion_of_record}
use Rattle.rga_records.proofs.MergingLaws.{least_is_first}
use Rattle.rga_records.proofs.records_by_id.Records.least_conflict.Goals as goal

pub returns : goal.returns
returns c =
    c.first_conflict.ensures
    ∙ ap (λ es. first_conflicting (content_of_records c.self.inside.entries) (filter_map insertion_of_record es)) c.pages.ensures.pages
    ∙ least_is_first (content_of_records c.self.inside.entries) c.other.inside.entries c.pages.ensures.ordered
    ∙ (λ k. least_conflict (c.self.view_is k).content (c.other.view_is k).content)
