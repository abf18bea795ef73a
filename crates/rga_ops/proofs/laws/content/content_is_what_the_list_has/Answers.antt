use Rattle.rga_ops.proofs.OperationLaws.{inserted-iff, deleted-iff, content_of-append}
use Rattle.rga_ops.proofs.laws.content.content_is_what_the_list_has.Goals as goal

pub returns : goal.returns
returns c = record { inserted = inserted-iff; deleted = deleted-iff; in_a_row = content_of-append }
