use Rattle.rga_ops.proofs.SkipLaws.{order-skip}
use Rattle.rga_ops.proofs.NewestLaws.{order-newest}
use Rattle.rga_ops.proofs.laws.order.an_insertion_goes_to_its_place.Goals as goal

pub returns : goal.returns
returns c = record { skip_rule = order-skip; newest = λ c id parent ch newer. order-newest c id newer parent ch }
