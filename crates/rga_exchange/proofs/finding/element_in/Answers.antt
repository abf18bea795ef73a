use Rattle.std.proofs.Common.{◌∙◌, arith}
use Rattle.rga_ops.specs.Content.{content_of}
use Rattle.rga_exchange.proofs.FindingLaws.{told, none_told}
use Rattle.rga_exchange.proofs.finding.element_in.Goals as goal

pub returns-then-place-ops : goal.returns-then-place-ops
returns-then-place-ops c = none_told (content_of c.args.ops.now) c.args.ops.now c.requires c.args.id c.place_of-place.result c.place_of-place.ensures (omega arith)

pub returns : goal.returns
returns c =
    c.element_of.ensures
    ∙ told (content_of c.args.ops.now) c.args.ops.now c.requires c.args.id c.place_of-place.result c.index-ops-place.result c.place_of-place.ensures (omega arith) c.index-ops-place.is
