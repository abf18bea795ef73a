use Rattle.std.proofs.Common.{sym, ◌∙◌, arith}
use Rattle.rga_ops.specs.Content.{content_of}
use Rattle.rga_exchange.proofs.FindingLaws.{below_up_to, none_below_from}
use Rattle.rga_exchange.proofs.finding.goes_on.Goals as goal

pub returns-clause-below : goal.returns-clause-below
returns-clause-below c below =
    below_up_to (content_of c.args.ops.now) c.args.ops.now c.requires c.args.id c.args.deletion c.args.place c.index-ops-place.result (omega arith) c.index-ops-place.is (sym c.is_below.ensures ∙ below)

pub returns-clause-behind : goal.returns-clause-behind
returns-clause-behind c other =
    none_below_from (content_of c.args.ops.now) c.args.ops.now c.requires c.args.id c.args.deletion c.args.place c.index-ops-place.result (omega arith) c.index-ops-place.is (sym c.is_below.ensures ∙ other)
