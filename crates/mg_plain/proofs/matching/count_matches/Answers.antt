use Rattle.std.proofs.Common.{sym}
use Rattle.mg_plain.proofs.ReplacementLaws.{counting_done, counting_on, counting_start, has_some}
use Rattle.mg_plain.proofs.matching.count_matches.Goals as goal

pub loop-i-init : goal.loop-i-init
loop-i-init c = counting_start c.args.pattern.now c.args.text.now c.args.start c.if-start-text.false

pub loop-i-preserved : goal.loop-i-preserved
loop-i-preserved c = counting_on c.args.pattern.now c.args.text.now c.args.start c.loop-i.count c.loop-i.end c.in-Some.i c.loop-i.invariant (sym c.in-Some.ensures.first) c.in-Some.ensures.behind c.in-Some.ensures.within (has_some c.args.pattern.now (sym c.if-is_empty.ensures))

pub returns : goal.returns
returns c = counting_done c.args.pattern.now c.args.text.now c.args.start c.loop-i.count c.loop-i.end c.loop-i.invariant (sym c.in_default.ensures.first) (has_some c.args.pattern.now (sym c.if-is_empty.ensures))
