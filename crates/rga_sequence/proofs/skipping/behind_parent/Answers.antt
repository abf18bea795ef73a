use Rattle.std.proofs.Common.{◌<◌, sym, ◌∙◌, subst}
use Rattle.rga_sequence.proofs.PlaceLaws.{front_place}
use Rattle.rga_sequence.proofs.StandLaws.{place_behind, change_there, change_at_front}
use Rattle.rga_sequence.proofs.skipping.behind_parent.Goals as goal

pub returns-then-eq-clause-place : goal.returns-then-eq-clause-place
returns-then-eq-clause-place c = front_place c.args.blocks.now.items 0 (subst (λ n. 0 < n) c.args.blocks.now.ok.0 c.requires.some)

pub returns-then-eq-clause-behind : goal.returns-then-eq-clause-behind
returns-then-eq-clause-behind c = λ f. change_at_front c.args.parent f c.args.blocks.now.items (sym c.eq.ensures ∙ c.if-eq.true) (subst (λ n. 0 < n) c.args.blocks.now.ok.0 c.requires.some)

pub returns-clause-place : goal.returns-clause-place
returns-clause-place c = place_behind c.args.blocks.now.items c.in-Some.field-0.block c.in-Some.field-0.index c.args.parent c.in-Some.ensures.some

pub returns-clause-behind : goal.returns-clause-behind
returns-clause-behind c = λ f. change_there c.args.parent f c.args.blocks.now.items c.in-Some.field-0.block c.in-Some.field-0.index (sym c.eq.ensures ∙ c.if-eq.false) c.requires.kept.apart c.in-Some.ensures.some
