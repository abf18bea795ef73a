use Rattle.std.proofs.Common.{◌<◌, sym, ap, ◌∙◌, subst}
use Rattle.std.specs.List.{slice_get}
use Rattle.rga_sequence.specs.Entries.{ids}
use Rattle.rga_sequence.specs.Blocks.{Stands}
use Rattle.rga_sequence.proofs.StandLaws.{stands_in, has_there}
use Rattle.rga_sequence.proofs.finding.find_at.Goals as goal

stands : (c : goal.Then-is_at) → Stands c.args.blocks.now.items c.args.at.block c.args.at.index c.args.id
stands c =
    stands_in c.args.blocks.now.items c.args.at.block c.args.at.index c.args.id c.index.result.now
    (subst (λ n. c.args.at.block < n) c.args.blocks.now.ok.0 (subst (λ n. c.args.at.block < n) c.len.ensures c.if-at-len.false))
    (ap (λ xs. slice_get (ids xs) c.args.at.index) (sym (c.entries.ensures.same ∙ c.index.ensures)) ∙ c.is_at.ensures.there c.if-is_at.true)

pub returns-then-is_at-clause-some : goal.returns-then-is_at-clause-some
returns-then-is_at-clause-some c = stands c

pub returns-then-is_at-clause-there : goal.returns-then-is_at-clause-there
returns-then-is_at-clause-there c = has_there c.args.id c.args.blocks.now.items c.args.at.block c.args.at.index (stands c)
