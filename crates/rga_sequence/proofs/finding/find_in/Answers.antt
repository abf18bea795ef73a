use Rattle.std.proofs.Common.{◌<◌, sym, ap, ◌∙◌, subst}
use Rattle.std.specs.List.{slice_get}
use Rattle.rga_sequence.specs.Entries.{ids}
use Rattle.rga_sequence.specs.Blocks.{Stands}
use Rattle.rga_sequence.proofs.StandLaws.{stands_in, has_there}
use Rattle.rga_sequence.proofs.finding.find_in.Goals as goal

stands : (c : goal.In_ok-index) → Stands c.args.blocks.now.items c.args.block c.in_ok-index.index c.args.id
stands c =
    stands_in c.args.blocks.now.items c.args.block c.in_ok-index.index c.args.id c.index.result.now
    (subst (λ n. c.args.block < n) c.args.blocks.now.ok.0 (subst (λ n. c.args.block < n) c.len.ensures c.if-block-len.false))
    (ap (λ xs. slice_get (ids xs) c.in_ok-index.index) (sym (c.entries.ensures.same ∙ c.index.ensures)) ∙ c.in_ok-index.ensures.some)

pub returns-clause-some : goal.returns-clause-some
returns-clause-some c = stands c

pub returns-clause-there : goal.returns-clause-there
returns-clause-there c = has_there c.args.id c.args.blocks.now.items c.args.block c.in_ok-index.index (stands c)
