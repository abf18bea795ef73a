use Rattle.std.proofs.Common.{◌<◌, sym, ◌∙◌, subst}
use Rattle.rga_sequence.specs.Entries.{IsPart}
use Rattle.rga_sequence.specs.Blocks.{flat}
use Rattle.rga_sequence.proofs.PutLaws.{part_of}
use Rattle.rga_sequence.proofs.finding.entries_of.Goals as goal

pub returns : goal.returns
returns c =
    subst (λ xs. IsPart xs (flat c.args.blocks.now.items)) (sym (c.entries.ensures.same ∙ c.index.ensures))
    (part_of c.args.blocks.now.items c.args.block c.index.result.now (subst (λ n. c.args.block < n) c.args.blocks.now.ok.0 (subst (λ n. c.args.block < n) c.len.ensures c.if-block-len.false)))
