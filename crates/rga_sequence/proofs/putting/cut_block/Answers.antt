use Rattle.std.proofs.Common.{◌≡◌, ◌<◌, ◌+◌, length, take, drop, sym, ap, ◌∙◌, subst, slice_index_or, arith}
use Rattle.std.specs.Prelude.{insert, slice_set, []}
use Rattle.rga_sequence.specs.Blocks.{Blocks, AreFilled, AreGroups, cut_in}
use Rattle.rga_pages.proofs.PartLaws.{halved, filled_cut}
use Rattle.rga_sequence.proofs.GroupLaws.{take_cut}
use Rattle.rga_sequence.proofs.putting.cut_block.Goals as goal

-- the blocks are as they are to be
cut : (c : goal.After-forget_from) → slice_set c.insert.new.self.items c.args.block c.cut.new.self ≡ cut_in c.args.blocks.now.items c.args.block c.args.cut
cut c =
    let bs : Blocks = c.args.blocks.now.items in
    let put : c.insert.new.self.items ≡ insert bs (c.args.block + 1) (drop c.args.cut (slice_index_or bs c.args.block c.index-3.result.now)) = c.in_ok-insert.ensures.items ∙ ap (insert bs (c.args.block + 1)) (c.in_ok-tail.ensures.ok ∙ ap (drop c.args.cut) c.index-3.ensures) in
    ap (λ y. slice_set c.insert.new.self.items c.args.block y) (c.cut.ensures ∙ ap (λ y. take c.args.cut y) c.index_mut.ensures.value)
    ∙ ap (λ zs. slice_set zs c.args.block (take c.args.cut (slice_index_or zs c.args.block c.index_mut.result.now))) put
    ∙ halved bs c.args.block c.args.cut c.index-3.result.now c.index_mut.result.now (subst (λ n. c.args.block < n) c.args.blocks.now.ok.0 c.requires.block)

pub returns-clause-ok : goal.returns-clause-ok
returns-clause-ok c = cut c

pub returns-clause-filled : goal.returns-clause-filled
returns-clause-filled c = subst AreFilled (sym (cut c)) (filled_cut c.args.blocks.now.items c.args.block c.args.cut [] c.requires.filled c.requires.first c.requires.second)

pub returns-clause-groups : goal.returns-clause-groups
returns-clause-groups c =
    let bs : Blocks = c.args.blocks.now.items in
    let within : c.args.block < length bs = subst (λ n. c.args.block < n) c.args.blocks.now.ok.0 c.requires.block in
    subst (AreGroups c.forget_from.new.self) (sym (cut c)) (c.forget_from.ensures bs (cut_in bs c.args.block c.args.cut) c.requires.groups (omega (arith, within)) (take_cut bs c.args.block c.args.cut))

pub returns-in_err-insert-clause-groups : goal.returns-in_err-insert-clause-groups
returns-in_err-insert-clause-groups c = subst (AreGroups c.args.groups.now) (sym c.in_err-insert.ensures.items) c.requires.groups
