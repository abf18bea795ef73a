use Rattle.std.proofs.Common.{◌≡◌, ◌≤◌, ◌<◌, ◌++◌, List, length, slice_index_or, ap, ◌∙◌, subst, arith}
use Rattle.rga_sequence.specs.declared.entry.Entry.{Entry}
use Rattle.rga_sequence.specs.Blocks.{Blocks, before, behind}
use Rattle.rga_pages.proofs.PartLaws.{index_within, own_behind}
use Rattle.rga_sequence.proofs.PutLaws.{own_front}
use Rattle.rga_sequence.proofs.putting.own_block.Goals as goal

pub returns-then-count-len-clause-there : goal.returns-then-count-len-clause-there
returns-then-count-len-clause-there c = λ es.
    let bs : Blocks = c.args.blocks.now.items in
    let d : List Entry = c.index.result.now in
    let within : c.args.at.block < length bs = subst (λ n. c.args.at.block < n) c.args.blocks.now.ok.0 c.requires.block in
    let count : length d ≡ length (slice_index_or bs c.args.at.block d) = ap length c.index.ensures in
    let most : c.args.at.index ≤ length (slice_index_or bs c.args.at.block d) = index_within bs c.args.at.block c.args.at.index d c.requires.place in
    let end : length (slice_index_or bs c.args.at.block d) ≡ c.args.at.index = omega (arith, count, most, c.len-len.ensures.len, c.if-at-len.true) in
    own_behind bs c.args.at.block c.args.at.index es d within end

pub returns-clause-there : goal.returns-clause-there
returns-clause-there c = λ es.
    let bs : Blocks = c.args.blocks.now.items in
    let within : c.args.at.block < length bs = subst (λ n. c.args.at.block < n) c.args.blocks.now.ok.0 c.requires.block in
    let front : 0 ≡ c.args.at.index = omega (arith, c.if-at-gt0.false) in
    own_front bs c.args.at.block es within ∙ ap (λ i. before bs c.args.at.block i ++ (es ++ behind bs c.args.at.block i)) front
