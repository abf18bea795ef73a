use Rattle.std.proofs.Common.{◌≡◌, ℕ, ◌≤◌, ◌<◌, ◌+◌, length, List, [], sym, ap, ◌∙◌, subst, slice_index_or, arith}
use Rattle.std.specs.Prelude.{slice_set}
use Rattle.std.proofs.lemmas.List.{get_or_default, set-get_or}
use Rattle.rga_sequence.specs.declared.entry.Entry.{Entry}
use Rattle.rga_sequence.specs.declared.block.TheConstants.{MOST}
use Rattle.rga_sequence.specs.Entries.{visible_count}
use Rattle.rga_sequence.specs.Blocks.{Blocks, flat, insert_all, AreBounds, AreCounts}
use Rattle.rga_pages.proofs.PartLaws.{index_within, changed_there, filled_set}
use Rattle.rga_sequence.proofs.CountLaws.{length_insert}
use Rattle.rga_sequence.proofs.BoundLaws.{bounds_put}
use Rattle.rga_sequence.proofs.putting.put_in_block.Goals as goal

pub put-requires-clause-index : goal.put-requires-clause-index
put-requires-clause-index c = subst (λ xs. c.args.at.index ≤ length xs) (sym c.index_mut-block.ensures.value) (index_within c.args.blocks.now.items c.args.at.block c.args.at.index c.index_mut-block.result.now c.requires.place)

pub put-requires-clause-room : goal.put-requires-clause-room
put-requires-clause-room c = subst (λ xs. length xs + length c.args.entries.now ≤ MOST) (sym (c.index_mut-block.ensures.value ∙ get_or_default c.args.blocks.now.items c.args.at.block c.index_mut-block.result.now [] (subst (λ n. c.args.at.block < n) c.args.blocks.now.ok.0 c.requires.block))) c.requires.room

pub returns-clause-ok : goal.returns-clause-ok
returns-clause-ok c =
    ap (λ y. flat (slice_set c.args.blocks.now.items c.args.at.block y)) (c.in_ok-put.ensures.ok ∙ ap (λ y. insert_all y c.args.at.index c.args.entries.now) c.index_mut-block.ensures.value)
    ∙ changed_there c.args.blocks.now.items c.args.at.block c.args.at.index c.args.at.index c.args.entries.now c.index_mut-block.result.now (subst (λ n. c.args.at.block < n) c.args.blocks.now.ok.0 c.requires.block)

pub returns-clause-filled : goal.returns-clause-filled
returns-clause-filled c =
    let old : List Entry = c.index_mut-block.result.now in
    let more : length (insert_all old c.args.at.index c.args.entries.now) ≡ length old + length c.args.entries.now = length_insert old c.args.at.index c.args.entries.now in
    filled_set c.args.blocks.now.items c.args.at.block c.put.new.self c.requires.filled
    (subst (λ xs. 0 < length xs) (sym c.in_ok-put.ensures.ok) (omega (arith, more, c.requires.some)))

pub returns-clause-groups : goal.returns-clause-groups
returns-clause-groups c =
    let bs : Blocks = c.args.blocks.now.items in
    let b : ℕ = c.args.at.block in
    let within : b < length bs = subst (λ n. b < n) c.args.blocks.now.ok.0 c.requires.block in
    let put : c.put.new.self ≡ insert_all (slice_index_or bs b []) c.args.at.index c.args.entries.now =
    c.in_ok-put.ensures.ok ∙ ap (λ y. insert_all y c.args.at.index c.args.entries.now) (c.index_mut-block.ensures.value ∙ get_or_default bs b c.index_mut-block.result.now [] within) in
    record {
      bounds = subst (λ y. AreBounds c.lower.new.bounds.items (slice_set bs b y)) (sym put)
          (bounds_put c.lower.new.bounds.items bs b c.args.at.index c.least_of.result c.args.entries.now (c.lower.ensures.kept bs c.requires.groups.bounds) c.least_of.ensures c.lower.ensures.low);
      counts = c.recount.ensures bs c.put.new.self c.requires.groups.counts
          (c.visible_len-before.ensures.count ∙ ap visible_count (c.index_mut-block.ensures.value ∙ get_or_default bs b c.index_mut-block.result.now [] within))
          c.visible_len.ensures.count;
    }

pub returns-in_err-put-clause-groups : goal.returns-in_err-put-clause-groups
returns-in_err-put-clause-groups c =
    let bs : Blocks = c.args.blocks.now.items in
    let b : ℕ = c.args.at.block in
    let same : slice_set bs b c.put.new.self ≡ bs = ap (slice_set bs b) (c.in_err-put.ensures.err ∙ c.index_mut-block.ensures.value) ∙ set-get_or bs b c.index_mut-block.result.now in
    record {
      bounds = subst (AreBounds c.lower.new.bounds.items) (sym same) (c.lower.ensures.kept bs c.requires.groups.bounds);
      counts = subst (AreCounts c.args.groups.now.counts.items) (sym same) c.requires.groups.counts;
    }
