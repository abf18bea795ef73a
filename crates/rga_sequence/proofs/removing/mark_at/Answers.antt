use Rattle.std.proofs.Common.{◌≡◌, ℕ, ◌<◌, length, List, [], sym, ap, ◌∙◌, subst, slice_index_or, arith}
use Rattle.std.proofs.lemmas.List.{get_or_default}
use Rattle.std.specs.Prelude.{slice_set}
use Rattle.rga_sequence.specs.declared.entry.Entry.{Entry}
use Rattle.rga_sequence.specs.Entries.{visible_count, mark_entry, AreApart}
use Rattle.rga_sequence.specs.Blocks.{Blocks, flat, mark_at_index, AreBounds}
use Rattle.rga_sequence.proofs.StandLaws.{index_there, marked_there}
use Rattle.rga_sequence.proofs.CountLaws.{length_marked}
use Rattle.rga_pages.proofs.PartLaws.{filled_set}
use Rattle.rga_sequence.proofs.PutLaws.{apart_marked}
use Rattle.rga_sequence.proofs.BlockLaws.{from_marked}
use Rattle.rga_sequence.proofs.BoundLaws.{bounds_set}
use Rattle.rga_sequence.proofs.removing.mark_at.Goals as goal

pub mark-requires : goal.mark-requires
mark-requires c = subst (λ xs. c.args.at.index < length xs) (sym c.index_mut-block.ensures.value) (index_there c.args.blocks.now.items c.args.at.block c.args.at.index c.args.id c.index_mut-block.result.now c.requires.stands)

marked_is : (c : goal.After-recount) → flat (slice_set c.args.blocks.now.items c.args.at.block c.mark.new.self) ≡ mark_entry c.args.deleted c.args.id (flat c.args.blocks.now.items)
marked_is c =
    let bs : Blocks = c.args.blocks.now.items in
    ap (λ y. flat (slice_set bs c.args.at.block y)) (c.mark.ensures ∙ ap (mark_at_index c.args.deleted c.args.at.index) c.index_mut-block.ensures.value)
    ∙ marked_there c.args.deleted c.args.id bs c.args.at.block c.args.at.index c.index_mut-block.result.now c.requires.kept.apart c.requires.stands

pub returns-clause-marked : goal.returns-clause-marked
returns-clause-marked c = marked_is c

pub returns-clause-kept : goal.returns-clause-kept
returns-clause-kept c =
    let bs : Blocks = c.args.blocks.now.items in
    let old : List Entry = c.index_mut-block.result.now in
    let there : c.args.at.index < length old = subst (λ xs. c.args.at.index < length xs) (sym c.index_mut-block.ensures.value) (index_there bs c.args.at.block c.args.at.index c.args.id old c.requires.stands) in
    record {
      apart = subst AreApart (sym (marked_is c)) (apart_marked c.args.deleted c.args.id (flat bs) c.requires.kept.apart);
      filled = filled_set bs c.args.at.block c.mark.new.self c.requires.kept.filled
          (subst (λ xs. 0 < length xs) (sym c.mark.ensures) (omega (arith, length_marked c.args.deleted old c.args.at.index, there)));
    }

pub returns-clause-groups : goal.returns-clause-groups
returns-clause-groups c =
    let bs : Blocks = c.args.blocks.now.items in
    let b : ℕ = c.args.at.block in
    let within : b < length bs = subst (λ n. b < n) c.args.blocks.now.ok.0 c.requires.block in
    let now : c.mark.new.self ≡ mark_at_index c.args.deleted c.args.at.index (slice_index_or bs b []) =
    c.mark.ensures ∙ ap (mark_at_index c.args.deleted c.args.at.index) (c.index_mut-block.ensures.value ∙ get_or_default bs b c.index_mut-block.result.now [] within) in
    record {
      bounds = subst (λ y. AreBounds c.args.groups.now.bounds.items (slice_set bs b y)) (sym now)
          (bounds_set c.args.groups.now.bounds.items bs b (mark_at_index c.args.deleted c.args.at.index (slice_index_or bs b [])) c.requires.groups.bounds
          (λ k d w lo hi from. from_marked c.args.deleted (slice_index_or c.args.groups.now.bounds.items k d) (slice_index_or bs b []) c.args.at.index from));
      counts = c.recount.ensures bs c.mark.new.self c.requires.groups.counts
          (c.visible_len-before.ensures.count ∙ ap visible_count (c.index_mut-block.ensures.value ∙ get_or_default bs b c.index_mut-block.result.now [] within))
          c.visible_len.ensures.count;
    }
