use Rattle.std.proofs.Common.{◌≡◌, ℕ, suc, ◌<◌, length, List, [], sym, ap, ◌∙◌, subst, slice_index_or, arith}
use Rattle.std.proofs.lemmas.List.{get_or_default}
use Rattle.std.specs.Prelude.{remove, slice_set}
use Rattle.rga_sequence.specs.declared.entry.Entry.{Entry}
use Rattle.rga_sequence.specs.Entries.{visible_count, without_entry, AreApart}
use Rattle.rga_sequence.specs.Blocks.{Blocks, flat, AreFilled, AreBounds, AreGroups}
use Rattle.rga_sequence.proofs.StandLaws.{index_there, without_there}
use Rattle.std.proofs.lemmas.List.Edits.{length-remove}
use Rattle.rga_pages.proofs.PartLaws.{part_gone, changed_there, filled_set, filled_remove}
use Rattle.rga_sequence.proofs.PutLaws.{apart_without}
use Rattle.rga_sequence.proofs.BlockLaws.{from_remove}
use Rattle.rga_sequence.proofs.BoundLaws.{bounds_set}
use Rattle.rga_sequence.proofs.GroupLaws.{take_remove}
use Rattle.rga_sequence.proofs.removing.remove_at.Goals as goal

-- a block of one entry goes with it
block_gone_is : (c : goal.After-forget_from) → flat c.remove.new.self.items ≡ without_entry c.args.id (flat c.args.blocks.now.items)
block_gone_is c =
    let bs : Blocks = c.args.blocks.now.items in
    let one : length (slice_index_or bs c.args.at.block c.index.result.now) ≡ 1 = sym (ap length c.index.ensures) ∙ sym c.len.ensures.len ∙ c.if-len-eq1.true in
    let first : c.args.at.index < 1 = subst (λ n. c.args.at.index < n) one (index_there bs c.args.at.block c.args.at.index c.args.id c.index.result.now c.requires.stands) in
    ap flat c.remove.ensures.items
    ∙ part_gone bs c.args.at.block c.args.at.index c.index.result.now (subst (λ n. c.args.at.block < n) c.args.blocks.now.ok.0 c.requires.block) one first
    ∙ without_there c.args.id bs c.args.at.block c.args.at.index c.requires.kept.apart c.requires.stands

pub returns-then-len-eq1-clause-gone : goal.returns-then-len-eq1-clause-gone
returns-then-len-eq1-clause-gone c = block_gone_is c

pub returns-then-len-eq1-clause-kept : goal.returns-then-len-eq1-clause-kept
returns-then-len-eq1-clause-kept c = record {
  apart = subst AreApart (sym (block_gone_is c)) (apart_without c.args.id (flat c.args.blocks.now.items) c.requires.kept.apart);
  filled = subst AreFilled (sym c.remove.ensures.items) (filled_remove c.args.blocks.now.items c.args.at.block c.requires.kept.filled);
}

pub remove-requires-2 : goal.remove-requires-2
remove-requires-2 c = subst (λ xs. c.args.at.index < length xs) (sym c.index_mut-block.ensures.value) (index_there c.args.blocks.now.items c.args.at.block c.args.at.index c.args.id c.index_mut-block.result.now c.requires.stands)

gone_is : (c : goal.After-recount) → flat (slice_set c.args.blocks.now.items c.args.at.block c.remove-2.new.self) ≡ without_entry c.args.id (flat c.args.blocks.now.items)
gone_is c =
    let bs : Blocks = c.args.blocks.now.items in
    ap (λ y. flat (slice_set bs c.args.at.block y)) (c.remove-2.ensures ∙ ap (λ y. remove y c.args.at.index) c.index_mut-block.ensures.value)
    ∙ changed_there bs c.args.at.block c.args.at.index (suc c.args.at.index) [] c.index_mut-block.result.now (subst (λ n. c.args.at.block < n) c.args.blocks.now.ok.0 c.requires.block)
    ∙ without_there c.args.id bs c.args.at.block c.args.at.index c.requires.kept.apart c.requires.stands

pub returns-clause-gone : goal.returns-clause-gone
returns-clause-gone c = gone_is c

pub returns-clause-kept : goal.returns-clause-kept
returns-clause-kept c =
    let bs : Blocks = c.args.blocks.now.items in
    let old : List Entry = c.index_mut-block.result.now in
    let there : c.args.at.index < length old = subst (λ xs. c.args.at.index < length xs) (sym c.index_mut-block.ensures.value) (index_there bs c.args.at.block c.args.at.index c.args.id old c.requires.stands) in
    let same : c.index.result.now ≡ old = c.index.ensures ∙ get_or_default bs c.args.at.block c.index.result.now old (subst (λ n. c.args.at.block < n) c.args.blocks.now.ok.0 c.requires.block) ∙ sym c.index_mut-block.ensures.value in
    let count : c.len.result ≡ length old = c.len.ensures.len ∙ ap length same in
    record {
      apart = subst AreApart (sym (gone_is c)) (apart_without c.args.id (flat bs) c.requires.kept.apart);
      filled = filled_set bs c.args.at.block c.remove-2.new.self c.requires.kept.filled
          (subst (λ xs. 0 < length xs) (sym c.remove-2.ensures) (omega (arith, length-remove old c.args.at.index there, count, c.if-len-eq1.false, there)));
    }

pub returns-then-len-eq1-clause-groups : goal.returns-then-len-eq1-clause-groups
returns-then-len-eq1-clause-groups c =
    let bs : Blocks = c.args.blocks.now.items in
    let within : c.args.at.block < length bs = subst (λ n. c.args.at.block < n) c.args.blocks.now.ok.0 c.requires.block in
    subst (AreGroups c.forget_from.new.self) (sym c.remove.ensures.items)
    (c.forget_from.ensures bs (remove bs c.args.at.block) c.requires.groups (omega (arith, within)) (take_remove bs c.args.at.block))

pub returns-clause-groups : goal.returns-clause-groups
returns-clause-groups c =
    let bs : Blocks = c.args.blocks.now.items in
    let b : ℕ = c.args.at.block in
    let within : b < length bs = subst (λ n. b < n) c.args.blocks.now.ok.0 c.requires.block in
    let now : c.remove-2.new.self ≡ remove (slice_index_or bs b []) c.args.at.index =
    c.remove-2.ensures ∙ ap (λ y. remove y c.args.at.index) (c.index_mut-block.ensures.value ∙ get_or_default bs b c.index_mut-block.result.now [] within) in
    record {
      bounds = subst (λ y. AreBounds c.args.groups.now.bounds.items (slice_set bs b y)) (sym now)
          (bounds_set c.args.groups.now.bounds.items bs b (remove (slice_index_or bs b []) c.args.at.index) c.requires.groups.bounds
          (λ k d w lo hi from. from_remove (slice_index_or c.args.groups.now.bounds.items k d) (slice_index_or bs b []) c.args.at.index from));
      counts = c.recount.ensures bs c.remove-2.new.self c.requires.groups.counts
          (c.visible_len-before.ensures.count ∙ ap visible_count (c.index_mut-block.ensures.value ∙ get_or_default bs b c.index_mut-block.result.now [] within))
          c.visible_len.ensures.count;
    }
