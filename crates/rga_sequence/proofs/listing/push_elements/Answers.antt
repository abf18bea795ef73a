use Rattle.std.proofs.Common.{◌≡◌, ◌+◌, ◌-◌, ◌++◌, List, take, drop, sym, ap, ◌∙◌, append_assoc}
use Rattle.std.proofs.lemmas.List.{append-nil}
use Rattle.rga_ops.specs.Identifier.{Identifier}
use Rattle.rga_sequence.specs.declared.entry.Entry.{Entry}
use Rattle.rga_sequence.specs.Entries.{visible_ids}
use Rattle.rga_sequence.specs.Blocks.{Blocks, flat}
use Rattle.rga_sequence.proofs.CountLaws.{range_both, none_left, rest_of, ids_both, count_ids}
use Rattle.rga_sequence.proofs.listing.push_elements.Goals as goal

pub returns-then-end-skip : goal.returns-then-end-skip
returns-then-end-skip c = record {
  ok =
      sym (append-nil c.loop-block.list.items)
      ∙ ap (λ xs. c.loop-block.list.items ++ xs) (sym (none_left c.loop-block.skip c.loop-block.end (visible_ids (flat (drop c.loop-block.block-index c.args.blocks.now))) c.if-end-skip.true))
      ∙ c.loop-block.invariant;
}

pub loop-block-preserved : goal.loop-block-preserved
loop-block-preserved c =
    let bs : Blocks = c.args.blocks.now in
    let b : List Entry = c.block-item.result in
    let later : List Identifier = visible_ids (flat (drop (c.loop-block.block-index + 1) bs)) in
    let all : visible_ids (flat (drop c.loop-block.block-index bs)) ≡ visible_ids b ++ later = ap visible_ids (rest_of bs c.loop-block.block-index b c.loop-block-test.true c.block-item.is) ∙ ids_both b (flat (drop (c.loop-block.block-index + 1) bs)) in
    ap (λ xs. xs ++ drop c.saturating_sub-skip.result (take c.saturating_sub-end.result later)) c.in_ok-push_visible.ensures.ok
    ∙ append_assoc c.loop-block.list.items (drop c.loop-block.skip (take c.loop-block.end (visible_ids b))) (drop c.saturating_sub-skip.result (take c.saturating_sub-end.result later))
    ∙ ap (λ xs. c.loop-block.list.items ++ xs) (sym (range_both (visible_ids b) later c.loop-block.skip c.loop-block.end c.saturating_sub-skip.result c.saturating_sub-end.result
    (c.saturating_sub-skip.ensures ∙ ap (λ n. c.loop-block.skip - n) (c.visible_len.ensures.count ∙ sym (count_ids b)))
    (c.saturating_sub-end.ensures ∙ ap (λ n. c.loop-block.end - n) (c.visible_len-in-loop-block.ensures.count ∙ sym (count_ids b)))))
    ∙ ap (λ xs. c.loop-block.list.items ++ drop c.loop-block.skip (take c.loop-block.end xs)) (sym all)
    ∙ c.loop-block.invariant
