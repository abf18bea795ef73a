use Rattle.std.proofs.Common.{◌≡◌, ◌+◌, ◌-◌, length, take, drop, refl, sym, ap, ◌∙◌, true≢false, inl, inr, arith, length-drop}
use Rattle.std.proofs.lemmas.List.{take_rest}
use Rattle.rga_ops.specs.Answer.{taken_one_by_one}
use Rattle.rga_store.specs.Back.{without_noted}
use Rattle.rga_flat.proofs.WaitingLaws.{none_done, listed_none, unlisted_done}
use Rattle.rga_flat.proofs.FlatLaws.{based_self, flat_marked, flat_cleared}
use Rattle.rga_flat.proofs.ChainLaws.{list_later}
use Rattle.rga_flat.proofs.whole_list.take_whole.Goals as goal

pub loop-index-init : goal.loop-index-init
loop-index-init c = record {
  within = omega arith;
  limit = refl;
  rest = refl;
  back = rw c.in_ok-steps.ensures.items tt;
  start = ap (λ ss. without_noted ss c.args.records.now.content) c.in_ok-steps.ensures.items;
  flat = flat_marked _ _ _ _ _ (λ p. sym (listed_none c.args.waiting.now c.new-done.result c.new-done.ensures.empty p)) c.requires;
  based = based_self _ _ _ _ c.requires;
  listed = λ p t. absurd (true≢false (sym t ∙ none_done c.new-done.result c.new-done.ensures.empty p));
  inserted = λ p t. absurd (true≢false (sym t ∙ none_done c.new-done.result c.new-done.ensures.empty p));
}

pub loop-index-preserved : goal.loop-index-preserved
loop-index-preserved c =
    let whole : length (take (length c.args.ops.now - c.loop-index.index) (drop c.loop-index.index c.args.ops.now)) ≡ length (drop c.loop-index.index c.args.ops.now) = ap length (take_rest c.args.ops.now c.loop-index.index) in
    record {
      within = omega (arith, whole, length-drop c.loop-index.index c.args.ops.now, c.in-Ok.ensures.within, c.loop-index-test.true);
      limit = c.take_next.ensures.limit ∙ c.loop-index.invariant.limit;
      rest =
          ap (λ n. taken_one_by_one n c.take_next.new.records.content (drop (c.loop-index.index + c.in-Ok.count) c.args.ops.now)) c.take_next.ensures.limit
          ∙ list_later c.loop-index.records.limit c.loop-index.records.content c.take_next.new.records.content c.args.ops.now c.loop-index.index c.in-Ok.count c.in-Ok.ensures.ok
          ∙ c.loop-index.invariant.rest;
      back = c.take_next.ensures.steps;
      start = c.take_next.ensures.start ∙ c.loop-index.invariant.start;
      flat = c.in-Ok.ensures.flat;
      based = c.take_next.ensures.based c.args.records.now.content c.loop-index.invariant.based;
      listed = λ p t. elim (c.take_next.ensures.settles.within p t) [
        | inl old ↦ c.take_next.ensures.lists p (c.loop-index.invariant.listed p old)
        | inr has ↦ c.take_next.ensures.lists p has
      ];
      inserted = c.in-Ok.ensures.inserted;
    }

pub go_back-requires-clause-returnable : goal.go_back-requires-clause-returnable
go_back-requires-clause-returnable c =
    rw (c.take_next.ensures.start, c.loop-index.invariant.start) (record {
      settled = c.loop-index.done;
      flat = c.in-Err.ensures.left;
      more = c.take_next.ensures.settles.grows;
      listed = λ p t. elim (c.take_next.ensures.settles.within p t) [
        | inl old ↦ c.take_next.ensures.lists p (c.loop-index.invariant.listed p old)
        | inr has ↦ c.take_next.ensures.lists p has
      ];
      based = c.take_next.ensures.based c.args.records.now.content c.loop-index.invariant.based;
    })

pub returns-clause-flat : goal.returns-clause-flat
returns-clause-flat c =
    flat_cleared _ _ _ _ _ _ _ c.loop-index.invariant.flat c.loop-index.invariant.inserted (unlisted_done c.loop-index.waiting c.loop-index.done) c.clear_lists.ensures.under c.clear_lists.ensures.lists
