use Rattle.std.proofs.Common.{◌≡◌, ℕ, ◌≤◌, ◌+◌, ◌-◌, ◌*◌, ◌++◌, length, take, drop, sym, ap, ◌∙◌, subst}
use Rattle.std.specs.Prelude.{sum}
use Rattle.std.proofs.lemmas.List.{take_rest}
use Rattle.rga_sequence.specs.declared.groups.TheConstants.{GROUP}
use Rattle.rga_sequence.specs.Entries.{visible_ids}
use Rattle.rga_sequence.specs.Blocks.{Blocks, flat}
use Rattle.rga_sequence.proofs.GroupLaws.{range_behind}
use Rattle.rga_sequence.proofs.listing.elements.Goals as goal

pub returns : goal.returns
returns c = record {
  ok =
      let bs : Blocks = c.as_slice-2.result.now in
      let from : ℕ = c.group_with-group.result.0 * GROUP in
      let rest : ℕ = c.group_with-group.result.1 in
      let later : take (length bs - from) (drop from bs) ≡ drop from c.args.blocks.now.items = take_rest bs from ∙ ap (drop from) c.as_slice-2.ensures.value in
      c.in_ok-push_elements.ensures.ok
      ∙ ap (λ xs. xs ++ drop rest (take c.saturating_sub.result (visible_ids (flat (take (length bs - from) (drop from bs)))))) c.new-list.ensures.items
      ∙ ap (λ xs. drop rest (take c.saturating_sub.result (visible_ids (flat xs)))) later
      ∙ ap (λ n. drop rest (take n (visible_ids (flat (drop from c.args.blocks.now.items))))) c.saturating_sub.ensures
      ∙ range_behind c.args.counts.now.items c.args.blocks.now.items c.group_with-group.result.0 rest c.args.lo c.args.hi c.requires
      (subst (λ xs. c.group_with-group.result.0 ≤ length xs) c.as_slice.ensures.value c.group_with-group.ensures.within)
      (ap (λ xs. sum (take c.group_with-group.result.0 xs) + rest) (sym c.as_slice.ensures.value) ∙ c.group_with-group.ensures.rest);
}
