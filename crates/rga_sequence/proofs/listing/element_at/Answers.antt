use Rattle.std.proofs.Common.{◌≡◌, ℕ, ◌≤◌, ◌+◌, ◌-◌, ◌*◌, length, take, drop, sym, ap, ◌∙◌, subst}
use Rattle.std.specs.Prelude.{sum, slice_get}
use Rattle.std.proofs.lemmas.List.{take_rest}
use Rattle.rga_sequence.specs.declared.groups.TheConstants.{GROUP}
use Rattle.rga_sequence.specs.Entries.{visible_ids}
use Rattle.rga_sequence.specs.Blocks.{Blocks, flat}
use Rattle.rga_sequence.proofs.GroupLaws.{element_behind}
use Rattle.rga_sequence.proofs.listing.element_at.Goals as goal

pub returns : goal.returns
returns c =
    let bs : Blocks = c.as_slice-2.result.now in
    let from : ℕ = c.group_with-group.result.0 * GROUP in
    let rest : ℕ = c.group_with-group.result.1 in
    let later : take (length bs - from) (drop from bs) ≡ drop from c.args.blocks.now.items = take_rest bs from ∙ ap (drop from) c.as_slice-2.ensures.value in
    c.element_in.ensures
    ∙ ap (λ xs. slice_get (visible_ids (flat xs)) rest) later
    ∙ element_behind c.args.counts.now.items c.args.blocks.now.items c.group_with-group.result.0 rest c.args.k c.requires
    (subst (λ xs. c.group_with-group.result.0 ≤ length xs) c.as_slice.ensures.value c.group_with-group.ensures.within)
    (ap (λ xs. sum (take c.group_with-group.result.0 xs) + rest) (sym c.as_slice.ensures.value) ∙ c.group_with-group.ensures.rest)
