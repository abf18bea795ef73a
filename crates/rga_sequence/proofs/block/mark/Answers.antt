use Rattle.std.proofs.Common.{◌≡◌, ℕ, Bool, suc, zero, List, [], ◌∷◌, slice_index_or, slice_set, refl, ap, ◌∙◌}
use Rattle.rga_sequence.specs.declared.entry.Entry.{Entry}
use Rattle.rga_sequence.specs.Entries.{as_marked}
use Rattle.rga_sequence.specs.Blocks.{mark_at_index}
use Rattle.rga_sequence.proofs.block.mark.Goals as goal

marked : (mark : Bool) (xs : List Entry) (i : ℕ) (d : Entry) → slice_set xs i (as_marked mark (slice_index_or xs i d)) ≡ mark_at_index mark i xs
marked mark [] i d = refl
marked mark (x ∷ xs) zero d = refl
marked mark (x ∷ xs) (suc i) d = ap (λ r. x ∷ r) (marked mark xs i d)

pub returns : goal.returns
returns c =
    ap (λ e. slice_set c.args.entries.now.items c.args.index (as_marked c.args.deleted e)) c.index_mut.ensures.value
    ∙ marked c.args.deleted c.args.entries.now.items c.args.index c.index_mut.result.now
