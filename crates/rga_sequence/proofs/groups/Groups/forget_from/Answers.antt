use Rattle.std.proofs.Common.{ℕ, ◌≤◌, ◌*◌, ◌/◌, take, sym, subst}
use Rattle.std.proofs.Math.Nat.{div-mul-le_self}
use Rattle.rga_sequence.specs.declared.groups.TheConstants.{GROUP}
use Rattle.rga_sequence.specs.Blocks.{AreBlocksFrom, AreBounds, AreCounts}
use Rattle.rga_sequence.proofs.BoundLaws.{bounds_below}
use Rattle.rga_sequence.proofs.GroupLaws.{taken_early, notes_taken, counts_taken, counts_below}
use Rattle.rga_sequence.proofs.groups.Groups.forget_from.Goals as goal

pub returns : goal.returns
returns c = λ bs cs all w same.
    let n : ℕ = c.args.block / GROUP in
    let early : n * GROUP ≤ c.args.block = div-mul-le_self c.args.block GROUP in
    record {
      bounds = subst (λ xs. AreBounds xs cs) (sym c.truncate.ensures.items)
          (bounds_below (take n c.args.self.now.bounds.items) bs cs c.args.block
          (notes_taken AreBlocksFrom n c.args.self.now.bounds.items bs all.bounds) (taken_early n c.args.block c.args.self.now.bounds.items early) same);
      counts = subst (λ xs. AreCounts xs cs) (sym c.truncate-2.ensures.items)
          (counts_below (take n c.args.self.now.counts.items) bs cs c.args.block
          (counts_taken n c.args.self.now.counts.items bs all.counts) (taken_early n c.args.block c.args.self.now.counts.items early) w same);
    }
