-- What is counted of a content.
use Rattle.std.specs.Prelude.{◌≡◌, [], length}
use Rattle.rga_ops.specs.Content.{Content}
use Rattle.rga_ops.specs.Operations.{insertions, deletions, operations}
use Rattle.rga_ops.specs.Order.{waiting}
use Rattle.rga_ops.specs.Places.{visible}
use Rattle.mgr_show.specs.Tallies.{and_tallies}
use Rattle.mgr_show.specs.declared.counts.Counts.{Counts}

-- its operations, which of them are insertions and which deletions, how many elements are visible and how many wait, and what each replica inserted
pub record AreCounts (n : Counts) (c : Content) : Type 0 where
  pub tallies : n.tallies.entries ≡ and_tallies [] (operations c)
  pub operations : n.operations ≡ length (operations c)
  pub insertions : n.insertions ≡ length (insertions c)
  pub deletions : n.deletions ≡ length (deletions c)
  pub visible : n.visible ≡ length (visible c)
  pub waiting : n.waiting ≡ length (waiting c)
