use Rattle.std.proofs.Common.{subst}
use Rattle.rga_ops.specs.Content.{content_of}
use Rattle.rga_ops.specs.Operations.{operations}
use Rattle.rga_exchange.specs.Sending.{AreWritable}
use Rattle.rga_exchange.proofs.BegunLemmas.{begun_left, begun_whole}
use Rattle.rga_exchange.proofs.LogTextLemmas.{log_begun}
use Rattle.rga_exchange.proofs.CompactLaws.{compact_stands}
use Rattle.rga_exchange.proofs.TurnLaws.{operations_well_formed}
use Rattle.rga_exchange.proofs.compacting.compact_ops.Goals as goal

pub returns-in_err-finish-clause-begun : goal.returns-in_err-finish-clause-begun
returns-in_err-finish-clause-begun g c =
    begun_left _ _ _ _ _ _ (log_begun _ _ _ _ _ _ c.in_ok-block.ensures c.in_ok-lines.ensures.ok) c.in_err-finish.ensures.begun

-- each operation of the content can be written
writable : (g : _) (c : goal.In_ok-finish g) → AreWritable (operations (content_of c.args.ops.now))
writable g c = subst AreWritable c.requires.all (c.may_be_written.ensures (operations_well_formed (content_of c.args.ops.now) c.args.ops.now c.requires.sound c.requires.all))

pub returns-clause-stands : goal.returns-clause-stands
returns-clause-stands g c = (compact_stands (content_of c.args.ops.now) c.requires.sound (writable g c) c.args.dels).0

pub returns-clause-ended : goal.returns-clause-ended
returns-clause-ended g c = (compact_stands (content_of c.args.ops.now) c.requires.sound (writable g c) c.args.dels).1

pub returns-clause-begun : goal.returns-clause-begun
returns-clause-begun g c =
    begun_left _ _ _ _ _ _ (log_begun _ _ _ _ _ _ c.in_ok-block.ensures c.in_ok-lines.ensures.ok) c.in_ok-finish.ensures.begun

pub returns-clause-written : goal.returns-clause-written
returns-clause-written g c =
    begun_whole _ c.args.writer.now c.push_compacted.new.writer c.finish.new.writer _ _ (log_begun _ _ _ _ _ _ c.in_ok-block.ensures c.in_ok-lines.ensures.ok) c.in_ok-finish.ensures.ok
