use Rattle.std.proofs.Common.{◌∙◌, sym, arith}
use Rattle.rga_ops.specs.Content.{content_of}
use Rattle.rga_exchange.proofs.GoingOnLemmas.{counted_first, counted_next, counted_whole, counted_full, found_none_deleted}
use Rattle.rga_exchange.proofs.compacting.deletions_from.Goals as goal

pub deletions-init : goal.deletions-init
deletions-init c = counted_first (content_of c.args.ops.now) c.args.most c.args.id c.requires.some c.requires.within

pub deletions-preserved : goal.deletions-preserved
deletions-preserved c = counted_next (content_of c.args.ops.now) c.args.most c.args.id c.deletions.count c.deletions.last _ c.deletions.invariant (omega arith) c.in-Some.ensures

pub next_deleted-requires-clause-within : goal.next_deleted-requires-clause-within
next_deleted-requires-clause-within c = c.deletions.invariant.within

pub returns-in_default-clause-count : goal.returns-in_default-clause-count
returns-in_default-clause-count c =
    counted_whole (content_of c.args.ops.now) c.args.most c.args.id c.deletions.count c.deletions.last c.deletions.invariant (
    found_none_deleted (content_of c.args.ops.now) c.deletions.last (sym c.in_default.is ∙ c.next_deleted.ensures))

pub returns-in_default-clause-few : goal.returns-in_default-clause-few
returns-in_default-clause-few c = c.deletions.invariant.room

pub returns-after-deletions-clause-count : goal.returns-after-deletions-clause-count
returns-after-deletions-clause-count c = counted_full (content_of c.args.ops.now) c.args.most c.args.id c.deletions.count c.deletions.last c.deletions.invariant (omega arith)

pub returns-after-deletions-clause-few : goal.returns-after-deletions-clause-few
returns-after-deletions-clause-few c = c.deletions.invariant.room
