use Rattle.std.proofs.Common.{arith}
use Rattle.rga_store.proofs.StepLaws.{inserted_within}
use Rattle.rga_store.proofs.CountedLaws.{within_limits}
use Rattle.rga_flat.proofs.reading.count_inserted.Goals as goal

pub returns-clause-few : goal.returns-clause-few
returns-clause-few c =
    omega (arith, c.inserted.ensures, c.known-known.ensures.known, c.known-known.ensures.within, inserted_within c.args.records.now.content, within_limits c.limit-limit.result c.limit-limit.ensures.range, c.limit-limit.ensures.limit)
