use Rattle.rga_store.proofs.TakingLaws.{one_taken}
use Rattle.rga_records.proofs.taker.RecordsTaker.apply.Goals as goal

pub returns-clause-took : goal.returns-clause-took
returns-clause-took c = one_taken c.args.self.now.limit c.args.self.now.content _ c.args.op c.take_op.result c.take_op.ensures.exact c.take_op.ensures.new c.take_op.ensures.same
