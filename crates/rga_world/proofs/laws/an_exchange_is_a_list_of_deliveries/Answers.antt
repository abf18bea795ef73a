use Rattle.rga_exchange.proofs.MeetingLaws.{sent_is_received}
use Rattle.rga_ops.proofs.OperationsLaws.{operations_hold}
use Rattle.rga_world.proofs.ProgramLaws.{exchange_delivers, exchange_is_list}
use Rattle.rga_world.proofs.RunLaws.{reached_consistent}
use Rattle.rga_world.proofs.StoredLaws.{few_operations, reached_storable}
use Rattle.rga_world.proofs.TogetherLaws.{saved_agrees}
use Rattle.rga_world.proofs.laws.an_exchange_is_a_list_of_deliveries.Goals as goal

pub returns : goal.returns
returns c = record {
  delivered = exchange_delivers;
  whole = exchange_is_list;
  received = λ w taker giver s g reached at there fits.
      let all = reached_storable w reached in
      let stored = all.saved giver g there in
      sent_is_received w.limit g.saved s.content stored.sound (λ op m. stored.writable op (operations_hold g.saved op m)) (few_operations w.limit g.saved all.limited stored) (saved_agrees w (reached_consistent w reached) taker giver s g at there) fits;
}
