use Rattle.rga_sequence.proofs.IdLaws.{ids_put, ids_without, ids_marked}
use Rattle.rga_sequence.proofs.laws.identifiers_follow_their_entries.Goals as goal

pub returns : goal.returns
returns c = record { put = ids_put; taken_out = ids_without; marked = ids_marked }
