use Rattle.std.proofs.Common.{◌≡◌, ◌∷◌, ◌++◌, take, decimal}
use Rattle.rga_lines.proofs.AddedLemmas.{deletion_put}
use Rattle.rga_lines.proofs.speller.Speller.put_deletion.Goals as goal

pub returns-clause-put : goal.returns-clause-put
returns-clause-put c =
    let id = c.args.id.now in
    let start = take c.args.at c.args.bytes.now in
    let named : take c.put-at.result c.put-at.new.bytes ≡ start ++ (c.self.inside.deleted ++ decimal id.counter) = rw c.counter.ensures.value at c.put-at.ensures.put in
    let by : take c.put_replica-at.result c.put_replica-at.new.bytes ≡ take c.put-at.result c.put-at.new.bytes ++ 44 ∷ decimal id.replica = rw c.replica.ensures at c.put_replica-at.ensures.put in
    deletion_put start (take c.put-at.result c.put-at.new.bytes) (take c.put_replica-at.result c.put_replica-at.new.bytes) (take c.put_array.result c.put_array.new.bytes) c.self.inside.deleted id c.self.invariant.2 named by c.put_array.ensures.put
