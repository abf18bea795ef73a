use Rattle.std.proofs.Common.{◌≡◌, ◌∷◌, ◌++◌, take, decimal}
use Rattle.rga_lines.proofs.AddedLemmas.{insertion_put}
use Rattle.rga_lines.proofs.speller.Speller.put_insertion.Goals as goal

pub returns-clause-put : goal.returns-clause-put
returns-clause-put c =
    let id = c.args.id.now in
    let parent = c.args.parent.now in
    let opened = take c.put_character-at.result c.put_character-at.new.bytes in
    let named = take c.put-at.result c.put-at.new.bytes in
    let by = take c.put_replica-at.result c.put_replica-at.new.bytes in
    let above = take c.put-at-2.result c.put-at-2.new.bytes in
    let over = take c.put_replica-at-2.result c.put_replica-at-2.new.bytes in
    let counter : named ≡ opened ++ (c.self.inside.id ++ decimal id.counter) = rw c.counter.ensures.value at c.put-at.ensures.put in
    let replica : by ≡ named ++ 44 ∷ decimal id.replica = rw c.replica.ensures at c.put_replica-at.ensures.put in
    let parents : above ≡ by ++ (c.self.inside.parent ++ decimal parent.counter) = rw c.counter-2.ensures.value at c.put-at-2.ensures.put in
    let theirs : over ≡ above ++ 44 ∷ decimal parent.replica = rw c.replica-2.ensures at c.put_replica-at-2.ensures.put in
    insertion_put (take c.args.at c.args.bytes.now) (take c.put_array-at.result c.put_array-at.new.bytes) opened named by above over (take c.put_array.result c.put_array.new.bytes) c.self.inside.id c.self.inside.parent id parent c.args.ch c.self.invariant.0 c.self.invariant.1 c.put_array-at.ensures.put
    c.put_character-at.ensures.put counter replica parents theirs c.put_array.ensures.put
