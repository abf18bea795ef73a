use Rattle.std.proofs.Common.{rules, ℕ, List, ◌-◌, ◌%◌, take, drop, ap, ◌∙◌, subst, arith}
use Rattle.std.proofs.lemmas.List.{with_items_is, places}
use Rattle.rga_exchange.specs.Counting.{Writes, WritesFront, WritesAllBut}
use Rattle.rga_exchange.proofs.BlockLemmas.{kept_behind, front_begun}
use Rattle.rga_exchange.proofs.block.Block.write_front.Goals as goal

pub returns-in_err-write_all-clause-begun : goal.returns-in_err-write_all-clause-begun
returns-in_err-write_all-clause-begun g c =
    let end = c.self.inside.end in
    let whole = end - end % 65536 in
    let begins : List ℕ → Type 0 = WritesFront g.W.Write.contents c.args.writer.now c.write_all.new.self in
    subst begins c.self.view_is (
    front_begun _ _ _ c.self.inside.bytes.items whole (end % 65536) end (omega arith) (subst (λ (l : List ℕ). begins (take whole l)) c.deref.ensures.value c.write_all.ensures.begun))

pub returns-clause-ok : goal.returns-clause-ok
returns-clause-ok g c =
    let end = c.self.inside.end in
    let whole = end - end % 65536 in
    let writes : List ℕ → Type 0 = Writes g.W.Write.contents c.args.writer.now c.write_all.new.self in
    rw (with_items_is c.self.inside.bytes c.move_to_front.new.bytes (search (rules, places))) (
    subst (λ (l : List ℕ). WritesAllBut g.W.Write.contents c.args.writer.now c.write_all.new.self l (take (end % 65536) c.move_to_front.new.bytes)) c.self.view_is (
    kept_behind _ _ _ c.self.inside.bytes.items _ whole (end % 65536) end (omega arith)
    (c.move_to_front.ensures.moved ∙ ap (λ (l : List ℕ). take (end % 65536) (drop whole l)) c.as_mut_slice.ensures.value)
    (subst (λ (l : List ℕ). writes (take whole l)) c.deref.ensures.value c.in_ok-write_all.ensures.bytes)))

pub returns-clause-begun : goal.returns-clause-begun
returns-clause-begun g c =
    let end = c.self.inside.end in
    let whole = end - end % 65536 in
    let begins : List ℕ → Type 0 = WritesFront g.W.Write.contents c.args.writer.now c.write_all.new.self in
    subst begins c.self.view_is (
    front_begun _ _ _ c.self.inside.bytes.items whole (end % 65536) end (omega arith) (subst (λ (l : List ℕ). begins (take whole l)) c.deref.ensures.value c.write_all.ensures.begun))
