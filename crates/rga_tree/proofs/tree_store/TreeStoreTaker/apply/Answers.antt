use Rattle.std.proofs.Common.{rules, ◌≡◌, List, [], ◌∷◌, OnOk, refl, sym, subst}
use Rattle.std.proofs.lemmas.Result.{on_ok_weaker}
use Rattle.rga_ops.specs.Content.{join, single}
use Rattle.rga_ops.specs.Took.{Took, one}
use Rattle.rga_ops.specs.declared.op.Op.{Op}
use Rattle.rga_ops.specs.declared.op.Op.TheVariants.{Insert, Delete}
use Rattle.rga_store.specs.Taking.{TakesMore}
use Rattle.rga_store.proofs.TakingLaws.{one_taken}
use Rattle.rga_tree.proofs.tree_store.TreeStoreTaker.apply.Goals as goal

pub returns-then-ne-clause-took : goal.returns-then-ne-clause-took
returns-then-ne-clause-took c =
    one_taken c.args.self.now.limit c.args.self.now.content c.args.self.now.content c.args.op c.answer_to-answer.result
    (λ _. search rules) (search rules) (λ _. refl)

pub returns-in-Insert-clause-took : goal.returns-in-Insert-clause-took
returns-in-Insert-clause-took c =
    subst (λ (op : Op). OnOk c.insert.result (TakesMore c.args.self.now.content (op ∷ []) c.insert.new.self.content)) (sym c.in-Insert.is)
    (one_taken c.args.self.now.limit c.args.self.now.content c.insert.new.self.content (Insert c.in-Insert.id c.in-Insert.parent c.in-Insert.ch)
    c.insert.result c.insert.ensures.exact c.insert.ensures.new c.insert.ensures.same)

pub returns-in-Delete-clause-took : goal.returns-in-Delete-clause-took
returns-in-Delete-clause-took c =
    subst (λ (op : Op). OnOk c.delete.result (TakesMore c.args.self.now.content (op ∷ []) c.delete.new.self.content)) (sym c.in-Delete.is)
    (on_ok_weaker c.delete.result
    (λ (joined : c.delete.new.self.content ≡ join c.args.self.now.content (single (Delete c.in-Delete.id))) (ops : List Op) (t : Took ops c.args.self.now.content). one ops c.args.self.now.content (Delete c.in-Delete.id) t refl joined)
    c.delete.ensures.ok)
