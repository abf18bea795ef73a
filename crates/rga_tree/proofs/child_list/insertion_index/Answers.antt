use Rattle.std.proofs.Common.{sym, ◌∙◌, true≢false}
use Rattle.rga_tree.proofs.ChildListLaws.{found_has, rising-compares}
use Rattle.rga_tree.proofs.child_list.insertion_index.Goals as goal

pub returns-in-Ok-clause-index : goal.returns-in-Ok-clause-index
returns-in-Ok-clause-index c =
    absurd (true≢false (sym (found_has c.args.id c.args.few.now c.in-Ok.index c.args.id c.in-Ok.ensures.bound (c.in-Ok.ensures.ok c.args.id)) ∙ c.requires.absent))

pub returns-in-Err-clause-index : goal.returns-in-Err-clause-index
returns-in-Err-clause-index c = c.in-Err.ensures.position (rising-compares c.args.id c.args.few.now c.requires.rising)
