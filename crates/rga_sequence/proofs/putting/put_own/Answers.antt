use Rattle.std.proofs.Common.{◌≤◌, ◌<◌, length, sym, ap, ◌∙◌, subst}
use Rattle.std.specs.Prelude.{insert}
use Rattle.rga_sequence.specs.Blocks.{Blocks, AreFilled, AreGroups}
use Rattle.rga_pages.proofs.PartLaws.{filled_insert}
use Rattle.rga_sequence.proofs.GroupLaws.{take_insert}
use Rattle.rga_sequence.proofs.putting.put_own.Goals as goal

pub returns-clause-ok : goal.returns-clause-ok
returns-clause-ok c = c.in_ok-insert.ensures.items ∙ ap (insert c.args.blocks.now.items c.args.block) c.in_ok-own.ensures.ok

pub returns-clause-filled : goal.returns-clause-filled
returns-clause-filled c =
    let one : 0 < length c.in_ok-own.own = subst (λ y. 0 < length y) (sym c.in_ok-own.ensures.ok) c.requires.some in
    subst AreFilled (sym c.in_ok-insert.ensures.items) (filled_insert c.args.blocks.now.items c.args.block c.in_ok-own.own c.requires.filled one)

pub returns-clause-groups : goal.returns-clause-groups
returns-clause-groups c =
    let bs : Blocks = c.args.blocks.now.items in
    let within : c.args.block ≤ length bs = subst (λ n. c.args.block ≤ n) c.args.blocks.now.ok.0 c.requires.block in
    subst (AreGroups c.forget_from.new.self) (sym c.in_ok-insert.ensures.items)
    (c.forget_from.ensures bs (insert bs c.args.block c.in_ok-own.own) c.requires.groups within (take_insert bs c.args.block c.in_ok-own.own within))

pub returns-in_err-insert-clause-filled : goal.returns-in_err-insert-clause-filled
returns-in_err-insert-clause-filled c = subst AreFilled (sym c.in_err-insert.ensures.items) c.requires.filled

pub returns-in_err-insert-clause-groups : goal.returns-in_err-insert-clause-groups
returns-in_err-insert-clause-groups c = subst (AreGroups c.args.groups.now) (sym c.in_err-insert.ensures.items) c.requires.groups
