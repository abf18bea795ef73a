use Rattle.std.proofs.Common.{List, [], ap, length, subst, sym, ◌++◌, ◌+◌, ◌∙◌, ◌∷◌}
use Rattle.rga_ops.specs.Splice.{Splice}
use Rattle.mg_plain.specs.Splices.{splice}
use Rattle.mg_plain.proofs.ReplacementLaws.{Replacing, replacing_done, replacing_on, replacing_start}
use Rattle.mg_plain.proofs.replacement.replacements.Goals as goal

pub loop-i-init : goal.loop-i-init
loop-i-init c =
    let P : List Splice → Type 0 = λ ys. Replacing c.args.pattern.now c.args.put.now c.args.text.now c.args.point ys c.args.point in
    let items = c.in_ok-push.ensures.items ∙ ap (λ (ys : List Splice). ys ++ c.in_ok-first.first ∷ []) c.new-splices.ensures.items in
    let first = c.in_ok-first.ensures ∙ ap (λ k. splice k c.args.point c.args.put.now) c.saturating_sub.ensures in
    subst P (sym items) (replacing_start c.args.pattern.now c.args.put.now c.args.text.now c.args.point c.in_ok-first.first c.requires.within first)

pub loop-i-preserved : goal.loop-i-preserved
loop-i-preserved c =
    let P : List Splice → Type 0 = λ ys. Replacing c.args.pattern.now c.args.put.now c.args.text.now c.args.point ys (c.in-Some.i + length c.args.pattern.now) in
    subst P (sym c.in_ok-push-2.ensures.items) (replacing_on c.args.pattern.now c.args.put.now c.args.text.now c.args.point c.loop-i.splices.items c.loop-i.end c.in-Some.i c.in_ok-next.next c.loop-i.invariant (sym c.in-Some.ensures.first) c.in-Some.ensures.behind c.in-Some.ensures.within c.requires.some c.in_ok-next.ensures)

pub returns : goal.returns
returns c =
    let done = replacing_done c.args.pattern.now c.args.put.now c.args.text.now c.args.point c.loop-i.splices.items c.loop-i.end c.loop-i.invariant (sym c.in_default.ensures.first) in
    (c.reverse.ensures.items ∙ done.0, done.1)
