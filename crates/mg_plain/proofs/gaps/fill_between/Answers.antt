use Rattle.std.proofs.Common.{List, None, Some, [], ap, filter, subst, sym, ℕ, ◌++◌, ◌∙◌, ◌∷◌}
use Rattle.rga_ops.specs.Splice.{Splice}
use Rattle.mg_plain.specs.Splices.{splice}
use Rattle.mg_plain.specs.Gaps.{alters, columns, joint}
use Rattle.mg_plain.specs.Spans.{Span}
use Rattle.mg_plain.proofs.GapLaws.{Filling, filling_done, filling_on, filling_start}
use Rattle.mg_plain.proofs.gaps.fill_between.Goals as goal

pub loop-begin-init : goal.loop-begin-init
loop-begin-init c =
    let P : List Splice → Type 0 = λ ys. Filling c.args.column c.args.text.now c.args.lo c.args.hi ys None c.args.lo in
    subst P (sym c.new-splices.ensures.items) (filling_start c.args.column c.args.text.now c.args.lo c.args.hi c.requires.order)

pub loop-begin-preserved : goal.loop-begin-preserved
loop-begin-preserved c =
    let text : List ℕ = c.args.text.now in
    let b : ℕ = c.in-Some.begin in
    let e : ℕ = c.run_end-end.result in
    let w : ℕ → Span = λ k. record { lo = b; hi = k } in
    let made = c.in_ok-columns.ensures.0 ∙ ap (λ (k : ℕ). c.loop-begin.splices.items ++ filter (alters text) (splice c.loop-begin.at b (joint c.args.column c.loop-begin.used (w k)) ∷ [])) c.run_end-end.ensures.end in
    let wide = c.in_ok-columns.ensures.1 ∙ ap (λ (k : ℕ). columns c.args.column c.loop-begin.used (w k)) c.run_end-end.ensures.end in
    let P : ℕ → Type 0 = λ n. Filling c.args.column text c.args.lo c.args.hi c.push_joint.new.splices.items (Some n) e in
    subst P (sym wide) (filling_on c.args.column text c.args.lo c.args.hi c.loop-begin.splices.items c.push_joint.new.splices.items c.loop-begin.used c.loop-begin.at b e c.requires.within c.loop-begin.invariant (sym c.in-Some.ensures.first) c.in-Some.ensures.behind (sym c.run_end-end.ensures.end) c.run_end-end.ensures.behind c.run_end-end.ensures.within made)

pub returns : goal.returns
returns c =
    c.reverse.ensures.items
    ∙ filling_done c.args.column c.args.text.now c.args.lo c.args.hi c.loop-begin.splices.items c.push_gap.new.splices.items c.loop-begin.used c.loop-begin.at c.loop-begin.invariant (sym c.in_default.ensures.first) c.in_ok-push_gap.ensures
