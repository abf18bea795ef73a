use Rattle.std.proofs.Common.{◌≡◌, ◌-◌, ◌+◌, ◌∙◌, ap, arith}
use Rattle.mg_screen.specs.Screen.{Pane}
use Rattle.mg_screen.specs.Lines.{line_index}
use Rattle.mg_screen.proofs.PlaceLaws.{line_split}
use Rattle.mg_screen.proofs.sideways_cursors.line_of_place.Goals as goal

pub overflow_sub-result : goal.overflow_sub-result
overflow_sub-result c =
    let text = c.as_slice-text.result.now in
    let point = ap (λ xs. line_index xs c.pane.inside.point) c.as_slice-text.ensures.value in
    omega (arith, line_split text c.args.place c.pane.inside.point c.if-place-pane.true, c.newlines_of.ensures, c.pane.invariant.3, point)

pub returns-then-place-pane : goal.returns-then-place-pane
returns-then-place-pane c =
    let text = c.as_slice-text.result.now in
    let point = ap (λ xs. line_index xs c.pane.inside.point) c.as_slice-text.ensures.value in
    let split = line_split text c.args.place c.pane.inside.point c.if-place-pane.true in
    let here : c.pane.inside.line - c.newlines_of.result ≡ line_index text c.args.place =
    omega (arith, split, c.newlines_of.ensures, c.pane.invariant.3, point) in
    here ∙ ap (λ xs. line_index xs c.args.place) c.as_slice-text.ensures.value ∙ ap (λ (q : Pane). line_index q.text c.args.place) c.pane.view_is

pub returns : goal.returns
returns c =
    let text = c.as_slice-text.result.now in
    let point = ap (λ xs. line_index xs c.pane.inside.point) c.as_slice-text.ensures.value in
    let split = line_split text c.pane.inside.point c.args.place (omega (arith, c.if-place-pane.false)) in
    let here : c.pane.inside.line + c.newlines_of-2.result ≡ line_index text c.args.place =
    omega (arith, split, c.newlines_of-2.ensures, c.pane.invariant.3, point) in
    here ∙ ap (λ xs. line_index xs c.args.place) c.as_slice-text.ensures.value ∙ ap (λ (q : Pane). line_index q.text c.args.place) c.pane.view_is
