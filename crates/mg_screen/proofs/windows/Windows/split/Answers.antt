use Rattle.std.proofs.Common.{◌∙◌, ◌+◌, ◌-◌, ◌/◌, ap, arith, subst, sym}
use Rattle.std.proofs.lemmas.List.{get_or_read}
use Rattle.mg_screen.specs.Inside.{AreKeptWindows}
use Rattle.mg_screen.specs.Layout.{layout, split_layout}
use Rattle.mg_screen.proofs.HeightLaws.{current_counted, keeps, split_made, split_keeps, lengths_split}
use Rattle.mg_screen.proofs.windows.Windows.split.Goals as goal

pub returns-then-height-lt-MIN_SPLIT_HEIGHT-clause-memory : goal.returns-then-height-lt-MIN_SPLIT_HEIGHT-clause-memory
returns-then-height-lt-MIN_SPLIT_HEIGHT-clause-memory g c = λ large.
    let height = current_counted c.self.inside.heights.items c.self.inside.shown.items c.self.inside.current c.index-height.result.now c.args.self.now c.self.invariant.paired c.self.view_is
    (get_or_read c.self.inside.heights.items _ _ c.self.invariant.here c.index-height.ensures 0) in
    absurd (omega (arith, height, large, c.if-height-lt-MIN_SPLIT_HEIGHT.true))

pub returns-then-height-lt-MIN_SPLIT_HEIGHT-clause-filled : goal.returns-then-height-lt-MIN_SPLIT_HEIGHT-clause-filled
returns-then-height-lt-MIN_SPLIT_HEIGHT-clause-filled g c = λ rows filled. filled

pub returns-in_err-insert_both-clause-too_small : goal.returns-in_err-insert_both-clause-too_small
returns-in_err-insert_both-clause-too_small g c = λ small.
    let height = current_counted c.self.inside.heights.items c.self.inside.shown.items c.self.inside.current c.index-height.result.now c.args.self.now c.self.invariant.paired c.self.view_is
    (get_or_read c.self.inside.heights.items _ _ c.self.invariant.here c.index-height.ensures 0) in
    absurd (omega (arith, height, small, c.if-height-lt-MIN_SPLIT_HEIGHT.false))

pub returns-clause-too_small : goal.returns-clause-too_small
returns-clause-too_small g c = λ small.
    let height = current_counted c.self.inside.heights.items c.self.inside.shown.items c.self.inside.current c.index-height.result.now c.args.self.now c.self.invariant.paired c.self.view_is
    (get_or_read c.self.inside.heights.items _ _ c.self.invariant.here c.index-height.ensures 0) in
    absurd (omega (arith, height, small, c.if-height-lt-MIN_SPLIT_HEIGHT.false))

pub invariant_of-self : goal.invariant_of-self
invariant_of-self g c =
    let w = c.self.inside in
    subst (λ hs. AreKeptWindows hs c.insert_both.new.shown.items w.current w.rows) (sym c.in_err-insert_both.ensures.same_heights)
    (subst (λ ss. AreKeptWindows w.heights.items ss w.current w.rows) (sym c.in_err-insert_both.ensures.same_shown) c.self.invariant)

pub returns-in_err-insert_both-clause-filled : goal.returns-in_err-insert_both-clause-filled
returns-in_err-insert_both-clause-filled g c =
    keeps c.self.inside.heights.items _ c.self.inside.shown.items _ c.self.inside.current c.self.inside.current c.self.inside.rows _ c.self.invariant (invariant_of-self g c) c.self.view_is

pub returns-clause-exact : goal.returns-clause-exact
returns-clause-exact g c =
    let w = c.self.inside in
    ap (λ ws. layout ws w.current)
    (split_made w.current c.index-height.result.now w.heights.items c.insert_both.new.heights.items w.shown.items c.insert_both.new.shown.items c.index-what.result.now
    c.self.invariant.here c.self.invariant.paired (get_or_read w.heights.items _ _ c.self.invariant.here c.index-height.ensures 0) c.index-what.ensures
    c.in_ok-insert_both.ensures.heights c.in_ok-insert_both.ensures.shown)
    ∙ ap split_layout c.self.view_is

pub invariant_of-self-2 : goal.invariant_of-self-2
invariant_of-self-2 g c =
    let w = c.self.inside in
    let n = c.index-height.result.now in
    let height = get_or_read w.heights.items _ _ c.self.invariant.here c.index-height.ensures 0 in
    let made = ap (λ l. l.windows) (returns-clause-exact g c ∙ sym (ap split_layout c.self.view_is)) in
    let lengths = lengths_split w.heights.items c.insert_both.new.heights.items w.shown.items c.insert_both.new.shown.items w.current (w.current + 1) _ (n - 1 - (n - 1) / 2) _
    c.in_ok-insert_both.ensures.heights c.in_ok-insert_both.ensures.shown c.self.invariant.paired c.self.invariant.here in
    split_keeps w.heights.items _ w.shown.items _ w.current w.rows c.self.invariant (omega (arith, height, c.if-height-lt-MIN_SPLIT_HEIGHT.false)) lengths.0 lengths.1 made

pub returns-clause-filled : goal.returns-clause-filled
returns-clause-filled g c =
    keeps c.self.inside.heights.items _ c.self.inside.shown.items _ c.self.inside.current c.self.inside.current c.self.inside.rows _ c.self.invariant (invariant_of-self-2 g c) c.self.view_is
