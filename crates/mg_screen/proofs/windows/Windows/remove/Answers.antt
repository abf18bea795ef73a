use Rattle.std.proofs.Common.{◌∙◌, ◌+◌, ◌<◌, arith, ap, length, sym}
use Rattle.std.proofs.lemmas.List.{get_or_read}
use Rattle.std.proofs.lemmas.List.Sums.{get_or-le-sum_by}
use Rattle.mg_screen.specs.Layout.{layout, removed_layout}
use Rattle.mg_screen.proofs.HeightLaws.{counted, sum-windows_of, keeps, heir_within, rows_joined, removal_made, removal_keeps, lengths_removed}
use Rattle.mg_screen.proofs.windows.Windows.remove.Goals as goal

pub returns-then-as_slice-le1-clause-several : goal.returns-then-as_slice-le1-clause-several
returns-then-as_slice-le1-clause-several g c = λ several.
    let count = counted c.self.inside.heights.items c.self.inside.shown.items c.self.inside.current c.args.self.now c.self.invariant.paired c.self.view_is in
    let is = ap length c.as_slice.ensures.value in
    absurd (omega (arith, count, is, several, c.if-as_slice-le1.true))

pub returns-then-as_slice-le1-clause-filled : goal.returns-then-as_slice-le1-clause-filled
returns-then-as_slice-le1-clause-filled g c = λ rows filled. filled

pub overflow_add-height : goal.overflow_add-height
overflow_add-height g c =
    let w = c.self.inside in
    let height = get_or_read w.heights.items _ _ c.self.invariant.here c.remove-height.ensures.value 0 in
    let bound = get_or-le-sum_by (λ h. h + 1) w.heights.items w.current 0 c.self.invariant.here in
    omega (arith, height, bound, sum-windows_of w.heights.items w.shown.items w.current w.rows c.self.invariant)

pub overflow_add-index_mut : goal.overflow_add-index_mut
overflow_add-index_mut g c =
    let w = c.self.inside in
    let less = c.remove-height.ensures.items in
    let several : 1 < length w.heights.items = omega (arith, ap length c.as_slice.ensures.value, c.if-as_slice-le1.false) in
    let heir = heir_within w.current c.saturating_sub-heir.result w.heights.items c.remove-height.new.self.items c.saturating_sub-heir.ensures several c.self.invariant.here less in
    omega (
      arith,
      rows_joined w.current c.saturating_sub-heir.result c.remove-height.result c.index_mut.result.now _ w.heights.items c.remove-height.new.self.items c.self.invariant.here less heir
          (get_or_read w.heights.items _ _ c.self.invariant.here c.remove-height.ensures.value 0) (get_or_read c.remove-height.new.self.items _ _ heir c.index_mut.ensures.value 0)
          (sum-windows_of w.heights.items w.shown.items w.current w.rows c.self.invariant),
    )

pub returns-clause-exact : goal.returns-clause-exact
returns-clause-exact g c =
    let w = c.self.inside in
    let several : 1 < length w.heights.items = omega (arith, ap length c.as_slice.ensures.value, c.if-as_slice-le1.false) in
    let less = c.remove-height.ensures.items in
    let heir = heir_within w.current c.saturating_sub-heir.result w.heights.items c.remove-height.new.self.items c.saturating_sub-heir.ensures several c.self.invariant.here less in
    let made = removal_made w.current c.saturating_sub-heir.result c.remove-height.result c.index_mut.result.now w.heights.items c.remove-height.new.self.items w.shown.items c.remove.new.self.items
    c.saturating_sub-heir.ensures several c.self.invariant.here c.self.invariant.paired (get_or_read w.heights.items _ _ c.self.invariant.here c.remove-height.ensures.value 0)
    less c.remove.ensures.items (get_or_read c.remove-height.new.self.items _ _ heir c.index_mut.ensures.value 0) in
    (λ k. layout (made k) (c.saturating_sub-heir.ensures k)) ∙ ap removed_layout c.self.view_is

pub invariant_of-self : goal.invariant_of-self
invariant_of-self g c =
    let w = c.self.inside in
    let several : 1 < length w.heights.items = omega (arith, ap length c.as_slice.ensures.value, c.if-as_slice-le1.false) in
    let made = ap (λ l. l.windows) (returns-clause-exact g c ∙ sym (ap removed_layout c.self.view_is)) in
    let lengths = lengths_removed w.heights.items c.remove-height.new.self.items w.shown.items c.remove.new.self.items w.current c.saturating_sub-heir.result
    (c.index_mut.result.now + (c.remove-height.result + 1)) c.remove-height.ensures.items c.remove.ensures.items c.self.invariant.paired c.self.invariant.here in
    removal_keeps w.heights.items _ w.shown.items _ w.current c.saturating_sub-heir.result w.rows c.self.invariant several lengths.0 lengths.1 c.saturating_sub-heir.ensures made

pub returns-clause-only_one : goal.returns-clause-only_one
returns-clause-only_one g c = λ one.
    let count = counted c.self.inside.heights.items c.self.inside.shown.items c.self.inside.current c.args.self.now c.self.invariant.paired c.self.view_is in
    let is = ap length c.as_slice.ensures.value in
    absurd (omega (arith, count, is, one, c.if-as_slice-le1.false))

pub returns-clause-filled : goal.returns-clause-filled
returns-clause-filled g c = keeps c.self.inside.heights.items _ c.self.inside.shown.items _ c.self.inside.current _ c.self.inside.rows _ c.self.invariant (invariant_of-self g c) c.self.view_is
