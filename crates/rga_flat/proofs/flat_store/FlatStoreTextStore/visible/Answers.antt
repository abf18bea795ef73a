use Rattle.std.proofs.Common.{◌≤◌, length, ap, ◌∙◌, arith}
use Rattle.std.proofs.lemmas.List.{take_all}
use Rattle.rga_ops.specs.Order.{text}
use Rattle.rga_ops.specs.Places.{visible}
use Rattle.rga_sequence.specs.Entries.{visible_ids}
use Rattle.rga_sequence.proofs.CountLaws.{count_ids, count_within}
use Rattle.rga_store.specs.Kept.{Kept}
use Rattle.rga_flat.proofs.ReadingLaws.{all_listed, visible_shown, text_shown}
use Rattle.rga_flat.proofs.flat_store.FlatStoreTextStore.visible.Goals as goal

pub returns-clause-elements : goal.returns-clause-elements
returns-clause-elements c =
    let all = all_listed c.self.inside.records.content c.self.inside.sequence c.self.invariant.listed c.self.invariant.shown in
    let few : length (visible_ids c.self.inside.sequence) ≤ c.count_inserted-count.result =
    omega (arith, all, c.count_inserted-count.ensures.count, count_ids c.self.inside.sequence, count_within c.self.inside.sequence) in
    c.in_ok-ids.ensures.ok ∙ take_all c.count_inserted-count.result (visible_ids c.self.inside.sequence) few
    ∙ visible_shown c.self.inside.records.content c.self.inside.sequence c.self.invariant.listed c.self.invariant.shown
    ∙ ap (λ (v : Kept). visible v.content) c.self.view_is

pub returns-clause-characters : goal.returns-clause-characters
returns-clause-characters c =
    c.in_ok-chars.ensures.ok
    ∙ text_shown c.self.inside.records.content c.self.inside.sequence c.self.invariant.listed c.self.invariant.shown
    ∙ ap (λ (v : Kept). text v.content) c.self.view_is
