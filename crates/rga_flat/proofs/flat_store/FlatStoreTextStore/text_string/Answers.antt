use Rattle.std.proofs.Common.{ap, ◌∙◌}
use Rattle.rga_ops.specs.Order.{text}
use Rattle.rga_store.specs.Kept.{Kept}
use Rattle.rga_flat.proofs.ReadingLaws.{text_shown}
use Rattle.rga_flat.proofs.flat_store.FlatStoreTextStore.text_string.Goals as goal

pub returns : goal.returns
returns c = record {
  ok =
      rw (← (c.as_slice.ensures.value ∙ c.in_ok-chars.ensures.ok ∙ text_shown _ _ c.self.invariant.listed c.self.invariant.shown ∙ ap (λ (v : Kept). text v.content) c.self.view_is)) c.string_of.ensures.ok;
}
