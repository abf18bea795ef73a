use Rattle.mg_buffer.proofs.Prelude.{refl, ◌∙◌}
use Rattle.mg_buffer.proofs.restored.shorten_all.Goals as goal

pub loop-id-init : goal.loop-id-init
loop-id-init c = record { rising = c.requires; same = refl; ones = refl }

pub loop-id-preserved : goal.loop-id-preserved
loop-id-preserved c =
    let done = c.loop-id.invariant in
    let step = c.shorten.ensures in
    record { rising = step.rising; same = step.same ∙ done.same; ones = step.ones ∙ done.ones }
