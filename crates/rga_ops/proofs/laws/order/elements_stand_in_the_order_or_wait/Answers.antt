use Rattle.std.proofs.Common.{sym, ◌∙◌}
use Rattle.std.proofs.lemmas.List.{length-map}
use Rattle.std.specs.FinMap as finite_map
use Rattle.rga_ops.proofs.WaitingLaws.{ordered_and_waiting}
use Rattle.rga_ops.proofs.laws.order.elements_stand_in_the_order_or_wait.Goals as goal

pub returns : goal.returns
returns c = λ held.
    ordered_and_waiting held
    ∙ length-map (finite_map.entries held.inserted) (λ e. e.0)
    ∙ sym (finite_map.len-entries held.inserted)
