use Rattle.std.proofs.Common.{◌<◌, length, arith, sym, ap, subst, ◌∙◌}
use Rattle.std.proofs.lemmas.List.Edits.{length-remove}
use Rattle.mg_workspace.specs.Buffers.{Buffers, without_buffer}
use Rattle.mg_workspace.proofs.Moves.{moved_within}
use Rattle.mg_workspace.proofs.buffers.Buffers.remove.Goals as goal

pub invariant_of-self : goal.invariant_of-self
invariant_of-self g c =
    let xs = c.self.inside.all.items in
    let i = c.args.index in
    let within : i < length xs = subst (λ (bs : Buffers). i < length bs.all) (sym c.self.view_is) c.requires.within in
    let others : 1 < length xs = subst (λ (bs : Buffers). 1 < length bs.all) (sym c.self.view_is) c.requires.others in
    let here = moved_within i (length xs) c.self.inside.current within c.self.invariant others in
    omega (arith, c.moved-self-inside.ensures, here, length-remove xs i within, ap length c.remove.ensures.items)

pub returns : goal.returns
returns g c = (λ k. record { all = c.remove.ensures.items k; current = c.moved-self-inside.ensures k }) ∙ ap (without_buffer c.args.index) c.self.view_is
