use Rattle.mg_live.proofs.blocks.show_if.Goals as goal

pub returns : goal.returns
returns g c = λ calls faults. rw (← c.can_show.ensures, c.if-not-can_show.false) (c.show.ensures calls faults)
