use Rattle.std.proofs.Common.{◌<◌, length, ap, arith}
use Rattle.rga_world.specs.Steps.{alone}
use Rattle.rga_world.proofs.SiteSteps.{happens_in, room_in, still_sites}
use Rattle.rga_world.proofs.sites.Sites.alone.Goals as goal

pub invariant_of-self : goal.invariant_of-self
invariant_of-self g c =
    let xs = c.self.inside.all.items in
    let inside : c.args.number < length xs = omega (arith, c.if-number-as_slice.false, ap length c.as_slice.ensures.value) in
    still_sites xs c.self.inside.limit c.args.number c.index_mut.result.now c.step.new.self c.self.invariant inside c.index_mut.ensures.value c.step.ensures.rest

pub returns-clause-happens : goal.returns-clause-happens
returns-clause-happens g c =
    let xs = c.self.inside.all.items in
    let inside : c.args.number < length xs = omega (arith, c.if-number-as_slice.false, ap length c.as_slice.ensures.value) in
    happens_in xs c.self.inside.limit c.args.number c.index_mut.result.now c.step.new.self (λ limit replica s. alone limit replica c.args.event.now s) c.step.result c.args.self.now
    c.self.invariant inside c.index_mut.ensures.value c.step.ensures.happens c.step.ensures.rest c.self.view_is

pub returns-clause-memory : goal.returns-clause-memory
returns-clause-memory g c memory =
    let xs = c.self.inside.all.items in
    let inside : c.args.number < length xs = omega (arith, c.if-number-as_slice.false, ap length c.as_slice.ensures.value) in
    room_in xs c.self.inside.limit c.args.number c.index_mut.result.now c.args.self.now c.args.event.now c.self.invariant inside c.index_mut.ensures.value c.requires (c.step.ensures.memory memory) c.self.view_is
