use Rattle.std.proofs.Common.{◌<◌, length, ap, arith}
use Rattle.rga_world.specs.Steps.{list_delivered}
use Rattle.rga_world.proofs.SiteSteps.{happens_in, still_sites}
use Rattle.rga_world.proofs.sites.Sites.take_list.Goals as goal

pub invariant_of-self : goal.invariant_of-self
invariant_of-self g c =
    let xs = c.self.inside.all.items in
    let inside : c.args.number < length xs = omega (arith, c.if-number-as_slice.false, ap length c.as_slice.ensures.value) in
    still_sites xs c.self.inside.limit c.args.number c.index_mut.result.now c.take_list.new.self c.self.invariant inside c.index_mut.ensures.value c.take_list.ensures.rest

pub returns-clause-happens : goal.returns-clause-happens
returns-clause-happens g c =
    let xs = c.self.inside.all.items in
    let inside : c.args.number < length xs = omega (arith, c.if-number-as_slice.false, ap length c.as_slice.ensures.value) in
    happens_in xs c.self.inside.limit c.args.number c.index_mut.result.now c.take_list.new.self (λ limit replica s. list_delivered limit c.args.ops.now s) c.take_list.result c.args.self.now
    c.self.invariant inside c.index_mut.ensures.value c.take_list.ensures.happens c.take_list.ensures.rest c.self.view_is
