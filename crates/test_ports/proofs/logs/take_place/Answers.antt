use Rattle.test_ports.proofs.LogLaws.{given_up_as}
use Rattle.test_ports.proofs.logs.take_place.Goals as goal

pub returns-in-Err-clause-named : goal.returns-in-Err-clause-named
returns-in-Err-clause-named c =
    let stops = rw c.deref.ensures.value at c.in-Err.ensures.unnamed in
    given_up_as c.refused-in-Err.result c.args.next.items c.args.log.now.items _ _ c.requires stops
