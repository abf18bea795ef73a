use Rattle.std.proofs.Common.{inr, ◌∙◌, ◌<◌, arith, ap, length, sym}
use Rattle.mgr_port.proofs.NamesLaws.{named_at}
use Rattle.mgr_port.proofs.notes.index_of.Goals as goal

pub returns-then-eq-clause-named : goal.returns-then-eq-clause-named
returns-then-eq-clause-named g c =
    let within : c.loop-index.index < length c.args.notes.now.items = omega (arith, c.loop-index-test.true, ap length c.as_slice-index-end.ensures.value) in
    named_at _ _ _ _ _ within c.index.ensures c.as_str.ensures.value (sym c.if-eq.true ∙ c.eq.ensures)

pub returns-clause-others : goal.returns-clause-others
returns-clause-others g c = inr (c.new-2.result, c.in_ok-push.ensures.items)
