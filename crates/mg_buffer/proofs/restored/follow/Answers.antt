use Rattle.mg_buffer.proofs.Prelude.{sym, ◌∙◌, arith}
use Rattle.mg_buffer.proofs.RestoredLaws.{latest_next, latest_none, step}
use Rattle.mg_buffer.proofs.restored.follow.Goals as goal

pub loop-next-smaller : goal.loop-next-smaller
loop-next-smaller c =
    let s = step c.args.restored.now.entries c.loop-next.last c.in-Some.next c.requires (sym c.get.ensures.value ∙ sym c.copied.ensures ∙ c.in-Some.is) in
    omega (arith, s.newer, s.within)

pub loop-next-preserved : goal.loop-next-preserved
loop-next-preserved c = latest_next c.args.restored.now.entries c.loop-next.last c.in-Some.next c.requires (sym c.get.ensures.value ∙ sym c.copied.ensures ∙ c.in-Some.is) ∙ c.loop-next.invariant

pub returns : goal.returns
returns c = sym (latest_none c.args.restored.now.entries c.loop-next.last (sym c.get.ensures.value ∙ sym c.copied.ensures ∙ c.in_default.is)) ∙ c.loop-next.invariant
