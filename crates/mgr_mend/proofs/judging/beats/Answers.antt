use Rattle.std.proofs.Common.{◌≡◌, ◌==◌, sym, ap, ◌∙◌}
use Rattle.std.proofs.lemmas.Bool.{and_parts, eqb-true}
use Rattle.rga_ops.specs.Identifier.{is_id}
use Rattle.rga_ops.specs.declared.op.Op.TheVariants.{Insert}
use Rattle.rga_ops.proofs.IdentifierLaws.{is_id-is}
use Rattle.mgr_mend.specs.Mending.{beats}
use Rattle.mgr_mend.proofs.BeatsLemmas.{beats-itself}
use Rattle.mgr_mend.proofs.judging.beats.Goals as goal

pub returns-then-is_same_element : goal.returns-then-is_same_element
returns-then-is_same_element c =
    let i = c.in-Insert-Insert in
    let parts = and_parts (is_id i.parent i.above) (i.ch == i.char) (sym c.is_same_element.ensures ∙ c.if-is_same_element.true) in
    let id = is_id-is i.id i.same (sym c.eq.ensures ∙ c.if-eq.true) in
    let parent = is_id-is i.parent i.above parts.0 in
    let ch = eqb-true i.ch i.char parts.1 in
    let one : c.args.op.now ≡ c.args.other.now = i.is-0 ∙ (λ k. Insert (id k) (parent k) (ch k)) ∙ sym i.is-1 in
    sym (ap (beats c.args.op.now) (sym one) ∙ beats-itself c.args.op.now)
