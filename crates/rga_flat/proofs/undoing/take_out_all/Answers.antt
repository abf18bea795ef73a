use Rattle.std.proofs.Common.{List, [], ◌∷◌, not, map, filter, sym, ap, ◌∙◌}
use Rattle.std.specs.List.{list_any}
use Rattle.std.proofs.lemmas.List.{map-append}
use Rattle.rga_ops.specs.Identifier.{Identifier}
use Rattle.rga_ops.proofs.IdentifierLaws.{is}
use Rattle.rga_sequence.specs.Entries.{without_entry}
use Rattle.rga_flat.proofs.UndoLaws.{out_none, out_more}
use Rattle.rga_flat.proofs.undoing.take_out_all.Goals as goal

pub loop-id-init : goal.loop-id-init
loop-id-init c = out_none c.args.sequence.now

pub loop-id-preserved : goal.loop-id-preserved
loop-id-preserved c =
    c.take_out.ensures ∙ ap (without_entry c.in-Some.id.now) c.loop-id.invariant
    ∙ out_more (map (λ x. x.now) c.loop-id.yielded) c.in-Some.id.now c.args.sequence.now
    ∙ ap (λ (ks : List Identifier). filter (λ e. not (list_any (is e.id) ks)) c.args.sequence.now) (sym (map-append (λ x. x.now) c.loop-id.yielded (c.in-Some.id ∷ [])))
