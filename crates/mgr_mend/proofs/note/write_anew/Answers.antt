use Rattle.std.proofs.Common.{ap, inl}
use Rattle.std.proofs.lemmas.Option.{IfSome_then}
use Rattle.rga_exchange.specs.Counting.{Calls}
use Rattle.mgr_port.specs.Logs.{Names}
use Rattle.mgr_mend.proofs.NoteLaws.{after_writing, names_ok, names_err, stays, stays_left}
use Rattle.mgr_mend.proofs.note.write_anew.Goals as goal

pub returns-in-Err-clause-begun : goal.returns-in-Err-clause-begun
returns-in-Err-clause-begun g c = IfSome_then _ (stays _ _ c.make_next.ensures.same) (λ s same. inl same)

pub returns-in-Err-write_all-clause-begun : goal.returns-in-Err-write_all-clause-begun
returns-in-Err-write_all-clause-begun g c =
    IfSome_then _ (stays_left _ _ _ c.make_next.ensures.same c.leave_next.ensures.left) (λ s same. inl same)

pub returns-in-Ok-write_all-clause-named : goal.returns-in-Ok-write_all-clause-named
returns-in-Ok-write_all-clause-named g c =
    let name = c.args.name.now in
    let standing = g.L.Logs.standing c.args.logs.now name in
    let found = g.L.Logs.standing c.name_next.new.self name in
    names_ok c.name_next.result c.args.bytes.now standing found
    (after_writing (λ bytes s. Names c.name_next.result bytes s found) g.L.Next.Write.contents _ c.new-writer.result c.write_all.new.self c.args.bytes.now standing (g.L.Logs.standing c.make_next.new.self name)
    c.make_next.ensures.same c.in-Ok.ensures.empty (ap (λ (w : Calls g.row.L-Next.Denot). w.inner) c.new-writer.ensures) c.in-Ok-write_all.ensures.bytes c.name_next.ensures.named)

pub returns-in-Ok-write_all-clause-begun : goal.returns-in-Ok-write_all-clause-begun
returns-in-Ok-write_all-clause-begun g c =
    let name = c.args.name.now in
    let standing = g.L.Logs.standing c.args.logs.now name in
    let found = g.L.Logs.standing c.name_next.new.self name in
    names_err c.name_next.result c.args.bytes.now standing found
    (after_writing (λ bytes s. Names c.name_next.result bytes s found) g.L.Next.Write.contents _ c.new-writer.result c.write_all.new.self c.args.bytes.now standing (g.L.Logs.standing c.make_next.new.self name)
    c.make_next.ensures.same c.in-Ok.ensures.empty (ap (λ (w : Calls g.row.L-Next.Denot). w.inner) c.new-writer.ensures) c.in-Ok-write_all.ensures.bytes c.name_next.ensures.named)
