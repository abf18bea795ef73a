use Rattle.std.proofs.Common.{ℕ, List, Option, Some, false, length, ◌==◌, ◌≡◌, ◌∙◌, ap, sym, subst}
use Rattle.mgr_port.specs.Disk.{whole_steps}
use Rattle.mgr_port.specs.Logs.{renamed}
use Rattle.mgr_mend.specs.Fitting.{fitted, all_refused}
use Rattle.mgr_mend.proofs.NoteLaws.{made_of, mends_part, some_refused}
use Rattle.mgr_mend.proofs.note.mend_note.Goals as goal

pub returns-in-Ok-put_mended-clause-mended : goal.returns-in-Ok-put_mended-clause-mended
returns-in-Ok-put_mended-clause-mended g c =
    let name = c.args.name.now in
    let standing = g.L.Logs.standing c.args.logs.now name in
    let found = g.L.Logs.standing c.put_mended.new.logs name in
    let bytes = c.in-Ok.opened.1.items in
    let m = c.in-Ok-mend_for_note.mended in
    let log : m.log.items ≡ fitted bytes = c.in-Ok-mend_for_note.ensures.log ∙ ap fitted c.as_slice.ensures.value in
    let refused : m.refused.items ≡ all_refused bytes = c.in-Ok-mend_for_note.ensures.refused ∙ ap all_refused c.as_slice.ensures.value in
    some_refused all_refused standing found bytes m.refused.items c.in-Ok.ensures.bytes refused
    (subst (λ (l : List ℕ). (length l == 0) ≡ false) c.as_slice-2.ensures.value (sym c.is_empty.ensures ∙ c.if-is_empty.false))
    (made_of (λ bytes refused s. found ≡ Some (renamed whole_steps bytes)) fitted all_refused standing (g.L.Logs.standing c.open_whole.new.logs name) bytes m.log.items m.refused.items
    c.open_whole.ensures.same c.in-Ok.ensures.bytes log refused c.in-Ok-put_mended.ensures.named)

pub returns-in-Err-File-put_mended-clause-begun : goal.returns-in-Err-File-put_mended-clause-begun
returns-in-Err-File-put_mended-clause-begun g c =
    let name = c.args.name.now in
    mends_part (g.L.Logs.standing c.args.logs.now name) (g.L.Logs.standing c.open_whole.new.logs name) (g.L.Logs.standing c.put_mended.new.logs name)
    (g.L.Logs.refused c.open_whole.new.logs name) (g.L.Logs.refused c.args.logs.now name) (g.L.Logs.refused c.put_mended.new.logs name)
    c.in-Ok.opened.1.items c.in-Ok-mend_for_note.mended.log.items c.in-Ok-mend_for_note.mended.refused.items
    c.open_whole.ensures.same (ap (λ (f : List ℕ → Option (List ℕ)). f name) c.open_whole.ensures.kept) c.in-Ok.ensures.bytes
    (c.in-Ok-mend_for_note.ensures.log ∙ ap fitted c.as_slice.ensures.value) (c.in-Ok-mend_for_note.ensures.refused ∙ ap all_refused c.as_slice.ensures.value)
    c.in-Err-File-put_mended.ensures.begun

pub returns-clause-begun : goal.returns-clause-begun
returns-clause-begun g c =
    let name = c.args.name.now in
    mends_part (g.L.Logs.standing c.args.logs.now name) (g.L.Logs.standing c.open_whole.new.logs name) (g.L.Logs.standing c.put_mended.new.logs name)
    (g.L.Logs.refused c.open_whole.new.logs name) (g.L.Logs.refused c.args.logs.now name) (g.L.Logs.refused c.put_mended.new.logs name)
    c.in-Ok.opened.1.items c.in-Ok-mend_for_note.mended.log.items c.in-Ok-mend_for_note.mended.refused.items
    c.open_whole.ensures.same (ap (λ (f : List ℕ → Option (List ℕ)). f name) c.open_whole.ensures.kept) c.in-Ok.ensures.bytes
    (c.in-Ok-mend_for_note.ensures.log ∙ ap fitted c.as_slice.ensures.value) (c.in-Ok-mend_for_note.ensures.refused ∙ ap all_refused c.as_slice.ensures.value)
    c.in-Err-Memory-put_mended.ensures.begun
