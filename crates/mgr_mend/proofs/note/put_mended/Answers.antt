use Rattle.std.proofs.Common.{ℕ, List, Option, Some, ◌≡◌, ◌⊎◌, ap, sym, subst}
use Rattle.std.specs.Prelude.{IfSome}
use Rattle.std.specs.Io.KnownBytes.{Appends}
use Rattle.std.proofs.lemmas.Option.{IfSome_then}
use Rattle.std.proofs.lemmas.Result.{on_ok_weaker, on_err_weaker}
use Rattle.mgr_port.specs.Disk.{whole_steps}
use Rattle.mgr_port.specs.Logs.{Standing, StaysSame, StopsEarly, AppendsFront, renamed}
use Rattle.mgr_mend.proofs.NoteLaws.{told_ok, in_part, nothing_begun}
use Rattle.mgr_mend.proofs.note.put_mended.Goals as goal

pub returns-in-Ok-clause-named : goal.returns-in-Ok-clause-named
returns-in-Ok-clause-named g c =
    let name = c.args.name.now in
    let found = g.L.Logs.standing c.write_anew.new.logs name in
    on_ok_weaker c.write_anew.result
    (λ named. subst (λ (f : List ℕ → Option Standing). IfSome (f name) (λ _. found ≡ Some (renamed whole_steps c.args.mended.now.log.items))) c.keep_refused.ensures.same
    (subst (λ (l : List ℕ). IfSome (g.L.Logs.standing c.keep_refused.new.self name) (λ _. found ≡ Some (renamed whole_steps l))) c.as_slice-in-Ok.ensures.value named))
    c.write_anew.ensures.named

pub returns-in-Ok-clause-gained : goal.returns-in-Ok-clause-gained
returns-in-Ok-clause-gained g c =
    let name = c.args.name.now in
    let kept = g.L.Logs.refused c.args.logs.now name in
    told_ok c.write_anew.result
    (subst (λ (f : List ℕ → Option (List ℕ)). Appends kept (f name) c.args.mended.now.refused.items) (sym c.write_anew.ensures.kept)
    (subst (λ (l : List ℕ). Appends kept (g.L.Logs.refused c.keep_refused.new.self name) l) c.as_slice.ensures.value c.in-Ok.ensures.gained))

pub returns-in-Ok-clause-begun : goal.returns-in-Ok-clause-begun
returns-in-Ok-clause-begun g c =
    let name = c.args.name.now in
    let found = g.L.Logs.standing c.write_anew.new.logs name in
    let kept = g.L.Logs.refused c.args.logs.now name in
    let now = g.L.Logs.refused c.write_anew.new.logs name in
    let gained : Appends kept now c.args.mended.now.refused.items =
    subst (λ (f : List ℕ → Option (List ℕ)). Appends kept (f name) c.args.mended.now.refused.items) (sym c.write_anew.ensures.kept)
    (subst (λ (l : List ℕ). Appends kept (g.L.Logs.refused c.keep_refused.new.self name) l) c.as_slice.ensures.value c.in-Ok.ensures.gained) in
    on_err_weaker c.write_anew.result
    (λ begun. IfSome_then (g.L.Logs.standing c.args.logs.now name)
    (subst (λ (f : List ℕ → Option Standing). IfSome (f name) (λ s. StaysSame s found ⊎ StopsEarly c.args.mended.now.log.items s found)) c.keep_refused.ensures.same
    (subst (λ (l : List ℕ). IfSome (g.L.Logs.standing c.keep_refused.new.self name) (λ s. StaysSame s found ⊎ StopsEarly l s found)) c.as_slice-in-Ok.ensures.value begun))
    (λ s either. in_part c.args.mended.now.log.items c.args.mended.now.refused.items s found kept now gained either)) c.write_anew.ensures.begun

pub returns-in-Err-clause-begun : goal.returns-in-Err-clause-begun
returns-in-Err-clause-begun g c =
    let name = c.args.name.now in
    let kept = g.L.Logs.refused c.args.logs.now name in
    let now = g.L.Logs.refused c.keep_refused.new.self name in
    nothing_begun c.args.mended.now.log.items c.args.mended.now.refused.items (g.L.Logs.standing c.args.logs.now name) (g.L.Logs.standing c.keep_refused.new.self name) kept now
    (ap (λ (f : List ℕ → Option Standing). f name) c.keep_refused.ensures.same)
    (subst (λ (l : List ℕ). AppendsFront kept now l) c.as_slice.ensures.value c.in-Err.ensures.gained)
