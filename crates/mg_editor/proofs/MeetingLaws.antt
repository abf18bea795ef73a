-- What a meeting leaves of each buffer, as steps of what is held.
use Rattle.std.proofs.Common.{◌≡◌, List, ◌++◌, set, Some, sym, ap, subst}
use Rattle.std.specs.List.{Contains}
use Rattle.std.proofs.lemmas.List.Elements.{Contains-get_or}
use Rattle.rga_ops.specs.declared.op.Op.{Op}
use Rattle.mg_buffer.specs.OpenState.{OpenState}
use Rattle.mg_files.specs.Calls.{Call}
use Rattle.mg_files.specs.Held.{Held, MayLead}
use Rattle.mg_files.specs.Asking.{Role}
use Rattle.mg_files.specs.Linking.{Account, ExchangesOver}
use Rattle.mg_workspace.specs.Buffers.{no_buffer}
use Rattle.mg_workspace.specs.Workspaces.{Workspace, workspace_buffer}
use Rattle.mg_workspace.specs.declared.failures.Task.TheVariants as task
use Rattle.mg_editor.specs.Editors.{Editor}
use Rattle.mg_editor.specs.Holding.{AreOpen, HaveOwnNames, GoesOn}
use Rattle.mg_editor.specs.Meeting.{meeting_outcome}
use Rattle.mg_editor.specs.Telling.{CarryAnswer, ChangesCurrent}
use Rattle.mg_editor.proofs.SetLaws.{set_has}
use Rattle.mg_editor.proofs.CourseLaws.{Course, exchange_goes}
use Rattle.mg_editor.proofs.EachLaws.{all_go}

pub meeting_goes : {L : Type 0} (a : Account L) (role : Role) (before made : List Call) (old new : Editor) (r : CarryAnswer) (s t : Held) → AreOpen old.work.buffers → HaveOwnNames old.work.buffers → AreOpen new.work.buffers
    → a.calls ≡ Some before → a.made ≡ Some (before ++ made) → ChangesCurrent task.Exchange (λ answer b d. ExchangesOver a b d role answer) meeting_outcome old new r → MayLead made s t
    → (ops : List Op) × ((d : OpenState) → Contains new.work.buffers.all d → GoesOn ops old.work.buffers s d t)
meeting_goes a role before made old new r s t are own now calls more h leads =
    let after = h.became.0 in
    let all : new.work.buffers.all ≡ set old.work.buffers.all old.work.buffers.current after = ap (λ (w : Workspace). w.buffers.all) h.became.1 in
    let writable = now.writable after (subst (λ l. Contains l after) (sym all) (set_has old.work.buffers.all old.work.buffers.current after are.current)) in
    let course = exchange_goes a role h.became.2.course.ending before (workspace_buffer old.work) after calls writable
    (are.fits (workspace_buffer old.work) (Contains-get_or old.work.buffers.all old.work.buffers.current no_buffer are.current)) h.became.2.course.came h.became.2.passes in (
      course.0,
      all_go course.0 before made s t old.work.buffers after new.work.buffers.all are.current own all
          (subst (λ o. Course course.0 before o (workspace_buffer old.work) after) more course.1) leads,
    )
