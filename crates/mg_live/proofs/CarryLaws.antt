-- What a meeting with a peer and any other request leave of the open buffers, and of what is held under other names.
use Rattle.std.proofs.Common.{◌≡◌, ◌<◌, ◌++◌, ℕ, List, length, set, Some, sym, ap, subst, inl, inr, ◌∙◌, true, [], Option, None, Ok, refl, append-nil, Result, Err}
use Rattle.std.specs.List.{Contains}
use Rattle.std.proofs.lemmas.List.{append_cancel_left}
use Rattle.std.proofs.lemmas.List.Elements.{Contains-get_or}
use Rattle.std.proofs.lemmas.Option.{same_Some}
use Rattle.std.specs.Prelude.{encode_utf8_all}
use Rattle.std.specs.Str.{all_scalars}
use Rattle.rga_ops.specs.declared.op.Op.{Op}
use Rattle.mg_buffer.specs.OpenState.{OpenState}
use Rattle.mg_files.specs.Calls.{Call, Adds, load_told}
use Rattle.mg_files.specs.Held.{Held, MayLead}
use Rattle.mg_files.specs.Asking.{Role, Connects, Waits}
use Rattle.mg_files.specs.Linking.{Account, ExchangesOver}
use Rattle.mg_files.specs.Files.{Files}
use Rattle.mg_files.specs.declared.port.PortFault.{PortFault}
use Rattle.mg_files.specs.declared.port.PortFault.TheVariants.{File, Memory}
use Rattle.mg_files.proofs.ChangeSteps.{made_are}
use Rattle.mg_workspace.specs.Buffers.{Buffers, current_buffer, no_buffer}
use Rattle.mg_workspace.specs.Workspaces.{Workspace, workspace_buffer}
use Rattle.mg_editor.specs.Editors.{Editor}
use Rattle.mg_editor.specs.Holding.{IsOpenedBy, IsOpen, AreOpen, HaveOwnNames}
use Rattle.mg_editor.specs.Meeting.{meeting_outcome, role_of}
use Rattle.mg_editor.specs.Telling.{CarryAnswer, ChangesCurrent}
use Rattle.mg_editor.proofs.CallLaws.{all_spared, AllSpare}
use Rattle.mg_editor.proofs.CourseLaws.{Course, exchange_goes, save_goes}
use Rattle.mg_editor.proofs.EachLaws.{all_go, stay_here, nothing_made}
use Rattle.mg_editor.proofs.SetLaws.{set_has}
use Rattle.mg_minibuffer.specs.declared.ending.Request.{Request}
use Rattle.mg_workspace.specs.Names.{buffer_named}
use Rattle.mg_editor.specs.Carrying.{Carried}
use Rattle.mg_editor.specs.Finding.{Loads, Opening, unopened}
use Rattle.mg_editor.proofs.RemovalLaws.{carried_stay}
use Rattle.mg_editor.proofs.RequestLaws.{request_goes}
use Rattle.mg_live.proofs.ShapeLaws.{AskedFor}
use Rattle.mg_workspace.specs.declared.failures.Task.TheVariants as task
use Rattle.mg_minibuffer.specs.declared.ending.Request.TheVariants as request
use Rattle.mg_live.specs.Keys.{Meets}
use Rattle.mg_live.proofs.NameLaws.{none_so}
use Rattle.mg_live.proofs.StageLaws.{Comes, GoOn}

-- ---- meetings

-- the calls of one buffer's course leave what is held under names that no buffer has
pub course_spares : {ops : List Op} (before made : List Call) (bs : Buffers) (after : OpenState) (s t : Held) → bs.current < length bs.all
    → Course ops before (Some (before ++ made)) (current_buffer bs) after → MayLead made s t → (name : List ℕ) → (IsOpen name bs → ⊥) → t name ≡ s name
course_spares before made bs after s t there course leads name closed =
    let led : MayLead course.made s t =
    subst (λ l. MayLead l s t) (append_cancel_left before made course.made (same_Some (before ++ made) (before ++ course.made) course.told)) leads in
    all_spared name course.made s t (course.spares name (λ is. closed (current_buffer bs, Contains-get_or bs.all bs.current no_buffer there, is))) led

pub have_met : {L : Type 0} (a : Account L) (role : Role) (old new : Editor) (r : CarryAnswer)
    → ChangesCurrent task.Exchange (λ answer b d. ExchangesOver a b d role answer) meeting_outcome old new r
    → Meets a.calls a.made old.work.buffers new.work.buffers
have_met a role old new r h told made s t are own now calls more leads =
    let after = h.became.0 in
    let bs = old.work.buffers in
    let all : new.work.buffers.all ≡ set bs.all bs.current after = ap (λ (w : Workspace). w.buffers.all) h.became.1 in
    let writable = now.writable after (subst (λ l. Contains l after) (sym all) (set_has bs.all bs.current after are.current)) in
    let fits = are.fits (workspace_buffer old.work) (Contains-get_or bs.all bs.current no_buffer are.current) in
    let came = exchange_goes a role h.became.2.course.ending told (workspace_buffer old.work) after calls writable fits h.became.2.course.came h.became.2.passes in
    let course = subst (λ o. Course came.0 told o (workspace_buffer old.work) after) more came.1 in
    record {
      ops = came.0;
      go_on = all_go came.0 told made s t bs after new.work.buffers.all are.current own all course leads;
      others = course_spares told made bs after s t are.current course leads;
    }

-- ---- requests

loads_spare : (name other : List ℕ) (given : Result Files PortFault) → AllSpare other (load_told given name)
loads_spare name other (Ok found) = (inr (λ f g e. e), tt)
loads_spare name other (Err File) = (inr (λ f g e. e), tt)
loads_spare name other (Err (Memory _)) = tt

module _ (before made : List Call) (s t : Held) (leads : MayLead made s t) where
  told_spares : (name other : List ℕ) (given : Result Files PortFault) → Adds (Some before) (Some (before ++ made)) (load_told given name) → t other ≡ s other
  told_spares name other given adds =
      all_spared other made s t (subst (AllSpare other) (sym (made_are before made (load_told given name) adds)) (loads_spare name other given)) leads

  -- a load leaves what is held
  loads_leave : (name other : List ℕ) (r : Opening) (w v : Workspace) → Loads name (Some before) (Some (before ++ made)) r w v → t other ≡ s other
  loads_leave name other r w v (inl (is, answer, inl adds)) = nothing_made before made s t (adds ∙ ap Some (append-nil before)) leads other
  loads_leave name other r w v (inl (is, answer, inr (found, adds, may))) = told_spares name other (Ok found) adds
  loads_leave name other r w v (inr (given, adds, became)) = told_spares name other given adds

  find_leaves : (name other : List ℕ) (old new : Editor) (r : CarryAnswer) → Carried (request.Find name) (Some before) (Some (before ++ made)) old new r → t other ≡ s other
  find_leaves name other old new r h = by (unopened (buffer_named name old.work.buffers.all) old) h
    where
      by : (o : Option Editor) → AskedFor name (Some before) (Some (before ++ made)) old new r o → t other ≡ s other
      by None told = loads_leave (encode_utf8_all name) other told.came old.work new.work told.became
      by (Some now) (more, is, answer) = nothing_made before made s t more leads other

  module _ (name : List ℕ) (right : all_scalars name ≡ true) (old new : Editor) (are : AreOpen old.work.buffers) (own : HaveOwnNames old.work.buffers) where
    abbrev Live : List ℕ
    Live = encode_utf8_all name

    abbrev Each : Type 0
    Each = (d : OpenState) → Contains new.work.buffers.all d → Comes Live old.work s d t

    each : (carried : Request) (r : CarryAnswer) → role_of carried ≡ None → ((n : List ℕ) → carried ≡ request.Find n → all_scalars n ≡ true)
        → Carried carried (Some before) (Some (before ++ made)) old new r → Each
    each carried r alone spelled h d c = elim (request_goes carried before made old new r s t alone are own h leads d c) [
      | inl goes ↦ inl ([], goes)
      | inr (n, is, opened) ↦
          by n (spelled n is) opened (buffer_named n old.work.buffers.all) refl (subst (λ q. Carried q (Some before) (Some (before ++ made)) old new r) is h)
    ]
      where
        by : (n : List ℕ) → all_scalars n ≡ true → IsOpenedBy (encode_utf8_all n) old.work s d t → (at : Option ℕ) → buffer_named n old.work.buffers.all ≡ at
            → AskedFor n (Some before) (Some (before ++ made)) old new r (unopened at old) → Comes Live old.work s d t
        by n spelled opened (Some i) at (more, is, answer) =
            inl ([], stay_here old.work.buffers new.work.buffers.all s t (ap (λ (e : Editor). e.work.buffers.all) is) (nothing_made before made s t more leads) d c)
        by n spelled opened None at told =
            inr (encode_utf8_all n, opened, λ same there. none_so n old.work.buffers spelled at (subst (λ x. IsOpen x old.work.buffers) (sym same) there))

    spared : (carried : Request) (r : CarryAnswer) → role_of carried ≡ None → Carried carried (Some before) (Some (before ++ made)) old new r
        → (IsOpen Live old.work.buffers → ⊥) → t Live ≡ s Live
    spared request.Idle r alone (more, is, answer) closed = nothing_made before made s t more leads Live
    spared request.Quit r alone (more, is, answer) closed = nothing_made before made s t more leads Live
    spared request.Save r alone h closed =
        course_spares before made old.work.buffers h.became.0 s t are.current
        (save_goes h.came before (Some before) (Some (before ++ made)) (workspace_buffer old.work) h.became.0 refl h.became.2) leads Live closed
    spared (request.Find n) r alone h closed = find_leaves n Live old new r h
    spared request.Exchange r alone h closed = let no : Some Connects ≡ None = alone in absurd cc
    spared request.Serve r alone h closed = let no : Some Waits ≡ None = alone in absurd cc

    -- none is removed
    stays : (carried : Request) (calls more : Option (List Call)) (r : CarryAnswer) → Carried carried calls more old new r
        → (b : OpenState) → Contains old.work.buffers.all b → b.buffer.name ≡ Live → (IsOpen Live new.work.buffers → ⊥) → (b.buffer.unsaved ≡ []) × (t Live ≡ s Live)
    stays carried calls more r h b c is none =
        absurd (none (subst (λ n. IsOpen n new.work.buffers) is (carried_stay carried calls more old new r h b c)))

    pub carry_goes : (carried : Request) (r : CarryAnswer) → AreOpen new.work.buffers → ((n : List ℕ) → carried ≡ request.Find n → all_scalars n ≡ true)
        → Carried carried (Some before) (Some (before ++ made)) old new r
        → ((role : Role) → role_of carried ≡ Some role → Meets (Some before) (Some (before ++ made)) old.work.buffers new.work.buffers)
        → GoOn Live old.work new.work s t
    carry_goes carried r now spelled h meets = by (role_of carried) refl
      where
        by : (role : Option Role) → role_of carried ≡ role → GoOn Live old.work new.work s t
        by None alone = record {
          each = each carried r alone spelled h;
          removed = stays carried (Some before) (Some (before ++ made)) r h;
          spared = spared carried r alone h;
        }
        by (Some role) is =
            let met = meets role is before made s t are own now refl refl leads in
            record {
              each = λ d c. inl (met.ops, met.go_on d c);
              removed = stays carried (Some before) (Some (before ++ made)) r h;
              spared = met.others Live;
            }
