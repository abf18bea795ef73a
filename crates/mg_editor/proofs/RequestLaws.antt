-- What requests that are carried leave of each buffer, and what they do with the buffers.
use Rattle.std.proofs.Common.{◌≡◌, ◌⊎◌, inl, inr, ℕ, Bool, true, false, List, [], ◌∷◌, ◌++◌, Option, Some, None, Result, Ok, Err, refl, ap, ◌∙◌, zero, suc, ◌<◌, get_or, sym, subst, arith, append-nil}
use Rattle.std.specs.Prelude.{encode_utf8_all, if◌then◌else◌}
use Rattle.rga_exchange.specs.declared.log.LogEnd.{LogEnd}
use Rattle.mg_buffer.specs.OpenState.{OpenState, with_brief, with_runs}
use Rattle.mg_buffer.specs.State.{State}
use Rattle.mg_files.specs.Calls.{Call, Adds, found_call, load_told}
use Rattle.mg_files.specs.Loading.{load_outcome}
use Rattle.mg_files.specs.declared.fault.LoadFault.{LoadFault}
use Rattle.mg_files.proofs.OpenSteps.{opened_name}
use Rattle.mg_minibuffer.specs.declared.ending.Request.{Request}
use Rattle.mg_files.specs.Asking.{Role, Connects, Waits}
use Rattle.mg_files.specs.Meeting.{Exchanges}
use Rattle.mg_workspace.specs.Names.{buffer_named}
use Rattle.mg_workspace.specs.Opening.{is_full}
use Rattle.mg_workspace.specs.Workspaces.{Workspace, workspace_buffer}
use Rattle.mg_editor.specs.Carrying.{Carried}
use Rattle.mg_editor.specs.Editors.{Editor}
use Rattle.mg_editor.specs.Finding.{Loads, Opening, open_outcome, opening_outcome, unopened}
use Rattle.mg_editor.specs.Meeting.{meeting_outcome, role_of}
use Rattle.mg_editor.specs.Telling.{CarryAnswer, ChangesCurrent, TellsOutcome, editor_saying}
use Rattle.mg_editor.proofs.ActionCases.{KeepsNames}
use Rattle.mg_editor.proofs.CourseLaws.{save_keeps, save_goes}
use Rattle.std.specs.List.{Contains}
use Rattle.std.proofs.lemmas.List.Elements.{Contains-append_cases}
use Rattle.std.proofs.lemmas.Option.{same_Some}
use Rattle.mg_files.specs.Files.{Files}
use Rattle.mg_files.specs.declared.port.PortFault.{PortFault}
use Rattle.mg_files.specs.declared.port.PortFault.TheVariants.{File, Memory}
use Rattle.mg_files.specs.Held.{Held, MayLead}
use Rattle.mg_files.proofs.ChangeSteps.{made_are}
use Rattle.mg_editor.specs.Holding.{AreOpen, HaveOwnNames, GoesOn, IsOpenedBy}
use Rattle.mg_editor.proofs.CallLaws.{AllSpare, all_spared}
use Rattle.mg_editor.proofs.EachLaws.{all_go, stay_here, nothing_made}
use Rattle.mg_minibuffer.specs.declared.ending.Request.TheVariants as request
use Rattle.mg_minibuffer.specs.declared.message.Message.TheVariants as message
use Rattle.mg_workspace.specs.declared.failures.Task.TheVariants as task

-- ---- what a request that is carried may do with the buffers

-- no buffer of that name was open, and one was opened
abbrev pub Opens : List ℕ → Workspace → Workspace → Type 0
Opens name w v =
    (x : OpenState) × (buffer_named name w.buffers.all ≡ None) × (x.buffer.name ≡ encode_utf8_all name) × (v.buffers.all ≡ w.buffers.all ++ x ∷ [])

-- the request was for it
abbrev pub OpensAsked : Request → Workspace → Workspace → Type 0
OpensAsked carried w v = (name : List ℕ) × (carried ≡ request.Find name) × Opens name w v

loads : (name : List ℕ) (calls more : Option (List Call)) (r : Opening) (w v : Workspace) → buffer_named name w.buffers.all ≡ None → Loads (encode_utf8_all name) calls more r w v
    → KeepsNames w v ⊎ Opens name w v
loads name calls more r w v none (inl (is, answer, adds)) = inl (inl (ap (λ (u : Workspace). u.buffers.all) is))
loads name calls more r w v none (inr (Err fault, adds, (is, answer))) = inl (inl (ap (λ (u : Workspace). u.buffers.all) is))
loads name calls more r w v none (inr (Ok found, adds, (is, answer))) =
    by (load_outcome (encode_utf8_all name) w.replica w.limit found) refl is
  where
    by : (o : Result (OpenState × LogEnd) LoadFault) → load_outcome (encode_utf8_all name) w.replica w.limit found ≡ o → v ≡ (open_outcome o w).0 → KeepsNames w v ⊎ Opens name w v
    by (Err fault) came is = inl (inl (ap (λ (u : Workspace). u.buffers.all) is))
    by (Ok (b, end)) came is =
        let named : b.buffer.name ≡ encode_utf8_all name = opened_name (encode_utf8_all name) w.replica w.limit found b end came in
        inr (with_brief w.brief (with_runs w.runs b), none, named, ap (λ (u : Workspace). u.buffers.all) is)

meets : (role : Role) (calls more : Option (List Call)) (old new : Editor) (r : CarryAnswer)
    → ChangesCurrent task.Exchange (λ answer b d. Exchanges role calls more b d answer) meeting_outcome old new r → KeepsNames old.work new.work
meets role calls more old new r h =
    inr (old.work.buffers.current, h.became.0, ap (λ (b : State). b.name) h.became.2.rest, ap (λ (w : Workspace). w.buffers.all) h.became.1)

-- what a request for a buffer leads to, by the editor where nothing is opened
abbrev Asked : List ℕ → Option (List Call) → Option (List Call) → Editor → Editor → CarryAnswer → Option Editor → Type 0
Asked name calls more old new r None = TellsOutcome (Loads (encode_utf8_all name) calls more) opening_outcome old new r
Asked name calls more old new r (Some now) = (more ≡ calls) × (new ≡ now) × (r ≡ Ok tt)

finds : (name : List ℕ) (calls more : Option (List Call)) (old new : Editor) (r : CarryAnswer) → Carried (request.Find name) calls more old new r → KeepsNames old.work new.work ⊎ Opens name old.work new.work
finds name calls more old new r h = by (buffer_named name old.work.buffers.all) refl h
  where
    by : (at : Option ℕ) → buffer_named name old.work.buffers.all ≡ at → Asked name calls more old new r (unopened at old) → KeepsNames old.work new.work ⊎ Opens name old.work new.work
    by (Some i) is (told, same, answer) = inl (inl (ap (λ (e : Editor). e.work.buffers.all) same))
    by None is it = if_full (is_full old.work) it
      where
        if_full : (full : Bool) → Asked name calls more old new r (if full then Some (editor_saying old.work message.TooManyBuffers old) else None) → KeepsNames old.work new.work ⊎ Opens name old.work new.work
        if_full true (told, same, answer) = inl (inl (ap (λ (e : Editor). e.work.buffers.all) same))
        if_full false told = loads name calls more told.came old.work new.work is told.became

pub carry_leaves : (carried : Request) (calls more : Option (List Call)) (old new : Editor) (r : CarryAnswer) → Carried carried calls more old new r → KeepsNames old.work new.work ⊎ OpensAsked carried old.work new.work
carry_leaves request.Save calls more old new r h =
    inl (inr (old.work.buffers.current, h.became.0, (save_keeps h.came calls more (workspace_buffer old.work) h.became.0 h.became.2).name, ap (λ (w : Workspace). w.buffers.all) h.became.1))
carry_leaves request.Exchange calls more old new r h = inl (meets Connects calls more old new r h)
carry_leaves request.Serve calls more old new r h = inl (meets Waits calls more old new r h)
carry_leaves (request.Find name) calls more old new r h = elim (finds name calls more old new r h) [
  | inl keeps ↦ inl keeps
  | inr opened ↦ inr (name, refl, opened)
]
carry_leaves carried calls more old new r (told, is, answer) = inl (inl (ap (λ (e : Editor). e.work.buffers.all) is))

-- ---- a buffer that is asked for

abbrev Open : List ℕ → Editor → OpenState → Held → Held → Type 0
Open name old d s t = GoesOn [] old.work.buffers s d t ⊎ IsOpenedBy name old.work s d t

nothing_opened : (at : Option ℕ) (old now : Editor) → unopened at old ≡ Some now → now.work.buffers.all ≡ old.work.buffers.all
nothing_opened (Some i) old now is = ap (λ (e : Editor). e.work.buffers.all) (sym (same_Some _ _ is))
nothing_opened None old now is = by (is_full old.work) is
  where
    by : (full : Bool) → (if full then Some (editor_saying old.work message.TooManyBuffers old) else None) ≡ Some now → now.work.buffers.all ≡ old.work.buffers.all
    by true e = ap (λ (e : Editor). e.work.buffers.all) (sym (same_Some _ _ e))
    by false e = absurd cc

loads_spare : (name other : List ℕ) (given : Result Files PortFault) → AllSpare other (load_told given name)
loads_spare name other (Ok found) = (inr (λ f g e. e), tt)
loads_spare name other (Err File) = (inr (λ f g e. e), tt)
loads_spare name other (Err (Memory _)) = tt

-- a load leaves all files, whatever was answered
load_leaves : (name : List ℕ) (given : Result Files PortFault) (before made : List Call) (s t : Held) → Adds (Some before) (Some (before ++ made)) (load_told given name) → MayLead made s t → (other : List ℕ) → t other ≡ s other
load_leaves name given before made s t adds leads other =
    all_spared other made s t (subst (AllSpare other) (sym (made_are before made (load_told given name) adds)) (loads_spare name other given)) leads

opens : (name : List ℕ) (before made : List Call) (s t : Held) (r : Opening) (old : Editor) (v : Workspace) → Loads name (Some before) (Some (before ++ made)) r old.work v → MayLead made s t
    → (d : OpenState) → Contains v.buffers.all d → Open name old d s t
opens name before made s t r old v (inl (is, answer, inl adds)) leads d c =
    inl (stay_here old.work.buffers v.buffers.all s t (ap (λ (w : Workspace). w.buffers.all) is) (nothing_made before made s t (adds ∙ ap Some (append-nil before)) leads) d c)
opens name before made s t r old v (inl (is, answer, inr (found, adds, may))) leads d c =
    inl (stay_here old.work.buffers v.buffers.all s t (ap (λ (w : Workspace). w.buffers.all) is) (load_leaves name (Ok found) before made s t adds leads) d c)
opens name before made s t r old v (inr (Err fault, adds, (is, answer))) leads d c =
    inl (stay_here old.work.buffers v.buffers.all s t (ap (λ (w : Workspace). w.buffers.all) is) (load_leaves name (Err fault) before made s t adds leads) d c)
opens name before made s t r old v (inr (Ok found, adds, (is, answer))) leads d c =
    by (load_outcome name old.work.replica old.work.limit found) refl is
  where
    led : MayLead (found_call name found ∷ []) s t
    led = subst (λ l. MayLead l s t) (made_are before made _ adds) leads

    same : (other : List ℕ) → t other ≡ s other
    same = load_leaves name (Ok found) before made s t adds leads

    by : (o : Result (OpenState × LogEnd) LoadFault) → load_outcome name old.work.replica old.work.limit found ≡ o → v ≡ (open_outcome o old.work).0 → Open name old d s t
    by (Err fault) came is = inl (stay_here old.work.buffers v.buffers.all s t (ap (λ (w : Workspace). w.buffers.all) is) same d c)
    by (Ok (b, end)) came is = elim (Contains-append_cases old.work.buffers.all _ d (subst (λ (w : Workspace). Contains w.buffers.all d) is c)) [
      | inl was ↦ inl (stay_here old.work.buffers old.work.buffers.all s t refl same d was)
      | inr last ↦ inr (record { found = found; answers = led.1.found; loaded = b; end = end; outcome = came; is = only d _ last; held = same name })
    ]
      where
        only : (d x : OpenState) → Contains (x ∷ []) d → d ≡ x
        only d x c = first c.0 c.1 c.2
          where
            first : (k : ℕ) → k < 1 → get_or (x ∷ []) k d ≡ d → d ≡ x
            first zero lt e = sym e
            first (suc k) lt e = absurd (omega (arith, lt))

-- ---- requests

pub request_goes : (carried : Request) (before made : List Call) (old new : Editor) (r : CarryAnswer) (s t : Held) → role_of carried ≡ None → AreOpen old.work.buffers → HaveOwnNames old.work.buffers
    → Carried carried (Some before) (Some (before ++ made)) old new r → MayLead made s t → (d : OpenState) → Contains new.work.buffers.all d
    → GoesOn [] old.work.buffers s d t ⊎ ((name : List ℕ) × (carried ≡ request.Find name) × IsOpenedBy (encode_utf8_all name) old.work s d t)
request_goes request.Save before made old new r s t alone are own h leads d c =
    let after = h.became.0 in
    inl (all_go [] before made s t old.work.buffers after new.work.buffers.all are.current own (ap (λ (w : Workspace). w.buffers.all) h.became.1)
    (save_goes h.came before (Some before) (Some (before ++ made)) (workspace_buffer old.work) after refl h.became.2) leads d c)
request_goes (request.Find name) before made old new r s t alone are own h leads d c =
    by (unopened (buffer_named name old.work.buffers.all) old) refl h
  where
    by : (o : Option Editor) → unopened (buffer_named name old.work.buffers.all) old ≡ o → elim o as (λ _. Type 0) [
      | None ↦ TellsOutcome (Loads (encode_utf8_all name) (Some before) (Some (before ++ made))) opening_outcome old new r
      | Some now ↦ (Some (before ++ made) ≡ Some before) × (new ≡ now) × (r ≡ Ok tt)
    ] → GoesOn [] old.work.buffers s d t ⊎ ((other : List ℕ) × (request.Find name ≡ request.Find other) × IsOpenedBy (encode_utf8_all other) old.work s d t)
    by None e told = elim (opens (encode_utf8_all name) before made s t told.came old new.work told.became leads d c) [
      | inl goes ↦ inl goes
      | inr opened ↦ inr (name, refl, opened)
    ]
    by (Some now) e (more, is, answer) =
        inl (stay_here old.work.buffers new.work.buffers.all s t (ap (λ (e : Editor). e.work.buffers.all) is ∙ nothing_opened (buffer_named name old.work.buffers.all) old now e)
        (nothing_made before made s t more leads) d c)
request_goes request.Exchange before made old new r s t alone are own h leads d c = let no : Some Connects ≡ None = alone in absurd cc
request_goes request.Serve before made old new r s t alone are own h leads d c = let no : Some Waits ≡ None = alone in absurd cc
request_goes carried before made old new r s t alone are own (more, is, answer) leads d c =
    inl (stay_here old.work.buffers new.work.buffers.all s t (ap (λ (e : Editor). e.work.buffers.all) is) (nothing_made before made s t more leads) d c)
