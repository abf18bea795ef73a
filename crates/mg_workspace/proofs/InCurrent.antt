-- What the current buffer answered, as what came of it in the workspace.
use Rattle.std.proofs.Common.{◌≡◌, ◌⊎◌, Ok, Err, OnOk, OnErr, is_ok, true≢false, inl, inr, refl, sym, ap, subst, ◌∙◌}
use Rattle.std.proofs.lemmas.List.{set-get_or}
use Rattle.rga_ops.specs.Prelude.{Memory as Lacks}
use Rattle.mg_buffer.specs.declared.fault.BufferFault.TheVariants.{Store}
use Rattle.mg_buffer.specs.Faults.{FaultVerdict}
use Rattle.mg_buffer.specs.Sight.{Notes}
use Rattle.mg_buffer.specs.State.{State}
use Rattle.mg_buffer.specs.OpenState.{OpenState}
use Rattle.mg_workspace.specs.Actions.{ActionVerdict, ActionOutcome, of_buffer, current_state, with_state_and_notes, ActsInCurrent}
use Rattle.mg_workspace.specs.Buffers.{no_buffer, with_current}
use Rattle.mg_workspace.specs.Workspaces.{Workspace, workspace_buffer}

-- the current buffer and the notes became what they were
stayed : (w : Workspace) (b : State) (notes : Notes) → b ≡ current_state w → notes ≡ w.notes → with_state_and_notes b notes w ≡ w
stayed w b notes same kept =
    (λ k. with_state_and_notes (same k) (kept k) w) ∙ ap (λ xs. record w { buffers = record w.buffers { all = xs } }) (set-get_or w.buffers.all w.buffers.current no_buffer)

acts : (r verdict : FaultVerdict) (Becomes : State → Notes → Type 0) (w : Workspace) (b : State) (notes : Notes) → (r ≡ Err (Store Lacks)) ⊎ (r ≡ verdict)
    → OnOk r (Becomes b notes) → OnErr r (b ≡ current_state w) → OnErr r (notes ≡ w.notes) → ActsInCurrent verdict Becomes w (with_state_and_notes b notes w, of_buffer r)
acts (Ok u) verdict Becomes w b notes (inl lacks) became same kept = absurd (true≢false (ap is_ok lacks))
acts (Ok u) verdict Becomes w b notes (inr exact) became same kept =
    subst (λ v. ActsInCurrent v Becomes w (with_state_and_notes b notes w, Ok tt)) exact (inr (b, notes, became, refl))
acts (Err e) verdict Becomes w b notes (inl lacks) became same kept = inl (λ k. (stayed w b notes same kept k, of_buffer (lacks k)))
acts (Err e) verdict Becomes w b notes (inr exact) became same kept =
    subst (λ v. ActsInCurrent v Becomes w (with_state_and_notes b notes w, of_buffer (Err e))) exact (inr (λ k. (stayed w b notes same kept k, of_buffer (Err e))))

-- the current buffer, by the name x, has another state
abbrev changed_to : Workspace → OpenState → State → Notes → Workspace
changed_to w x b notes = record w { buffers = with_current w.buffers (record x { buffer = b }); notes = notes }

-- it answered r
pub acted : (verdict : Workspace → State → FaultVerdict) (Becomes : Workspace → State → State → Notes → Type 0) (s w : Workspace) (x : OpenState) (r : FaultVerdict)
    (b : State) (notes : Notes) (told : ActionVerdict) → s ≡ w → x ≡ workspace_buffer s → (r ≡ Err (Store Lacks)) ⊎ (r ≡ verdict s x.buffer) → OnOk r (Becomes s x.buffer b notes)
    → OnErr r (b ≡ x.buffer) → OnErr r (notes ≡ s.notes) → told ≡ of_buffer r
    → ActsInCurrent (verdict w (current_state w)) (Becomes w (current_state w)) w (changed_to s x b notes, told)
acted verdict Becomes s w x r b notes told whole is exact became same kept is_told =
    let here : x.buffer ≡ current_state s = ap (λ y. y.buffer) is in
    let done = acts r (verdict s (current_state s)) (Becomes s (current_state s)) s b notes (subst (λ d. (r ≡ Err (Store Lacks)) ⊎ (r ≡ verdict s d)) here exact)
    (subst (λ d. OnOk r (Becomes s d b notes)) here became) (subst (λ d. OnErr r (b ≡ d)) here same) kept in
    let back = sym is in
    let tell = sym is_told in
    let named : ◌≡◌ {A = ActionOutcome} (with_state_and_notes b notes s, of_buffer r) (changed_to s x b notes, told) = λ k. (changed_to s (back k) b notes, tell k) in
    subst (λ v. ActsInCurrent (verdict v (current_state v)) (Becomes v (current_state v)) v (changed_to s x b notes, told)) whole
    (subst (ActsInCurrent (verdict s (current_state s)) (Becomes s (current_state s)) s) named done)
