-- What the buffer at an index answered, as what came of it in the workspace.
use Rattle.std.proofs.Common.{◌≡◌, ◌⊎◌, ℕ, List, [], Ok, Err, OnOk, OnErr, MatchResult, Result, is_ok, true≢false, inl, inr, refl, sym, ap, subst, ◌∙◌}
use Rattle.std.proofs.lemmas.List.{set-get_or}
use Rattle.rga_ops.specs.declared.op.Op.{Op}
use Rattle.rga_ops.specs.declared.refusal.Refusal.{Refusal}
use Rattle.rga_ops.specs.Prelude.{Memory as Lacks}
use Rattle.mg_buffer.specs.declared.fault.BufferFault.TheVariants.{Store}
use Rattle.mg_buffer.specs.Faults.{FaultVerdict}
use Rattle.mg_buffer.specs.Following.{TakesOperations, with_operations}
use Rattle.mg_buffer.specs.OpenState.{OpenState}
use Rattle.mg_buffer.specs.Sight.{Notes}
use Rattle.mg_buffer.specs.State.{State}
use Rattle.mg_buffer.proofs.TakingLaws.{as_stated, nothing_stated}
use Rattle.mg_workspace.specs.Actions.{ActionVerdict, ActionOutcome, of_buffer}
use Rattle.mg_workspace.specs.AtIndex.{ActsAt, state_at, with_operations_at, with_state_at, with_state_and_notes_at}
use Rattle.mg_workspace.specs.Buffers.{buffer_at, no_buffer, with_at}
use Rattle.mg_workspace.specs.Workspaces.{Workspace}

-- the buffer became what it was
same_state : (i : ℕ) (w : Workspace) (b : State) → b ≡ state_at i w → with_state_at i b w ≡ w
same_state i w b same = ap (λ x. with_state_at i x w) same ∙ ap (λ xs. record w { buffers = record w.buffers { all = xs } }) (set-get_or w.buffers.all i no_buffer)

stayed : (i : ℕ) (w : Workspace) (b : State) (notes : Notes) → b ≡ state_at i w → notes ≡ w.notes → with_state_and_notes_at i b notes w ≡ w
stayed i w b notes same kept = (λ k. record (same_state i w b same k) { notes = kept k })

acts : (i : ℕ) (r verdict : FaultVerdict) (Becomes : State → Notes → Type 0) (w : Workspace) (b : State) (notes : Notes) → (r ≡ Err (Store Lacks)) ⊎ (r ≡ verdict)
    → OnOk r (Becomes b notes) → OnErr r (b ≡ state_at i w) → OnErr r (notes ≡ w.notes) → ActsAt i verdict Becomes w (with_state_and_notes_at i b notes w, of_buffer r)
acts i (Ok u) verdict Becomes w b notes (inl lacks) became same kept = absurd (true≢false (ap is_ok lacks))
acts i (Ok u) verdict Becomes w b notes (inr exact) became same kept =
    subst (λ v. ActsAt i v Becomes w (with_state_and_notes_at i b notes w, Ok tt)) exact (inr (b, notes, became, refl))
acts i (Err e) verdict Becomes w b notes (inl lacks) became same kept = inl (λ k. (stayed i w b notes same kept k, of_buffer (lacks k)))
acts i (Err e) verdict Becomes w b notes (inr exact) became same kept =
    subst (λ v. ActsAt i v Becomes w (with_state_and_notes_at i b notes w, of_buffer (Err e))) exact (inr (λ k. (stayed i w b notes same kept k, of_buffer (Err e))))

-- the buffer at the index, by the name x, has another state
abbrev pub changed_at : ℕ → Workspace → OpenState → State → Notes → Workspace
changed_at i w x b notes = record w { buffers = with_at i w.buffers (record x { buffer = b }); notes = notes }

-- it answered r
pub acted_at : (i : ℕ) (verdict : Workspace → State → FaultVerdict) (Becomes : Workspace → State → State → Notes → Type 0) (s w : Workspace) (x : OpenState) (r : FaultVerdict)
    (b : State) (notes : Notes) (told : ActionVerdict) → s ≡ w → x ≡ buffer_at i s.buffers → (r ≡ Err (Store Lacks)) ⊎ (r ≡ verdict s x.buffer) → OnOk r (Becomes s x.buffer b notes)
    → OnErr r (b ≡ x.buffer) → OnErr r (notes ≡ s.notes) → told ≡ of_buffer r
    → ActsAt i (verdict w (state_at i w)) (Becomes w (state_at i w)) w (changed_at i s x b notes, told)
acted_at i verdict Becomes s w x r b notes told whole is exact became same kept is_told =
    let here : x.buffer ≡ state_at i s = ap (λ y. y.buffer) is in
    let done = acts i r (verdict s (state_at i s)) (Becomes s (state_at i s)) s b notes (subst (λ d. (r ≡ Err (Store Lacks)) ⊎ (r ≡ verdict s d)) here exact)
    (subst (λ d. OnOk r (Becomes s d b notes)) here became) (subst (λ d. OnErr r (b ≡ d)) here same) kept in
    let back = sym is in
    let tell = sym is_told in
    let named : ◌≡◌ {A = ActionOutcome} (with_state_and_notes_at i b notes s, of_buffer r) (changed_at i s x b notes, told) = λ k. (changed_at i s (back k) b notes, tell k) in
    subst (λ v. ActsAt i (verdict v (state_at i v)) (Becomes v (state_at i v)) v (changed_at i s x b notes, told)) whole
    (subst (ActsAt i (verdict s (state_at i s)) (Becomes s (state_at i s)) s) named done)

-- it is as it was where that was refused
pub refused_at : (i : ℕ) (s w : Workspace) (x : OpenState) (r : FaultVerdict) (b : State) (notes : Notes) (told : ActionVerdict) → s ≡ w → x ≡ buffer_at i s.buffers
    → OnErr r (b ≡ x.buffer) → OnErr r (notes ≡ s.notes) → told ≡ of_buffer r → OnErr told (changed_at i s x b notes ≡ w)
refused_at i s w x (Ok u) b notes told whole is same kept is_told = subst (λ t. OnErr t (changed_at i s x b notes ≡ w)) (sym is_told) tt
refused_at i s w x (Err e) b notes told whole is same kept is_told =
    let back : changed_at i s x b notes ≡ with_state_and_notes_at i b notes s = ap (λ y. changed_at i s y b notes) is in
    let it : changed_at i s x b notes ≡ w = back ∙ stayed i s b notes (same ∙ ap (λ (y : OpenState). y.buffer) is) kept ∙ whole in
    subst (λ t. OnErr t (changed_at i s x b notes ≡ w)) (sym is_told) it

-- ---- operations that it took, or not

pub took_at : {T : Type 0} (i : ℕ) (s w : Workspace) (x : OpenState) (r : Result T Refusal) (b : State) (ops : List Op) → s ≡ w → x ≡ buffer_at i s.buffers
    → MatchResult r (λ _. TakesOperations x.buffer ops b) (λ _. TakesOperations x.buffer [] b)
    → OnOk r (record s { buffers = with_at i s.buffers (record x { buffer = b }) } ≡ with_operations_at i ops w)
took_at i s w x (Ok t) b ops whole is took =
    let here : b ≡ with_operations ops x.buffer = as_stated took in
    (λ k. record s { buffers = with_at i s.buffers (record x { buffer = here k }) })
    ∙ ap (λ (y : OpenState). record s { buffers = with_at i s.buffers (record y { buffer = with_operations ops y.buffer }) }) is
    ∙ ap (with_operations_at i ops) whole
took_at i s w x (Err e) b ops whole is took = tt

pub left_at : {T : Type 0} (i : ℕ) (s w : Workspace) (x : OpenState) (r : Result T Refusal) (b : State) (ops : List Op) → s ≡ w → x ≡ buffer_at i s.buffers
    → MatchResult r (λ _. TakesOperations x.buffer ops b) (λ _. TakesOperations x.buffer [] b)
    → OnErr r (record s { buffers = with_at i s.buffers (record x { buffer = b }) } ≡ w)
left_at i s w x (Ok t) b ops whole is took = tt
left_at i s w x (Err e) b ops whole is took =
    let here : b ≡ x.buffer = nothing_stated took in
    (λ k. record s { buffers = with_at i s.buffers (record x { buffer = here k }) })
    ∙ ap (λ (y : OpenState). record s { buffers = with_at i s.buffers y }) is
    ∙ ap (λ xs. record s { buffers = record s.buffers { all = xs } }) (set-get_or s.buffers.all i no_buffer)
    ∙ whole
