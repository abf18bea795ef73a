-- What an action may do with the buffers.
use Rattle.std.proofs.Common.{List, ◌≡◌, ◌⊎◌, inl, inr, ℕ, Bool, true, false, length, set, Option, Some, None, Ok, Err, refl, ap, subst}
use Rattle.std.specs.Prelude.{if◌then◌else◌}
use Rattle.std.specs.List.{remove}
use Rattle.std.specs.Option.{option_map_or}
use Rattle.mg_plain.specs.declared.command.Command.{Command}
use Rattle.rga_ops.specs.declared.op.Op.{Op}
use Rattle.mg_buffer.specs.Faults.{FaultVerdict, run_answer, undo_answer}
use Rattle.mg_buffer.specs.Following.{with_operations}
use Rattle.mg_buffer.specs.OpenState.{OpenState, is_changed}
use Rattle.mg_buffer.specs.Ran.{Ran}
use Rattle.mg_buffer.specs.Sight.{Notes, command_call}
use Rattle.mg_buffer.specs.State.{State}
use Rattle.mg_buffer.specs.Undid.{Undid}
use Rattle.mg_minibuffer.specs.declared.ending.Action.{Action}
use Rattle.mg_minibuffer.specs.declared.ending.Action.TheVariants.{Nothing, EndRun, Run, Undo, Arrange, Switch, Kill}
use Rattle.mg_minibuffer.specs.declared.ending.Ending.{Ending}
use Rattle.mg_minibuffer.specs.declared.ending.Request.{Request}
use Rattle.mg_workspace.specs.Actions.{ActionOutcome, ActionVerdict, ActsInCurrent, Done, current_state, gone_to, refusal_outcome, removal_outcome, removed}
use Rattle.mg_workspace.specs.AtIndex.{ActsAt, RunsAt, state_at, with_state_and_notes_at}
use Rattle.mg_workspace.specs.Buffers.{buffer_at, idled}
use Rattle.mg_workspace.specs.Names.{asked, next_round}
use Rattle.mg_workspace.specs.Workspaces.{Workspace}
use Rattle.mg_workspace.specs.declared.fault.ActionFault.TheVariants.{Refused}
use Rattle.mg_workspace.specs.declared.fault.Cause.TheVariants as cause
use Rattle.mg_editor.specs.Editors.{Editor}
use Rattle.mg_editor.specs.LiveTaking.{taking}
use Rattle.mg_editor.specs.Presses.{Ended}

pub acted_at : (i : ℕ) (Becomes : State → Notes → Type 0) (w v : Workspace) (r : ActionVerdict) (verdict : FaultVerdict) → ActsAt i verdict Becomes w (v, r)
    → (v ≡ w) ⊎ ((verdict ≡ Ok tt) × (b : State) × (notes : Notes) × Becomes b notes × (v ≡ with_state_and_notes_at i b notes w))
acted_at i Becomes w v r verdict (inl lacks) = inl (ap (λ (o : ActionOutcome). o.0) lacks)
acted_at i Becomes w v r (Ok u) (inr t) = inr (refl, t.0, t.1, t.2, ap (λ (o : ActionOutcome). o.0) t.3)
acted_at i Becomes w v r (Err e) (inr is) = inl (ap (λ (o : ActionOutcome). o.0) is)

-- the current buffer is one at an index
pub acted : (Becomes : State → Notes → Type 0) (w v : Workspace) (r : ActionVerdict) (verdict : FaultVerdict) → ActsInCurrent verdict Becomes w (v, r)
    → (v ≡ w) ⊎ ((verdict ≡ Ok tt) × (b : State) × (notes : Notes) × Becomes b notes × (v ≡ with_state_and_notes_at w.buffers.current b notes w))
acted Becomes w v r verdict did = acted_at w.buffers.current Becomes w v r verdict did

-- going to a buffer changes none
pub switches : (w v : Workspace) (r : ActionVerdict) (to : Option ℕ) → (v, r) ≡ option_map_or (λ i. (gone_to i w, Ok tt)) to (refusal_outcome cause.NoSuchBuffer w) → v.buffers.all ≡ w.buffers.all
switches w v r None e = ap (λ (o : ActionOutcome). o.0.buffers.all) e
switches w v r (Some i) e = ap (λ (o : ActionOutcome). o.0.buffers.all) e

-- the buffer at an index had nothing to be saved, and was removed
abbrev pub Removes : Workspace → Workspace → Type 0
Removes w v = (i : ℕ) × (is_changed (buffer_at i w.buffers) ≡ false) × (v.buffers.all ≡ remove w.buffers.all i)

-- one is removed, or none
pub kills : (w v : Workspace) (r : ActionVerdict) (gone : Option ℕ) → (v, r) ≡ option_map_or (λ i. removal_outcome i w) gone (refusal_outcome cause.NoSuchBuffer w)
    → (v.buffers.all ≡ w.buffers.all) ⊎ Removes w v
kills w v r None e = inl (ap (λ (o : ActionOutcome). o.0.buffers.all) e)
kills w v r (Some i) e = by (is_changed (buffer_at i w.buffers)) _ refl e
  where
    by : (changed only : Bool) → is_changed (buffer_at i w.buffers) ≡ changed
        → (v, r) ≡ (if changed then refusal_outcome cause.BufferIsChanged w else (if only then refusal_outcome cause.OnlyOneBuffer w else (removed i w, Ok tt)))
        → (v.buffers.all ≡ w.buffers.all) ⊎ Removes w v
    by true only at is = inl (ap (λ (o : ActionOutcome). o.0.buffers.all) is)
    by false true at is = inl (ap (λ (o : ActionOutcome). o.0.buffers.all) is)
    by false false at is = inr (i, at, ap (λ (o : ActionOutcome). o.0.buffers.all) is)

-- ---- what any action leaves

-- the buffers stay, or the one at an index became another of its name
abbrev pub KeepsNames : Workspace → Workspace → Type 0
KeepsNames w v =
    (v.buffers.all ≡ w.buffers.all)
    ⊎ ((i : ℕ) × (x : OpenState) × (x.buffer.name ≡ (state_at i w).name) × (v.buffers.all ≡ set w.buffers.all i x))

renewed : (w v : Workspace) (i : ℕ) (b : State) → b.name ≡ (state_at i w).name → v.buffers.all ≡ set w.buffers.all i (record (buffer_at i w.buffers) { buffer = b }) → KeepsNames w v
renewed w v i b name is = inr (i, record (buffer_at i w.buffers) { buffer = b }, name, is)

idles : (w v : Workspace) → v.buffers.all ≡ (idled w.buffers).all → KeepsNames w v
idles w v is = renewed w v w.buffers.current (record (current_state w) { undone = None }) refl is

pub run_keeps : (i : ℕ) (command : Command) (n : ℕ) (w v : Workspace) (r : ActionVerdict) → RunsAt i command n w (v, r) → KeepsNames w v
run_keeps i command n w v r did =
    let call = command_call command n w.fill in
    elim (acted_at i (Ran call (state_at i w) w.notes) w v r (run_answer call (state_at i w) w.notes) did) [
      | inl e ↦ inl (ap (λ (u : Workspace). u.buffers.all) e)
      | inr t ↦ renewed w v i t.1 t.3.edited.name (ap (λ (u : Workspace). u.buffers.all) t.4)
    ]

pub action_leaves : (action : Action) (w v : Workspace) (r : ActionVerdict) → Done action w (v, r) → KeepsNames w v ⊎ Removes w v
action_leaves Nothing w v r e = inl (inl (ap (λ (o : ActionOutcome). o.0.buffers.all) e))
action_leaves EndRun w v r e = inl (idles w v (ap (λ (o : ActionOutcome). o.0.buffers.all) e))
action_leaves (Run command n) w v r did = inl (run_keeps w.buffers.current command n w v r did)
action_leaves Undo w v r did =
    elim (acted (Undid (current_state w) w.notes) w v r (undo_answer (current_state w)) did) [
      | inl e ↦ inl (inl (ap (λ (u : Workspace). u.buffers.all) e))
      | inr t ↦ inl (renewed w v w.buffers.current t.1 t.3.reverted.name (ap (λ (u : Workspace). u.buffers.all) t.4))
    ]
action_leaves (Arrange a) w v r (inl e) = inl (inl (ap (λ (o : ActionOutcome). o.0.buffers.all) e))
action_leaves (Arrange a) w v r (inr e) = inl (idles w v (ap (λ (o : ActionOutcome). o.0.buffers.all) e))
action_leaves (Switch name) w v r e = inl (inl (switches w v r (asked name (next_round (length w.buffers.all) w.buffers.current) w.buffers.all) e))
action_leaves (Kill name) w v r e = elim (kills w v r (asked name w.buffers.current w.buffers.all) e) [
  | inl same ↦ inl (inl same)
  | inr gone ↦ inr gone
]

pub takes_keep : (i : ℕ) (ops : List Op) (old new : Editor) → new ≡ taking i ops old → KeepsNames old.work new.work
takes_keep i ops old new is = renewed old.work new.work i (with_operations ops (state_at i old.work)) refl (ap (λ (e : Editor). e.work.buffers.all) is)

-- ---- no more than one command

-- nothing was done, or one command was run or refused
abbrev pub RunsOne : Workspace → Workspace → Type 0
RunsOne w v = (v ≡ w) ⊎ ((command : Command) × (r : ActionVerdict) × Done (Run command 1) w (v, r))

abbrev pub IsQuiet : Ending → Type 0
IsQuiet e = (e.action ≡ Nothing) ⊎ ((command : Command) × (e.action ≡ Run command 1))

pub one_keeps : (w v : Workspace) → RunsOne w v → KeepsNames w v
one_keeps w v (inl same) = inl (ap (λ (u : Workspace). u.buffers.all) same)
one_keeps w v (inr (command, r, did)) = run_keeps w.buffers.current command 1 w v r did

pub quiet_runs : (e : Ending) (w v : Workspace) (r : ActionVerdict) → IsQuiet e → Done e.action w (v, r) → RunsOne w v
quiet_runs e w v r (inl is) did = inl (let done : (v, r) ≡ (w, Ok tt) = subst (λ a. Done a w (v, r)) is did in ap (λ (o : ActionOutcome). o.0) done)
quiet_runs e w v r (inr (command, is)) did = inr (command, r, subst (λ a. Done a w (v, r)) is did)

-- the action of an ending, be it refused or not
pub ended_so : (e : Ending) (old new : Editor) (request : Request) → Ended e old new request → (r : ActionVerdict) × Done e.action old.work (new.work, r)
ended_so e old new request (inl t) = (Ok tt, t.0)
ended_so e old new request (inr t) = (Err (Refused t.0), t.1)
