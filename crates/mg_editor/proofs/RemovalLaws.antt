-- Names stay open, but that of a buffer that is removed; and a buffer that is removed had nothing to be saved.
use Rattle.std.proofs.Common.{◌≡◌, ◌⊎◌, inl, inr, ◌∙◌, ℕ, ◌<◌, false, List, [], ◌∷◌, length, get_or, set, Option, Ok, refl, sym, ap, subst}
use Rattle.std.specs.List.{Contains}
use Rattle.std.proofs.lemmas.List.{get_or_default, length-set}
use Rattle.std.proofs.lemmas.List.Elements.{Contains-append_left, Contains-get_or}
use Rattle.rga_ops.specs.declared.op.Op.{Op}
use Rattle.mg_plain.specs.declared.command.Command.{Command}
use Rattle.mg_buffer.specs.OpenState.{OpenState, is_changed}
use Rattle.mg_buffer.specs.State.{State}
use Rattle.mg_files.specs.Calls.{Call}
use Rattle.mg_files.specs.Held.{Held}
use Rattle.mg_files.specs.Run.{BufferStep, Saves, Runs, Undoes, Takes, Rests, MayStep, MayGo}
use Rattle.mg_minibuffer.specs.declared.ending.Reaction.{Reaction}
use Rattle.mg_minibuffer.specs.declared.ending.Reaction.TheVariants.{Ends, Replaces, Accepts}
use Rattle.mg_minibuffer.specs.declared.ending.Request.{Request}
use Rattle.mg_workspace.specs.Actions.{ActionVerdict}
use Rattle.mg_workspace.specs.AtIndex.{RunsAt}
use Rattle.mg_workspace.specs.Buffers.{Buffers, no_buffer}
use Rattle.mg_workspace.specs.Workspaces.{Workspace}
use Rattle.mg_editor.specs.Carrying.{Carried}
use Rattle.mg_editor.specs.Editors.{Editor}
use Rattle.mg_editor.specs.Holding.{GoesOn, IsOpen}
use Rattle.mg_editor.specs.LiveTaking.{taking}
use Rattle.mg_editor.specs.Pasting.{PasteAnswer, Pasted}
use Rattle.mg_editor.specs.Presses.{PressAnswer, FollowsReaction, Pressed}
use Rattle.mg_editor.specs.Telling.{CarryAnswer}
use Rattle.mg_editor.proofs.ActionCases.{KeepsNames, RunsOne, action_leaves, ended_so, one_keeps, run_keeps, takes_keep}
use Rattle.mg_editor.proofs.CourseLaws.{save_keeps}
use Rattle.mg_editor.proofs.NamesLaws.{set_name}
use Rattle.mg_editor.proofs.PasteCases.{behind_a_paste}
use Rattle.mg_editor.proofs.PressCases.{behind_a_press, replaces}
use Rattle.mg_editor.proofs.RequestLaws.{carry_leaves}
use Rattle.mg_editor.proofs.SetLaws.{still_or_gone}

-- ---- each name stays open

abbrev AllStay : Workspace → Workspace → Type 0
AllStay w v = (b : OpenState) → Contains w.buffers.all b → IsOpen b.buffer.name v.buffers

all_stay : (w v : Workspace) → KeepsNames w v → AllStay w v
all_stay w v (inl same) b c = (b, subst (λ l. Contains l b) (sym same) c, refl)
all_stay w v (inr (i, x, name, is)) b (k, lt, at) =
    let bs = w.buffers.all in
    let within : k < length (set bs i x) = subst (λ n. k < n) (sym (length-set bs i x)) lt in
    let has : Contains v.buffers.all (get_or (set bs i x) k no_buffer) = subst (λ l. Contains l (get_or (set bs i x) k no_buffer)) (sym is) (Contains-get_or (set bs i x) k no_buffer within) in
    (get_or (set bs i x) k no_buffer, has, set_name bs i x name k ∙ ap (λ (d : OpenState). d.buffer.name) (get_or_default bs k no_buffer b lt ∙ at))

stay_again : (w u v : Workspace) → AllStay w u → AllStay u v → AllStay w v
stay_again w u v first second b c =
    let one = first b c in
    let two = second one.0 one.1 in
    (two.0, two.1, two.2 ∙ one.2)

one_stays : (w v : Workspace) → RunsOne w v → AllStay w v
one_stays w v one = all_stay w v (one_keeps w v one)

pub taken_stay : (i : ℕ) (ops : List Op) (old new : Editor) → new ≡ taking i ops old → (b : OpenState) → Contains old.work.buffers.all b → IsOpen b.buffer.name new.work.buffers
taken_stay i ops old new is = all_stay old.work new.work (takes_keep i ops old new is)

pub spliced_stay : (i : ℕ) (command : Command) (n : ℕ) (old new : Editor) (r : ActionVerdict) → RunsAt i command n old.work (new.work, r)
    → (b : OpenState) → Contains old.work.buffers.all b → IsOpen b.buffer.name new.work.buffers
spliced_stay i command n old new r did = all_stay old.work new.work (run_keeps i command n old.work new.work r did)

pub pasted_stay : (put : List ℕ) (old new : Editor) (r : PasteAnswer) → Pasted put old new r → (b : OpenState) → Contains old.work.buffers.all b → IsOpen b.buffer.name new.work.buffers
pasted_stay put old new r p = behind_a_paste AllStay one_stays stay_again put old new r p

pub carried_stay : (carried : Request) (calls more : Option (List Call)) (old new : Editor) (r : CarryAnswer) → Carried carried calls more old new r
    → (b : OpenState) → Contains old.work.buffers.all b → IsOpen b.buffer.name new.work.buffers
carried_stay carried calls more old new r h = elim (carry_leaves carried calls more old new r h) [
  | inl keeps ↦ all_stay old.work new.work keeps
  | inr opened ↦ λ b c.
      let x = opened.2.0 in
      (b, subst (λ l. Contains l b) (sym opened.2.3) (Contains-append_left old.work.buffers.all (x ∷ []) b c), refl)
]

-- ---- or the buffer had nothing to be saved

abbrev AllStayOrSaved : Workspace → Workspace → Type 0
AllStayOrSaved w v = (b : OpenState) → Contains w.buffers.all b → IsOpen b.buffer.name v.buffers ⊎ (is_changed b ≡ false)

keeps_all : (w v : Workspace) → AllStay w v → AllStayOrSaved w v
keeps_all w v all b c = inl (all b c)

follows_so : (reaction : Reaction) (old new : Editor) (request : Request) → FollowsReaction reaction old new request → AllStayOrSaved old.work new.work
follows_so (Ends e) old new request it = let did = ended_so e old new request it in elim (action_leaves e.action old.work new.work did.0 did.1) [
  | inl keeps ↦ keeps_all old.work new.work (all_stay old.work new.work keeps)
  | inr gone ↦ λ b c. elim (still_or_gone old.work.buffers.all gone.0 b no_buffer c) [
    | inl still ↦ inl (b, subst (λ (l : List OpenState). Contains l b) (sym gone.2) still, refl)
    | inr is ↦ inr (ap is_changed is ∙ gone.1)
  ]
]
follows_so (Replaces pattern put count) old new request it =
    let two = replaces pattern put count old new request it in
    keeps_all old.work new.work (stay_again old.work two.0 new.work (one_stays old.work two.0 two.1) (one_stays two.0 new.work two.2))
follows_so Accepts old new request it = keeps_all old.work new.work (all_stay old.work new.work (inl (ap (λ (e : Editor). e.work.buffers.all) it.0)))

pub pressed_so : (byte : ℕ) (old new : Editor) (r : PressAnswer) → Pressed byte old new r
    → (b : OpenState) → Contains old.work.buffers.all b → IsOpen b.buffer.name new.work.buffers ⊎ (is_changed b ≡ false)
pressed_so byte old new r p =
    behind_a_press (AllStayOrSaved old.work) byte old new r (keeps_all old.work old.work (all_stay old.work old.work (inl refl)))
    (λ reaction request read it. follows_so reaction (record old { talk = read }) new request it) p

-- ---- a buffer keeps its name

step_named : (step : BufferStep) (b d : OpenState) (s t : Held) → MayStep step b s d t → d.buffer.name ≡ b.buffer.name
step_named (Saves answer) b d s t m = (save_keeps answer _ _ b d m.saves).name
step_named (Runs call old new) b d s t (alone, ran) = ran.edited.name
step_named (Undoes old new) b d s t (alone, u) = u.undid.reverted.name
step_named (Takes ops) b d s t (alone, takes) = ap (λ (x : State). x.name) takes.follows.rest
step_named Rests b d s t (alone, kept) = kept.name

steps_named : (steps : List BufferStep) (b d : OpenState) (s t : Held) → MayGo steps b s d t → d.buffer.name ≡ b.buffer.name
steps_named [] b d s t (is, same) = ap (λ (x : OpenState). x.buffer.name) is
steps_named (step ∷ steps) b d s t (c, u, first, later) = steps_named steps c d u t later ∙ step_named step b c s u first

pub gone_on_named : (ops : List Op) (before : Buffers) (s t : Held) (d : OpenState) (g : GoesOn ops before s d t) → d.buffer.name ≡ g.b.buffer.name
gone_on_named ops before s t d g = steps_named g.steps g.b d s t g.goes
