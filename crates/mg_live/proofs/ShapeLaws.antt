-- What stays whatever a session takes and writes: the replica and the limit of buffers that are opened, and which names stand at which index.
use Rattle.std.proofs.Common.{arith, ◌≡◌, inl, inr, ◌∙◌, ℕ, Bool, true, false, List, length, Option, Some, None, Result, Ok, Err, refl, ap, ◌⊎◌, ◌<◌, ◌≤◌, suc, ◌++◌, get_or, sym, append-nil}
use Rattle.std.specs.Prelude.{encode_utf8_all, if◌then◌else◌}
use Rattle.std.specs.Option.{option_map_or}
use Rattle.std.specs.List.{remove}
use Rattle.std.proofs.lemmas.List.{length-set, take_all, drop_all}
use Rattle.std.proofs.lemmas.List.Edits.{length-remove}
use Rattle.rga_exchange.specs.declared.log.LogEnd.{LogEnd}
use Rattle.mg_plain.specs.declared.command.Command.{Command}
use Rattle.mg_buffer.specs.Faults.{FaultVerdict, run_answer, undo_answer}
use Rattle.mg_buffer.specs.OpenState.{OpenState}
use Rattle.mg_buffer.specs.Ran.{Ran}
use Rattle.mg_buffer.specs.Sight.{Notes, command_call}
use Rattle.mg_buffer.specs.State.{State}
use Rattle.mg_buffer.specs.Undid.{Undid}
use Rattle.mg_files.specs.Calls.{Call}
use Rattle.mg_files.specs.Loading.{load_outcome}
use Rattle.mg_files.specs.declared.fault.LoadFault.{LoadFault}
use Rattle.mg_minibuffer.specs.declared.ending.Action.{Action}
use Rattle.mg_minibuffer.specs.declared.ending.Action.TheVariants.{Nothing, EndRun, Run, Undo, Arrange, Switch, Kill}
use Rattle.mg_minibuffer.specs.declared.ending.Reaction.{Reaction}
use Rattle.mg_minibuffer.specs.declared.ending.Reaction.TheVariants.{Ends, Replaces, Accepts}
use Rattle.mg_minibuffer.specs.declared.ending.Request.{Request}
use Rattle.mg_workspace.specs.Actions.{ActionOutcome, ActionVerdict, Done, current_state, gone_to, refusal_outcome, removal_outcome}
use Rattle.mg_workspace.specs.AtIndex.{ActsAt, RunsAt, state_at}
use Rattle.mg_workspace.specs.Names.{asked, buffer_named, next_round}
use Rattle.mg_workspace.specs.Opening.{is_full}
use Rattle.mg_workspace.specs.Workspaces.{Workspace}
use Rattle.mg_editor.specs.Carrying.{Carried}
use Rattle.mg_editor.specs.Editors.{Editor}
use Rattle.mg_editor.specs.Finding.{Loads, Opening, open_outcome, unopened, opening_outcome}
use Rattle.mg_editor.specs.Pasting.{PasteAnswer, Pasted}
use Rattle.mg_editor.specs.Presses.{PressAnswer, FollowsReaction, Pressed}
use Rattle.mg_editor.specs.Telling.{CarryAnswer, editor_saying, TellsOutcome}
use Rattle.mg_editor.proofs.ActionCases.{RunsOne, acted_at, ended_so, KeepsNames, Removes, action_leaves, one_keeps, run_keeps}
use Rattle.mg_editor.proofs.PasteCases.{behind_a_paste}
use Rattle.mg_editor.proofs.PressCases.{behind_a_press, replaces}
use Rattle.mg_workspace.specs.Buffers.{buffer_at, no_buffer}
use Rattle.mg_editor.proofs.NamesLaws.{set_name}
use Rattle.mg_minibuffer.specs.declared.ending.Request.TheVariants as request
use Rattle.mg_minibuffer.specs.declared.message.Message.TheVariants as message
use Rattle.mg_workspace.specs.declared.fault.Cause.TheVariants as cause

-- ---- the replica and the limit

pub record KeepsNumbers (w v : Workspace) : Type 0 where
  pub replica : v.replica ≡ w.replica
  pub limit : v.limit ≡ w.limit

-- it is one of the same numbers
pub numbers_as : (w v u : Workspace) → v ≡ u → u.replica ≡ w.replica → u.limit ≡ w.limit → KeepsNumbers w v
numbers_as w v u is replica limit = record { replica = ap (λ (x : Workspace). x.replica) is ∙ replica; limit = ap (λ (x : Workspace). x.limit) is ∙ limit }

pub same_numbers : (w v : Workspace) → v ≡ w → KeepsNumbers w v
same_numbers w v is = numbers_as w v w is refl refl

pub numbers_on : (w u v : Workspace) → KeepsNumbers w u → KeepsNumbers u v → KeepsNumbers w v
numbers_on w u v one two = record { replica = two.replica ∙ one.replica; limit = two.limit ∙ one.limit }

-- of an outcome
of_outcome : (w v u : Workspace) (r a : ActionVerdict) → ◌≡◌ {A = ActionOutcome} (v, r) (u, a) → u.replica ≡ w.replica → u.limit ≡ w.limit → KeepsNumbers w v
of_outcome w v u r a is replica limit = numbers_as w v u (ap (λ (o : ActionOutcome). o.0) is) replica limit

-- ---- actions

acted_numbers : (i : ℕ) (Comes : State → Notes → Type 0) (w v : Workspace) (r : ActionVerdict) (verdict : FaultVerdict) → ActsAt i verdict Comes w (v, r)
    → KeepsNumbers w v
acted_numbers i Comes w v r verdict did = elim (acted_at i Comes w v r verdict did) [
  | inl same ↦ same_numbers w v same
  | inr t ↦ record { replica = ap (λ (x : Workspace). x.replica) t.4; limit = ap (λ (x : Workspace). x.limit) t.4 }
]

pub run_numbers : (i : ℕ) (command : Command) (n : ℕ) (w v : Workspace) (r : ActionVerdict) → RunsAt i command n w (v, r) → KeepsNumbers w v
run_numbers i command n w v r did =
    let call = command_call command n w.fill in
    acted_numbers i (Ran call (state_at i w) w.notes) w v r (run_answer call (state_at i w) w.notes) did

switch_numbers : (w v : Workspace) (r : ActionVerdict) (to : Option ℕ) → (v, r) ≡ option_map_or (λ i. (gone_to i w, Ok tt)) to (refusal_outcome cause.NoSuchBuffer w)
    → KeepsNumbers w v
switch_numbers w v r to is = grind arith

kill_numbers : (w v : Workspace) (r : ActionVerdict) (gone : Option ℕ)
    → (v, r) ≡ option_map_or (λ i. removal_outcome i w) gone (refusal_outcome cause.NoSuchBuffer w) → KeepsNumbers w v
kill_numbers w v r gone is = grind arith

action_numbers : (action : Action) (w v : Workspace) (r : ActionVerdict) → Done action w (v, r) → KeepsNumbers w v
action_numbers Nothing w v r is = of_outcome w v w r (Ok tt) is refl refl
action_numbers EndRun w v r is = record { replica = ap (λ (o : ActionOutcome). o.0.replica) is; limit = ap (λ (o : ActionOutcome). o.0.limit) is }
action_numbers (Run command n) w v r did = run_numbers w.buffers.current command n w v r did
action_numbers Undo w v r did = acted_numbers w.buffers.current (Undid (current_state w) w.notes) w v r (undo_answer (current_state w)) did
action_numbers (Arrange a) w v r (inl is) = record { replica = ap (λ (o : ActionOutcome). o.0.replica) is; limit = ap (λ (o : ActionOutcome). o.0.limit) is }
action_numbers (Arrange a) w v r (inr is) = record { replica = ap (λ (o : ActionOutcome). o.0.replica) is; limit = ap (λ (o : ActionOutcome). o.0.limit) is }
action_numbers (Switch name) w v r is = switch_numbers w v r (asked name (next_round (length w.buffers.all) w.buffers.current) w.buffers.all) is
action_numbers (Kill name) w v r is = kill_numbers w v r (asked name w.buffers.current w.buffers.all) is

one_numbers : (w v : Workspace) → RunsOne w v → KeepsNumbers w v
one_numbers w v (inl same) = same_numbers w v same
one_numbers w v (inr (command, r, did)) = run_numbers w.buffers.current command 1 w v r did

-- ---- presses, pasted text, and requests

follows_numbers : (reaction : Reaction) (old new : Editor) (request : Request) → FollowsReaction reaction old new request → KeepsNumbers old.work new.work
follows_numbers (Ends e) old new request it = let did = ended_so e old new request it in action_numbers e.action old.work new.work did.0 did.1
follows_numbers (Replaces pattern put count) old new request it =
    let two = replaces pattern put count old new request it in
    numbers_on old.work two.0 new.work (one_numbers old.work two.0 two.1) (one_numbers two.0 new.work two.2)
follows_numbers Accepts old new request it = same_numbers old.work new.work (ap (λ (e : Editor). e.work) it.0)

pub press_numbers : (byte : ℕ) (old new : Editor) (r : PressAnswer) → Pressed byte old new r → KeepsNumbers old.work new.work
press_numbers byte old new r p =
    behind_a_press (KeepsNumbers old.work) byte old new r (same_numbers old.work old.work refl)
    (λ reaction request read it. follows_numbers reaction (record old { talk = read }) new request it) p

pub paste_numbers : (put : List ℕ) (old new : Editor) (r : PasteAnswer) → Pasted put old new r → KeepsNumbers old.work new.work
paste_numbers put old new r it = behind_a_paste KeepsNumbers one_numbers numbers_on put old new r it

load_numbers : (w v : Workspace) (o : Result (OpenState × LogEnd) LoadFault) → v ≡ (open_outcome o w).0 → KeepsNumbers w v
load_numbers w v o is = grind arith

loads_numbers : (name : List ℕ) (calls more : Option (List Call)) (r : Opening) (w v : Workspace) → Loads name calls more r w v → KeepsNumbers w v
loads_numbers name calls more r w v (inl (is, answer, adds)) = same_numbers w v is
loads_numbers name calls more r w v (inr (Err fault, adds, (is, answer))) = same_numbers w v is
loads_numbers name calls more r w v (inr (Ok found, adds, (is, answer))) = load_numbers w v (load_outcome name w.replica w.limit found) is

abbrev pub AskedFor : List ℕ → Option (List Call) → Option (List Call) → Editor → Editor → CarryAnswer → Option Editor → Type 0
AskedFor name calls more old new r None = TellsOutcome (Loads (encode_utf8_all name) calls more) opening_outcome old new r
AskedFor name calls more old new r (Some now) = (more ≡ calls) × (new ≡ now) × (r ≡ Ok tt)

find_numbers : (name : List ℕ) (calls more : Option (List Call)) (old new : Editor) (r : CarryAnswer) → Carried (request.Find name) calls more old new r
    → KeepsNumbers old.work new.work
find_numbers name calls more old new r h = by (buffer_named name old.work.buffers.all) h
  where
    if_full : (full : Bool) → AskedFor name calls more old new r (if full then Some (editor_saying old.work message.TooManyBuffers old) else None)
        → KeepsNumbers old.work new.work
    if_full true (told, same, answer) = same_numbers old.work new.work (ap (λ (e : Editor). e.work) same)
    if_full false told = loads_numbers (encode_utf8_all name) calls more told.came old.work new.work told.became

    by : (at : Option ℕ) → AskedFor name calls more old new r (unopened at old) → KeepsNumbers old.work new.work
    by (Some i) (told, same, answer) = record { replica = ap (λ (e : Editor). e.work.replica) same; limit = ap (λ (e : Editor). e.work.limit) same }
    by None it = if_full (is_full old.work) it

pub carry_numbers : (carried : Request) (calls more : Option (List Call)) (old new : Editor) (r : CarryAnswer) → Carried carried calls more old new r
    → KeepsNumbers old.work new.work
carry_numbers request.Idle calls more old new r (told, is, answer) = same_numbers old.work new.work (ap (λ (e : Editor). e.work) is)
carry_numbers request.Quit calls more old new r (told, is, answer) = same_numbers old.work new.work (ap (λ (e : Editor). e.work) is)
carry_numbers (request.Find name) calls more old new r h = find_numbers name calls more old new r h
carry_numbers changes calls more old new r h = record { replica = ap (λ (x : Workspace). x.replica) h.became.1; limit = ap (λ (x : Workspace). x.limit) h.became.1 }

-- ---- the names

-- as many are open, and each has the name of the one that stood there
pub record SameNames (w v : Workspace) : Type 0 where
  pub count : length v.buffers.all ≡ length w.buffers.all
  pub names : (i : ℕ) → (buffer_at i v.buffers).buffer.name ≡ (buffer_at i w.buffers).buffer.name

same_all : (w v : Workspace) → v.buffers.all ≡ w.buffers.all → SameNames w v
same_all w v is = record { count = ap length is; names = λ i. ap (λ (l : List OpenState). (get_or l i no_buffer).buffer.name) is }

pub same_names : (w v : Workspace) → KeepsNames w v → SameNames w v
same_names w v (inl is) = same_all w v is
same_names w v (inr (i, x, name, is)) = record {
  count = ap length is ∙ length-set w.buffers.all i x;
  names = λ k. ap (λ (l : List OpenState). (get_or l k no_buffer).buffer.name) is ∙ set_name w.buffers.all i x name k;
}

twice : (w u v : Workspace) → SameNames w u → SameNames u v → SameNames w v
twice w u v one two = record { count = two.count ∙ one.count; names = λ i. two.names i ∙ one.names i }

one_same : (w v : Workspace) → RunsOne w v → SameNames w v
one_same w v one = same_names w v (one_keeps w v one)

pub run_same : (i : ℕ) (command : Command) (n : ℕ) (w v : Workspace) (r : ActionVerdict) → RunsAt i command n w (v, r) → SameNames w v
run_same i command n w v r did = same_names w v (run_keeps i command n w v r did)

pub paste_same : (put : List ℕ) (old new : Editor) (r : PasteAnswer) → Pasted put old new r → SameNames old.work new.work
paste_same put old new r it = behind_a_paste SameNames one_same twice put old new r it

-- ---- a press

abbrev Shape : Workspace → Workspace → Type 0
Shape w v = SameNames w v ⊎ Removes w v

follows : (reaction : Reaction) (old new : Editor) (request : Request) → FollowsReaction reaction old new request → Shape old.work new.work
follows (Ends e) old new request it =
    let did = ended_so e old new request it in
    elim (action_leaves e.action old.work new.work did.0 did.1) [
      | inl keeps ↦ inl (same_names old.work new.work keeps)
      | inr gone ↦ inr gone
    ]
follows (Replaces pattern put count) old new request it =
    let two = replaces pattern put count old new request it in
    inl (twice old.work two.0 new.work (one_same old.work two.0 two.1) (one_same two.0 new.work two.2))
follows Accepts old new request it = inl (same_all old.work new.work (ap (λ (e : Editor). e.work.buffers.all) it.0))

-- past the end nothing is removed
removes_none : (xs : List OpenState) (i : ℕ) → length xs ≤ i → remove xs i ≡ xs
removes_none xs i past = (λ k. take_all i xs past k ++ drop_all (suc i) xs (omega (arith, past)) k) ∙ append-nil xs

not_below : (i n : ℕ) → (i < n → ⊥) → n ≤ i
not_below i n never = grind (arith, never)

-- where as many are open none was removed
as_many : (w v : Workspace) → length v.buffers.all ≡ length w.buffers.all → Shape w v → SameNames w v
as_many w v same (inl keeps) = keeps
as_many w v same (inr (i, unchanged, is)) =
    let same : length (remove w.buffers.all i) ≡ length w.buffers.all = sym (ap length is) ∙ same in
    let past : length w.buffers.all ≤ i = not_below i (length w.buffers.all) (λ lt. absurd (omega (arith, length-remove w.buffers.all i lt, same))) in
    same_all w v (is ∙ removes_none w.buffers.all i past)

pub press_same : (byte : ℕ) (old new : Editor) (r : PressAnswer) → Pressed byte old new r → length new.work.buffers.all ≡ length old.work.buffers.all
    → SameNames old.work new.work
press_same byte old new r p same =
    as_many old.work new.work same
    (behind_a_press (Shape old.work) byte old new r (inl (same_all old.work old.work refl))
    (λ reaction request read it. follows reaction (record old { talk = read }) new request it) p)
