-- What actions, presses, pastes and operations of others leave of each buffer, as steps of what is held.
use Rattle.std.proofs.Common.{◌≡◌, ◌⊎◌, inl, inr, ℕ, ◌<◌, ◌≤◌, List, [], ◌∷◌, ◌++◌, length, set, Option, Some, None, Result, Ok, Err, refl, sym, ap, subst}
use Rattle.std.specs.List.{Contains}
use Rattle.std.proofs.lemmas.List.{length-set}
use Rattle.std.proofs.lemmas.List.Elements.{Contains-get_or}
use Rattle.rga_ops.specs.Answer.{after_answer, and_take, answer, taken_one_by_one}
use Rattle.rga_ops.specs.Content.{Content, IsWithin, content_of, join, known_count, single}
use Rattle.rga_ops.specs.ListAnswer.{list_answer}
use Rattle.rga_ops.specs.declared.op.Op.{Op}
use Rattle.rga_ops.specs.declared.refusal.Refusal.{Refusal}
use Rattle.rga_ops.specs.declared.refusal.Taken.{Taken}
use Rattle.rga_ops.specs.declared.refusal.Taken.TheVariants.{New, Known}
use Rattle.rga_ops.proofs.ContentLaws.{within_join}
use Rattle.rga_ops.proofs.ListAnswerLaws.{one_by_one_list}
use Rattle.rga_ops.proofs.TakenLaws.{held_stays}
use Rattle.mg_plain.specs.declared.command.Command.{Command}
use Rattle.mg_buffer.specs.Faults.{run_answer, undo_answer}
use Rattle.mg_buffer.specs.Following.{with_operations}
use Rattle.mg_buffer.specs.OpenState.{OpenState}
use Rattle.mg_buffer.specs.Ran.{Ran, operations_of_splices}
use Rattle.mg_buffer.specs.Sight.{command_call}
use Rattle.mg_buffer.specs.State.{State}
use Rattle.mg_buffer.specs.Undid.{Undid}
use Rattle.mg_files.specs.Held.{Held}
use Rattle.mg_files.specs.Kept.{IsWritableWhole}
use Rattle.mg_files.specs.Run.{BufferStep, Saves, Runs, Undoes, Takes, Rests, ChangesAlone, MayStep, MayGo, TakesOnly}
use Rattle.mg_minibuffer.specs.declared.ending.Action.{Action}
use Rattle.mg_minibuffer.specs.declared.ending.Action.TheVariants.{Nothing, EndRun, Run, Undo, Arrange, Switch, Kill}
use Rattle.mg_minibuffer.specs.declared.ending.Ending.{Ending}
use Rattle.mg_minibuffer.specs.declared.ending.Reaction.{Reaction}
use Rattle.mg_minibuffer.specs.declared.ending.Reaction.TheVariants.{Ends, Replaces, Accepts}
use Rattle.mg_minibuffer.specs.declared.ending.Request.{Request}
use Rattle.mg_workspace.specs.Actions.{ActionOutcome, ActionVerdict, Done, current_state}
use Rattle.mg_workspace.specs.AtIndex.{RunsAt, state_at, with_operations_at}
use Rattle.mg_workspace.specs.Buffers.{buffer_at, idled, no_buffer}
use Rattle.mg_workspace.specs.Names.{asked, next_round}
use Rattle.mg_workspace.specs.Workspaces.{Workspace, workspace_buffer}
use Rattle.mg_editor.specs.Editors.{Editor}
use Rattle.mg_editor.specs.Holding.{AreOpen, GoesOn}
use Rattle.mg_editor.specs.LiveTaking.{taking}
use Rattle.mg_editor.specs.Pasting.{PasteAnswer, Pasted}
use Rattle.mg_editor.specs.Presses.{PressAnswer, Ended, FollowsReaction, Pressed}
use Rattle.mg_editor.proofs.ActionCases.{RunsOne, acted, acted_at, ended_so, kills, switches}
use Rattle.mg_editor.proofs.PasteCases.{behind_a_paste}
use Rattle.mg_editor.proofs.PressCases.{behind_a_press, replaces}
use Rattle.mg_editor.proofs.SetLaws.{set_cases, set_has, still_there, was_there}

-- what was taken in two parts
takes_both : (ops : List Op) (xs ys : List BufferStep) → TakesOnly ops xs → TakesOnly ops ys → TakesOnly ops (xs ++ ys)
takes_both ops [] ys one two = two
takes_both ops (Takes os ∷ xs) ys (here, one) two = (here, takes_both ops xs ys one two)
takes_both ops (x ∷ xs) ys one two = takes_both ops xs ys one two

-- one that is allowed is a list that is allowed
one_allowed : (limit : ℕ) (c : Content) (op : Op) (r : Taken) → known_count c ≤ limit → answer limit c op ≡ Ok r → list_answer limit c (op ∷ []) ≡ Ok tt
one_allowed limit c op r fits is = by r (ap (λ (a : Result Taken Refusal). and_take (after_answer c op a) (λ d. taken_one_by_one limit d [])) is)
  where
    by : (r : Taken) → taken_one_by_one limit c (op ∷ []) ≡ and_take (after_answer c op (Ok r)) (λ d. taken_one_by_one limit d []) → list_answer limit c (op ∷ []) ≡ Ok tt
    by New took = one_by_one_list limit c (join c (single op)) (op ∷ []) fits took
    by Known took = one_by_one_list limit c c (op ∷ []) fits took

-- these operations may be taken
module _ (ops : List Op) (s : Held) where
  -- ---- steps while nothing is asked of the port

  abbrev MayGoHere : List BufferStep → OpenState → OpenState → Type 0
  MayGoHere [] b d = d ≡ b
  MayGoHere (step ∷ steps) b d = (c : OpenState) × MayStep step b s c s × MayGoHere steps c d

  record Comes (before : List OpenState) (d : OpenState) : Type 0 where
    b : OpenState
    was : Contains before b
    steps : List BufferStep
    takes : TakesOnly ops steps
    goes : MayGoHere steps b d

  here_goes : (steps : List BufferStep) (b d : OpenState) → MayGoHere steps b d → MayGo steps b s d s
  here_goes [] b d e = (e, refl)
  here_goes (step ∷ steps) b d (c, first, later) = (c, s, first, here_goes steps c d later)

  goes_further : (xs ys : List BufferStep) (b c d : OpenState) → MayGoHere xs b c → MayGoHere ys c d → MayGoHere (xs ++ ys) b d
  goes_further [] ys b c d e later = subst (λ x. MayGoHere ys x d) e later
  goes_further (step ∷ xs) ys b c d (o, first, more) later = (o, first, goes_further xs ys o c d more later)

  stays : (before : List OpenState) (d : OpenState) → Contains before d → Comes before d
  stays before d c = record { b = d; was = c; steps = []; takes = tt; goes = refl }

  abbrev AllCome : Workspace → Workspace → Type 0
  AllCome w v = (d : OpenState) → Contains v.buffers.all d → Comes w.buffers.all d

  abbrev AllWritable : Workspace → Type 0
  AllWritable w = (b : OpenState) → Contains w.buffers.all b → IsWritableWhole b.buffer.content

  abbrev HasCurrent : Workspace → Type 0
  HasCurrent w = w.buffers.current < length w.buffers.all

  same_all : (w v : Workspace) → v.buffers.all ≡ w.buffers.all → AllCome w v
  same_all w v e d c = stays w.buffers.all d (subst (λ l. Contains l d) e c)

  same_work : (w v : Workspace) → v ≡ w → AllCome w v
  same_work w v e = same_all w v (ap (λ (u : Workspace). u.buffers.all) e)

  comes_again : (w u v : Workspace) → AllCome w u → AllCome u v → AllCome w v
  comes_again w u v first second d c =
      let two = second d c in
      let one = first two.b two.was in
      record {
        b = one.b;
        was = one.was;
        steps = one.steps ++ two.steps;
        takes = takes_both ops one.steps two.steps one.takes two.takes;
        goes = goes_further one.steps two.steps one.b two.b d one.goes two.goes;
      }

  come_on : (old new : Editor) → AllCome old.work new.work → (d : OpenState) → Contains new.work.buffers.all d → GoesOn ops old.work.buffers s d s
  come_on old new all d c =
      let come = all d c in
      record { b = come.b; was = come.was; steps = come.steps; takes = come.takes; goes = here_goes come.steps come.b d come.goes }

  -- ---- an action

  -- the buffer at an index took a step
  one_step : (w v : Workspace) (i : ℕ) (step : BufferStep) (b : State) → TakesOnly ops (step ∷ []) → i < length w.buffers.all
      → v.buffers.all ≡ set w.buffers.all i (record (buffer_at i w.buffers) { buffer = b }) → AllWritable v
      → (ChangesAlone (buffer_at i w.buffers) (record (buffer_at i w.buffers) { buffer = b }) s s → MayStep step (buffer_at i w.buffers) s (record (buffer_at i w.buffers) { buffer = b }) s)
      → AllCome w v
  one_step w v i step b takes there e writable may d c =
      let x : OpenState = record (buffer_at i w.buffers) { buffer = b } in
      let has : Contains v.buffers.all x = subst (λ l. Contains l x) (sym e) (set_has w.buffers.all i x there) in
      let alone : ChangesAlone (buffer_at i w.buffers) x s s = record { rest = refl; writable = writable x has; held = refl } in
      elim (set_cases w.buffers.all i x d (subst (λ l. Contains l d) e c)) [
        | inl is ↦ record { b = buffer_at i w.buffers; was = Contains-get_or w.buffers.all i no_buffer there; steps = step ∷ []; takes = takes; goes = (x, may alone, sym is) }
        | inr o ↦ stays w.buffers.all d (o.0, o.1, o.3)
      ]

  idles : (w v : Workspace) → HasCurrent w → v.buffers.all ≡ (idled w.buffers).all → AllWritable v → AllCome w v
  idles w v there e writable =
      one_step w v w.buffers.current Rests (record (workspace_buffer w).buffer { undone = None }) tt there e writable
      (λ alone. (alone, record { name = refl; content = refl; unsaved = refl; limit = refl; replica = refl }))

  runs_at : (i : ℕ) (command : Command) (n : ℕ) (w v : Workspace) (r : ActionVerdict) → i < length w.buffers.all → AllWritable v → RunsAt i command n w (v, r) → AllCome w v
  runs_at i command n w v r there writable did =
      let call = command_call command n w.fill in
      elim (acted_at i (Ran call (state_at i w) w.notes) w v r (run_answer call (state_at i w) w.notes) did) [
        | inl e ↦ same_work w v e
        | inr t ↦ one_step w v i (Runs call w.notes t.2) t.1 tt there (ap (λ (u : Workspace). u.buffers.all) t.4) writable (λ alone. (alone, t.3))
      ]

  runs : (command : Command) (n : ℕ) (w v : Workspace) (r : ActionVerdict) → HasCurrent w → AllWritable v → Done (Run command n) w (v, r) → AllCome w v
  runs command n w v r there writable did = runs_at w.buffers.current command n w v r there writable did

  undoes : (w v : Workspace) (r : ActionVerdict) → AreOpen w.buffers → AllWritable v → Done Undo w (v, r) → AllCome w v
  undoes w v r old writable did =
      elim (acted (Undid (current_state w) w.notes) w v r (undo_answer (current_state w)) did) [
        | inl e ↦ same_work w v e
        | inr t ↦ one_step w v w.buffers.current (Undoes w.notes t.2) t.1 tt old.current (ap (λ (u : Workspace). u.buffers.all) t.4) writable
            (λ alone. (alone, record { revertible = old.revertible (workspace_buffer w) (Contains-get_or w.buffers.all w.buffers.current no_buffer old.current); allowed = t.0; undid = t.3 }))
      ]

  acts : (action : Action) (w v : Workspace) (r : ActionVerdict) → AreOpen w.buffers → AllWritable v → Done action w (v, r) → AllCome w v
  acts Nothing w v r old writable e = same_work w v (ap (λ (o : ActionOutcome). o.0) e)
  acts EndRun w v r old writable e = idles w v old.current (ap (λ (o : ActionOutcome). o.0.buffers.all) e) writable
  acts (Run command n) w v r old writable did = runs command n w v r old.current writable did
  acts Undo w v r old writable did = undoes w v r old writable did
  acts (Arrange a) w v r old writable (inl e) = same_work w v (ap (λ (o : ActionOutcome). o.0) e)
  acts (Arrange a) w v r old writable (inr e) = idles w v old.current (ap (λ (o : ActionOutcome). o.0.buffers.all) e) writable
  acts (Switch name) w v r old writable e = same_all w v (switches w v r (asked name (next_round (length w.buffers.all) w.buffers.current) w.buffers.all) e)
  acts (Kill name) w v r old writable e = elim (kills w v r (asked name w.buffers.current w.buffers.all) e) [
    | inl same ↦ same_all w v same
    | inr o ↦ λ d c. stays w.buffers.all d (was_there w.buffers.all o.0 d (subst (λ (l : List OpenState). Contains l d) o.2 c))
  ]

  -- ---- commands in a row

  within_writable : (c d : Content) → IsWithin c d → IsWritableWhole d → IsWritableWhole c
  within_writable c d within writable op h = writable op (held_stays c d op within h)

  -- a command leaves a buffer what it had
  writable_before : (command : Command) (n : ℕ) (w v : Workspace) (r : ActionVerdict) → HasCurrent w → AllWritable v → Done (Run command n) w (v, r) → AllWritable w
  writable_before command n w v r there writable did b c =
      let call = command_call command n w.fill in
      elim (acted (Ran call (current_state w) w.notes) w v r (run_answer call (current_state w) w.notes) did) [
        | inl e ↦ writable b (subst (λ (u : Workspace). Contains u.buffers.all b) (sym e) c)
        | inr t ↦
            let x : OpenState = record (workspace_buffer w) { buffer = t.1 } in
            let all : v.buffers.all ≡ set w.buffers.all w.buffers.current x = ap (λ (u : Workspace). u.buffers.all) t.4 in
            elim (still_there w.buffers.all w.buffers.current x b no_buffer c) [
              | inl is ↦ subst (λ (y : OpenState). IsWritableWhole y.buffer.content) (sym is)
                  (within_writable (current_state w).content t.1.content
                  (subst (IsWithin (current_state w).content) (sym t.3.edited.content) (within_join (current_state w).content (content_of (operations_of_splices (current_state w) t.3.plan.splices))))
                  (writable x (subst (λ l. Contains l x) (sym all) (set_has w.buffers.all w.buffers.current x there))))
              | inr o ↦ writable b (subst (λ l. Contains l b) (sym all) o)
            ]
      ]

  current_stays : (command : Command) (n : ℕ) (w v : Workspace) (r : ActionVerdict) → HasCurrent w → Done (Run command n) w (v, r) → HasCurrent v
  current_stays command n w v r there did =
      let call = command_call command n w.fill in
      elim (acted (Ran call (current_state w) w.notes) w v r (run_answer call (current_state w) w.notes) did) [
        | inl e ↦ subst HasCurrent (sym e) there
        | inr t ↦ subst HasCurrent (sym t.4) (subst (λ k. w.buffers.current < k) (sym (length-set w.buffers.all w.buffers.current (record (workspace_buffer w) { buffer = t.1 }))) there)
      ]

  -- with a current buffer one is current still, and if all can be written then, all could be before
  abbrev Leads : Workspace → Workspace → Type 0
  Leads w v = HasCurrent w → HasCurrent v × (AllWritable v → AllWritable w × AllCome w v)

  leads_one : (w v : Workspace) → RunsOne w v → Leads w v
  leads_one w v (inl same) there = (subst HasCurrent (sym same) there, λ writable. (subst AllWritable same writable, same_work w v same))
  leads_one w v (inr (command, r, did)) there =
      (current_stays command 1 w v r there did, λ writable. (writable_before command 1 w v r there writable did, runs command 1 w v r there writable did))

  leads_both : (w u v : Workspace) → Leads w u → Leads u v → Leads w v
  leads_both w u v first second there =
      let one = first there in
      let two = second one.0 in
      (two.0, λ writable. let later = two.1 writable in let earlier = one.1 later.0 in (earlier.0, comes_again w u v earlier.1 later.1))

  led : (w v : Workspace) → HasCurrent w → AllWritable v → Leads w v → AllCome w v
  led w v there writable leads = let it = leads there in (it.1 writable).1

  -- ---- a press

  ended : (e : Ending) (old new : Editor) (request : Request) → AreOpen old.work.buffers → AllWritable new.work → Ended e old new request → AllCome old.work new.work
  ended e old new request are writable it = let did = ended_so e old new request it in acts e.action old.work new.work did.0 are writable did.1

  follows : (reaction : Reaction) (old new : Editor) (request : Request) → AreOpen old.work.buffers → AllWritable new.work → FollowsReaction reaction old new request → AllCome old.work new.work
  follows (Ends e) old new request are writable it = ended e old new request are writable it
  follows (Replaces pattern put count) old new request are writable it =
      let two = replaces pattern put count old new request it in
      led old.work new.work are.current writable (leads_both old.work two.0 new.work (leads_one old.work two.0 two.1) (leads_one two.0 new.work two.2))
  follows Accepts old new request are writable it = same_work old.work new.work (ap (λ (e : Editor). e.work) it.0)

  pub pressed_on : (byte : ℕ) (old new : Editor) (r : PressAnswer) → AreOpen old.work.buffers → AreOpen new.work.buffers → Pressed byte old new r
      → (d : OpenState) → Contains new.work.buffers.all d → GoesOn ops old.work.buffers s d s
  pressed_on byte old new r are now p =
      come_on old new
      (behind_a_press (AllCome old.work) byte old new r (same_work old.work old.work refl)
      (λ reaction request read it. follows reaction (record old { talk = read }) new request are now.writable it) p)

  -- ---- what is taken, and a splice

  takes_at : (i : ℕ) (w v : Workspace) → i < length w.buffers.all → AllWritable v → list_answer (state_at i w).limit (state_at i w).content ops ≡ Ok tt → v ≡ with_operations_at i ops w → AllCome w v
  takes_at i w v there writable allowed is =
      one_step w v i (Takes ops) (with_operations ops (state_at i w)) ((λ op c. c), tt) there (ap (λ (u : Workspace). u.buffers.all) is) writable
      (λ alone. (alone, record { allowed = allowed; follows = record { content = refl; unsaved = refl; rest = refl } }))

  pub taken_on : (i : ℕ) (old new : Editor) → i < length old.work.buffers.all → AreOpen new.work.buffers → list_answer (state_at i old.work).limit (state_at i old.work).content ops ≡ Ok tt
      → new ≡ taking i ops old → (d : OpenState) → Contains new.work.buffers.all d → GoesOn ops old.work.buffers s d s
  taken_on i old new there now allowed is = come_on old new (takes_at i old.work new.work there now.writable allowed (ap (λ (e : Editor). e.work) is))

  pub spliced_on : (i : ℕ) (command : Command) (n : ℕ) (old new : Editor) (r : ActionVerdict) → i < length old.work.buffers.all → AreOpen new.work.buffers
      → RunsAt i command n old.work (new.work, r) → (d : OpenState) → Contains new.work.buffers.all d → GoesOn ops old.work.buffers s d s
  spliced_on i command n old new r there now did = come_on old new (runs_at i command n old.work new.work r there now.writable did)

  -- ---- a text that is pasted

  pub pasted_on : (put : List ℕ) (old new : Editor) (r : PasteAnswer) → AreOpen old.work.buffers → AreOpen new.work.buffers → Pasted put old new r
      → (d : OpenState) → Contains new.work.buffers.all d → GoesOn ops old.work.buffers s d s
  pasted_on put old new r are now p = come_on old new (led old.work new.work are.current now.writable (behind_a_paste Leads leads_one leads_both put old new r p))

-- one operation of others
pub one_taken_on : (i : ℕ) (op : Op) (taken : Taken) (old new : Editor) (s : Held) → i < length old.work.buffers.all → AreOpen old.work.buffers → AreOpen new.work.buffers
    → answer (state_at i old.work).limit (state_at i old.work).content op ≡ Ok taken → new ≡ taking i (op ∷ []) old → (d : OpenState) → Contains new.work.buffers.all d → GoesOn (op ∷ []) old.work.buffers s d s
one_taken_on i op taken old new s there are now answered is =
    let fits = are.fits (buffer_at i old.work.buffers) (Contains-get_or old.work.buffers.all i no_buffer there) in
    taken_on (op ∷ []) s i old new there now (one_allowed (state_at i old.work).limit (state_at i old.work).content op taken fits answered) is
