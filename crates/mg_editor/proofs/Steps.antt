-- What steps leave of the editor, put together.
use Rattle.std.proofs.Common.{◌≡◌, ◌≢◌, ℕ, List, Option, Some, None, IfOk, OnErr, arith, sym, ap, subst, ◌∙◌}
use Rattle.std.specs.Option.{option_map_or}
use Rattle.mg_keys.specs.declared.step.Step.{Step}
use Rattle.mg_keys.specs.declared.step.Step.TheVariants.{Pending, Leave}
use Rattle.mg_minibuffer.specs.declared.message.Message.TheVariants.{Nothing}
use Rattle.mg_minibuffer.specs.declared.prompt.Prompt.{Prompt}
use Rattle.mg_minibuffer.specs.declared.prompt.Prompt.TheVariants.{Searching}
use Rattle.mg_minibuffer.specs.declared.prompt.Search.{Search}
use Rattle.mg_minibuffer.specs.SearchStep.{or_last}
use Rattle.mg_minibuffer.specs.Dialogues.{Dialogue, Fed, at_prompt, forgotten, search_of}
use Rattle.mg_editor.specs.Editors.{Editor}
use Rattle.mg_editor.specs.Presses.{PressAnswer, FollowsReaction, IsRead, Pressed, ran_out, StepTaken, with_search_accepted, editor_reaction, with_search}

-- a step that does not wait for more bytes was taken, or memory was wanting
pub taken : (step : Step) (before old new : Editor) (r : PressAnswer)
    → step ≢ Pending → IfOk r (FollowsReaction (editor_reaction step old) old new) → OnErr r (new ≡ ran_out before) → StepTaken step before old new r
taken step before old new r other follows lacks = grind arith

-- want of memory, told of another editor before
pub taken_from : (step : Step) (first second old new : Editor) (r : PressAnswer)
    → ran_out first ≡ ran_out second → StepTaken step first old new r → StepTaken step second old new r
taken_from step first second old new r same it = grind (arith, same)

-- ---- a search that a byte leaves

open_search : (p : Option Prompt) (s : Search) → search_of p ≡ Some s → p ≡ Some (Searching s)
open_search p s is = grind arith

-- a byte left a search, and its step was taken
pub left : (byte : ℕ) (s : Search) (step : Step) (old new : Editor) (closed read : Dialogue) (r : PressAnswer)
    → search_of old.talk.prompt ≡ Some s → closed ≡ at_prompt None old.talk → Fed byte step closed read → StepTaken step (with_search s (record old { talk = read })) (with_search_accepted s (record old { talk = read })) new r
    → (step : Step) × (read : Dialogue) × IsRead byte Leave old.talk step read × StepTaken step old (record old { talk = read }) new r
left byte s step old new closed read r is closes feeds it =
    let left : Editor = record old { talk = read } in
    let fed = subst (λ d. Fed byte step d read) closes feeds in
    let accepted = λ (l : List ℕ). record read { prompt = None; message = Nothing; last = l } in
    let last : read.last ≡ old.talk.last = ap (λ (t : Dialogue). t.last) fed.rest in
    let reads : IsRead byte Leave old.talk step (with_search_accepted s left).talk = rw (is, IsRead)
    (record { answers = fed.answers; mode = fed.mode; rest = ap (λ l. accepted (or_last s.pattern l)) last ∙ ap (λ o. accepted (option_map_or (λ (x : Search). or_last x.pattern old.talk.last) o old.talk.last)) (sym is) }) in
    let reopened = λ (t : Dialogue). record old { talk = at_prompt (Some (Searching s)) t } in
    let same = ap reopened fed.rest ∙ ap (λ p. record old { talk = at_prompt p old.talk }) (sym (open_search old.talk.prompt s is)) in
    (step, (with_search_accepted s left).talk, reads, taken_from step (with_search s left) old (with_search_accepted s left) new r same it)

-- ---- the whole press

pub read_at_once : (byte : ℕ) (step : Step) (fed : Dialogue) → step ≢ Leave → IsRead byte step fed step fed
read_at_once byte step fed other = grind arith

pub pressed : (byte : ℕ) (first step : Step) (old new : Editor) (fed read : Dialogue) (r : PressAnswer) → Fed byte first old.talk fed → IsRead byte first fed step read
    → StepTaken step (record old { talk = fed }) (record old { talk = read }) new r → Pressed byte old new r
pressed byte first step old new fed read r feeds reads it =
    let same = ap (λ t. record old { talk = forgotten t }) feeds.rest in
    record { first = first; fed = fed; feeds = feeds; step = step; read = read; reads = reads; taken = taken_from step (record old { talk = fed }) old (record old { talk = read }) new r same it }

-- want of memory, whatever the step is
step_refused : (step : Step) (before old new : Editor) (r : PressAnswer) → StepTaken step before old new r → OnErr r (new ≡ ran_out before)
step_refused step before old new r it = grind arith

pub refused : (byte : ℕ) (old new : Editor) (r : PressAnswer) → Pressed byte old new r → OnErr r (new ≡ ran_out old)
refused byte old new r p = step_refused p.step old (record old { talk = p.read }) new r p.taken
