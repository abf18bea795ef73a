-- What a text leads to that is pasted.
use Rattle.std.specs.Prelude.{◌≡◌, ◌⊎◌, ℕ, Bool, List, [], ◌∷◌, Option, Some, None, Result, Ok, Err, MatchResult, nat_eq}
use Rattle.std.specs.List.{before_first}
use Rattle.mg_plain.specs.declared.command.Command.TheVariants.{InsertText}
use Rattle.mg_keys.specs.Begun.{HasBegun}
use Rattle.mg_keys.specs.declared.step.Step.TheVariants.{Text}
use Rattle.mg_minibuffer.specs.declared.ending.Next.TheVariants.{Same}
use Rattle.mg_minibuffer.specs.declared.ending.Request.TheVariants.{Idle}
use Rattle.mg_minibuffer.specs.declared.message.Message.TheVariants as message
use Rattle.mg_minibuffer.specs.declared.prompt.Prompt.{Prompt}
use Rattle.mg_minibuffer.specs.declared.prompt.Prompt.TheVariants.{Replacing, Quitting}
use Rattle.mg_minibuffer.specs.Dialogues.{shown}
use Rattle.mg_workspace.specs.AtIndex.{RunsAt}
use Rattle.mg_workspace.specs.declared.fault.ActionFault.{ActionFault}
use Rattle.mg_editor.specs.Editors.{Editor}
use Rattle.mg_editor.specs.Presses.{StepTaken}
use Rattle.rga_ops.specs.Memory.{out_of_memory}
use Rattle.mg_editor.specs.declared.pasting.PasteFault.{PasteFault}
use Rattle.mg_editor.specs.declared.pasting.PasteFault.TheVariants.{Action, Busy}
use Rattle.mg_editor.specs.Memory.{PasteMemory as Memory}

abbrev pub PasteAnswer : Type 0
PasteAnswer = Result (Unit {0}) PasteFault

-- the text is not taken, and nothing changes
abbrev pub IsBusy : Editor → Editor → PasteAnswer → Type 0
IsBusy old new r = (new ≡ old) × (r ≡ Err Busy)

-- One command inserts the text in the current buffer, as that of a key does, and nothing is said. Where the buffer refuses it, or memory
-- is wanting, that is answered, and nothing changes.
abbrev pub Inserts : List ℕ → Editor → Editor → PasteAnswer → Type 0
Inserts put old new r =
    let inserts = RunsAt old.work.buffers.current (InsertText put) 1 old.work in
    MatchResult r
    (λ _. inserts (new.work, Ok tt) × (new.talk ≡ shown Same message.Nothing old.talk))
    (λ fault. (new ≡ old) × ((why : ActionFault) × (fault ≡ Action why) × inserts (new.work, Err why)))

-- Each character is typed, one after the other. Want of memory at one of them leaves those before it typed.
abbrev pub Types : List ℕ → Editor → Editor → PasteAnswer → Type 0
Types [] old new r = (new ≡ old) × (r ≡ Ok tt)
Types (c ∷ cs) old new r =
    ((mid : Editor) × StepTaken (Text c) old old mid (Ok Idle) × Types cs mid new r)
    ⊎ (StepTaken (Text c) old old new (Err out_of_memory) × (r ≡ Err Memory))

abbrev pub is_newline : ℕ → Bool
is_newline c = nat_eq c 10

-- an answer, or a pattern, is of one line
abbrev pub first_line : List ℕ → List ℕ
first_line put = before_first is_newline put

-- at an open prompt, or without one
abbrev pub PastedAt : Option Prompt → List ℕ → Editor → Editor → PasteAnswer → Type 0
PastedAt None put old new r = Inserts put old new r
PastedAt (Some (Replacing pattern instead count)) put old new r = IsBusy old new r
PastedAt (Some Quitting) put old new r = IsBusy old new r
PastedAt (Some p) put old new r = Types (first_line put) old new r

-- a key sequence that has begun is not broken off
abbrev pub Pasted : List ℕ → Editor → Editor → PasteAnswer → Type 0
Pasted put old new r =
    ((HasBegun old.talk.keys [] → ⊥) × IsBusy old new r)
    ⊎ (HasBegun old.talk.keys [] × PastedAt old.talk.prompt put old new r)
