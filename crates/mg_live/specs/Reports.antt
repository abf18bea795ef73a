-- What a report of a live session leads to.
use Rattle.std.specs.Prelude.{◌≡◌, ◌≢◌, ◌⊎◌, ℕ, ◌+◌, Bool, true, List, [], ◌∷◌, Some, None, Result, Ok, Err, MatchResult, is_ok, min, max, nat_lt, nat_eq}
use Rattle.std.specs.Bool.{MatchBool}
use Rattle.std.specs.List.{list_any}
use Rattle.rga_ops.specs.Content.{clock_of}
use Rattle.rga_ops.specs.Order.{text}
use Rattle.rga_ops.specs.Answer.{answer}
use Rattle.rga_ops.specs.ListAnswer.{list_answer}
use Rattle.rga_ops.specs.declared.op.Op.{Op}
use Rattle.rga_ops.specs.declared.op.Op.TheVariants.{Insert, Delete}
use Rattle.rga_ops.specs.declared.out_of_memory.OutOfMemory.{OutOfMemory}
use Rattle.rga_ops.specs.declared.refusal.Refusal.{Refusal}
use Rattle.rga_ops.specs.Memory.{Memory}
use Rattle.rga_ops.specs.declared.refusal.Taken.{Taken}
use Rattle.rga_ops.specs.declared.refusal.Taken.TheVariants.{New}
use Rattle.rga_lines.specs.Runs.{stretch_operations, run_deletions}
use Rattle.rga_lines.specs.declared.fault.LineFault.{LineFault}
use Rattle.rga_lines.specs.Memory.{LineMemory}
use Rattle.mg_events.specs.Reports.{report_at}
use Rattle.mg_events.specs.declared.report.Report.{Report}
use Rattle.mg_events.specs.declared.report.Report.TheVariants as report
use Rattle.mg_plain.specs.declared.command.Command.TheVariants.{ReplaceRange}
use Rattle.mg_screen.specs.Size.{least_rows, most_rows, least_columns, most_columns}
use Rattle.mg_editor.specs.Editors.{Editor}
use Rattle.mg_editor.specs.LiveTaking.{taking, with_changed}
use Rattle.mg_editor.specs.Pasting.{Pasted}
use Rattle.mg_editor.specs.declared.pasting.PasteFault.{PasteFault}
use Rattle.mg_session.specs.declared.course.Course.{Course}
use Rattle.mg_session.specs.declared.course.Course.TheVariants.{On}
use Rattle.mg_session.specs.Memory.{CourseMemory as NoMemory}
use Rattle.mg_workspace.specs.Actions.{resized_work}
use Rattle.mg_workspace.specs.AtIndex.{RunsAt, state_at}
use Rattle.mg_workspace.specs.declared.fault.ActionFault.{ActionFault}
use Rattle.mg_live.specs.Changes.{change_count, noted}
use Rattle.mg_live.specs.FaultNames.{of_action, of_paste}
use Rattle.mg_live.specs.Gathering.{Gathered, gather, drop_text}
use Rattle.mg_live.specs.Made.{live_index, is_live, made_at, with_made, if_memory}
use Rattle.mg_live.specs.States.{Live}
use Rattle.mg_live.specs.Tallies.{with_report, with_refusal}
use Rattle.mg_live.specs.declared.fault.ReportFault.{ReportFault}
use Rattle.mg_live.specs.declared.fault.ReportFault.TheVariants.{Line, Refused, Far, Closed, Stale}
use Rattle.mg_live.specs.declared.gathered.Piece.{Piece}
use Rattle.mg_live.specs.declared.gathered.Piece.TheVariants.{Held, Whole, Dropped}

-- ---- operations of others

-- the counter of what it inserts or deletes
abbrev pub counter_of : Op → ℕ
counter_of (Insert id parent ch) = id.counter
counter_of (Delete id) = id.counter

-- more than 2^32 above the clock
abbrev pub is_far : ℕ → Op → Bool
is_far clock op = nat_lt (clock + 4294967296) (counter_of op)

-- what the session says of a report is that it was taken, whether there was memory to note what it made, or why not
abbrev pub Verdict : Type 0
Verdict = Result (Result (Unit {0}) OutOfMemory) ReportFault

abbrev pub clock_at : ℕ → Editor → ℕ
clock_at i e = clock_of (state_at i e.work).content

-- the live buffer took operations of others
abbrev pub with_taken : Live → Live
with_taken live = record live { telling = record live.telling { took = true } }

-- the buffer at an index takes an operation, and answers; want of memory comes last
pub record TakesOperation (op : Op) (i : ℕ) (e : Editor) (r : Result Taken Refusal) (f : Editor) : Type 0 where
  pub exact : r ≢ Err Memory → r ≡ answer (state_at i e.work).limit (state_at i e.work).content op
  pub memory : r ≡ Err Memory → answer (state_at i e.work).limit (state_at i e.work).content op ≡ Ok New
  pub left : MatchResult r (λ _. f ≡ taking i (op ∷ []) e) (λ _. f ≡ e)

-- and all operations of a list, or none of them
pub record TakesList (ops : List Op) (i : ℕ) (e : Editor) (r : Result (Unit {0}) Refusal) (f : Editor) : Type 0 where
  pub exact : r ≢ Err Memory → r ≡ list_answer (state_at i e.work).limit (state_at i e.work).content ops
  pub left : MatchResult r (λ _. f ≡ taking i ops e) (λ _. f ≡ e)

-- Operations are taken by the live buffer, where it is open and none is too far ahead, as the buffer answers.
abbrev pub TakesOthers : {A : Type 0} → List Op → (ℕ → Editor → Result A Refusal → Editor → Type 0) → Editor → Live → Verdict → Editor → Live → Type 0
TakesOthers {A} ops Takes e live verdict f next = elim (live_index live.name e) [
  | None ↦ (verdict ≡ Err Closed) × (f ≡ e) × (next ≡ live)
  | Some i ↦ MatchBool (list_any (is_far (clock_at i e)) ops)
      ((verdict ≡ Err Far) × (f ≡ e) × (next ≡ live))
      ((r : Result A Refusal) × Takes i e r f × MatchResult r
      (λ _. (verdict ≡ Ok (Ok tt)) × (next ≡ with_taken live)) (λ why. (verdict ≡ Err (Refused why)) × (next ≡ live)))
]

-- there is no memory for the operations of a run
abbrev pub LacksMemory : Editor → Live → Verdict → Editor → Live → Type 0
LacksMemory e live verdict f next = (verdict ≡ Err (Line LineMemory)) × (f ≡ e) × (next ≡ live)

-- ---- pasted text, and splices

-- text of a report is held, or it is whole, or it is dropped; want of memory drops it
abbrev pub Gathers : List ℕ → Bool → Gathered → Gathered → Piece → Type 0
Gathers text more old new piece = ((new, piece) ≡ gather text more old) ⊎ ((new, piece) ≡ drop_text more LineMemory)

-- The text was pasted, and what it made is noted; or it was not, for that.
abbrev pub Pastes : List ℕ → Editor → Live → Verdict → Editor → Live → Type 0
Pastes put e live verdict f next =
    let i = e.work.buffers.current in
    (r : Result (Unit {0}) PasteFault) × Pasted put e f r × MatchResult r
    (λ _. (noted : Result (Unit {0}) OutOfMemory) × (verdict ≡ Ok noted)
    × (next ≡ with_made (is_live live.name i e) (is_ok noted) (made_at i e f) live))
    (λ fault. (verdict ≡ Err (of_paste fault)) × (next ≡ live))

-- The characters of the live buffer were replaced, if its text is the one that the splice was made by, and what it made is noted; or they
-- were not, for that.
abbrev pub Splices : ℕ → ℕ → ℕ → List ℕ → Editor → Live → Verdict → Editor → Live → Type 0
Splices base lo hi put e live verdict f next = elim (live_index live.name e) [
  | None ↦ (verdict ≡ Err Closed) × (f ≡ e) × (next ≡ live)
  | Some i ↦ MatchBool (nat_eq base (change_count live.changes))
      ((r : Result (Unit {0}) ActionFault) × RunsAt i (ReplaceRange lo hi put) 1 e.work (f.work, r) × MatchResult r
      (λ _. (noted : Result (Unit {0}) OutOfMemory) × (f ≡ with_changed i f.work e) × (verdict ≡ Ok noted)
      × (next ≡ with_made true (is_ok noted) (made_at i e f) live))
      (λ fault. (f ≡ e) × (verdict ≡ Err (of_action fault)) × (next ≡ live)))
      ((verdict ≡ Err Stale) × (f ≡ e) × (next ≡ live))
]

-- What becomes of a piece of text: it is held, or dropped for that, or the whole text is taken so.
abbrev pub TakesPiece : Piece → (List ℕ → Editor → Live → Verdict → Editor → Live → Type 0) → Editor → Live → Verdict → Editor → Live → Type 0
TakesPiece Held Takes e live verdict f next = (verdict ≡ Ok (Ok tt)) × (f ≡ e) × (next ≡ live)
TakesPiece (Dropped fault) Takes e live verdict f next = (verdict ≡ Err (Line fault)) × (f ≡ e) × (next ≡ live)
TakesPiece (Whole put) Takes e live verdict f next = Takes put e live verdict f next

-- pieces of pasted text, and of a splice, of which the numbers are those of the last piece
abbrev pub TakesPaste : List ℕ → Bool → Editor → Live → Verdict → Editor → Live → Type 0
TakesPaste text more e live verdict f next =
    (held : Gathered) × (piece : Piece) × Gathers text more live.paste held piece × TakesPiece piece Pastes e (record live { paste = held }) verdict f next

abbrev pub TakesSplice : ℕ → ℕ → ℕ → List ℕ → Bool → Editor → Live → Verdict → Editor → Live → Type 0
TakesSplice base lo hi text more e live verdict f next =
    (held : Gathered) × (piece : Piece) × Gathers text more live.splice held piece
    × TakesPiece piece (Splices base lo hi) e (record live { splice = held }) verdict f next

-- ---- any report

-- the screen takes a size, brought within its limits
abbrev pub resized : ℕ → ℕ → Editor → Editor
resized rows columns e = record e { work = resized_work (min (max rows least_rows) most_rows) (min (max columns least_columns) most_columns) e.work }

-- what a report leaves, and what is said of it
abbrev pub Takes : Report → Editor → Live → Verdict → Editor → Live → Type 0
Takes (report.One op) e live verdict f next = TakesOthers (op ∷ []) (TakesOperation op) e live verdict f next
Takes (report.Run run) e live verdict f next =
    LacksMemory e live verdict f next
    ⊎ TakesOthers (stretch_operations run) (TakesList (stretch_operations run)) e live verdict f next
Takes (report.Deletions run) e live verdict f next =
    LacksMemory e live verdict f next
    ⊎ TakesOthers (run_deletions run) (TakesList (run_deletions run)) e live verdict f next
Takes (report.Paste text more) e live verdict f next = TakesPaste text more e live verdict f next
Takes (report.Splice base lo hi text more) e live verdict f next = TakesSplice base lo hi text more e live verdict f next
Takes (report.Size rows columns) e live verdict f next = (verdict ≡ Ok (Ok tt)) × (f ≡ resized rows columns e) × (next ≡ live)
Takes (report.Places places) e live verdict f next = (verdict ≡ Ok (Ok tt)) × (f ≡ e) × (next ≡ record live { places = places })
Takes report.Rest e live verdict f next = (verdict ≡ Ok (Ok tt)) × (f ≡ e) × (next ≡ record live { telling = record live.telling { resting = true } })

-- ---- a report of a session

-- The report that was counted last is refused, if there is memory to note it; else the session ends.
abbrev pub RefusesReport : ReportFault → Course → Live → Live → Course → Type 0
RefusesReport fault before live next after =
    ((next ≡ record live { tally = with_refusal fault live.tally }) × (after ≡ before)) ⊎ ((next ≡ live) × (after ≡ NoMemory))

-- it was done, and the session goes on if there was memory to note what it made; or it is refused
abbrev pub Follows : Verdict → Live → Live → Course → Type 0
Follows (Ok noted) live next after = (next ≡ live) × (after ≡ if_memory (is_ok noted) On)
Follows (Err fault) live next after = RefusesReport fault On live next after

-- What a report says is done, or it is refused.
abbrev pub TakesReport : Report → Editor → Live → Editor → Live → Course → Type 0
TakesReport said e live f next after =
    (verdict : Verdict) × (between : Live) × Takes said e live verdict f between × Follows verdict between next after

abbrev pub counted : Live → Live
counted live = record live { tally = with_report live.tally }

-- A report that could not be read is counted and refused.
abbrev pub RefusesLine : LineFault → Live → Live → Course → Type 0
RefusesLine fault live next after = RefusesReport (Line fault) On (counted live) next after

-- What a line says is done, or what is wrong with it is told; want of memory too.
abbrev pub TakesLine : List ℕ → Editor → Live → Editor → Live → Course → Type 0
TakesLine bytes e live f next after =
    (r : Result Report LineFault) × (r ≢ Err LineMemory → r ≡ report_at bytes) × MatchResult r
    (λ said. TakesReport said e (counted live) f next after)
    (λ fault. (f ≡ e) × RefusesReport (Line fault) On (counted live) next after)

-- ---- how the live buffer's text changed

-- It is noted, where that is asked for and the buffer is open; where memory is wanting for that the session ends.
abbrev pub NotesChanges : Editor → Course → Live → Live → Course → Type 0
NotesChanges e before live next after = elim live.changes [
  | None ↦ (next ≡ live) × (after ≡ before)
  | Some c ↦ elim (live_index live.name e) [
    | None ↦ (next ≡ live) × (after ≡ before)
    | Some i ↦
        ((next ≡ record live { changes = Some (noted (text (state_at i e.work).content) c) }) × (after ≡ before))
        ⊎ ((next ≡ live) × (after ≡ NoMemory))
  ]
]

-- of the code: the text is this one now, if there was memory to note it
abbrev pub NotesText : List ℕ → Live → Live → Bool → Type 0
NotesText text live next noted_it = elim live.changes [
  | None ↦ (next ≡ live) × (noted_it ≡ true)
  | Some c ↦ MatchBool noted_it (next ≡ record live { changes = Some (noted text c) }) (next ≡ live)
]
