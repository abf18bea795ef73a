-- What a live session does with its keys.
use Rattle.std.specs.Prelude.{◌≡◌, ◌≢◌, ℕ, ◌+◌, ◌≤◌, ◌||◌, ◌&&◌, not, Bool, true, false, List, [], ◌∷◌, length, Some, None, Result, Err, MatchResult, chars, if◌then◌else◌, nat_eq, nat_lt}
use Rattle.std.specs.Bool.{MatchBool}
use Rattle.std.specs.Io.KnownBytes.{Consumes, IsAtEnd}
use Rattle.rga_exchange.specs.Counting.{Calls, one_more}
use Rattle.rga_ops.specs.Content.{clock_of}
use Rattle.mg_events.specs.Reading.{Reading, Told, key, report, refused, fresh, step, told_by, Leaves, is_in_report}
use Rattle.mg_screen.specs.Settings.{Values}
use Rattle.mg_workspace.specs.AtIndex.{state_at}
use Rattle.mg_workspace.specs.Failures.{first_standing}
use Rattle.mg_editor.specs.Editors.{Editor}
use Rattle.mg_session.specs.Courses.{is_on, SessionAnswer, session_answer}
use Rattle.mg_session.specs.Moments.{Known, ToldCalls, seen, StepIf}
use Rattle.mg_session.specs.Opening.{LoadsTo, opening_failures}
use Rattle.mg_session.specs.Running.{Devices}
use Rattle.mg_session.specs.declared.course.Course.{Course}
use Rattle.mg_session.specs.declared.course.Course.TheVariants.{On, Quit, NoKeys}
use Rattle.mg_session.specs.declared.fault.SessionFault.{SessionFault}
use Rattle.mg_live.specs.Blocks.{EndsBlock}
use Rattle.mg_live.specs.Changes.{no_changes}
use Rattle.mg_live.specs.Gathering.{nothing_held, is_begun}
use Rattle.mg_live.specs.Keys.{TakesKey}
use Rattle.mg_live.specs.Reports.{TakesLine, RefusesLine, RefusesReport, NotesChanges, counted}
use Rattle.mg_live.specs.Made.{unsaved_at, if_memory}
use Rattle.mg_live.specs.States.{Live, Moment, moment, nothing_shown}
use Rattle.mg_live.specs.Tallies.{no_tally}
use Rattle.mg_live.specs.Telling.{nothing_to_tell}
use Rattle.mg_live.specs.declared.fault.ReportFault.TheVariants.{Cut}

-- ---- events

-- how the text changed was noted
abbrev pub Noted : Moment → Moment → Type 0
Noted before after =
    NotesChanges before.editor before.course before.live after.live after.course × (after ≡ record before { course = after.course; live = after.live })

-- a key or a report was taken, and how the text changed by it was noted; or a report was refused that could not be read
abbrev pub TakesEvent : Told → Moment → Moment → Type 0
TakesEvent (key b) before after = (taken : Moment) × TakesKey b before taken × Noted taken after
TakesEvent (report line) before after =
    (taken : Moment) × TakesLine line before.editor before.live taken.editor taken.live taken.course
    × (taken ≡ record before { editor = taken.editor; course = taken.course; live = taken.live }) × Noted taken after
TakesEvent (refused fault) before after =
    RefusesLine fault before.live after.live after.course × (after ≡ record before { course = after.course; live = after.live })

-- They were taken in turn, as long as the session went on.
abbrev pub TakesEvents : List Told → Moment → Moment → Type 0
TakesEvents [] before after = after ≡ before
TakesEvents (event ∷ rest) before after =
    (between : Moment) × StepIf (is_on before.course) (TakesEvent event) before between × TakesEvents rest between after

-- there are some
abbrev pub is_any : List Told → Bool
is_any [] = false
is_any (event ∷ rest) = true

-- The bytes of a read were taken in turn, as long as the session went on: the reading that they left, and whether there was any event.
abbrev pub TakesBytes : List ℕ → Reading → Bool → Moment → Reading → Bool → Moment → Type 0
TakesBytes [] reading any before left some after = (left ≡ reading) × (some ≡ any) × (after ≡ before)
TakesBytes (b ∷ bytes) reading any before left some after = MatchBool (is_on before.course)
    ((next : Reading) × (between : Moment) × Leaves reading b next × TakesEvents (told_by (step reading b).event next) before between
    × TakesBytes bytes next (is_any (told_by (step reading b).event next) || any) between left some after)
    ((left ≡ reading) × (some ≡ any) × (after ≡ before))

-- and the block ended, if there was any
pub record TakesBlock (bytes : List ℕ) (reading : Reading) (before : Moment) (left : Reading) (after : Moment) : Type 0 where
  pub some : Bool
  pub taken : Moment
  pub takes : TakesBytes bytes reading false before left some taken
  pub ends : StepIf some EndsBlock taken after

-- ---- the reads of the keys

-- Keys were read in blocks, and each was taken, up to one behind which the session ends, or to the end of the keys, or to a read that failed.
pub data ReadsKeys : Reading → Moment → Reading → Moment → Calls Known → Calls Known → Type 0 where
  ended : {reading : Reading} {before : Moment} {keys : Calls Known} → before.course ≢ On → ReadsKeys reading before reading before keys keys
  at_end : {reading : Reading} {before : Moment} {keys rest : Calls Known} → before.course ≡ On → Consumes keys.inner rest.inner [] → IsAtEnd rest.inner
      → rest.at_end ≡ true → rest.failures ≡ keys.failures → ReadsKeys reading before reading before keys rest
  failed : {reading : Reading} {before after : Moment} {keys rest : Calls Known} → before.course ≡ On → Consumes keys.inner rest.inner []
      → rest.failures ≡ one_more keys.failures → after ≡ record before { course = NoKeys } → ReadsKeys reading before reading after keys rest
  block : {reading left : Reading} {before after : Moment} {keys rest : Calls Known} (bytes : List ℕ) (next : Reading) (between : Moment) (mid : Calls Known)
      → before.course ≡ On → Consumes keys.inner mid.inner bytes → mid.failures ≡ keys.failures → mid.left + 1 ≤ keys.left
      → TakesBlock bytes reading before next between → ReadsKeys next between left after mid rest → ReadsKeys reading before left after keys rest

-- ---- the end

-- what the keys ended within is refused
abbrev pub CutsIf : Bool → Course → Live → Live → Course → Type 0
CutsIf true before live next after = RefusesReport Cut before live next after
CutsIf false before live next after = (next ≡ live) × (after ≡ before)

abbrev pub counted_if : Bool → Live → Live
counted_if begun live = if begun then counted live else live

-- A report that was begun is one more, and is refused; so is pasted text, and the text of a splice, that more was to come of.
pub record Cuts (within : Bool) (live next : Live) (after : Course) : Type 0 where
  pub reported : Live
  pub pasted : Live
  pub first : Course
  pub second : Course
  pub report : CutsIf within On (counted_if within live) reported first
  pub paste : CutsIf (is_begun live.paste) first reported pasted second
  pub splice : CutsIf (is_begun live.splice) second pasted next after

-- where nothing failed
abbrev pub CutsOn : Bool → Course → Live → Live → Course → Type 0
CutsOn within before live next after = MatchBool (is_on before) (Cuts within live next after) ((next ≡ live) × (after ≡ before))

-- nobody types
abbrev pub rested : Live → Live
rested live = record live { telling = record live.telling { resting = true } }

-- Where the keys ended, and nothing failed, what they ended within was refused; and a last block ended, in which nobody types.
pub record Finishes (within : Bool) (before after : Moment) : Type 0 where
  pub cut : Course
  pub left : Live
  pub cuts : CutsOn within before.course before.live left cut
  pub ends : EndsBlock (record before { course = cut; live = rested left }) after

abbrev pub quits : Course → Bool
quits Quit = true
quits course = false

-- ---- a session

-- operations were read from a log: there are some, and none is unsaved
abbrev pub was_loaded : ℕ → Editor → Bool
was_loaded i e = nat_eq (length (unsaved_at i e)) 0 && nat_lt 0 (clock_of (state_at i e.work).content)

-- what a session of these settings keeps before an editor is open
abbrev pub fresh_live : Values → Live
fresh_live v = record {
  name = chars v.name;
  tally = no_tally;
  paste = nothing_held;
  splice = nothing_held;
  telling = nothing_to_tell;
  changes = if v.changes then Some no_changes else None;
  places = [];
  loaded = false;
  saved = None;
  shown = nothing_shown;
}

-- What it keeps at its start, by the editor that opened. What the load of a text without a log made is to be told, if there is memory to
-- note it.
abbrev pub live_at_start : Bool → Values → Editor → Live
live_at_start has_memory v e = record (fresh_live v) {
  telling = record nothing_to_tell { untold = if has_memory then unsaved_at 0 e else [] };
  loaded = was_loaded 0 e;
}

-- The first status was written; the keys were read; and what they ended within was refused, and all was saved, unless a key quit.
pub record Runs {R : Type 0} (remaining : R → Known) (before after : Moment) (keys rest : Calls R) : Type 0 where
  pub noted : Moment
  pub begun : Moment
  pub left : Reading
  pub read : Moment
  pub notes : Noted before noted
  pub starts : EndsBlock noted begun
  pub reads : ReadsKeys fresh begun left read (seen remaining keys) (seen remaining rest)
  pub finishes : StepIf (not (quits read.course)) (Finishes (is_in_report left.phase)) read after

-- A live session of these settings, before and after which so many calls of the port had failed. Where an editor opened the session is answered
-- by how it stands in the end, and, if it is strict, by the first save or exchange that failed and stands then; where none did, for a fault,
-- that is answered, no key was read, and nothing was written.
pub record IsLiveSession {R W : Type 0} (remaining : R → Known) (contents : W → Known) (v : Values) (r : SessionAnswer) (failed faults : ℕ) (before after : Devices R W) : Type 0 where
  pub told : ToldCalls
  pub opened : Result Editor SessionFault
  pub loads : LoadsTo v before.calls told opened
  pub ran : MatchResult opened
      (λ first. (noted : Bool) × (last : Editor) × (next : Live) × (course : Course)
      × (r ≡ session_answer v.strict (first_standing last.work.failures) course)
      × Runs remaining
      (moment first told failed (seen contents before.screen) (if_memory noted On) (live_at_start noted v first))
      (moment last after.calls faults (seen contents after.screen) course next) before.keys after.keys)
      (λ fault. (r ≡ Err fault) × (faults ≡ opening_failures opened failed) × (after ≡ record before { calls = told }))

-- of the code: how a session stands at its start, and what it keeps then
abbrev pub StartsWith : Values → Editor → Live → Course → Type 0
StartsWith v e live after = (noted : Bool) × (live ≡ live_at_start noted v e) × (after ≡ if_memory noted On)
