-- What a session does with its keys.
use Rattle.std.specs.Prelude.{◌≡◌, ◌↔◌, ℕ, ◌+◌, ◌≤◌, Bool, true, false, List, [], ◌∷◌, length, Result, Err, MatchResult}
use Rattle.std.specs.Bool.{MatchBool}
use Rattle.std.specs.Io.KnownBytes.{Consumes, IsAtEnd}
use Rattle.std.specs.List.{concat}
use Rattle.rga_exchange.specs.Counting.{Calls, one_more}
use Rattle.mg_keys.specs.Begun.{HasBegun}
use Rattle.mg_screen.specs.Settings.{Values}
use Rattle.mg_workspace.specs.Failures.{first_standing}
use Rattle.mg_editor.specs.Editors.{Editor}
use Rattle.mg_session.specs.Courses.{is_on, SessionAnswer, session_answer}
use Rattle.mg_session.specs.Display.{Displays, follows_key, follows_session}
use Rattle.mg_session.specs.Keys.{TakesKey}
use Rattle.mg_session.specs.Moments.{ToldCalls, Known, seen, Moment, moment, StepIf}
use Rattle.mg_session.specs.Opening.{LoadsTo}
use Rattle.mg_session.specs.declared.course.Course.{Course}
use Rattle.mg_session.specs.declared.course.Course.TheVariants.{On, NoKeys}
use Rattle.mg_session.specs.declared.fault.SessionFault.{SessionFault}

-- ---- keys

-- A byte was taken, and where steps are traced, a frame behind it, unless it leaves a key sequence begun.
abbrev pub ShowsKey : Bool → ℕ → Moment → Moment → Type 0
ShowsKey trace byte before behind =
    (pressed : Moment) × (amid : Bool) × TakesKey byte before pressed × ((amid ≡ false) ↔ HasBegun pressed.editor.talk.keys [])
    × StepIf (follows_key trace amid) Displays pressed behind

-- They were taken in turn, as long as the session went on.
abbrev pub TakesKeys : Bool → List ℕ → Moment → Moment → Type 0
TakesKeys trace [] before behind = behind ≡ before
TakesKeys trace (byte ∷ rest) before behind =
    (between : Moment) × StepIf (is_on before.course) (ShowsKey trace byte) before between × TakesKeys trace rest between behind

-- ---- the reads of the keys

-- Keys were read in blocks, and each was taken in turn.
pub data ReadsKeys (trace : Bool) (before behind : Moment) (keys rest : Calls Known) : Type 0 where
  -- Up to a key behind which the session ends, or to the end of the keys. Each read gave a block, but the last one may have
  -- given no bytes.
  through : (blocks : List (List ℕ)) → Consumes keys.inner rest.inner (concat blocks)
      → rest.left + length blocks ≤ keys.left → keys.left ≤ rest.left + (length blocks + 1)
      → rest.failures ≡ keys.failures → (behind.course ≡ On → (rest.at_end ≡ true) × IsAtEnd rest.inner)
      → TakesKeys trace (concat blocks) before behind → ReadsKeys trace before behind keys rest
  -- Up to a read that failed.
  broken_off : (blocks : List (List ℕ)) → Consumes keys.inner rest.inner (concat blocks)
      → rest.failures ≡ one_more keys.failures → behind.course ≡ NoKeys
      → TakesKeys trace (concat blocks) before (record behind { course = On }) → ReadsKeys trace before behind keys rest

-- ---- a session

-- Once its editor is opened, a frame is written where steps are traced, and the keys are read, unless that frame ended the
-- session. Where steps are not traced a frame is written at the end, unless the session failed.
pub record Runs {R : Type 0} (remaining : R → Known) (trace : Bool) (before behind : Moment) (keys rest : Calls R) : Type 0 where
  pub begun : Moment
  pub ended : Moment
  pub starts : StepIf trace Displays before begun
  pub taken : MatchBool (is_on begun.course)
      (ReadsKeys trace begun ended (seen remaining keys) (seen remaining rest))
      ((ended ≡ begun) × (rest ≡ keys))
  pub finishes : StepIf (follows_session trace ended.course) Displays ended behind

-- its keys, its screen, and the calls that its port has told
pub record Devices (R W : Type 0) : Type 0 where
  pub keys : Calls R
  pub screen : Calls W
  pub calls : ToldCalls

abbrev pub devices : {R W : Type 0} → Calls R → Calls W → ToldCalls → Devices R W
devices keys screen calls = record { keys = keys; screen = screen; calls = calls }

-- A session of these settings. Where an editor opened the session is answered by how it stands in the end, and, if it is
-- strict, by the first save or exchange that failed and stands then; where none did, for a fault, that is answered, no key was
-- read, and nothing was written.
pub record IsSession {R W : Type 0} (remaining : R → Known) (contents : W → Known) (v : Values) (r : SessionAnswer) (before behind : Devices R W) : Type 0 where
  pub told : ToldCalls
  pub opened : Result Editor SessionFault
  pub loads : LoadsTo v before.calls told opened
  pub ran : MatchResult opened
      (λ first. (last : Editor) × (course : Course) × (r ≡ session_answer v.strict (first_standing last.work.failures) course)
      × Runs remaining v.trace (moment first told (seen contents before.screen) On)
      (moment last behind.calls (seen contents behind.screen) course) before.keys behind.keys)
      (λ fault. (r ≡ Err fault) × (behind ≡ record before { calls = told }))
