-- A live session that ran, by its parts, and what its answer tells of its devices.
use Rattle.std.proofs.Common.{◌≡◌, ◌≢◌, arith, ℕ, ◌+◌, ◌<◌, ◌||◌, Bool, true, false, List, [], ◌∷◌, length, get_or, drop, refl, sym, ap, subst, ◌∙◌, ◌&&◌, not, Option, Some, None, Result, rules, ◌⊎◌, Ok}
use Rattle.std.proofs.lemmas.List.{drop_more}
use Rattle.std.specs.Io.KnownBytes.{Consumes, IsAtEnd}
use Rattle.std.proofs.lemmas.Bool.{and_parts}
use Rattle.std.specs.Bool.{MatchBool}
use Rattle.std.specs.Result.{MatchResult}
use Rattle.rga_exchange.specs.Counting.{Calls, one_more}
use Rattle.mg_events.specs.Reading.{Reading, fresh, step, told_by, Leaves, is_in_report, Told, key, report, refused}
use Rattle.mg_events.specs.declared.reader.Event.{Event}
use Rattle.mg_editor.specs.Editors.{Editor}
use Rattle.mg_session.specs.Courses.{is_on, SessionAnswer, session_answer}
use Rattle.mg_session.specs.Moments.{Known, ToldCalls, seen, StepIf}
use Rattle.mg_session.specs.declared.course.Course.{Course}
use Rattle.mg_session.specs.declared.course.Course.TheVariants.{On, Quit, NoKeys}
use Rattle.mg_session.specs.Memory.{CourseMemory as NoMemory}
use Rattle.mg_session.proofs.TakenLaws.{after_step, is_off}
use Rattle.mg_session.proofs.StandingLaws.{TellsOf, IsFine, is_calm, on_calm, request_calm, calm_fine, calm_tells, whole_tells, begun_tells, AnswerTells, strictly}
use Rattle.mg_editor.specs.declared.live_saving.Writing.{Writing}
use Rattle.rga_lines.specs.declared.fault.LineFault.{LineFault}
use Rattle.mg_events.specs.declared.report.Report.{Report}
use Rattle.mg_session.specs.Keys.{course_behind, request_of}
use Rattle.mg_screen.specs.Settings.{Values}
use Rattle.mg_workspace.specs.Failures.{first_standing}
use Rattle.mg_workspace.specs.declared.failures.Failure.{Failure}
use Rattle.mg_session.specs.Opening.{LoadsTo}
use Rattle.mg_session.specs.Running.{devices}
use Rattle.mg_live.specs.Blocks.{EndsBlock, Writes, Tells, has_more, saves_due, writing_due}
use Rattle.mg_live.specs.Reports.{NotesChanges, TakesReport, RefusesReport, Follows, Verdict, counted}
use Rattle.mg_live.specs.Running.{Noted, TakesEvents, TakesBytes, TakesBlock, ReadsKeys, at_end, failed, block, is_any, quits, Finishes, Runs, TakesEvent, ended, CutsIf, Cuts, IsLiveSession, StartsWith}
use Rattle.mg_live.specs.States.{Live, Moment, moment}
use Rattle.mg_live.specs.Made.{if_memory}
use Rattle.mg_live.specs.Statuses.{can_show, Shows, whole, begun, unmade}
use Rattle.mg_live.specs.declared.fault.ReportFault.{ReportFault}
use Rattle.mg_live.specs.declared.fault.ReportFault.TheVariants.{Line}
use Rattle.mg_live.proofs.ToldLaws.{notes_so}

-- ---- events

pub noted_so : {e f : Editor} {calls : ToldCalls} {faults : ℕ} {screen : Calls Known} (before : Course) (live : Live) {after : Course} {next : Live}
    → NotesChanges e before live next after → f ≡ e → Noted (moment e calls faults screen before live) (moment f calls faults screen after next)
noted_so {e} {f} {calls} {faults} {screen} before live {after} {next} notes same = (notes, λ k. moment (same k) calls faults screen after next)

-- ---- bytes

-- none, where the session does not go on
pub takes_none : (bytes : List ℕ) (reading : Reading) (any : Bool) (m : Moment) → m.course ≢ On → TakesBytes bytes reading any m reading any m
takes_none [] reading any m off = (refl, refl, refl)
takes_none (b ∷ bytes) reading any m off = rw (is_off m.course off) (refl, refl, refl)

-- the next byte of a list, and then the others
pub next_byte : (bytes : List ℕ) (i d : ℕ) (event : Event) (more : Bool) (reading next left : Reading) (any some : Bool) (a b c : Moment)
    → i < length bytes → is_on a.course ≡ true → event ≡ (step reading (get_or bytes i d)).event → Leaves reading (get_or bytes i d) next
    → TakesEvents (told_by event next) a b → more ≡ (is_any (told_by event next) || any)
    → TakesBytes (drop (i + 1) bytes) next more b left some c → TakesBytes (drop i bytes) reading any a left some c
next_byte bytes i d event more reading next left any some a b c inside on is leaves taken counts rest =
    let said = (step reading (get_or bytes i d)).event in
    let taken : TakesEvents (told_by said next) a b = subst (λ e. TakesEvents (told_by e next) a b) is taken in
    let rest : TakesBytes (drop (i + 1) bytes) next (is_any (told_by said next) || any) b left some c =
    subst (λ m. TakesBytes (drop (i + 1) bytes) next m b left some c) (counts ∙ ap (λ e. is_any (told_by e next) || any) is) rest in
    subst (λ bs. TakesBytes bs reading any a left some c) (sym (drop_more bytes i d inside)) (rw on (next, b, leaves, taken, rest))

-- ---- reads of the keys

pub reads_end : {reading : Reading} {a : Moment} {from rest : Calls Known} → a.course ≡ On → Consumes from.inner rest.inner [] → IsAtEnd rest.inner
    → rest.at_end ≡ true → rest.failures ≡ from.failures → ReadsKeys reading a reading (record a { course = On }) from rest
reads_end {reading} {a} {from} {rest} on read end last same =
    subst (λ course. ReadsKeys reading a reading (record a { course = course }) from rest) on (at_end on read end last same)

pub reads_failed : {reading : Reading} {a : Moment} {from rest : Calls Known} → a.course ≡ On → Consumes from.inner rest.inner []
    → rest.failures ≡ one_more from.failures → ReadsKeys reading a reading (record a { course = NoKeys }) from rest
reads_failed on read fails = failed on read fails refl

-- a block, and then further ones
pub reads_more : (bytes : List ℕ) {reading next left : Reading} {a b c : Moment} {from mid rest : Calls Known} → a.course ≡ On
    → Consumes from.inner mid.inner bytes → mid.failures ≡ from.failures → from.left ≡ mid.left + 1
    → TakesBlock bytes reading (record a { course = On }) next b → ReadsKeys next b left c mid rest → ReadsKeys reading a left c from rest
reads_more bytes {reading} {next} {left} {a} {b} {c} {from} {mid} {rest} on read same call taken more =
    let taken : TakesBlock bytes reading a next b = subst (λ course. TakesBlock bytes reading (record a { course = course }) next b) (sym on) taken in
    block bytes next b mid on read same (omega (arith, call)) taken more

-- ---- a session

pub quits_not : (course : Course) → course ≢ Quit → quits course ≡ false
quits_not course other = grind arith

module _ {R : Type 0} (remaining : R → Known) {keys rest : Calls R} {a n b r : Moment} {start left : Reading} where
  runs_so : (c : Moment) → Noted a n → EndsBlock n b → start ≡ fresh → ReadsKeys start b left r (seen remaining keys) (seen remaining rest)
      → StepIf (not (quits r.course)) (Finishes (is_in_report left.phase)) r c → Runs remaining a c keys rest
  runs_so c notes starts is reads finishes = record {
    noted = n;
    begun = b;
    left = left;
    read = r;
    notes = notes;
    starts = starts;
    reads = subst (λ first. ReadsKeys first b left r (seen remaining keys) (seen remaining rest)) is reads;
    finishes = finishes;
  }

  pub runs_quit : Noted a n → EndsBlock n b → start ≡ fresh → ReadsKeys start b left r (seen remaining keys) (seen remaining rest) → r.course ≡ Quit
      → Runs remaining a r keys rest
  runs_quit notes starts is reads quit = runs_so r notes starts is reads (rw quit refl)

  pub runs_on : {c : Moment} {within : Bool} → Noted a n → EndsBlock n b → start ≡ fresh
      → ReadsKeys start b left r (seen remaining keys) (seen remaining rest) → r.course ≢ Quit → within ≡ is_in_report left.phase → Finishes within r c
      → Runs remaining a c keys rest
  runs_on {c} {within} notes starts is reads on within_is finishes =
      runs_so c notes starts is reads (rw (quits_not r.course on) (subst (λ w. Finishes w r c) within_is finishes))

-- ---- courses of a session that no device ended

either : {C : Type 0} (go : Bool) {P Q : Type 0} → (P → C) → (Q → C) → MatchBool go P Q → C
either true f g m = f m
either false f g m = g m

can_calm : (course : Course) → can_show course ≡ true → is_calm course ≡ true
can_calm course is = grind arith

pub memory_calm : (has_memory : Bool) (course : Course) → is_calm course ≡ true → is_calm (if_memory has_memory course) ≡ true
memory_calm has_memory course calm = grind arith

memory_or_calm : (before after : Course) → is_calm before ≡ true → (after ≡ before) ⊎ (after ≡ NoMemory) → is_calm after ≡ true
memory_or_calm before after calm so = grind arith

refused_calm : (fault : ReportFault) (before : Course) (live next : Live) (after : Course) → is_calm before ≡ true → RefusesReport fault before live next after → is_calm after ≡ true
refused_calm fault before live next after calm so = grind arith

follows_calm : (verdict : Verdict) (live next : Live) (after : Course) → Follows verdict live next after → is_calm after ≡ true
follows_calm verdict live next after so = grind arith

line_calm : (e f : Editor) (live next : Live) (after : Course) (r : Result Report LineFault)
    → MatchResult r (λ said. TakesReport said e live f next after) (λ fault. (f ≡ e) × RefusesReport (Line fault) On live next after)
    → is_calm after ≡ true
line_calm e f live next after r so = grind (arith, follows_calm)

cuts_calm : (begun : Bool) (before : Course) (live next : Live) (after : Course) → is_calm before ≡ true → CutsIf begun before live next after
    → is_calm after ≡ true
cuts_calm is_begun before live next after calm so = grind arith

all_cuts_calm : (within : Bool) (live next : Live) (after : Course) → Cuts within live next after → is_calm after ≡ true
all_cuts_calm within live next after c =
    let first = cuts_calm within On _ c.reported c.first refl c.report in
    let second = cuts_calm _ c.first c.reported c.pasted c.second first c.paste in
    cuts_calm _ c.second c.pasted next after second c.splice

module _ (keys rest old : Calls Known) where
  abbrev At : Moment → Type 0
  At m = TellsOf keys rest old m.course m.screen

  record IsCalm (m : Moment) : Type 0 where
    pub calm : is_calm m.course ≡ true
    pub fine : IsFine keys rest old m.screen

  calm_at : {m : Moment} → IsCalm m → At m
  calm_at {m} c = calm_tells keys rest old m.course m.screen c.calm c.fine

  calmly : (m : Moment) → is_calm m.course ≡ true → At m → IsCalm m
  calmly m calm t = record { calm = calm; fine = calm_fine keys rest old m.course m.screen calm t }

  same_at : (a b : Moment) → b.course ≡ a.course → b.screen ≡ a.screen → At a → At b
  same_at a b course screen t = rw (course, screen) t

  -- ---- events

  same_screen : {a b : Moment} → IsCalm a → is_calm b.course ≡ true → b.screen ≡ a.screen → IsCalm b
  same_screen {a} {b} c calm same = record { calm = calm; fine = subst (IsFine keys rest old) (sym same) c.fine }

  noted_calm : {a b : Moment} → IsCalm a → Noted a b → IsCalm b
  noted_calm {a} {b} c (notes, same) =
      let calm = memory_or_calm a.course b.course c.calm (notes_so a.editor a.course a.live b.live b.course notes).1 in
      same_screen c calm (ap (λ (m : Moment). m.screen) same)

  event_calm : (event : Told) (a b : Moment) → IsCalm a → TakesEvent event a b → IsCalm b
  event_calm (key byte) a b c (mid, k, noted) =
      let calm = memory_calm (k.noted && k.noted_opened) (course_behind (request_of k.answer)) (request_calm (request_of k.answer)) in
      noted_calm (same_screen c (ap is_calm k.course ∙ calm) k.screen) noted
  event_calm (report line) a b c (mid, (r, exact, taken), same, noted) =
      let calm = line_calm a.editor mid.editor (counted a.live) mid.live mid.course r taken in
      noted_calm (same_screen c calm (ap (λ (m : Moment). m.screen) same)) noted
  event_calm (refused fault) a b c (taken, same) = same_screen c (refused_calm (Line fault) On (counted a.live) b.live b.course refl taken) (ap (λ (m : Moment). m.screen) same)

  events_calm : (events : List Told) (a b : Moment) → IsCalm a → TakesEvents events a b → IsCalm b
  events_calm [] a b c same = subst IsCalm (sym same) c
  events_calm (event ∷ more) a b c (mid, step, next) =
      events_calm more mid b (after_step IsCalm (TakesEvent event) (is_on a.course) a mid c (λ _. event_calm event a mid c) step) next

  bytes_calm : (bytes : List ℕ) (r left : Reading) (any some : Bool) (a b : Moment) → IsCalm a → TakesBytes bytes r any a left some b → IsCalm b
  bytes_calm [] r left any some a b c (same_reading, same_any, same) = subst IsCalm (sym same) c
  bytes_calm (x ∷ bytes) r left any some a b c taken =
      either (is_on a.course)
      (λ p. bytes_calm bytes p.0 left _ some p.1 b (events_calm _ a p.1 c p.3) p.4)
      (λ p. subst IsCalm (sym p.2) c) taken

  -- ---- statuses, and the ends of blocks

  shows_tell : {fresh more : Bool} {told : List ℕ} {a b : Moment} → can_show a.course ≡ true → At a → Shows fresh more told a b → At b
  shows_tell {fresh} {more} {told} {a} {b} can t (whole bytes screen next f is written failures flushed same) =
      let c = calmly a (can_calm a.course can) t in
      subst At (sym same) (whole_tells keys rest old a.course a.screen screen c.calm c.fine failures flushed)
  shows_tell {fresh} {more} {told} {a} {b} can t (begun front left screen next f is written fails same) =
      subst At (sym same) (begun_tells keys rest old a.screen screen (calmly a (can_calm a.course can) t).fine fails)
  shows_tell {fresh} {more} {told} {a} {b} can t (unmade shown f placed same) =
      subst At (sym same) (calm_tells keys rest old NoMemory a.screen refl (calmly a (can_calm a.course can) t).fine)

  writes_tell : (writing : Option Writing) (a b : Moment) → At a → Writes writing a b → At b
  writes_tell None a b t same = subst At (sym same) t
  writes_tell (Some writing) a b t (swept, same) = same_at a b (ap (λ (m : Moment). m.course) same) (ap (λ (m : Moment). m.screen) same) t

  tells_tell : (fresh : Bool) (a b : Moment) → can_show a.course ≡ true → At a → Tells fresh a b → At b
  tells_tell fresh a b can t s =
      same_at s.shown b (ap (λ (m : Moment). m.course) s.left) (ap (λ (m : Moment). m.screen) s.left) (shows_tell can t s.shows)

  end_tells : {a b : Moment} → At a → EndsBlock a b → At b
  end_tells {a} {b} t e =
      let more = has_more a.live a.editor in
      let fresh = saves_due a.live a.editor in
      let shown : At e.shown = after_step At (Shows true more []) (can_show a.course) a e.shown t (λ can. shows_tell can t) e.shows in
      let written : At e.written = writes_tell (writing_due a.live a.editor) _ e.written shown e.writes in
      let told : At e.told =
      after_step At (Tells fresh) (more && can_show e.written.course) e.written e.told written
      (λ is. tells_tell fresh e.written e.told (and_parts more (can_show e.written.course) is).1 written) e.tells in
      same_at e.told b (ap (λ (m : Moment). m.course) e.left) (ap (λ (m : Moment). m.screen) e.left) told

  block_tells : (bytes : List ℕ) (r left : Reading) (a b : Moment) → IsCalm a → TakesBlock bytes r a left b → At b
  block_tells bytes r left a b c t =
      let taken = calm_at (bytes_calm bytes r left false t.some a t.taken c t.takes) in
      after_step At EndsBlock t.some t.taken b taken (λ _. end_tells taken) t.ends

  cut_tells : (within go : Bool) (a : Moment) (live next : Live) (cut : Course) → is_on a.course ≡ go → At a
      → MatchBool go (Cuts within live next cut) ((next ≡ live) × (cut ≡ a.course)) → TellsOf keys rest old cut a.screen
  cut_tells within true a live next cut on t cuts =
      calm_tells keys rest old cut a.screen (all_cuts_calm within live next cut cuts) (calmly a (on_calm a.course on) t).fine
  cut_tells within false a live next cut off t (left, same) = rw same t

  finish_tells : (within : Bool) {a b : Moment} → At a → Finishes within a b → At b
  finish_tells within {a} {b} t f = end_tells (cut_tells within (is_on a.course) a a.live f.left f.cut refl t f.cuts) f.ends

-- ---- reads of the keys

module _ (keys old : Calls Known) where
  still : (now rest : Calls Known) (m : Moment) → m.course ≡ On → rest.failures ≡ now.failures → At keys now old m → IsCalm keys rest old m
  still now rest m on same t =
      let c = calmly keys now old m (ap is_calm on) t in
      record { calm = c.calm; fine = record { read = same ∙ c.fine.read; written = c.fine.written; flushed = c.fine.flushed } }

  reads_tell : {r left : Reading} {a b : Moment} {now rest : Calls Known} → At keys now old a → ReadsKeys r a left b now rest → At keys rest old b
  reads_tell {r} {left} {a} {b} {now} {rest} t (ended off) = t
  reads_tell {r} {left} {a} {b} {now} {rest} t (at_end on read end last counts) = calm_at keys rest old (still now rest a on counts t)
  reads_tell {r} {left} {a} {b} {now} {rest} t (failed on read fails same) =
      let fine = (calmly keys now old a (ap is_calm on) t).fine in
      let lacks : rest.failures ≡ one_more keys.failures = fails ∙ ap one_more fine.read in
      let tells : TellsOf keys rest old NoKeys a.screen = search rules in
      subst (At keys rest old) (sym same) tells
  reads_tell {r} {left} {a} {b} {now} {rest} t (block bytes next between mid on read counts call taken more) =
      reads_tell (block_tells keys mid old bytes r next a between (still now mid a on counts t) taken) more

-- ---- a whole session

module _ {R : Type 0} (remaining : R → Known) (keys rest : Calls R) where
  pub run_tells : {a b : Moment} → is_calm a.course ≡ true → Runs remaining a b keys rest → At (seen remaining keys) (seen remaining rest) a.screen b
  run_tells {a} {b} calm ran =
      let k = seen remaining keys in
      let r = seen remaining rest in
      let start : IsCalm k k a.screen a = record { calm = calm; fine = record { read = refl; written = refl; flushed = λ was. was } } in
      let first = end_tells k k a.screen (calm_at k k a.screen (noted_calm k k a.screen start ran.notes)) ran.starts in
      let read = reads_tell k a.screen first ran.reads in
      after_step (At k r a.screen) (Finishes _) (not (quits ran.read.course)) ran.read b read (λ _. finish_tells k r a.screen _ read) ran.finishes

-- ---- its answer

module _ {R W : Type 0} (remaining : R → Known) (contents : W → Known) (v : Values) (keys rest : Calls R) (old now : Calls W) (calls after : ToldCalls) (failed faults : ℕ) where
  -- what is known of a session that is answered so
  pub record HasRun (r : SessionAnswer) : Type 0 where
    pub ran : IsLiveSession remaining contents v r failed faults (devices keys old calls) (devices rest now after)
    pub tells : AnswerTells remaining contents keys rest old now r

  pub session_ran : {told : ToldCalls} {first last : Editor} {live next : Live} {begun course : Course}
      → (values : Values) (strict : Bool) (why : Option Failure) (r : SessionAnswer) (begun_with : ℕ) → values ≡ v → strict ≡ v.strict
      → LoadsTo v calls told (Ok first) → begun_with ≡ failed → StartsWith values first live begun
      → Runs remaining (moment first told begun_with (seen contents old) begun live) (moment last after faults (seen contents now) course next) keys rest
      → why ≡ first_standing last.work.failures → r ≡ session_answer strict why course → HasRun r
  session_ran {told} {first} {last} {live} {next} {begun} {course} values strict why r begun_with same strict_is loads counts (noted, live_is, begun_is) runs fails is =
      let calm : is_calm begun ≡ true = ap is_calm begun_is ∙ memory_calm noted On refl in
      let tells = run_tells remaining keys rest calm runs in
      let runs = rw (counts, begun_is, live_is, same) at runs in
      rw (is, strict_is) (record {
        ran = record { told = told; opened = Ok first; loads = loads; ran = (noted, last, next, course, ap (λ (f : Option Failure). session_answer v.strict f course) fails, runs) };
        tells = strictly remaining contents keys rest old now v.strict why course tells;
      })
