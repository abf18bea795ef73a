-- What a session is answered by tells of its devices.
use Rattle.std.proofs.Common.{◌≡◌, ◌≢◌, rules, ℕ, not, Bool, true, false, List, [], ◌∷◌, Option, Some, None, Ok, Err, is_ok, refl, sym, ap, subst, ◌∙◌, true≢false, if◌then◌else◌}
use Rattle.std.proofs.lemmas.Bool.{and_parts}
use Rattle.std.specs.Bool.{MatchBool}
use Rattle.std.specs.List.{concat}
use Rattle.std.specs.Result.{result_and}
use Rattle.rga_exchange.specs.Counting.{Calls, CountsAs, StaysFlushed, one_more}
use Rattle.mg_minibuffer.specs.declared.ending.Request.{Request}
use Rattle.mg_minibuffer.specs.declared.ending.Request.TheVariants as request
use Rattle.mg_workspace.specs.declared.failures.Failure.{Failure}
use Rattle.mg_session.specs.Courses.{is_on, SessionAnswer, course_answer, failure_answer, session_answer}
use Rattle.mg_session.specs.Display.{Displays, whole, begun, unmade, follows_session}
use Rattle.mg_session.specs.Keys.{course_behind, request_of}
use Rattle.mg_session.specs.Moments.{Known, Moment, seen, StepIf}
use Rattle.mg_session.specs.Running.{ShowsKey, TakesKeys, ReadsKeys, through, broken_off, Runs}
use Rattle.mg_session.specs.declared.course.Course.{Course}
use Rattle.mg_session.specs.declared.course.Course.TheVariants.{On, Quit, NoKeys, NoScreen, NoMemory as OfNoMemory}
use Rattle.mg_session.specs.Memory.{CourseMemory as NoMemory}
use Rattle.mg_session.specs.declared.fault.SessionFault.{SessionFault}
use Rattle.mg_session.specs.declared.fault.SessionFault.TheVariants.{File, Keys, Screen, Failed}
use Rattle.mg_session.proofs.TakenLaws.{after_step}

-- ---- a session that no device ended

abbrev pub is_calm : Course → Bool
is_calm On = true
is_calm Quit = true
is_calm (OfNoMemory _) = true
is_calm NoKeys = false
is_calm NoScreen = false

pub on_calm : (course : Course) → is_on course ≡ true → is_calm course ≡ true
on_calm On is = refl
on_calm course is = absurd (true≢false (sym is))

ok_calm : (course : Course) → is_ok (course_answer course) ≡ true → is_calm course ≡ true
ok_calm NoKeys is = absurd (true≢false (sym is))
ok_calm NoScreen is = absurd (true≢false (sym is))
ok_calm course is = refl

pub request_calm : (asked : Request) → is_calm (course_behind asked) ≡ true
request_calm request.Quit = refl
request_calm asked = refl

no_device : (course : Course) → is_calm course ≡ true
    → (course_answer course ≢ Err Keys) × (course_answer course ≢ Err Screen) × (course_answer course ≢ Err File)
no_device On calm = ((λ is. cc), (λ is. cc), (λ is. cc))
no_device Quit calm = ((λ is. cc), (λ is. cc), (λ is. cc))
no_device (OfNoMemory _) calm = ((λ is. cc), (λ is. cc), (λ is. cc))
no_device NoKeys calm = absurd (true≢false (sym calm))
no_device NoScreen calm = absurd (true≢false (sym calm))

module _ (keys rest old : Calls Known) where
  -- what the answer of a session that stands so tells of its keys, and of its screen, which it began with as the old one
  pub record TellsOf (course : Course) (now : Calls Known) : Type 0 where
    pub reads : CountsAs Keys (course_answer course) keys rest
    pub writes : CountsAs Screen (course_answer course) old now
    pub flushed : StaysFlushed Screen (course_answer course) old now
    pub file : course_answer course ≢ Err File

  -- nothing has failed
  pub record IsFine (now : Calls Known) : Type 0 where
    pub read : rest.failures ≡ keys.failures
    pub written : now.failures ≡ old.failures
    pub flushed : old.flushed ≡ true → now.flushed ≡ true

  pub calm_fine : (course : Course) (now : Calls Known) → is_calm course ≡ true → TellsOf course now → IsFine now
  calm_fine course now calm t =
      let no = no_device course calm in
      record { read = t.reads.unfailed no.0; written = t.writes.unfailed no.1; flushed = t.flushed no.1 }

  pub calm_tells : (course : Course) (now : Calls Known) → is_calm course ≡ true → IsFine now → TellsOf course now
  calm_tells course now calm f =
      let no = no_device course calm in
      record {
        reads = record { failed = λ is. absurd (no.0 is); unfailed = λ _. f.read };
        writes = record { failed = λ is. absurd (no.1 is); unfailed = λ _. f.written };
        flushed = λ _. f.flushed;
        file = no.2;
      }

  -- all was written and flushed, or the screen failed
  pub whole_tells : (course : Course) (screen now : Calls Known) → is_calm course ≡ true → IsFine screen → now.failures ≡ screen.failures → now.flushed ≡ true
      → TellsOf course now
  whole_tells course screen now calm f failures flushed =
      calm_tells course now calm (record { read = f.read; written = failures ∙ f.written; flushed = λ _. flushed })

  pub begun_tells : (screen now : Calls Known) → IsFine screen → now.failures ≡ one_more screen.failures → TellsOf NoScreen now
  begun_tells screen now f failed = let more = failed ∙ ap one_more f.written in search rules

  abbrev Tells : Moment → Type 0
  Tells m = TellsOf m.course m.screen

  shown_tells : (a b : Moment) → is_calm a.course ≡ true → IsFine a.screen → Displays a b → Tells b
  shown_tells a b calm f (whole screen written failures flushed same) =
      subst Tells (sym same) (whole_tells a.course a.screen screen calm f failures flushed)
  shown_tells a b calm f (begun front rest screen is written failed same) = subst Tells (sym same) (begun_tells a.screen screen f failed)
  shown_tells a b calm f (unmade new left same) = subst Tells (sym same) (calm_tells NoMemory a.screen refl f)

  step_tells : (asked : Bool) (a b : Moment) → is_calm a.course ≡ true → IsFine a.screen → StepIf asked Displays a b → Tells b
  step_tells asked a b calm f = after_step Tells Displays asked a b (calm_tells a.course a.screen calm f) (λ _. shown_tells a b calm f)

  key_tells : (trace : Bool) (byte : ℕ) (a b : Moment) → IsFine a.screen → ShowsKey trace byte a b → Tells b
  key_tells trace byte a b f (pressed, amid, taken, is_amid, step) =
      step_tells _ pressed b (ap is_calm taken.course ∙ request_calm (request_of taken.answer)) (subst IsFine (sym taken.screen) f) step

  keys_tell : (trace : Bool) (bytes : List ℕ) (a b : Moment) → Tells a → TakesKeys trace bytes a b → Tells b
  keys_tell trace [] a b t same = subst Tells (sym same) t
  keys_tell trace (x ∷ xs) a b t (mid, step, next) =
      let one : is_on a.course ≡ true → ShowsKey trace x a mid → Tells mid =
      λ on. key_tells trace x a mid (calm_fine a.course a.screen (on_calm a.course on) t) in
      keys_tell trace xs mid b (after_step Tells (ShowsKey trace x) (is_on a.course) a mid t one step) next

-- ---- after a whole session

reads_tell : {trace : Bool} {keys rest old : Calls Known} {a b : Moment} → is_calm a.course ≡ true → IsFine keys keys old a.screen → ReadsKeys trace a b keys rest
    → TellsOf keys rest old b.course b.screen
reads_tell {trace} {keys} {rest} {old} {a} {b} calm f (through blocks read least most unfailed end taken) =
    let before : IsFine keys rest old a.screen = record { read = unfailed; written = f.written; flushed = f.flushed } in
    keys_tell keys rest old trace (concat blocks) a b (calm_tells keys rest old a.course a.screen calm before) taken
reads_tell {trace} {keys} {rest} {old} {a} {b} calm f (broken_off blocks read failed ends taken) =
    let before = keys_tell keys keys old trace (concat blocks) a (record b { course = On }) (calm_tells keys keys old a.course a.screen calm f) taken in
    let still = calm_fine keys keys old On b.screen refl before in
    let answer : course_answer b.course ≡ Err Keys = ap course_answer ends in
    search rules

module _ {R : Type 0} (remaining : R → Known) (trace : Bool) (keys rest : Calls R) where
  taken_tells : (go : Bool) (old : Calls Known) (a b : Moment) → is_on a.course ≡ go → TellsOf (seen remaining keys) (seen remaining keys) old a.course a.screen
      → MatchBool go (ReadsKeys trace a b (seen remaining keys) (seen remaining rest)) ((b ≡ a) × (rest ≡ keys))
      → TellsOf (seen remaining keys) (seen remaining rest) old b.course b.screen
  taken_tells true old a b on t reads =
      let calm = on_calm a.course on in
      reads_tell calm (calm_fine (seen remaining keys) (seen remaining keys) old a.course a.screen calm t) reads
  taken_tells false old a b off t (same, unread) = rw (unread, same) t

  pub run_tells : {a b : Moment} → a.course ≡ On → Runs remaining trace a b keys rest → TellsOf (seen remaining keys) (seen remaining rest) a.screen b.course b.screen
  run_tells {a} {b} on ran =
      let k = seen remaining keys in
      let r = seen remaining rest in
      let first = step_tells k k a.screen trace a ran.begun (ap is_calm on) (record { read = refl; written = refl; flushed = λ was. was }) ran.starts in
      let taken = taken_tells (is_on ran.begun.course) a.screen ran.begun ran.ended refl first ran.taken in
      after_step (Tells k r a.screen) Displays (follows_session trace ran.ended.course) ran.ended b taken
      (λ is.
      let calm = ok_calm ran.ended.course (and_parts (not trace) _ is).1 in
      shown_tells k r a.screen ran.ended b calm (calm_fine k r a.screen ran.ended.course ran.ended.screen calm taken))
      ran.finishes

-- ---- a session that may be strict

-- what failed in a buffer is no fault of a device
not_failed : (strict : Bool) (first : Option Failure) (e : SessionFault) → ((why : Failure) → Failed why ≢ e)
    → (if strict then failure_answer first else Ok tt) ≢ Err e
not_failed false first e device = λ is. absurd (true≢false (ap is_ok is))
not_failed true None e device = λ is. absurd (true≢false (ap is_ok is))
not_failed true (Some why) e device = λ is. let same : Err (Failed why) ≡ Err e = is in device why cc

-- so a strict session's answer tells of a device what that of any does
module _ (strict : Bool) (first : Option Failure) (e : SessionFault) (device : (why : Failure) → Failed why ≢ e) where
  strict_from : (r : SessionAnswer) → result_and r (if strict then failure_answer first else Ok tt) ≡ Err e → r ≡ Err e
  strict_from (Ok u) is = absurd (not_failed strict first e device is)
  strict_from (Err fault) is = is

  strict_to : (r : SessionAnswer) → r ≡ Err e → result_and r (if strict then failure_answer first else Ok tt) ≡ Err e
  strict_to (Ok u) is = absurd (true≢false (ap is_ok is))
  strict_to (Err fault) is = is

module _ {R W : Type 0} (remaining : R → Known) (contents : W → Known) (keys rest : Calls R) (old now : Calls W) where
  -- what an answer tells of the devices
  pub record AnswerTells (r : SessionAnswer) : Type 0 where
    pub flushed : StaysFlushed Screen r old now
    pub reads : CountsAs Keys r keys rest
    pub writes : CountsAs Screen r old now
    pub file : r ≢ Err File

  pub strictly : (strict : Bool) (first : Option Failure) (course : Course)
      → TellsOf (seen remaining keys) (seen remaining rest) (seen contents old) course (seen contents now) → AnswerTells (session_answer strict first course)
  strictly strict first course t =
      let r = course_answer course in
      let no_keys : (why : Failure) → Failed why ≢ Keys = λ why is. absurd cc in
      let no_screen : (why : Failure) → Failed why ≢ Screen = λ why is. absurd cc in
      let no_file : (why : Failure) → Failed why ≢ File = λ why is. absurd cc in
      record {
        flushed = λ other. t.flushed (λ is. other (strict_to strict first Screen no_screen r is));
        reads = record {
          failed = λ is. t.reads.failed (strict_from strict first Keys no_keys r is);
          unfailed = λ other. t.reads.unfailed (λ is. other (strict_to strict first Keys no_keys r is));
        };
        writes = record {
          failed = λ is. t.writes.failed (strict_from strict first Screen no_screen r is);
          unfailed = λ other. t.writes.unfailed (λ is. other (strict_to strict first Screen no_screen r is));
        };
        file = λ is. t.file (strict_from strict first File no_file r is);
      }
