-- The exit status of the program.
use Rattle.std.specs.Prelude.{◌≡◌, ◌≢◌, ◌⊎◌, ℕ, Bool, true, List, [], ◌∷◌, Option, None, Some, Result, Err, IfSome, codes, length, map, OnOk, OnErr, IfOk, IfErr, string_bytes}
use Rattle.std.specs.Bool.{MatchBool}
use Rattle.std.specs.Io.KnownBytes.{Appends}
use Rattle.rga_ops.specs.Content.{Content, nothing as no_content}
use Rattle.rga_store.specs.declared.text_store.TheConstants.{MAX_LIMIT}
use Rattle.rga_exchange.specs.Counting.{Calls, CountsAs, StaysFlushed, OnBytes, Writes, WritesFront, WritesNothing, one_more}
use Rattle.rga_exchange.specs.Taking.{content_intake, HasTakenWholeLines}
use Rattle.rga_exchange.specs.declared.taking.Form.TheVariants.{Log}
use Rattle.mgr_args.specs.declared.job.JobFault.{JobFault}
use Rattle.mgr_args.specs.declared.job.JobFault.TheVariants.{Help, Version, Usage, Memory}
use Rattle.mgr_show.specs.Log.{log_of}
use Rattle.mgr.specs.Printed.{count_line, left_out_text}
use Rattle.mgr.specs.Report.{answer_status, join_message, join_status, merge_status, missing_message, missing_status, session_message, session_status, show_message, show_status, source_message}
use Rattle.mgr.specs.Telling.{KnownTelling, TellsMore, answer_telling, line, merge_telling, text, torn_telling}
use Rattle.mg_session.specs.declared.fault.SessionFault.{SessionFault}
use Rattle.mg_session.specs.declared.fault.SessionFault.TheVariants as session
use Rattle.mg_files.specs.Calls.{Call}
use Rattle.mg_session.specs.Running.{Devices, devices, IsSession}
use Rattle.mg_live.specs.Running.{IsLiveSession}
use Rattle.mg_screen.specs.Settings.{Values}
use Rattle.mgr_args.specs.declared.given.Note.{Note}
use Rattle.mgr_args.specs.declared.given.Shown.TheVariants.{Input, Front}
use Rattle.mgr_args.specs.declared.job.Job.{Job}
use Rattle.mgr_args.specs.declared.job.Job.TheVariants.{Show, Edit, Compact, Join, Log, Who, Claims, Missing, Merge, Mend}
use Rattle.mgr_port.specs.Logs.{Standing, SameElsewhere, StaysSame, left}
use Rattle.mgr_mend.specs.CompactionEnds.{EndsWell, EndsEarly, failures_after_compaction}
use Rattle.mgr_show.specs.Shown.{IsOfInput, ShowsLog, BeginsToShow, log_content, shown_bytes}
use Rattle.mgr_show.specs.Claims.{BeginsToTell, TellsClaims}
use Rattle.mgr_show.specs.Missing.{BeginsMissing, IsOfClaims, IsOfLog as IsOfSource, OnBoth, WritesMissing, claims_heard, log_held, reads_failed as missing_reads_failed}
use Rattle.mgr_show.specs.declared.fault.MissingFault.{MissingFault}
use Rattle.mgr_show.specs.declared.fault.MissingFault.TheVariants as missing
use Rattle.mgr_show.specs.Memory.{MissingMemory}
use Rattle.mgr_mend.specs.Ends.{MendsInPart, mended_standing}
use Rattle.mgr_mend.specs.Fitting.{all_left_out, all_refused, fitted}
use Rattle.mgr_mend.specs.declared.mended.LeftOut.{LeftOut}
use Rattle.mgr_mend.specs.Merging.{BeginsToPut, BeginsToWrite, FindsNoNote, IfStays, IsOfLogs, IsOfNote, LeavesText, Merges, OnlyLoads, PutsNote, RefusesLogs, calls_failed, reads_failed as merge_reads_failed}
use Rattle.mgr_mend.specs.declared.merged.Merged.{Merged}
use Rattle.mgr_mend.specs.declared.fault.MergeFault.{MergeFault}
use Rattle.mgr_mend.specs.declared.fault.MergeFault.TheVariants as merge
use Rattle.mgr_mend.specs.Memory.{MergeMemory}
use Rattle.mgr_show.specs.Authors.{authors_bytes}
use Rattle.mgr_show.specs.About.{BeginsToWriteAbout, WritesAbout, read_of}
use Rattle.mgr_show.specs.Numbers.{FailedReads}
use Rattle.mgr_show.specs.Told.{BeginsToWriteNumbers, LooksAtText, WritesNumbers}
use Rattle.mgr_show.specs.Joined.{BeginsToJoin, IsOfLog, Joins, NamesOneOf, OnLogs, join_of, reads_failed}
use Rattle.mgr_show.specs.Note.{IsReadable, front_of, log_name, log_source, note_of}
use Rattle.mgr_show.specs.Sources.{failures_after}
use Rattle.mgr_show.specs.declared.fault.JoinFault.{JoinFault}
use Rattle.mgr_show.specs.declared.fault.JoinFault.TheVariants as join
use Rattle.mgr_show.specs.Memory.{JoinMemory}
use Rattle.mgr_show.specs.declared.fault.ShowFault.{ShowFault}
use Rattle.mgr_show.specs.declared.fault.ShowFault.TheVariants as fault
use Rattle.mgr_show.specs.Memory.{ShowMemory}

-- ---- what a job has to do with

-- the port, the files that are read by their names, standard output, and what was told on standard error
pub record MergeSide (P S W : Type 0) : Type 0 where
  pub port : P
  pub sources : S
  pub output : Calls W
  pub told : KnownTelling

-- the port, standard output, and what was told on standard error
pub record MendSide (P W : Type 0) : Type 0 where
  pub port : P
  pub output : Calls W
  pub told : KnownTelling

-- standard input and output, the port, the files that are read by their names, and what was told on standard error
pub record Outside (R W P S : Type 0) : Type 0 where
  pub input : Calls R
  pub output : Calls W
  pub port : P
  pub sources : S
  pub told : KnownTelling

abbrev pub merge_side : {P S W : Type 0} → P → S → Calls W → KnownTelling → MergeSide P S W
merge_side port sources output told = record { port = port; sources = sources; output = output; told = told }

abbrev pub mend_side : {P W : Type 0} → P → Calls W → KnownTelling → MendSide P W
mend_side port output told = record { port = port; output = output; told = told }

abbrev pub outside : {R W P S : Type 0} → Calls R → Calls W → P → S → KnownTelling → Outside R W P S
outside input output port sources told = record { input = input; output = output; port = port; sources = sources; told = told }

-- the bytes that are known of the input and the output, and what the port tells
pub record Knowledge (R W P : Type 0) : Type 0 where
  pub remaining : R → Option (List ℕ)
  pub contents : W → Option (List ℕ)
  pub calls : P → Option (List Call)
  pub failures : P → ℕ
  pub standing : P → List ℕ → Option Standing
  pub refused : P → List ℕ → Option (List ℕ)
  pub log_failures : P → ℕ

abbrev pub known : {R W P : Type 0} → (R → Option (List ℕ)) → (W → Option (List ℕ)) → (P → Option (List Call)) → (P → ℕ) → (P → List ℕ → Option Standing) → (P → List ℕ → Option (List ℕ)) → (P → ℕ) → Knowledge R W P
known remaining contents calls failures standing refused log_failures =
    record { remaining = remaining; contents = contents; calls = calls; failures = failures; standing = standing; refused = refused; log_failures = log_failures }

-- ---- what is printed

module _ {W : Type 0} (contents : W → Option (List ℕ)) where
  -- A text was printed, all of it where it is known, or not: 3 exactly where standard output failed, and else 0, or 4
  -- where memory is wanting, and then nothing was written.
  pub record IsStatusOfPrint (printed : Option (List ℕ)) (status : ℕ) (old new : Calls W) (told telling : KnownTelling) : Type 0 where
    pub written : status ≡ 0 → IfSome printed (λ text. Writes contents old new text)
    pub failed : status ≡ 3 → new.failures ≡ one_more old.failures
    pub unfailed : status ≢ 3 → new.failures ≡ old.failures
    pub others : (status ≡ 0) ⊎ (status ≡ 3) ⊎ (status ≡ 4)
    pub unwritten : status ≡ 4 → new ≡ old
    pub flushed : status ≡ 0 → new.flushed ≡ true
    pub untold : status ≡ 0 → TellsMore told telling []
    pub device : status ≡ 3 → TellsMore told telling (line (codes "device fault") ∷ [])
    pub memory : status ≡ 4 → TellsMore told telling (line (codes "out of memory") ∷ [])

-- ---- the status of a job

-- That of an answer to `show`, which says what was read, what was written and what is told.
pub record IsStatusOfShow {R W P S : Type 0} (remaining : R → Option (List ℕ)) (contents : W → Option (List ℕ)) (status : ℕ) (before after : Outside R W P S) : Type 0 where
  pub answer : Result (Unit {0}) ShowFault
  pub exact : status ≡ answer_status show_status answer
  pub told_line : TellsMore before.told after.told (answer_telling show_message answer)
  pub shown : OnOk answer (OnBytes remaining before.input (ShowsLog contents before.output after.output))
  pub refused : IfErr answer (λ e. IsOfInput e → OnBytes remaining before.input (λ bytes. log_of MAX_LIMIT bytes ≡ Err e))
  pub nothing : IfErr answer (λ e. e ≢ fault.Write → e ≢ ShowMemory → WritesNothing contents before.output after.output)
  pub unwritten : IfErr answer (λ e. e ≢ fault.Write → after.output ≡ before.output)
  pub flushed : OnOk answer (after.output.flushed ≡ true)
  pub begun : OnErr answer (OnBytes remaining before.input (λ bytes. WritesNothing contents before.output after.output ⊎ BeginsToShow contents before.output after.output bytes))
  pub whole_lines : answer ≡ Err fault.Read → (c : Content) × HasTakenWholeLines Log remaining before.input after.input (content_intake MAX_LIMIT no_content c)
  pub reads : CountsAs fault.Read answer before.input after.input
  pub writes : CountsAs fault.Write answer before.output after.output

-- That of an answer to `compact`, which says what became of the log of its name, where that is told, and what is told.
pub record IsStatusOfCompact {P : Type 0} (standing : P → List ℕ → Option Standing) (failures : P → ℕ) (c : Note) (status : ℕ) (before after : P) (told telling : KnownTelling) : Type 0 where
  pub answer : Result (Unit {0}) ShowFault
  pub exact : status ≡ answer_status show_status answer
  pub told_line : TellsMore told telling (answer_telling show_message answer)
  pub keeps : OnOk answer (IfSome (standing before (string_bytes c.name)) (λ s. EndsWell c.flag s (standing after (string_bytes c.name))))
  pub refused : IfErr answer (λ e. IsOfInput e → IfSome (standing before (string_bytes c.name)) (λ s. (log_of MAX_LIMIT s.log ≡ Err e) × (standing after (string_bytes c.name) ≡ Some (left s))))
  pub begun : OnErr answer (IfSome (standing before (string_bytes c.name)) (λ s. EndsEarly c.flag s (standing after (string_bytes c.name))))
  pub untouched : IfErr answer (λ e. e ≢ fault.Write → e ≢ ShowMemory → IfSome (standing before (string_bytes c.name)) (λ s. StaysSame s (standing after (string_bytes c.name))))
  pub others : SameElsewhere (string_bytes c.name) (standing before) (standing after)
  pub device : failures after ≡ failures_after_compaction answer (failures before)

module _ {R W P S : Type 0} (files : S → List ℕ → Option (List ℕ)) (contents : W → Option (List ℕ)) (failures : S → ℕ) where
  -- That of an answer to a job that reads the log with this name and writes what it makes of it, which says what was written,
  -- where what stands in the log is told, why nothing was, and what is told.
  pub record IsStatusOfLog (log : List ℕ) (Written Begun : List ℕ → Type 0) (Refused : List ℕ → ShowFault → Type 0) (status : ℕ) (before after : Outside R W P S) : Type 0 where
    pub answer : Result (Unit {0}) ShowFault
    pub exact : status ≡ answer_status show_status answer
    pub told_line : TellsMore before.told after.told (answer_telling (source_message log) answer)
    pub written : OnOk answer (IfSome (files before.sources log) Written)
    pub refused : IfErr answer (λ e. IsOfInput e → IfSome (files before.sources log) (λ bytes. Refused bytes e))
    pub unwritten : IfErr answer (λ e. e ≢ fault.Write → after.output ≡ before.output)
    pub begun : OnErr answer (IfSome (files before.sources log) (λ bytes. WritesNothing contents before.output after.output ⊎ Begun bytes))
    pub flushed : OnOk answer (after.output.flushed ≡ true)
    pub reads : failures after.sources ≡ failures_after answer (failures before.sources)
    pub writes : CountsAs fault.Write answer before.output after.output

  -- of `show` with a name: the text of the log, or of its first lines
  abbrev pub IsStatusOfFront : List ℕ → Option ℕ → ℕ → Outside R W P S → Outside R W P S → Type 0
  IsStatusOfFront name lines status before after =
      IsStatusOfLog (log_name name)
      (λ bytes. IsReadable (front_of lines bytes) × Writes contents before.output after.output (shown_bytes (log_content (front_of lines bytes))))
      (λ bytes. IsReadable (front_of lines bytes) × WritesFront contents before.output after.output (shown_bytes (log_content (front_of lines bytes))))
      (λ bytes e. note_of MAX_LIMIT (front_of lines bytes) ≡ Err e) status before after

  -- of `who`: the text of the log by those who wrote it
  abbrev pub IsStatusOfWho : Note → ℕ → Outside R W P S → Outside R W P S → Type 0
  IsStatusOfWho n status before after =
      IsStatusOfLog (log_name (string_bytes n.name))
      (λ bytes. WritesAbout contents before.output after.output bytes (authors_bytes n.flag (log_content bytes)))
      (λ bytes. BeginsToWriteAbout contents before.output after.output bytes (authors_bytes n.flag (log_content bytes)))
      (λ bytes e. read_of bytes ≡ Err e) status before after

  -- of `claims`: the claims of what the log holds
  abbrev pub IsStatusOfClaims : List ℕ → ℕ → Outside R W P S → Outside R W P S → Type 0
  IsStatusOfClaims name status before after =
      IsStatusOfLog (log_source name)
      (λ bytes. TellsClaims contents before.output after.output bytes)
      (λ bytes. BeginsToTell contents before.output after.output bytes)
      (λ bytes e. note_of MAX_LIMIT bytes ≡ Err e) status before after

  -- That of an answer to `missing`, which says what was written of what the claims on standard input lack, whether they or
  -- the log are refused, and what is told.
  pub record IsStatusOfMissing (name : List ℕ) (status : ℕ) (before after : Outside R W P S) : Type 0 where
    pub answer : Result ℕ MissingFault
    pub exact : status ≡ answer_status missing_status answer
    pub told_line : TellsMore before.told after.told (answer_telling (missing_message (log_source name)) answer)
    pub written : IfOk answer (λ number. OnBoth (files before.sources (codes "-")) (files before.sources (log_source name))
        (λ claims log. WritesMissing contents before.output after.output claims log number))
    pub claims : IfErr answer (λ e. IsOfClaims e → IfSome (files before.sources (codes "-")) (λ bytes. claims_heard bytes ≡ Err e))
    pub log : IfErr answer (λ e. IsOfSource e → IfSome (files before.sources (log_source name)) (λ bytes. log_held bytes ≡ Err e))
    pub unwritten : IfErr answer (λ e. e ≢ missing.Write → e ≢ MissingMemory → after.output ≡ before.output)
    pub nothing : IfErr answer (λ e. e ≢ missing.Write → WritesNothing contents before.output after.output)
    pub begun : OnErr answer (OnBoth (files before.sources (codes "-")) (files before.sources (log_source name))
        (λ claims log. WritesNothing contents before.output after.output ⊎ BeginsMissing contents before.output after.output claims log))
    pub flushed : OnOk answer (after.output.flushed ≡ true)
    pub reads : failures after.sources ≡ missing_reads_failed answer (failures before.sources)
    pub writes : CountsAs missing.Write answer before.output after.output

  -- That of an answer to `log`, which says what was written of what stands in the log and in the text.
  pub record IsStatusOfNumbers (n : Note) (status : ℕ) (before after : Outside R W P S) : Type 0 where
    pub answer : Result (Unit {0}) ShowFault
    pub exact : status ≡ answer_status show_status answer
    pub told_line : TellsMore before.told after.told (answer_telling (source_message (log_name (string_bytes n.name))) answer)
    pub written : OnOk answer (WritesNumbers contents before.output after.output n.flag (string_bytes n.name) (files before.sources (log_name (string_bytes n.name))) (files before.sources (string_bytes n.name)))
    pub refused : IfErr answer (λ e. IsOfInput e → IfSome (files before.sources (log_name (string_bytes n.name))) (λ bytes. read_of bytes ≡ Err e))
    pub unwritten : IfErr answer (λ e. e ≢ fault.Write → after.output ≡ before.output)
    pub begun : OnErr answer (WritesNothing contents before.output after.output
        ⊎ BeginsToWriteNumbers contents before.output after.output n.flag (string_bytes n.name) (files before.sources (log_name (string_bytes n.name))) (files before.sources (string_bytes n.name)))
    pub flushed : OnOk answer (after.output.flushed ≡ true)
    pub looked : OnOk answer (LooksAtText contents before.output after.output n.flag (string_bytes n.name) (failures before.sources) (failures after.sources))
    pub reads : IfErr answer (λ e. FailedReads e (failures before.sources) (failures after.sources))
    pub writes : CountsAs fault.Write answer before.output after.output

  -- That of an answer to `join`, which says what was written of the logs, which of them is refused, and what is told.
  pub record IsStatusOfJoin (names : List (List ℕ)) (status : ℕ) (before after : Outside R W P S) : Type 0 where
    pub answer : Result (Unit {0}) JoinFault
    pub exact : status ≡ answer_status join_status answer
    pub told_line : TellsMore before.told after.told (answer_telling (join_message names) answer)
    pub joined : OnOk answer (OnLogs (files before.sources) names (λ logs. Joins contents before.output after.output logs))
    pub refused : IfErr answer (λ e. IsOfLog e → OnLogs (files before.sources) names (λ logs. join_of MAX_LIMIT logs ≡ Err e))
    pub named : IfErr answer (λ e. NamesOneOf (length names) e)
    pub unwritten : IfErr answer (λ e. e ≢ join.Write → e ≢ JoinMemory → after.output ≡ before.output)
    pub begun : OnErr answer (OnLogs (files before.sources) names (λ logs. WritesNothing contents before.output after.output ⊎ BeginsToJoin contents before.output after.output logs))
    pub flushed : OnOk answer (after.output.flushed ≡ true)
    pub reads : failures after.sources ≡ reads_failed answer (failures before.sources)
    pub writes : CountsAs join.Write answer before.output after.output

module _ {P S W : Type 0} (calls : P → Option (List Call)) (port_failures : P → ℕ) (files : S → List ℕ → Option (List ℕ)) (failures : S → ℕ) (contents : W → Option (List ℕ)) where
  -- That of an answer to `merge`, which says what became of the note, why the logs are refused, and what is told. Once the merge
  -- is done, each log is told of which a last line was left out; then the count of new operations is printed, whose status it is.
  pub record IsStatusOfMerge (name : List ℕ) (logs : List (List ℕ)) (adopt : Bool) (status : ℕ) (before after : MergeSide P S W) : Type 0 where
    pub answer : Result Merged MergeFault
    pub merged : IfOk answer (λ m. OnLogs (files before.sources) logs (λ logs. Merges (calls before.port) (calls after.port) name adopt logs m.new m.torn.items))
    pub between : KnownTelling
    pub torn : IfOk answer (λ m. TellsMore before.told between (torn_telling logs m.torn.items))
    pub counted : IfOk answer (λ m. IsStatusOfPrint contents (Some (count_line m.new)) status before.output after.output between after.told)
    pub exact : IfErr answer (λ e. status ≡ merge_status e)
    pub told_line : IfErr answer (λ e. TellsMore before.told after.told (merge_telling name logs e))
    pub unwritten : OnErr answer (after.output ≡ before.output)
    pub note : IfErr answer (λ e. IsOfNote e → FindsNoNote (calls before.port) (calls after.port) name e)
    pub refused : IfErr answer (λ e. IsOfLogs e → OnLogs (files before.sources) logs (λ logs. RefusesLogs (calls before.port) (calls after.port) name adopt logs e))
    pub stays : IfErr answer (λ e. IfStays e (λ torn. OnLogs (files before.sources) logs (λ logs. LeavesText (calls before.port) (calls after.port) name adopt logs torn)))
    pub unchanged : IfErr answer (λ e. e ≢ merge.File → e ≢ MergeMemory → OnlyLoads (calls before.port) (calls after.port) name)
    pub begun : OnErr answer (OnlyLoads (calls before.port) (calls after.port) name
        ⊎ OnLogs (files before.sources) logs (λ logs. BeginsToWrite (calls before.port) (calls after.port) name adopt logs))
    pub device : port_failures after.port ≡ calls_failed answer (port_failures before.port)
    pub reads : failures after.sources ≡ merge_reads_failed answer (failures before.sources)

module _ {P W : Type 0} (calls : P → Option (List Call)) (failures : P → ℕ) (contents : W → Option (List ℕ)) where
  -- That of what follows once the log of a note was mended, of which so much was left out: its text is put, what was left out is
  -- printed, and then it is told why the text was not put. The status is that of the print, or of that fault.
  pub record IsStatusOfPut (name : List ℕ) (left : LeftOut) (status : ℕ) (before after : MendSide P W) : Type 0 where
    pub answer : Result (Unit {0}) MergeFault
    pub put : OnOk answer (PutsNote (calls before.port) (calls after.port) name)
    pub note : IfErr answer (λ e. IsOfNote e → FindsNoNote (calls before.port) (calls after.port) name e)
    pub begun : OnErr answer (OnlyLoads (calls before.port) (calls after.port) name ⊎ BeginsToPut (calls before.port) (calls after.port) name)
    pub device : failures after.port ≡ calls_failed answer (failures before.port)
    pub print_status : ℕ
    pub between : KnownTelling
    pub printed : IsStatusOfPrint contents (Some (left_out_text left)) print_status before.output after.output before.told between
    pub done : OnOk answer ((status ≡ print_status) × (after.told ≡ between))
    pub exact : IfErr answer (λ e. status ≡ merge_status e)
    pub told_line : IfErr answer (λ e. TellsMore between after.told (merge_telling name [] e))

module _ {P W : Type 0} (calls : P → Option (List Call)) (standing : P → List ℕ → Option Standing) (refused : P → List ℕ → Option (List ℕ)) (failures log_failures : P → ℕ) (contents : W → Option (List ℕ)) where
  -- That of an answer to `mend`, which says what became of the log of its name and of what was refused of it, where these are
  -- told, what is told, and what follows.
  pub record IsStatusOfMend (name : List ℕ) (status : ℕ) (before after : MendSide P W) : Type 0 where
    pub answer : Result LeftOut ShowFault
    pub between : P
    pub left_out : IfOk answer (λ left. IfSome (standing before.port name) (λ s. left ≡ all_left_out s.log))
    pub keeps : OnOk answer (IfSome (standing before.port name) (λ s. standing between name ≡ Some (mended_standing (all_refused s.log) s)))
    pub gained : OnOk answer (IfSome (standing before.port name) (λ s. Appends (refused before.port name) (refused between name) (all_refused s.log)))
    pub follows : IfOk answer (λ left. IsStatusOfPut calls failures contents name left status (mend_side between before.output before.told) after)
    pub exact : IfErr answer (λ e. status ≡ show_status e)
    pub told_line : IfErr answer (λ e. TellsMore before.told after.told (line (source_message (log_name name) e) ∷ []))
    pub unwritten : OnErr answer ((after.output ≡ before.output) × (after.port ≡ between))
    pub begun : OnErr answer (IfSome (standing before.port name)
        (λ s. MendsInPart (fitted s.log) (all_refused s.log) s (standing between name) (refused before.port name) (refused between name)))
    pub untouched : IfErr answer (λ e. e ≡ fault.Read → (standing between name ≡ standing before.port name) × (refused between ≡ refused before.port))
    pub others : SameElsewhere name (standing before.port) (standing between) × SameElsewhere name (refused before.port) (refused between)
    pub device : log_failures between ≡ failures_after_compaction answer (log_failures before.port)

-- a live session, or one of keys, as the settings say; how many calls of the port had failed before and after it
abbrev pub IsEdited : {R W : Type 0} → (R → Option (List ℕ)) → (W → Option (List ℕ)) → Values → Result (Unit {0}) SessionFault → ℕ → ℕ → Devices R W → Devices R W → Type 0
IsEdited remaining contents settings answer failed faults before after =
    MatchBool settings.live (IsLiveSession remaining contents settings answer failed faults before after) (IsSession remaining contents settings answer before after)

-- That of an answer of a session, which says what became of the keys, which device failed and what is told.
pub record IsStatusOfEdit {R W P S : Type 0} (k : Knowledge R W P) (settings : Values) (status : ℕ) (before after : Outside R W P S) : Type 0 where
  pub answer : Result (Unit {0}) SessionFault
  pub exact : status ≡ answer_status session_status answer
  pub told_line : TellsMore before.told after.told (answer_telling session_message answer)
  pub ran : IsEdited k.remaining k.contents settings answer (k.failures before.port) (k.failures after.port)
      (devices before.input before.output (k.calls before.port)) (devices after.input after.output (k.calls after.port))
  pub flushed : StaysFlushed session.Screen answer before.output after.output
  pub keys : CountsAs session.Keys answer before.input after.input
  pub screen : CountsAs session.Screen answer before.output after.output
  pub file : answer ≡ Err session.File → k.failures after.port ≡ one_more (k.failures before.port)

module _ {R W P S : Type 0} (k : Knowledge R W P) (files : S → List ℕ → Option (List ℕ)) (failures : S → ℕ) where
  -- standard input and the port are as they were
  abbrev pub OnlyReads : Outside R W P S → Outside R W P S → Type 0
  OnlyReads before after = (after.input ≡ before.input) × (after.port ≡ before.port)

  -- the port, the files, standard output and what was told
  abbrev pub port_sides : Outside R W P S → MergeSide P S W
  port_sides o = merge_side o.port o.sources o.output o.told

  -- of a job: each has to do with some of them alone
  abbrev pub IsStatusOfJob : Job → ℕ → Outside R W P S → Outside R W P S → Type 0
  IsStatusOfJob (Show Input) status before after =
      IsStatusOfShow k.remaining k.contents status before after × (after.port ≡ before.port) × (after.sources ≡ before.sources)
  IsStatusOfJob (Show (Front name lines)) status before after =
      IsStatusOfFront files k.contents failures (string_bytes name) lines status before after × OnlyReads before after
  IsStatusOfJob (Edit settings) status before after =
      IsStatusOfEdit k settings status before after × (after.sources ≡ before.sources)
  IsStatusOfJob (Compact c) status before after =
      IsStatusOfCompact k.standing k.log_failures c status before.port after.port before.told after.told × (after.input ≡ before.input)
      × (after.output ≡ before.output) × (after.sources ≡ before.sources)
  IsStatusOfJob (Join names) status before after =
      IsStatusOfJoin files k.contents failures (map string_bytes names.items) status before after × OnlyReads before after
  IsStatusOfJob (Log n) status before after = IsStatusOfNumbers files k.contents failures n status before after × OnlyReads before after
  IsStatusOfJob (Claims name) status before after =
      IsStatusOfClaims files k.contents failures (string_bytes name) status before after × OnlyReads before after
  IsStatusOfJob (Missing name) status before after =
      IsStatusOfMissing files k.contents failures (string_bytes name) status before after × OnlyReads before after
  IsStatusOfJob (Merge m) status before after =
      IsStatusOfMerge k.calls k.failures files failures k.contents (string_bytes m.name) (map string_bytes m.logs.items) m.adopt status (port_sides before) (port_sides after)
      × (after.input ≡ before.input)
  IsStatusOfJob (Mend name) status before after =
      IsStatusOfMend k.calls k.standing k.refused k.failures k.log_failures k.contents (string_bytes name) status (mend_side before.port before.output before.told) (mend_side after.port after.output after.told)
      × (after.input ≡ before.input) × (after.sources ≡ before.sources)
  IsStatusOfJob (Who n) status before after = IsStatusOfWho files k.contents failures n status before after × OnlyReads before after

module _ {W : Type 0} (contents : W → Option (List ℕ)) where
  -- the exit status once the fault was told
  abbrev pub IsStatusOf : JobFault → ℕ → Calls W → Calls W → KnownTelling → KnownTelling → Type 0
  IsStatusOf (Help topic help) status old new told telling = IsStatusOfPrint contents None status old new told telling
  IsStatusOf (Version version) status old new told telling = IsStatusOfPrint contents None status old new told telling
  IsStatusOf (Usage mistake) status old new told telling = (status ≡ 2) × (new ≡ old) × TellsMore told telling (text (Usage mistake) ∷ [])
  IsStatusOf (Memory _) status old new told telling = (status ≡ 4) × (new ≡ old) × TellsMore told telling (line (codes "out of memory") ∷ [])
