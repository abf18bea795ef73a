-- What `job_of` answers.
use Rattle.std.specs.Prelude.{◌≡◌, ◌≢◌, ◌⊎◌, ℕ, List, [], ◌∷◌, codes, Option, Some, None, option_map}
use Rattle.clap.specs.Faults.{fault_of}
use Rattle.clap.specs.Kinds.{IsAmong, Kinds}
use Rattle.clap.specs.Simple.{subcommand_of, subcommand_rows_of}
use Rattle.clap.specs.Walk.{Row}
use Rattle.clap.specs.declared.error.kind.ErrorKind.{ErrorKind}
use Rattle.clap.specs.declared.parser.matches.ArgMatches.{ArgMatches}
use Rattle.clap.specs.declared.error.kind.ErrorKind.TheVariants.{DisplayHelp, DisplayVersion, OutOfMemory}
use Rattle.mgr_args.specs.CommandLine.{Text, Wish, asking, command_line, help, mistake, version, word_of}
use Rattle.mgr_args.specs.Edit.{GivesSettings}
use Rattle.mgr_args.specs.Given.{GivesLogs, GivesMerging, GivesName, GivesNameIf, GivesNote, GivesNoteNameIf, GivesShown}
use Rattle.mgr_args.specs.declared.job.Job.{Job}
use Rattle.mgr_args.specs.declared.job.Job.TheVariants.{Show, Edit, Compact, Join, Log, Who, Claims, Missing, Merge, Mend}
use Rattle.mgr_args.specs.declared.job.JobFault.{JobFault}
use Rattle.mgr_args.specs.declared.job.JobFault.TheVariants.{Help, Version, Usage, Memory}
use Rattle.mgr_args.specs.declared.job.Topic.{Topic}
use Rattle.mgr_args.specs.declared.job.Topic.TheVariants as topic

-- ---- what rows give

-- the job of this topic that they give; none if they give nothing that is allowed
abbrev pub GivesJob : Topic → List Row → Option Job → Type 0
GivesJob topic.Show rows None = GivesShown rows None
GivesJob topic.Show rows (Some (Show shown)) = GivesShown rows (Some shown)
GivesJob topic.Edit rows None = GivesSettings rows None
GivesJob topic.Edit rows (Some (Edit settings)) = GivesSettings rows (Some settings)
GivesJob topic.Compact rows None = GivesNote (codes "dels") rows None
GivesJob topic.Compact rows (Some (Compact note)) = GivesNote (codes "dels") rows (Some note)
GivesJob topic.Join rows (Some (Join logs)) = GivesLogs rows logs.items
GivesJob topic.Log rows None = GivesNote (codes "json") rows None
GivesJob topic.Log rows (Some (Log note)) = GivesNote (codes "json") rows (Some note)
GivesJob topic.Who rows None = GivesNote (codes "lines") rows None
GivesJob topic.Who rows (Some (Who note)) = GivesNote (codes "lines") rows (Some note)
GivesJob topic.Claims rows None = GivesNameIf rows None
GivesJob topic.Claims rows (Some (Claims name)) = GivesName rows name
GivesJob topic.Missing rows None = GivesNoteNameIf rows None
GivesJob topic.Missing rows (Some (Missing name)) = GivesNoteNameIf rows (Some name)
GivesJob topic.Merge rows None = GivesMerging rows None
GivesJob topic.Merge rows (Some (Merge merging)) = GivesMerging rows (Some merging)
GivesJob topic.Mend rows None = GivesNameIf rows None
GivesJob topic.Mend rows (Some (Mend name)) = GivesName rows name
GivesJob topic.Program rows None = Unit {0}
GivesJob on rows _ = ⊥

-- ---- behind the word of a job, in clap's words

-- what clap may find wrong with these words behind that one
abbrev pub kinds_behind : Text → List Text → Kinds
kinds_behind job words = fault_of command_line (codes "mgr" ∷ job ∷ words)

-- what it finds there
abbrev pub rows_behind_job : Text → List Text → Option (List Row)
rows_behind_job job words = option_map (λ p. p.1) (subcommand_of command_line (codes "mgr" ∷ job ∷ words))

-- what was found gives this job of that topic, or nothing that is allowed
abbrev pub FoundGives : Topic → Option (List Row) → Option Job → Type 0
FoundGives on None None = Unit {0}
FoundGives on None (Some job) = ⊥
FoundGives on (Some rows) answer = GivesJob on rows answer

-- clap finds nothing wrong with these words, and what it finds gives this job, or nothing that is allowed
abbrev pub Finds : Topic → List Text → Option Job → Type 0
Finds on words answer = (kinds_behind (word_of on) words ≡ []) × FoundGives on (rows_behind_job (word_of on) words) answer

-- a kind of error that is no answer to a question for help or the version
abbrev pub HasMistake : Kinds → Type 0
HasMistake kinds = (k : ErrorKind) × (k ≢ DisplayHelp) × (k ≢ DisplayVersion) × IsAmong k kinds

-- ---- the job, or why there is none

-- the job that is wished for
abbrev pub IsJobOf : Wish → Job → Type 0
IsJobOf (asking on words) job = Finds on words (Some job)
IsJobOf wish job = ⊥

-- why clap gives none: one of these kinds, or it finds nothing that is allowed
abbrev pub IsFaultBehind : Topic → Kinds → Type 0 → JobFault → Type 0
IsFaultBehind topic kinds Nothing (Help on text) = (on ≡ topic) × IsAmong DisplayHelp kinds
IsFaultBehind topic kinds Nothing (Version text) = IsAmong DisplayVersion kinds
IsFaultBehind topic kinds Nothing (Usage text) = HasMistake kinds ⊎ Nothing
IsFaultBehind topic kinds Nothing (Memory _) = Unit {0}

-- why such a wish gives no job; any may fail for memory
abbrev pub IsFaultOf : Wish → JobFault → Type 0
IsFaultOf (asking on words) fault = IsFaultBehind on (kinds_behind (word_of on) words) (Finds on words None) fault
IsFaultOf wish (Help on text) = (wish ≡ help) × (on ≡ topic.Program)
IsFaultOf wish (Version text) = wish ≡ version
IsFaultOf wish (Usage text) = wish ≡ mistake
IsFaultOf wish (Memory _) = Unit {0}

-- ---- of what clap found

-- the rows behind the job's word
abbrev pub rows_behind : ArgMatches → Option (List Row)
rows_behind matches = option_map (λ p. p.1) (subcommand_rows_of matches)

abbrev pub IsNotChosen : Topic → Option (List Row) → JobFault → Type 0
IsNotChosen on found (Usage text) = FoundGives on found None
IsNotChosen on found (Memory _) = Unit {0}
IsNotChosen on found fault = ⊥

-- what clap's kind of error is to the program, where help is on that topic
abbrev pub IsFaultOfKind : Topic → ErrorKind → JobFault → Type 0
IsFaultOfKind topic kind (Help on text) = (kind ≡ DisplayHelp) × (on ≡ topic)
IsFaultOfKind topic kind (Version text) = kind ≡ DisplayVersion
IsFaultOfKind topic kind (Usage text) =
    (kind ≢ DisplayHelp) × (kind ≢ DisplayVersion) × (kind ≢ OutOfMemory)
IsFaultOfKind topic kind (Memory _) = kind ≡ OutOfMemory

-- the exit status
abbrev pub job_status_of : JobFault → ℕ
job_status_of (Help topic text) = 0
job_status_of (Version text) = 0
job_status_of (Usage text) = 2
job_status_of (Memory _) = 4
