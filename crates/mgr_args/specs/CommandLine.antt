-- What a command line asks for.
use Rattle.std.specs.Prelude.{◌||◌, ℕ, Bool, true, List, [], ◌∷◌, ◌++◌, codes, drop, nat_eq, if◌then◌else◌}
use Rattle.std.specs.List.{starts_with}
use Rattle.std.specs.Str.{bytes_eq}
use Rattle.clap.specs.Simple.{App, Shape, new_app, on_top}
use Rattle.mgr_args.specs.Edit.{edit_app}
use Rattle.mgr_args.specs.Rules.{join_app, merge_app, name_app, note_app, show_app, with_jobs}
use Rattle.mgr_args.specs.declared.job.Topic.{Topic}
use Rattle.mgr_args.specs.declared.job.Topic.TheVariants as topic

abbrev pub Text : Type 0
Text = List ℕ

-- a job, by these words after the one that names it, which clap reads; help on the program, the version, or nothing
-- that the program has
pub data Wish : Type 0 where
  asking : Topic → List Text → Wish
  help : Wish
  version : Wish
  mistake : Wish

-- `--help`, or `-h` with anything behind it in the same word
abbrev pub is_help_flag : Text → Bool
is_help_flag word = bytes_eq word (codes "--help") || starts_with nat_eq word (codes "-h")

-- `--version`, or `-V` with anything behind it in the same word
abbrev pub is_version_flag : Text → Bool
is_version_flag word = bytes_eq word (codes "--version") || starts_with nat_eq word (codes "-V")

-- the word of a job
abbrev pub word_of : Topic → Text
word_of topic.Program = []
word_of topic.Show = codes "show"
word_of topic.Edit = codes "edit"
word_of topic.Compact = codes "compact"
word_of topic.Join = codes "join"
word_of topic.Log = codes "log"
word_of topic.Who = codes "who"
word_of topic.Claims = codes "claims"
word_of topic.Missing = codes "missing"
word_of topic.Merge = codes "merge"
word_of topic.Mend = codes "mend"

abbrev pub job_topics : List Topic
job_topics =
    topic.Show ∷ topic.Edit ∷ topic.Compact ∷ topic.Join ∷ topic.Log ∷ topic.Who ∷ topic.Claims ∷ topic.Missing
    ∷ topic.Merge ∷ topic.Mend ∷ []

-- the first of these topics whose word it is, or the program
abbrev pub topic_among : List Topic → Text → Topic
topic_among [] word = topic.Program
topic_among (on ∷ more) word = if bytes_eq word (word_of on) then on else topic_among more word

-- the job of a word, or the program
abbrev pub topic_of_word : Text → Topic
topic_of_word word = topic_among job_topics word

-- what a word and those behind it ask for, if the first is of that topic
abbrev pub wish_on : Topic → Text → List Text → Wish
wish_on topic.Program word rest =
    if is_help_flag word then help else if is_version_flag word then version else mistake
wish_on on word rest = asking on rest

-- the words behind the program's name
abbrev pub arguments_wish : List Text → Wish
arguments_wish [] = mistake
arguments_wish (word ∷ rest) = wish_on (topic_of_word word) word rest

-- `help` in front is `--help` behind: `help show` is `show --help`
abbrev pub with_help_flag : List Text → List Text
with_help_flag [] = []
with_help_flag (word ∷ rest) =
    if bytes_eq word (codes "help") then rest ++ codes "--help" ∷ [] else word ∷ rest

-- all words, of which the first is the program's name
abbrev pub wish_of : List Text → Wish
wish_of words = arguments_wish (with_help_flag (drop 1 words))

-- what help is on, where the words behind the program's name ask for it
abbrev pub topic_of : List Text → Topic
topic_of [] = topic.Program
topic_of (word ∷ rest) = topic_of_word word

-- the command line as clap is told of it: its jobs, with what they take
abbrev pub required : Shape → Shape
required top = record top {
  has_version = true;
  subcommand_required = true;
  disable_help_subcommand = true;
}

abbrev pub program_alone : App
program_alone = on_top required (new_app (codes "mgr"))

abbrev pub job_apps : List App
job_apps =
    show_app ∷ edit_app ∷ note_app (codes "compact") (codes "dels") ∷ join_app
    ∷ note_app (codes "log") (codes "json") ∷ note_app (codes "who") (codes "lines")
    ∷ name_app (codes "claims") ∷ name_app (codes "missing") ∷ merge_app ∷ name_app (codes "mend") ∷ []

abbrev pub command_line : App
command_line = with_jobs program_alone job_apps
