-- What clap is told of a command and its arguments.
use Rattle.std.specs.Prelude.{◌≡◌, ℕ, true, false, List, [], ◌∷◌, codes, Some}
use Rattle.clap.specs.Lexer.{usize_max}
use Rattle.clap.specs.Simple.{App, app_of, new_app, new_rule, with_rule, with_subcommand}
use Rattle.clap.specs.Walk.{Rule, rule_of}
use Rattle.clap.specs.declared.builder.action.ArgAction.TheVariants.{Append, Set, SetTrue}
use Rattle.clap.specs.declared.builder.value_parser.ValueParser.TheVariants as parser
use Rattle.clap.specs.declared.builder.arg.Arg.{Arg}
use Rattle.clap.specs.declared.builder.command.Command.{Command}
use Rattle.clap.specs.declared.builder.command.Command.TheViews.{out-Command as fields_of}

-- a flag `--id`, which takes no value
abbrev pub flag : List ℕ → Rule
flag id = record (new_rule id) { long = Some id; action = Some SetTrue }

-- a number `--id`, within limits
abbrev pub number_rule : List ℕ → ℕ → ℕ → Rule
number_rule id least most = record (new_rule id) { long = Some id; action = Some Set; value_names = 1; parser = Some (parser.Unsigned least most) }

-- a name that may be left out, and the name of a buffer
abbrev pub optional_name_rule : Rule
optional_name_rule = record (new_rule (codes "name")) { action = Some Set; value_names = 1 }

abbrev pub name_rule : Rule
name_rule = record optional_name_rule { required = true }

-- paths that may be left out, and one path or more
abbrev pub optional_logs_rule : Rule
optional_logs_rule = record (new_rule (codes "logs")) { action = Some Append; range = Some (record { start_inclusive = 1; end_inclusive = usize_max }); value_names = 1 }

abbrev pub logs_rule : Rule
logs_rule = record optional_logs_rule { required = true }

-- with an argument more for each of these rules
abbrev pub with_rules : App → List Rule → App
with_rules app [] = app
with_rules app (rule ∷ rules) = with_rules (with_rule app rule) rules

-- a job that takes one name and a flag
abbrev pub note_rules : List ℕ → List Rule
note_rules id = name_rule ∷ flag id ∷ []

abbrev pub note_app : List ℕ → List ℕ → App
note_app job id = with_rules (new_app job) (note_rules id)

-- one that takes one name alone
abbrev pub name_app : List ℕ → App
name_app job = with_rules (new_app job) (name_rule ∷ [])

-- one that takes a name, paths or none, and a flag
abbrev pub merge_rules : List Rule
merge_rules = name_rule ∷ optional_logs_rule ∷ flag (codes "adopt") ∷ []

abbrev pub merge_app : App
merge_app = with_rules (new_app (codes "merge")) merge_rules

-- one that takes paths
abbrev pub join_app : App
join_app = with_rules (new_app (codes "join")) (logs_rule ∷ [])

-- one that takes a name and a number, or neither
abbrev pub show_rules : List Rule
show_rules = optional_name_rule ∷ number_rule (codes "lines") 0 18446744073709551615 ∷ []

abbrev pub show_app : App
show_app = with_rules (new_app (codes "show")) show_rules

-- an argument of that rule, and it does not hold for subcommands
abbrev pub IsLocal : Rule → Arg → Type 0
IsLocal rule a = (rule_of a ≡ rule) × (a.global ≡ false)

-- that command, and nothing of it holds for subcommands
abbrev pub IsPlain : App → Command → Type 0
IsPlain app c = (app_of c ≡ app) × ((fields_of c).has_globals ≡ false)

-- with a job more for each of these
abbrev pub with_jobs : App → List App → App
with_jobs app [] = app
with_jobs app (job ∷ jobs) = with_jobs (with_subcommand app job.top) jobs
