-- What `edit` takes, as clap is told of it, and what it was given.
use Rattle.std.specs.Prelude.{◌≡◌, ℕ, true, List, [], ◌∷◌, ◌++◌, codes, Option, Some, None}
use Rattle.clap.specs.Simple.{App, new_app}
use Rattle.clap.specs.Walk.{Row, Rule, first_of}
use Rattle.rga_store.specs.declared.text_store.TheConstants.{MAX_LIMIT}
use Rattle.mg_screen.specs.Size.{least_rows, most_rows, least_columns, most_columns}
use Rattle.mg_screen.specs.Settings.{Values, AreAllowed, greatest_replica, greatest_port, greatest_fill}
use Rattle.mgr_args.specs.Given.{GivesFlag, GivesNumber, GivesNumberIf}
use Rattle.mgr_args.specs.Rules.{flag, name_rule, number_rule, with_rules}

-- ---- what it takes

abbrev pub with_default : List ℕ → Rule → Rule
with_default value rule = record rule { defaults = value ∷ [] }

abbrev pub replica_rule : Rule
replica_rule = record (number_rule (codes "replica") 1 greatest_replica) { required = true }

abbrev pub port_rule : Rule
port_rule = number_rule (codes "port") 1 greatest_port

-- the sizes of the screen, the fill column and the port
abbrev pub number_rules : List Rule
number_rules =
    with_default (codes "24") (number_rule (codes "rows") least_rows most_rows)
    ∷ with_default (codes "80") (number_rule (codes "cols") least_columns most_columns)
    ∷ with_default (codes "70") (number_rule (codes "fill") 1 greatest_fill)
    ∷ port_rule ∷ []

-- what a session shows
abbrev pub showing_rules : List Rule
showing_rules = flag (codes "trace") ∷ flag (codes "live") ∷ flag (codes "changes") ∷ []

-- what stands in the log and in exchanges, and whether what failed is answered
abbrev pub content_rules : List Rule
content_rules = flag (codes "runs") ∷ flag (codes "brief") ∷ flag (codes "strict") ∷ []

abbrev pub edit_rules : List Rule
edit_rules = name_rule ∷ replica_rule ∷ number_rules ++ showing_rules ++ content_rules

abbrev pub edit_app : App
edit_app = with_rules (new_app (codes "edit")) edit_rules

-- ---- what it was given, by the rows of what clap found

-- what stands there beside the name
pub record GivesOptions (rows : List Row) (v : Values) : Type 0 where
  pub replica : GivesNumber 16 rows (codes "replica") v.replica
  pub rows_of : GivesNumber 16 rows (codes "rows") v.rows
  pub columns : GivesNumber 16 rows (codes "cols") v.columns
  pub fill : GivesNumber 16 rows (codes "fill") v.fill
  pub port : GivesNumberIf 16 rows (codes "port") v.port
  pub trace : GivesFlag rows (codes "trace") v.trace
  pub live : GivesFlag rows (codes "live") v.live
  pub changes : GivesFlag rows (codes "changes") v.changes
  pub runs : GivesFlag rows (codes "runs") v.runs
  pub brief : GivesFlag rows (codes "brief") v.brief
  pub strict : GivesFlag rows (codes "strict") v.strict
  pub limit : v.limit ≡ MAX_LIMIT

pub record GivesValues (rows : List Row) (v : Values) : Type 0 where
  pub name : first_of (codes "name") rows ≡ Some v.name
  pub options : GivesOptions rows v

-- those values, or none that are allowed
abbrev pub GivesSettings : List Row → Option Values → Type 0
GivesSettings rows None = (v : Values) → GivesValues rows v → AreAllowed v → ⊥
GivesSettings rows (Some v) = GivesValues rows v
