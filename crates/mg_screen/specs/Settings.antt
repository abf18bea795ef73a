-- What an editing session is given.
use Rattle.std.specs.Prelude.{◌≡◌, ℕ, ◌≤◌, Bool, true, false, List, length, Option}
use Rattle.std.specs.Option.{ForSome}
use Rattle.rga_store.specs.declared.text_store.TheConstants.{MAX_LIMIT}
use Rattle.mg_screen.specs.Size.{least_rows, most_rows, least_columns, most_columns}

pub record Values : Type 0 where
  pub name : List ℕ
  pub replica : ℕ
  pub rows : ℕ
  pub columns : ℕ
  pub fill : ℕ
  pub port : Option ℕ
  pub trace : Bool
  pub live : Bool
  pub changes : Bool
  pub runs : Bool
  pub brief : Bool
  pub strict : Bool
  pub limit : ℕ

abbrev pub greatest_fill : ℕ
greatest_fill = 9999

-- of replicas and of ports
abbrev pub greatest_replica : ℕ
greatest_replica = 65535

abbrev pub greatest_port : ℕ
greatest_port = 65535

-- each value is within its limits
pub record AreAllowed (v : Values) : Type 0 where
  pub named : 1 ≤ length v.name
  pub replica_from : 1 ≤ v.replica
  pub replica_to : v.replica ≤ greatest_replica
  pub port : ForSome v.port (λ p. (1 ≤ p) × (p ≤ greatest_port))
  pub rows_from : least_rows ≤ v.rows
  pub rows_to : v.rows ≤ most_rows
  pub columns_from : least_columns ≤ v.columns
  pub columns_to : v.columns ≤ most_columns
  pub fill_from : 1 ≤ v.fill
  pub fill_to : v.fill ≤ greatest_fill
  pub limit_from : 1 ≤ v.limit
  pub limit_to : v.limit ≤ MAX_LIMIT
  -- a live session is not traced, and only a live one tells changes
  pub untraced : v.live ≡ true → v.trace ≡ false
  pub changes : v.changes ≡ true → v.live ≡ true
