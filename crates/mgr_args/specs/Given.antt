-- What jobs were given, by the rows of what clap found.
use Rattle.std.specs.Prelude.{◌≡◌, ◌≢◌, ◌↔◌, ◌≤◌, ◌<◌, ◌^◌, ◌⊎◌, ℕ, Bool, true, List, [], codes, length, map, Option, Some, None, string_bytes, unwrap_or}
use Rattle.std.specs.Str.Parse.{IsNumeral, digits_value, without_leading_plus}
use Rattle.std.specs.declared.alloc.Global.{Global}
use Rattle.std.specs.declared.string.String.{String}
use Rattle.clap.specs.Walk.{Row, all_of, first_of, one_of}
use Rattle.mgr_args.specs.declared.given.Merging.{Merging}
use Rattle.mgr_args.specs.declared.given.Note.{Note}
use Rattle.mgr_args.specs.declared.given.Shown.{Shown}
use Rattle.mgr_args.specs.declared.given.Shown.TheVariants.{Input, Front}

-- a number of that many bits stands under that id, in decimal digits
pub record GivesNumber (bits : ℕ) (rows : List Row) (id : List ℕ) (n : ℕ) : Type 0 where
  pub text : List ℕ
  pub at : one_of id rows ≡ Some text
  pub numeral : IsNumeral 10 (without_leading_plus text)
  pub value : digits_value 10 (without_leading_plus text) ≡ n
  pub fits : n < 2 ^ bits

abbrev pub GivesNumberIf : ℕ → List Row → List ℕ → Option ℕ → Type 0
GivesNumberIf bits rows id None = (n : ℕ) → GivesNumber bits rows id n → ⊥
GivesNumberIf bits rows id (Some n) = GivesNumber bits rows id n

-- whether a flag stands there
pub record GivesFlag (rows : List Row) (id : List ℕ) (is : Bool) : Type 0 where
  pub exact : is ≡ true ↔ one_of id rows ≡ Some (codes "true")

-- this name, which has a character
pub record GivesName (rows : List Row) (name : String Global) : Type 0 where
  pub given : first_of (codes "name") rows ≡ Some (string_bytes name)
  pub some : 1 ≤ length (string_bytes name)

-- the same, or no name that has one
abbrev pub GivesNameIf : List Row → Option (String Global) → Type 0
GivesNameIf rows None = (name : List ℕ) → first_of (codes "name") rows ≡ Some name → 1 ≤ length name → ⊥
GivesNameIf rows (Some name) = GivesName rows name

-- the same, but for `-`, which is standard input
abbrev pub GivesNoteNameIf : List Row → Option (String Global) → Type 0
GivesNoteNameIf rows None = (name : List ℕ) → first_of (codes "name") rows ≡ Some name → 1 ≤ length name → name ≡ codes "-"
GivesNoteNameIf rows (Some name) = GivesName rows name × (string_bytes name ≢ codes "-")

-- this name and this flag, or no name that has a character
pub record GivesBoth (id : List ℕ) (rows : List Row) (note : Note) : Type 0 where
  pub name : GivesName rows note.name
  pub flag : GivesFlag rows id note.flag

abbrev pub GivesNote : List ℕ → List Row → Option Note → Type 0
GivesNote id rows None = GivesNameIf rows None
GivesNote id rows (Some note) = GivesBoth id rows note

-- what is to be shown: standard input, if neither a name nor a number is there, or a note; nothing, if the name has no
-- character, or if a number has no name
abbrev pub GivesShown : List Row → Option Shown → Type 0
GivesShown rows None =
    (first_of (codes "name") rows ≡ Some []) ⊎ ((first_of (codes "name") rows ≡ None) × (n : ℕ) × GivesNumber 64 rows (codes "lines") n)
GivesShown rows (Some Input) = (first_of (codes "name") rows ≡ None) × GivesNumberIf 64 rows (codes "lines") None
GivesShown rows (Some (Front name lines)) = GivesName rows name × GivesNumberIf 64 rows (codes "lines") lines

-- these paths, in this order
abbrev pub GivesLogs : List Row → List (String Global) → Type 0
GivesLogs rows logs = map string_bytes logs ≡ unwrap_or (all_of (codes "logs") rows) []

-- this name, these paths and this flag, or no name that has a character
pub record GivesAll (rows : List Row) (merging : Merging) : Type 0 where
  pub name : GivesName rows merging.name
  pub logs : GivesLogs rows merging.logs.items
  pub adopt : GivesFlag rows (codes "adopt") merging.adopt

abbrev pub GivesMerging : List Row → Option Merging → Type 0
GivesMerging rows None = GivesNameIf rows None
GivesMerging rows (Some merging) = GivesAll rows merging
