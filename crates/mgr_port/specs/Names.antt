-- The paths of a note's files.
use Rattle.std.specs.Prelude.{◌≡◌, ◌⊎◌, ℕ, List, [], ◌∷◌, ◌++◌, Option, Some, None, codes, string_bytes}
use Rattle.mgr_port.specs.Folder.{History, Looks, Resolves, after}
use Rattle.mgr_port.specs.Spares.{IsNoFile}
use Rattle.mgr_port.specs.declared.names.Paths.{Paths}
use Rattle.mgr_port.specs.declared.note.Note.{Note}
use Rattle.mgr_port.specs.declared.spare.Look.{Look}

-- The text has the name, the next text another one; the next log stands beside the log.
pub record ArePathsOf (name : List ℕ) (paths : Paths) : Type 0 where
  pub text : string_bytes paths.text ≡ name
  pub next_text : string_bytes paths.next_text ≡ name ++ codes ".ops.text"
  pub next_log : string_bytes paths.next_log ≡ string_bytes paths.log ++ codes ".new"

-- what stands there is no plain file, and leads there
abbrev pub LeadsTo : List ℕ → List ℕ → History → History → Type 0
LeadsTo path target old now =
    (found : Option Look) × (looked : History) × IsNoFile found × (looked ≡ after (Looks path found) old) × (now ≡ after (Resolves path target) looked)

-- at most a look was made
abbrev pub MayLook : List ℕ → History → History → Type 0
MayLook path old now = (now ≡ old) ⊎ ((found : Option Look) × (now ≡ after (Looks path found) old))

-- The log has the name with `.ops` behind it; or is what a link of that name leads to.
abbrev pub IsLogOf : List ℕ → List ℕ → History → History → Type 0
IsLogOf name log old now = ((log ≡ name ++ codes ".ops") × MayLook (name ++ codes ".ops") old now) ⊎ LeadsTo (name ++ codes ".ops") log old now

-- ---- the notes of a port

-- a note is there, under this name
abbrev pub IsNamed : {T : Type 0} → List ℕ → Option (Note T) → Type 0
IsNamed name None = ⊥
IsNamed name (Some note) = string_bytes note.paths.text ≡ name

-- they are the same, or there is one more behind them
abbrev pub AddsNote : {T : Type 0} → List (Note T) → List (Note T) → Type 0
AddsNote {T} old new = (new ≡ old) ⊎ ((note : Note T) × (new ≡ old ++ note ∷ []))
