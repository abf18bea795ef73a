-- What is kept of the lines of a log while it is mended.
use Rattle.std.specs.Prelude.{ℕ, ◌≡◌, Bool, true, false, if◌then◌else◌, List, [], ◌∷◌, map, length, Option, Some, None, Ok, Err, Contains}
use Rattle.std.specs.List.{list_any}
use Rattle.indexmap.specs.IndexMap.{IndexMap, get}
use Rattle.rga_ops.specs.Identifier.{Identifier, is_id}
use Rattle.rga_ops.specs.Operation.{checked}
use Rattle.rga_ops.specs.declared.op.Op.{Op}
use Rattle.rga_ops.specs.declared.op.Op.TheVariants.{Insert, Delete}
use Rattle.rga_lines.specs.Log.{operations_at}
use Rattle.rga_lines.specs.Spelling.{IsWritable}
use Rattle.mgr_mend.specs.Mending.{Said, beats, is_beaten}
use Rattle.mgr_mend.specs.declared.fate.Fate.{Fate}
use Rattle.mgr_mend.specs.declared.fate.Fate.TheVariants.{Kept, Beaten, Faulty}
use Rattle.mgr_mend.specs.declared.judging.Judged.{Judged}

-- how many operations a line has
abbrev pub count_said : Said → Option ℕ
count_said (Ok ops) = Some (length ops)
count_said (Err e) = None

abbrev pub counts_of : List (List ℕ) → List (Option ℕ)
counts_of lines = map (λ bytes. count_said (operations_at bytes)) lines

-- an operation, and whether one of the list beats it
abbrev pub judged : List Op → Op → Judged
judged all op = record { op = op; beaten = is_beaten all op }

-- those that are not beaten
abbrev pub staying : List Judged → List Op
staying [] = []
staying (j ∷ js) = if j.beaten then staying js else j.op ∷ staying js

-- whether one is
abbrev pub any_beaten : List Judged → Bool
any_beaten own = list_any (λ j. j.beaten) own

-- what becomes of a line with so many operations, which are these
abbrev pub judged_fate : Option ℕ → List Judged → Fate
judged_fate None own = Faulty
judged_fate (Some count) own = if any_beaten own then Beaten else Kept

-- those of the list that are well-formed can be read back from their lines
abbrev pub AreWritableIfSound : List Op → Type 0
AreWritableIfSound ops = (op : Op) → Contains ops op → checked op ≡ Ok tt → IsWritable op

-- ---- the least insertions

abbrev pub inserts : Identifier → Op → Bool
inserts id (Insert other parent ch) = is_id id other
inserts id (Delete other) = false

-- no operation of the list inserts the identifier, or this one does, and none beats it
abbrev pub IsLeast : List Op → Identifier → Option Op → Type 0
IsLeast ops id None = (op : Op) → Contains ops op → inserts id op ≡ false
IsLeast ops id (Some op) = Contains ops op × (inserts id op ≡ true) × ((other : Op) → Contains ops other → beats other op ≡ false)

-- the map has the least insertion of each identifier
abbrev pub HasLeast : {S : Type 0} → List Op → IndexMap Identifier Op S → Type 0
HasLeast ops least = (id : Identifier) → IsLeast ops id (get is_id least id)
