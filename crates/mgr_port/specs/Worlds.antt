-- What steps do to the files of a folder, and what other programs leave alone between them.
use Rattle.std.specs.Prelude.{◌≡◌, ◌≢◌, ◌⊎◌, ℕ, List, [], ◌++◌, Bool, true, false, Option, Some, None, length, take}
use Rattle.mgr_port.specs.declared.log.End.{End}
use Rattle.mgr_port.specs.declared.spare.Look.{Look}

-- the plain file that stands under each path itself, if one does; the bytes of each file, and who has it locked
pub record World : Type 0 where
  pub file : List ℕ → Option ℕ
  pub bytes : ℕ → List ℕ
  pub holder : ℕ → Option ℕ

abbrev pub Has : World → List ℕ → ℕ → Type 0
Has w path file = w.file path ≡ Some file

-- a plain file of such a length stands there, or none
abbrev pub ShowsFile : World → List ℕ → Bool → ℕ → Type 0
ShowsFile w path true length_shown = (file : ℕ) × Has w path file × (length (w.bytes file) ≡ length_shown)
ShowsFile w path false length_shown = w.file path ≡ None

-- what a look shows of a path is so
abbrev pub Shows : World → List ℕ → Option Look → Type 0
Shows w path None = w.file path ≡ None
Shows w path (Some look) = ShowsFile w path look.is_plain look.stamp.length

-- no other path stands for another file, and no file that another path stands for has other bytes
pub record Leaves (path : List ℕ) (old new : World) : Type 0 where
  pub names : (other : List ℕ) → other ≢ path → new.file other ≡ old.file other
  pub files : (other : List ℕ) (file : ℕ) → Has old other file → new.bytes file ≡ old.bytes file

-- a file gets another name, which nothing had
pub record IsLinked (path name : List ℕ) (old new : World) : Type 0 where
  pub file : ℕ
  pub stood : Has old path file
  pub was_free : old.file name ≡ None
  pub has_name : Has new name file
  pub leaves : Leaves name old new

-- a new file with these bytes gets a name, which nothing had
pub record IsMade (name bytes : List ℕ) (old new : World) : Type 0 where
  pub file : ℕ
  pub was_free : old.file name ≡ None
  pub has_name : Has new name file
  pub has_bytes : new.bytes file ≡ bytes
  pub leaves : Leaves name old new

-- other programs leave the path alone, and the file that it stands for
pub record IsLeftAlone (path : List ℕ) (old new : World) : Type 0 where
  pub name : new.file path ≡ old.file path
  pub bytes : (file : ℕ) → Has old path file → new.bytes file ≡ old.bytes file

-- nothing stands there, or a file without bytes
abbrev pub IsBare : World → List ℕ → Type 0
IsBare w path = (w.file path ≡ None) ⊎ ((file : ℕ) × Has w path file × (w.bytes file ≡ []))

-- what stands under the path now, stood under that name then
abbrev pub StoodUnder : List ℕ → World → List ℕ → World → Type 0
StoodUnder name old path now = (file : ℕ) → Has now path file → (kept : ℕ) × Has old name kept × (old.bytes kept ≡ now.bytes file)

-- somebody has the file of a path locked
pub record Locks (who : ℕ) (w : World) (path : List ℕ) (file : ℕ) : Type 0 where
  pub there : Has w path file
  pub locked : w.holder file ≡ Some who

-- ---- a log that grows

-- A file ends so where it is so long, after these bytes.
abbrev pub EndsAt : List ℕ → ℕ → End → List ℕ → Type 0
EndsAt bytes size end before =
    (rest : List ℕ) × (bytes ≡ (before ++ take end.length end.bytes) ++ rest) × (length (before ++ take end.length end.bytes) ≡ size)

-- it has what it had, and what was put behind that
abbrev pub Grows : ℕ → World → World → Type 0
Grows file old new = (more : List ℕ) × (new.bytes file ≡ old.bytes file ++ more)
