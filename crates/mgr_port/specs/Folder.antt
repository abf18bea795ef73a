-- What is asked of a folder, and what it answers.
use Rattle.std.specs.Prelude.{◌≡◌, ◌⊎◌, ℕ, List, [], ◌∷◌, ◌++◌, Bool, Option, Result, Ok, Err}
use Rattle.std.specs.Option.{option_map}
use Rattle.mgr_port.specs.declared.folder.Lock.{Lock}
use Rattle.mgr_port.specs.declared.folder.Opening.{Opening}
use Rattle.mgr_port.specs.declared.folder.Opening.TheVariants as opening
use Rattle.mgr_port.specs.declared.log.End.{End}
use Rattle.mgr_port.specs.declared.spare.Look.{Look}
use Rattle.mgr_port.specs.declared.spare.Owner.{Owner}

-- A look at what stands under a path itself, and at what it leads to; the path of that without links; a look at an open file.
-- The file of a path is opened, and an open file was tried to be locked. An open file ends so at a length, and whether in a
-- newline; it gets bytes at its end, is emptied, gets a mode, an owner and group, and a date, so much later than that of
-- another file, and is brought to the device. The names of a path's folder are. What was not read of an open file is, and
-- the bytes of the file of a path. A file gets another name, which nothing had. These bytes get a name, which nothing had,
-- and are on the device under it. A path goes. The file of a path takes another name. A file is written over. Of an open
-- file each step says first which file it is.
pub data FolderStep : Type 0 where
  Looks : List ℕ → Option Look → FolderStep
  Follows : List ℕ → Option Look → FolderStep
  Resolves : List ℕ → List ℕ → FolderStep
  LooksAt : ℕ → Look → FolderStep
  Opens : ℕ → List ℕ → Opening → FolderStep
  Locks : ℕ → Lock → FolderStep
  Ends : ℕ → ℕ → Option End → FolderStep
  EndsInNewline : ℕ → ℕ → Bool → FolderStep
  Adds : ℕ → List ℕ → FolderStep
  Empties : ℕ → FolderStep
  SetsMode : ℕ → ℕ → FolderStep
  GivesTo : ℕ → Owner → FolderStep
  Dates : ℕ → ℕ → ℕ → FolderStep
  Syncs : ℕ → FolderStep
  SyncsFolder : List ℕ → FolderStep
  ReadsAll : ℕ → List ℕ → FolderStep
  Reads : List ℕ → List ℕ → FolderStep
  Links : List ℕ → List ℕ → FolderStep
  Makes : List ℕ → List ℕ → FolderStep
  Removes : List ℕ → FolderStep
  Renames : List ℕ → List ℕ → FolderStep
  Overwrites : ℕ → List ℕ → FolderStep

-- the steps so far, the last one first, if they are told
abbrev pub History : Type 0
History = Option (List FolderStep)

-- one step more
abbrev pub after : FolderStep → History → History
after step = option_map (λ steps. step ∷ steps)

-- a step was done, or failed and changed nothing
abbrev pub Steps : {A E : Type 0} → Result A E → (A → FolderStep) → History → History → Type 0
Steps (Ok a) step old new = new ≡ after (step a) old
Steps (Err e) step old new = new ≡ old

-- all bytes were written; or else none, or a beginning of them
abbrev pub Writes : {A E : Type 0} → Result A E → ℕ → List ℕ → History → History → Type 0
Writes (Ok a) file bytes old new = new ≡ after (Adds file bytes) old
Writes (Err e) file bytes old new =
    (new ≡ old) ⊎ ((front : List ℕ) × (rest : List ℕ) × (bytes ≡ front ++ rest) × (new ≡ after (Adds file front) old))

-- ---- steps that change no name and no bytes

abbrev pub AreAll : (FolderStep → Type 0) → List FolderStep → Type 0
AreAll P [] = Unit {0}
AreAll P (step ∷ steps) = P step × AreAll P steps

-- there were only such steps
pub record Only (P : FolderStep → Type 0) (old now : History) : Type 0 where
  pub seen : List FolderStep
  pub all : AreAll P seen
  pub is : now ≡ option_map (λ steps. seen ++ steps) old

-- looks, and the bytes of a path
abbrev pub IsIdleStep : FolderStep → Type 0
IsIdleStep (Looks path found) = Unit {0}
IsIdleStep (Follows path found) = Unit {0}
IsIdleStep (Resolves path target) = Unit {0}
IsIdleStep (LooksAt file look) = Unit {0}
IsIdleStep (Reads path bytes) = Unit {0}
IsIdleStep other = ⊥

abbrev pub IsIdle : History → History → Type 0
IsIdle old now = Only IsIdleStep old now

-- The same; or a file is opened as it is, or locked; an open one is looked at by its end, or brought to the device.
abbrev pub IsQuietStep : FolderStep → Type 0
IsQuietStep (Opens file path opening.Read) = Unit {0}
IsQuietStep (Opens file path opening.Write) = Unit {0}
IsQuietStep (Opens file path opening.Add) = Unit {0}
IsQuietStep (Locks file lock) = Unit {0}
IsQuietStep (Ends file length end) = Unit {0}
IsQuietStep (EndsInNewline file length is) = Unit {0}
IsQuietStep (Syncs file) = Unit {0}
IsQuietStep other = IsIdleStep other

abbrev pub IsQuiet : History → History → Type 0
IsQuiet old now = Only IsQuietStep old now
