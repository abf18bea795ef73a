-- What becomes of a log's bytes by the steps of a history.
use Rattle.std.specs.Prelude.{◌≡◌, ◌≢◌, ◌⊎◌, ℕ, List, [], ◌∷◌, ◌++◌, Some, None}
use Rattle.mgr_port.specs.Folder.{History, FolderStep, Adds, Empties, Overwrites, ReadsAll, Syncs}

-- A step leaves all files as they are; puts bytes behind those of one; leaves nothing in it; or brings it to the device.
pub data Change : Type 0 where
  Nothing : Change
  Puts : ℕ → List ℕ → Change
  Clears : ℕ → Change
  Persists : ℕ → Change

abbrev pub change_of : FolderStep → Change
change_of (Adds file bytes) = Puts file bytes
change_of (Empties file) = Clears file
change_of (Overwrites file path) = Clears file
change_of (Syncs file) = Persists file
change_of other = Nothing

-- what a change does to the bytes of a log, which is the file or another one
abbrev pub Changes : ℕ → Change → List ℕ → List ℕ → Type 0
Changes log (Puts file bytes) old new = (file ≡ log → new ≡ old ++ bytes) × (file ≢ log → new ≡ old)
Changes log (Clears file) old new = (file ≡ log → new ≡ []) × (file ≢ log → new ≡ old)
Changes log other old new = new ≡ old

-- who reads an open file for the first time reads all of it
abbrev pub Shows : ℕ → FolderStep → List ℕ → Type 0
Shows log (ReadsAll file bytes) old = file ≡ log → bytes ≡ old
Shows log other old = Unit {0}

-- what a step tells of the bytes of a log, and does to them
abbrev pub Tells : ℕ → FolderStep → List ℕ → List ℕ → Type 0
Tells log step old new = Shows log step old × Changes log (change_of step) old new

-- of steps that are told
abbrev pub OfTold : (List FolderStep → Type 0) → History → Type 0
OfTold P None = ⊥
OfTold P (Some steps) = P steps

-- ---- others add too

-- A log may have these bytes after these steps, the last one first, if others only put something behind what it has, at any
-- time.
abbrev pub MayHaveAfter : ℕ → List ℕ → List FolderStep → Type 0
MayHaveAfter log bytes [] = Unit {0}
MayHaveAfter log bytes (step ∷ steps) =
    (old : List ℕ) × (new : List ℕ) × (more : List ℕ) × MayHaveAfter log old steps × Tells log step old new × (bytes ≡ new ++ more)

abbrev pub MayHave : ℕ → History → List ℕ → Type 0
MayHave log history bytes = OfTold (MayHaveAfter log bytes) history

-- It had other bytes then, which are a beginning of these.
abbrev pub HadFront : ℕ → History → List ℕ → Type 0
HadFront log before bytes = (old : List ℕ) × (more : List ℕ) × MayHave log before old × (bytes ≡ old ++ more)

-- The same, and then lines were put behind them.
abbrev pub HasLines : ℕ → History → List ℕ → List ℕ → Type 0
HasLines log before lines bytes =
    (old : List ℕ) × (more : List ℕ) × (rest : List ℕ) × MayHave log before old × (bytes ≡ old ++ more ++ lines ++ rest)

-- ---- nobody else adds, and the machine may stop

-- a log has these bytes after these steps
abbrev pub HasAfter : ℕ → List ℕ → List FolderStep → Type 0
HasAfter log bytes [] = Unit {0}
HasAfter log bytes (step ∷ steps) = (old : List ℕ) × HasAfter log old steps × Tells log step old bytes

-- After these steps a log has these bytes, whatever it had before them.
abbrev pub IsKnown : ℕ → History → List ℕ → Type 0
IsKnown log history bytes = (now : List ℕ) → OfTold (HasAfter log now) history → now ≡ bytes

-- What may stand there if the machine stops behind a change, by what may if it stops before it, and by what the log has
-- then: of bytes that are put behind others any beginning; what the log has, once that is on the device.
abbrev pub SurvivesBehind : ℕ → Change → (List ℕ → Type 0) → (List ℕ → Type 0) → List ℕ → Type 0
SurvivesBehind log Nothing Survives Has found = Survives found
SurvivesBehind log (Puts file bytes) Survives Has found =
    Survives found ⊎ ((was : List ℕ) × (front : List ℕ) × (rest : List ℕ) × (file ≡ log) × Has was × (bytes ≡ front ++ rest) × (found ≡ was ++ front))
SurvivesBehind log (Clears file) Survives Has found = Unit {0}
SurvivesBehind log (Persists file) Survives Has found = Survives found × (file ≡ log → Has found)

abbrev pub MaySurviveAfter : ℕ → List ℕ → List FolderStep → Type 0
MaySurviveAfter log found [] = Unit {0}
MaySurviveAfter log found (step ∷ steps) =
    SurvivesBehind log (change_of step) (λ l. MaySurviveAfter log l steps) (λ l. HasAfter log l steps) found

abbrev pub MaySurvive : ℕ → History → List ℕ → Type 0
MaySurvive log history found = OfTold (MaySurviveAfter log found) history

-- all that a log has is on the device, and that are these bytes
pub record IsOnDevice (log : ℕ) (history : History) (bytes : List ℕ) : Type 0 where
  pub survives : (found : List ℕ) → MaySurvive log history found → found ≡ bytes
  pub has : IsKnown log history bytes

-- a beginning of lines is behind what it had
abbrev pub HasFrontOf : List ℕ → List ℕ → List ℕ → Type 0
HasFrontOf lines bytes found = (front : List ℕ) × (rest : List ℕ) × (lines ≡ front ++ rest) × (found ≡ bytes ++ front)
