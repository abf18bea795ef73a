-- Why nothing is lost of what stands under a path if that goes.
use Rattle.std.specs.Prelude.{◌≡◌, ◌⊎◌, ◌<◌, ℕ, List, ◌++◌, ◌∷◌, [], false, Option, Some, None, string_bytes}
use Rattle.mgr_port.specs.Folder.{History, FolderStep, IsIdle, IsQuietStep, Only, Looks, Follows, LooksAt, Opens, Reads, ReadsAll, Links, Makes, Removes, Renames, after}
use Rattle.mgr_port.specs.Folder.{Adds, Dates, Empties, GivesTo, Overwrites, SetsMode, SyncsFolder}
use Rattle.mgr_port.specs.Verdicts.{AreOfOneFile}
use Rattle.mgr_port.specs.declared.folder.Opening.TheVariants as opening
use Rattle.mgr_port.specs.declared.names.Paths.{Paths}
use Rattle.mgr_port.specs.declared.spare.Look.{Look}
use Rattle.mgr_port.specs.declared.spare.Reason.{Reason}
use Rattle.mgr_port.specs.declared.spare.Reason.TheVariants as reason
use Rattle.mgr_port.specs.declared.spare.Spare.{Spare}
use Rattle.mgr_port.specs.declared.stamp.Stamp.{Stamp}

abbrev pub path_of : Spare → List ℕ
path_of spare = spare.path.now

-- it is this path, for this reason
pub record IsFor (path : List ℕ) (why : Reason) (spare : Spare) : Type 0 where
  pub is_path : path_of spare ≡ path
  pub is_reason : spare.reason ≡ why

-- A second name protects the bytes of a file as long as nobody writes into it.
abbrev pub OutlastsWriting : Reason → Type 0
OutlastsWriting reason.Linked = ⊥
OutlastsWriting reason.Open = ⊥
OutlastsWriting other = Unit {0}

abbrev pub MayBeOverwritten : Spare → Type 0
MayBeOverwritten spare = OutlastsWriting spare.reason

-- ---- what a look shows

-- what stands there is no plain file
abbrev pub IsNoFile : Option Look → Type 0
IsNoFile None = ⊥
IsNoFile (Some look) = look.is_plain ≡ false

-- nothing stands there, or no plain file, or one without bytes
abbrev pub IsNothing : Option Look → Type 0
IsNothing None = Unit {0}
IsNothing (Some look) = (look.is_plain ≡ false) ⊎ (look.stamp.length ≡ 0)

-- what stands there is this file
abbrev pub IsOfFile : Stamp → Option Look → Type 0
IsOfFile stamp None = ⊥
IsOfFile stamp (Some look) = AreOfOneFile look.stamp stamp

-- the same, and it has another name
abbrev pub IsOneOfMore : Stamp → Option Look → Type 0
IsOneOfMore stamp None = ⊥
IsOneOfMore stamp (Some look) = (1 < look.names) × AreOfOneFile look.stamp stamp

-- ---- what the last steps show

-- a name that ends in `~`
abbrev pub EndsInTilde : List ℕ → Type 0
EndsInTilde name = (front : List ℕ) × (name ≡ front ++ 126 ∷ [])

-- What stood there has got another name, which ends in `~`; or its bytes were read, and stand under such a name.
abbrev pub IsKept : Reason → List ℕ → History → History → Type 0
IsKept reason.Linked path old now =
    (name : List ℕ) × (seen : History) × EndsInTilde name × IsIdle old seen × (now ≡ after (Links path name) seen)
IsKept reason.Copied path old now =
    (name : List ℕ) × (bytes : List ℕ) × (seen : History) × (read : History)
    × EndsInTilde name × IsIdle old seen × (read ≡ after (Reads path bytes) seen) × (now ≡ after (Makes name bytes) read)
IsKept other path old now = ⊥

-- Nothing stood there; or it was as this port had left it; or it had these bytes.
abbrev pub IsShown : Reason → List ℕ → Option Stamp → List ℕ → History → History → Type 0
IsShown reason.Nothing path own bytes old now = now ≡ after (Follows path None) old
IsShown reason.Known path own bytes old now = (look : Look) × (own ≡ Some look.stamp) × (now ≡ after (Follows path (Some look)) old)
IsShown reason.Same path own bytes old now =
    (look : Look) × (followed : History) × (followed ≡ after (Follows path (Some look)) old) × (now ≡ after (Reads path bytes) followed)
IsShown other path own bytes old now = ⊥

-- nothing is lost of a path if these bytes take its place; or something is, and nothing changed
abbrev pub IsSpareFor : List ℕ → Option Stamp → List ℕ → History → History → Option Spare → Type 0
IsSpareFor path own bytes old now None = IsIdle old now
IsSpareFor path own bytes old now (Some spare) = (path_of spare ≡ path) × IsShown spare.reason path own bytes old now

-- nothing of it is lost if these bytes take its place, or it is kept
abbrev pub SparesText : List ℕ → Option Stamp → List ℕ → History → History → Type 0
SparesText path own bytes old now = (why : Reason) × (IsShown why path own bytes old now ⊎ IsKept why path old now)

-- ---- what becomes of a path

-- nothing with bytes stood there, or that is kept
unfoldable pub IsSpare : List ℕ → History → History → Type 0
IsSpare path old now =
    ((found : Option Look) × IsNothing found × (now ≡ after (Looks path found) old)) ⊎ ((why : Reason) × IsKept why path old now)

-- The last steps show that the path may go: nothing is lost of it; or what stands there has got another name; or it is a file
-- that is open.
abbrev pub MayGo : List ℕ → History → Type 0
MayGo path now =
    (old : History) × (IsSpare path old now ⊎ ((name : List ℕ) × (now ≡ after (Links path name) old))
    ⊎ ((file : ℕ) × (opened : Look) × (found : Option Look) × (looked : History) × (looked ≡ after (LooksAt file opened) old)
    × IsOfFile opened.stamp found × (now ≡ after (Follows path found) looked)))

-- They show that it may be given to another file: nothing is lost of it, or was seen to be.
abbrev pub MayBeGiven : List ℕ → History → Type 0
MayBeGiven path now =
    (old : History) × (IsSpare path old now ⊎ ((own : Option Stamp) × (bytes : List ℕ) × (why : Reason) × IsShown why path own bytes old now))

-- nothing stood there; or the path is given, and nothing is lost of it
abbrev pub IsVacated : List ℕ → History → History → Option Spare → Type 0
IsVacated path old now None = now ≡ after (Looks path None) old
IsVacated path old now (Some spare) = (path_of spare ≡ path) × IsSpare path old now

-- Nothing stood there; or it is gone, and nothing is lost of it.
abbrev pub MakesWay : List ℕ → History → History → Type 0
MakesWay path old now = (now ≡ after (Looks path None) old) ⊎ ((spare : History) × IsSpare path old spare × (now ≡ after (Removes path) spare))

-- It did not go: nothing changed, or nothing is lost of it.
abbrev pub MayBeKept : List ℕ → History → History → Type 0
MayBeKept path old now = IsIdle old now ⊎ IsSpare path old now

-- The path is gone, if it stood for such a file that is open; and else it stays.
abbrev pub RemovesIf : (Stamp → Option Look → Type 0) → ℕ → List ℕ → History → History → Type 0
RemovesIf P file path old now =
    (opened : Look) × (found : Option Look) × (looked : History) × (followed : History)
    × (looked ≡ after (LooksAt file opened) old) × (followed ≡ after (Follows path found) looked)
    × ((P opened.stamp found × (now ≡ after (Removes path) followed)) ⊎ ((P opened.stamp found → ⊥) × (now ≡ followed)))

-- The same was tried, and may have failed.
abbrev pub MayRemove : (Stamp → Option Look → Type 0) → ℕ → List ℕ → History → History → Type 0
MayRemove P file path old now =
    (now ≡ old) ⊎ ((opened : Look) × (looked : History) × (looked ≡ after (LooksAt file opened) old)
    × ((now ≡ looked) ⊎ ((found : Option Look) × (followed : History) × (followed ≡ after (Follows path found) looked)
    × ((now ≡ followed) ⊎ (P opened.stamp found × (now ≡ after (Removes path) followed))))))

-- It has got the name too, and may have lost its own; or it has the name in place of its own, and nothing stood there.
abbrev pub GivesFreeName : List ℕ → List ℕ → History → History → Type 0
GivesFreeName path name old now =
    ((linked : History) × (linked ≡ after (Links path name) old) × ((now ≡ linked) ⊎ (now ≡ after (Removes path) linked)))
    ⊎ ((looked : History) × (looked ≡ after (Looks name None) old) × (now ≡ after (Renames path name) looked))

-- ---- what changes at one path alone

-- A file is opened to be added to, or made there; what stands there is kept, or goes. An open file is read.
abbrev pub IsStepAt : List ℕ → FolderStep → Type 0
IsStepAt path (Opens file other opening.Beside) = other ≡ path
IsStepAt path (Links other name) = (other ≡ path) × EndsInTilde name
IsStepAt path (Makes name bytes) = EndsInTilde name
IsStepAt path (Removes other) = other ≡ path
IsStepAt path (ReadsAll file bytes) = Unit {0}
IsStepAt path other = ⊥

abbrev pub ChangesOnlyAt : List ℕ → History → History → Type 0
ChangesOnlyAt path old now = Only (λ step. IsQuietStep step ⊎ IsStepAt path step) old now

-- ---- what changes at a path, and at the name that its file is to take

abbrev pub IsRightsStep : ℕ → FolderStep → Type 0
IsRightsStep file (SetsMode other mode) = other ≡ file
IsRightsStep file (GivesTo other owner) = other ≡ file
IsRightsStep file other = ⊥

-- this file gets rights, and nothing else changes
abbrev pub SetsRights : ℕ → History → History → Type 0
SetsRights file old now = Only (λ step. IsQuietStep step ⊎ IsRightsStep file step) old now

-- the same, but what changes at the path
abbrev pub FitsAt : ℕ → List ℕ → History → History → Type 0
FitsAt file path old now = Only (λ step. IsQuietStep step ⊎ IsStepAt path step ⊎ IsRightsStep file step) old now

-- Only the path changes; or a file was taken so, and then that one gets rights.
abbrev pub FitsTaken : (ℕ → History → Type 0) → List ℕ → History → History → Type 0
FitsTaken IsTaken path old now =
    ChangesOnlyAt path old now
    ⊎ ((file : ℕ) × (taken : History) × ChangesOnlyAt path old taken × IsTaken file taken × SetsRights file taken now)

-- Only the path changes; or a new file is made there, and then that one gets rights.
abbrev pub MakesFileAt : List ℕ → History → History → Type 0
MakesFileAt path old now =
    ChangesOnlyAt path old now
    ⊎ ((file : ℕ) × (mode : ℕ) × (cleared : History) × (made : History) × ChangesOnlyAt path old cleared
    × (made ≡ after (Opens file path (opening.New mode)) cleared) × FitsAt file path made now)

-- This file gets bytes, and a date. What stands under the name gets another one.
abbrev pub IsWaitingStep : ℕ → List ℕ → FolderStep → Type 0
IsWaitingStep file name (Adds other bytes) = other ≡ file
IsWaitingStep file name (Empties other) = other ≡ file
IsWaitingStep file name (Dates other of later) = other ≡ file
IsWaitingStep file name (Links other new) = (other ≡ name) × EndsInTilde new
IsWaitingStep file name other = ⊥

abbrev pub IsStepBeside : ℕ → List ℕ → List ℕ → FolderStep → Type 0
IsStepBeside file path name step = IsQuietStep step ⊎ IsStepAt path step ⊎ IsRightsStep file step ⊎ IsWaitingStep file name step

-- A file of a path gets bytes and rights, and nothing takes the name.
abbrev pub WaitsBeside : ℕ → List ℕ → List ℕ → History → History → Type 0
WaitsBeside file path name old now = Only (IsStepBeside file path name) old now

-- The file of the path takes the name, and that is brought to the device; or this file, which has the name, is written over.
abbrev pub IsNamingStep : ℕ → List ℕ → List ℕ → FolderStep → Type 0
IsNamingStep file path name (SyncsFolder other) = Unit {0}
IsNamingStep file path name (Links other new) = (other ≡ path) × (new ≡ name)
IsNamingStep file path name (Renames other new) = (other ≡ path) × (new ≡ name)
IsNamingStep file path name (Overwrites opened other) = (other ≡ name) × (opened ≡ file)
IsNamingStep file path name other = ⊥

-- the same, and such a step
abbrev pub PutsOnlyAt : ℕ → List ℕ → List ℕ → History → History → Type 0
PutsOnlyAt file path name old now = Only (λ step. IsStepBeside file path name step ⊎ IsNamingStep file path name step) old now

-- the same at the paths of a log
abbrev pub PutsLogOnly : Paths → History → History → Type 0
PutsLogOnly paths old now = (file : ℕ) × PutsOnlyAt file (string_bytes paths.next_log) (string_bytes paths.log) old now

-- at this path alone, whatever name its file is to take; at no path
abbrev pub PutsOnlyBeside : ℕ → List ℕ → History → History → Type 0
PutsOnlyBeside file path old now = (name : List ℕ) → PutsOnlyAt file path name old now

abbrev pub ChangesNoName : ℕ → History → History → Type 0
ChangesNoName file old now = (path : List ℕ) → PutsOnlyBeside file path old now
