-- When a file counts as this port's own.
use Rattle.std.specs.Prelude.{◌≡◌, ◌≢◌, ◌⊎◌, ℕ, List, Bool, true, false, Option, Some, None, IfSome, string_bytes}
use Rattle.mgr_port.specs.Folder.{History, Follows, IsQuiet, Locks, Looks, LooksAt, Opens, Reads, Removes, after}
use Rattle.mgr_port.specs.Spares.{IsNoFile, MakesWay, MayBeKept}
use Rattle.mgr_port.specs.Verdicts.{AreOfOneFile}
use Rattle.mgr_port.specs.declared.folder.Lock.{Lock}
use Rattle.mgr_port.specs.declared.folder.Lock.TheVariants as lock
use Rattle.mgr_port.specs.declared.folder.Opening.{Opening}
use Rattle.mgr_port.specs.declared.folder.Opening.TheVariants as opening
use Rattle.mgr_port.specs.declared.names.Paths.{Paths}
use Rattle.mgr_port.specs.declared.spare.Look.{Look}
use Rattle.mgr_port.specs.declared.stamp.Stamp.{Stamp}

-- the path stands for this file, which is open
abbrev pub StandsFor : ℕ → List ℕ → History → History → Type 0
StandsFor file path old now =
    (found : Look) × (opened : Look) × (followed : History)
    × (followed ≡ after (Follows path (Some found)) old) × (now ≡ after (LooksAt file opened) followed) × AreOfOneFile found.stamp opened.stamp

-- it stands for nothing, or for another file
abbrev pub StandsForAnother : ℕ → List ℕ → History → History → Type 0
StandsForAnother file path old now =
    (now ≡ after (Follows path None) old) ⊎ ((found : Look) × (opened : Look) × (followed : History)
    × (followed ≡ after (Follows path (Some found)) old) × (now ≡ after (LooksAt file opened) followed) × (AreOfOneFile found.stamp opened.stamp → ⊥))

-- whether it does
abbrev pub ShowsStanding : ℕ → List ℕ → History → History → Bool → Type 0
ShowsStanding file path old now true = StandsFor file path old now
ShowsStanding file path old now false = StandsForAnother file path old now

-- the same of a log that was read, which is so long
abbrev pub StandsAsRead : Option ℕ → List ℕ → ℕ → History → History → Type 0
StandsAsRead log path length old now =
    (file : ℕ) × (found : Look) × (opened : Look) × (followed : History) × (log ≡ Some file)
    × (followed ≡ after (Follows path (Some found)) old) × (now ≡ after (LooksAt file opened) followed) × AreOfOneFile found.stamp opened.stamp
    × (found.stamp.length ≡ length)

-- whether a plain file stands under the path itself, and nothing if not
abbrev pub ShowsPlain : List ℕ → History → History → Bool → Type 0
ShowsPlain path old now true = (look : Look) × (look.is_plain ≡ true) × (now ≡ after (Looks path (Some look)) old)
ShowsPlain path old now false = now ≡ after (Looks path None) old

-- Nothing else has the open file locked, and after that was tried the path stands for it.
abbrev pub Holds : ℕ → List ℕ → History → History → Type 0
Holds file path old now = (answer : Lock) × (locked : History) × (answer ≢ lock.Others) × (locked ≡ after (Locks file answer) old) × StandsFor file path locked now

-- it is opened
abbrev pub IsOpened : ℕ → List ℕ → History → History → Type 0
IsOpened file path old now = (how : Opening) × (now ≡ after (Opens file path how) old)

-- a plain file is
abbrev pub OpensPlain : ℕ → List ℕ → History → Type 0
OpensPlain file path now =
    (look : Look) × (old : History) × (followed : History) × (look.is_plain ≡ true) × (followed ≡ after (Follows path (Some look)) old)
    × IsOpened file path followed now

-- A plain file is opened, and held.
abbrev pub OpensLocked : ℕ → List ℕ → History → Type 0
OpensLocked file path now = (opened : History) × OpensPlain file path opened × Holds file path opened now

-- It is held, and empty.
unfoldable pub HoldsEmpty : ℕ → List ℕ → History → History → Type 0
HoldsEmpty file path old now = (look : Look) × (held : History) × Holds file path old held × (now ≡ after (LooksAt file look) held) × (look.stamp.length ≡ 0)

-- Nothing changed; or what stands there was held, and then made way, or may be kept.
abbrev pub ClearsHeld : List ℕ → History → History → Type 0
ClearsHeld path old now =
    IsQuiet old now ⊎ ((held : History) × IsQuiet old held × (MakesWay path held now ⊎ MayBeKept path held now))

-- What stood there was a plain file or nothing, or is gone: so nothing is written through a link.
abbrev pub OpensBeside : ℕ → List ℕ → History → History → Type 0
OpensBeside file path old now =
    (found : Option Look) × (looked : History) × (cleared : History)
    × (looked ≡ after (Looks path found) old) × (((IsNoFile found → ⊥) × (cleared ≡ looked)) ⊎ (cleared ≡ after (Removes path) looked))
    × (now ≡ after (Opens file path opening.Beside) cleared)

-- such a file was opened, and is held, and empty
abbrev pub IsHeldEmpty : ℕ → List ℕ → History → Type 0
IsHeldEmpty file path now = (old : History) × (opened : History) × OpensBeside file path old opened × HoldsEmpty file path opened now

-- What stood there has made way, and a new file is there.
abbrev pub MakesBeside : ℕ → List ℕ → ℕ → History → History → Type 0
MakesBeside file path mode old now = (cleared : History) × MakesWay path old cleared × (now ≡ after (Opens file path (opening.New mode)) cleared)

-- The next log is held, and empty, and after that no log is there.
abbrev pub HoldsInItsPlace : ℕ → List ℕ → List ℕ → History → History → Type 0
HoldsInItsPlace file path log old now = (held : History) × HoldsEmpty file path old held × (now ≡ after (Follows log None) held)

-- the same, whatever came before
abbrev pub HoldsNext : ℕ → List ℕ → List ℕ → History → Type 0
HoldsNext file path log now = (old : History) × HoldsInItsPlace file path log old now

-- what is locked of a note: its log, and the next one in its place
abbrev pub LocksNote : {A : Type 0} → (A → ℕ) → Paths → Option A → Option A → History → Type 0
LocksNote file_of paths log next now =
    IfSome log (λ file. OpensLocked (file_of file) (string_bytes paths.log) now)
    × IfSome next (λ file. HoldsNext (file_of file) (string_bytes paths.next_log) (string_bytes paths.log) now)

-- the path stands for the file that was open, or for one that was opened, and is held, and empty
abbrev pub IsTaken : ℕ → List ℕ → History → History → Type 0
IsTaken file path old now = StandsFor file path old now ⊎ IsHeldEmpty file path now

-- These bytes were read; if the text is this port's own, after it was opened, held and looked at.
abbrev pub IsOwnRead : Option ℕ → Option Stamp → List ℕ → List ℕ → History → Type 0
IsOwnRead text None path bytes now = (old : History) × (now ≡ after (Reads path bytes) old)
IsOwnRead text (Some stamp) path bytes now =
    (file : ℕ) × (look : Look) × (old : History) × (looked : History) × (text ≡ Some file) × (stamp ≡ look.stamp)
    × OpensLocked file path old × (looked ≡ after (LooksAt file look) old) × (now ≡ after (Reads path bytes) looked)
