-- How a text, and a new file for it, come under a name.
use Rattle.std.specs.Prelude.{◌≡◌, ◌≢◌, ◌⊎◌, ℕ, List, Bool, true, false, Option, Some, None}
use Rattle.mgr_port.specs.Disk.{steps_to, whole_steps}
use Rattle.mgr_port.specs.Folder.{History, Adds, Follows, GivesTo, IsIdle, IsQuiet, Locks, Looks, LooksAt, Opens, Overwrites, SetsMode, after}
use Rattle.mgr_port.specs.Growth.{AddsFront}
use Rattle.mgr_port.specs.Locks.{IsOwnRead, MakesBeside, OpensLocked}
use Rattle.mgr_port.specs.Spares.{MakesFileAt, PutsOnlyAt, SparesText, WaitsBeside}
use Rattle.mgr_port.specs.Staging.{DoesAll, MayDate, SyncsDated}
use Rattle.mgr_port.specs.Verdicts.{IsDatedBy, mode_like}
use Rattle.mgr_port.specs.declared.folder.Lock.{Lock}
use Rattle.mgr_port.specs.declared.folder.Lock.TheVariants as lock
use Rattle.mgr_port.specs.declared.folder.Opening.TheVariants as opening
use Rattle.mgr_port.specs.declared.spare.Look.{Look}
use Rattle.mgr_port.specs.declared.spare.Owner.{Owner}
use Rattle.mgr_port.specs.declared.staged.Named.{Named}
use Rattle.mgr_port.specs.declared.staged.Old.{Old}
use Rattle.mgr_port.specs.declared.staged.Old.TheVariants as old
use Rattle.mgr_port.specs.declared.staged.Staged.{Staged}
use Rattle.mgr_port.specs.declared.stamp.Stamp.{Stamp}

-- what a path leads to: nothing, or a plain file
abbrev pub FollowsPlain : List ℕ → History → History → Option Look → Type 0
FollowsPlain path before now None = now ≡ after (Follows path None) before
FollowsPlain path before now (Some look) = (look.is_plain ≡ true) × (now ≡ after (Follows path (Some look)) before)

-- whether an open file has an owner and a group: it had them, or they were given to it
abbrev pub TakesOwner : ℕ → Owner → History → History → Bool → Type 0
TakesOwner file owner before now true =
    (look : Look) × (looked : History) × (looked ≡ after (LooksAt file look) before)
    × (((look.owner ≡ owner) × (now ≡ looked)) ⊎ (now ≡ after (GivesTo file owner) looked))
TakesOwner file owner before now false = (look : Look) × (look.owner ≢ owner) × (now ≡ after (LooksAt file look) before)

-- the mode is that of another file, but that nobody else is let in
abbrev pub TakesMode : ℕ → Look → History → History → Type 0
TakesMode file like before now =
    (owned : History) × (is_owned : Bool) × TakesOwner file like.owner before owned is_owned
    × (now ≡ after (SetsMode file (mode_like like.mode is_owned)) owned)

-- a new file is there, whose owner, group and mode are those of another
abbrev pub MakesLike : ℕ → List ℕ → Look → History → History → Type 0
MakesLike file path like before now =
    (made : History) × (owned : History) × MakesBeside file path 0 before made × TakesOwner file like.owner made owned true
    × (now ≡ after (SetsMode file like.mode) owned)

-- a new file is there: for all whom the mask lets in where nothing stood, or like the plain file that stands there
abbrev pub MakesFor : ℕ → List ℕ → Option Look → Bool → History → History → Type 0
MakesFor file path None is_there looked now = MakesBeside file path 438 looked now
MakesFor file path (Some look) is_there looked now = (look.is_plain ≡ true) × (is_there ≡ true) × MakesLike file path look looked now

-- the same, after a look at the name
abbrev pub MakesNextText : ℕ → List ℕ → List ℕ → Bool → History → History → Type 0
MakesNextText file path name is_there before now =
    (found : Option Look) × (looked : History) × (looked ≡ after (Looks name found) before) × MakesFor file path found is_there looked now

-- what takes the place of a text
abbrev pub IsText : Option Stamp → List ℕ → Old → Type 0
IsText own bytes (old.Text stamp items) = (stamp ≡ own) × (items.now ≡ bytes)
IsText own bytes other = ⊥

-- a file beside a text, a tick later than the log, that is to take its name
pub record IsNextText (path name bytes : List ℕ) (own : Option Stamp) (s : Staged) : Type 0 where
  pub is_path : s.path.now ≡ path
  pub is_name : s.name.now ≡ name
  pub is_later : s.later ≡ Some 100
  pub is_text : IsText own bytes s.old

-- nothing else has it locked, and it got all of its bytes and then the name
abbrev pub NamesText : ℕ → Option ℕ → List ℕ → List ℕ → List ℕ → Option Stamp → History → History → Named → Type 0
NamesText file log path name bytes own before now named =
    (answer : Lock) × (locked : History) × (s : Staged) × (answer ≢ lock.Others) × (locked ≡ after (Locks file answer) before)
    × IsNextText path name bytes own s × DoesAll file log s (steps_to named bytes) locked now

-- the same, with the name on the device; and it is this port's own
abbrev pub PutsBeside : ℕ → Option ℕ → List ℕ → List ℕ → List ℕ → Option Stamp → Option Stamp → History → History → Type 0
PutsBeside file log path name bytes own now_own before now =
    (answer : Lock) × (locked : History) × (put : History) × (s : Staged) × (look : Look)
    × (answer ≢ lock.Others) × (locked ≡ after (Locks file answer) before) × IsNextText path name bytes own s
    × DoesAll file log s (whole_steps bytes) locked put × (now ≡ after (LooksAt file look) put) × (now_own ≡ Some look.stamp)

-- nothing of the old text is lost, then it is written over, and it is this port's own
abbrev pub PutsInPlace : Option ℕ → List ℕ → List ℕ → Option Stamp → Option Stamp → History → History → Type 0
PutsInPlace log path bytes own now_own before now =
    (file : ℕ) × (spared : History) × (emptied : History) × (written : History) × (synced : History) × (look : Look)
    × SparesText path own bytes before spared × (emptied ≡ after (Overwrites file path) spared)
    × (written ≡ after (Adds file bytes) emptied) × SyncsDated file log (Some 100) written synced × (now ≡ after (LooksAt file look) synced) × (now_own ≡ Some look.stamp)

-- whether a text is there: then it is a plain file, which was opened to be written
abbrev pub IsThere : List ℕ → History → History → Bool → Type 0
IsThere path before now false = FollowsPlain path before now None
IsThere path before now true =
    (look : Look) × (file : ℕ) × (followed : History) × FollowsPlain path before followed (Some look) × (now ≡ after (Opens file path opening.Write) followed)

-- A new file for the text is made, gets its bytes and then the name, and is the one that is open; or the text is written
-- where it stands.
abbrev pub PutsText : Option ℕ → Option ℕ → List ℕ → List ℕ → List ℕ → Option Stamp → Option Stamp → History → History → Type 0
PutsText log text path name bytes own now_own before now =
    ((file : ℕ) × (is_there : Bool) × (seen : History) × (made : History) × IsThere name before seen is_there
    × MakesNextText file path name is_there seen made × PutsBeside file log path name bytes own now_own made now × (text ≡ Some file))
    ⊎ ((seen : History) × PutsInPlace log name bytes own now_own seen now)

-- ---- what a call that puts a text did, whatever it answers

-- The file beside did not get the name; or it did, with all of its bytes, and that may not be on the device.
abbrev pub LeavesNextText : ℕ → Option ℕ → List ℕ → List ℕ → List ℕ → Option Stamp → History → History → Type 0
LeavesNextText file log path name bytes own before now =
    WaitsBeside file path name before now
    ⊎ ((named : Named) × (put : History) × NamesText file log path name bytes own before put named × IsQuiet put now)

-- nothing was written beside; or a new file was, and it is left so
abbrev pub WritesBeside : Option ℕ → List ℕ → List ℕ → List ℕ → Option Stamp → History → History → Type 0
WritesBeside log path name bytes own before now =
    (now ≡ before) ⊎ ((file : ℕ) × (is_there : Bool) × (seen : History) × MakesNextText file path name is_there seen before
    × PutsOnlyAt file path name before now × LeavesNextText file log path name bytes own before now)

-- all of the bytes are put behind a file, which may have got its date then
abbrev pub AddsDated : ℕ → Option ℕ → List ℕ → History → History → Type 0
AddsDated file log bytes before now =
    (written : History) × (dated : History) × (written ≡ after (Adds file bytes) before) × MayDate file log (Some 100) written dated × IsQuiet dated now

-- Nothing changes; or nothing of the text is lost, and it stays, or this file, which the name stands for, is written over:
-- then it has a beginning of the bytes, or all of them, and perhaps its date.
abbrev pub WritesInPlace : ℕ → Option ℕ → List ℕ → List ℕ → Option Stamp → History → History → Type 0
WritesInPlace file log name bytes own before now =
    IsIdle before now ⊎ ((spared : History) × SparesText name own bytes before spared
    × ((now ≡ spared) ⊎ ((emptied : History) × (emptied ≡ after (Overwrites file name) spared)
    × (AddsFront file bytes emptied now ⊎ AddsDated file log bytes emptied now))))

-- A new file may be made, and be written; then this one may be written in place.
abbrev pub TriesText : ℕ → Option ℕ → List ℕ → List ℕ → List ℕ → Option Stamp → History → History → Type 0
TriesText over log path name bytes own before now =
    (made : History) × (put : History) × MakesFileAt path before made × WritesBeside log path name bytes own made put
    × WritesInPlace over log name bytes own put now

-- What is this port's own stays so; or it is the new file, which has the name with all of its bytes.
abbrev pub KeepsOwn : ℕ → Option ℕ → List ℕ → List ℕ → List ℕ → Option Stamp → Option Stamp → History → Type 0
KeepsOwn file log path name bytes own now_own now =
    (now_own ≡ own) ⊎ ((named : Named) × (before : History) × (put : History) × (look : Look)
    × NamesText file log path name bytes own before put named × (now ≡ after (LooksAt file look) put) × (now_own ≡ Some look.stamp))

-- a text without a log is this port's own if its bytes were read
abbrev pub IsOwnAlone : Option ℕ → Option Stamp → List ℕ → Option (List ℕ) → History → Type 0
IsOwnAlone text own path None now = own ≡ None
IsOwnAlone text own path (Some bytes) now = IsOwnRead text own path bytes now

-- a text beside a log is this port's own if it is dated by that log; or what it was stays
abbrev pub IsOwnBeside : {A : Type 0} → Option ℕ → List ℕ → Stamp → Option Stamp → Option Stamp → History → A → Type 0
IsOwnBeside text path log own now_own now read =
    (now_own ≡ own) ⊎ ((file : ℕ) × (look : Look) × (opened : History) × (text ≡ Some file) × OpensLocked file path opened × (now ≡ after (LooksAt file look) opened) × IsDatedBy look log.changed × (now_own ≡ Some look.stamp))
