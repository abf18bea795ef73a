-- What a note asks of the folder that its files stand in.
use Rattle.std.specs.Prelude.{◌≡◌, ◌⊎◌, ℕ, List, Option, Some, None, length}
use Rattle.mgr_port.specs.Disk.{DiskStep, steps_to, whole_steps}
use Rattle.mgr_port.specs.Folder.{History, Ends, Follows, IsQuiet, LooksAt, ReadsAll, SetsMode, after}
use Rattle.mgr_port.specs.Locks.{HoldsNext, IsTaken, OpensLocked, StandsFor, StandsForAnother}
use Rattle.mgr_port.specs.Spares.{ChangesOnlyAt, IsOfFile, IsOneOfMore, MakesWay, MayRemove, RemovesIf, WaitsBeside}
use Rattle.mgr_port.specs.Staging.{DoesAll}
use Rattle.mgr_port.specs.Texts.{TakesMode}
use Rattle.mgr_port.specs.declared.log.LeftLog.{LeftLog}
use Rattle.mgr_port.specs.declared.note.Note.{Note}
use Rattle.mgr_port.specs.declared.spare.Look.{Look}
use Rattle.mgr_port.specs.declared.staged.Named.{Named}
use Rattle.mgr_port.specs.declared.staged.Old.{Old}
use Rattle.mgr_port.specs.declared.staged.Old.TheVariants as old
use Rattle.mgr_port.specs.declared.staged.Staged.{Staged}
use Rattle.mgr_port.specs.declared.stamp.Stamp.{Stamp}

-- an open log was looked at, and it ends so at this length
abbrev pub IsLeftAt : ℕ → LeftLog → ℕ → History → History → Type 0
IsLeftAt file left size before now =
    (look : Look) × (looked : History) × (looked ≡ after (LooksAt file look) before) × (now ≡ after (Ends file size (Some left.end)) looked)
    × (left.stamp ≡ record look.stamp { length = size })

-- All of a log is read, it is left so, and a second name of it may be gone.
abbrev pub ReadsLog : ℕ → List ℕ → List ℕ → LeftLog → History → History → Type 0
ReadsLog file path bytes left before now =
    (read : History) × (ended : History) × (read ≡ after (ReadsAll file bytes) before) × IsLeftAt file left (length bytes) read ended
    × MayRemove IsOneOfMore file path ended now

-- A log is opened and held, and all of it is read; then nothing changes.
abbrev pub LoadsLog : ℕ → List ℕ → List ℕ → List ℕ → LeftLog → History → Type 0
LoadsLog file path next bytes left now =
    (locked : History) × (read : History) × OpensLocked file path locked × ReadsLog file next bytes left locked read × IsQuiet read now

-- The next log is held in the place of the log, which is not there; then nothing changes.
abbrev pub KeepsPlace : ℕ → List ℕ → List ℕ → History → Type 0
KeepsPlace file next path now = (held : History) × HoldsNext file next path held × IsQuiet held now

-- the file whose name the text took is closed, and nothing else
abbrev pub closed : {T : Type 0} → Note T → Note T
closed note = record note { text = record note.text { replaced = None } }

-- the path of such a file may be gone, if one is open
abbrev pub MayRemoveIf : (Stamp → Option Look → Type 0) → Option ℕ → List ℕ → History → History → Type 0
MayRemoveIf P None path before now = now ≡ before
MayRemoveIf P (Some file) path before now = MayRemove P file path before now

-- the file that waits at a path may be gone, and that path of a log that has another
abbrev pub Leaves : Option ℕ → Option ℕ → List ℕ → History → History → Type 0
Leaves next log path before now = (gone : History) × MayRemoveIf IsOfFile next path before gone × MayRemoveIf IsOneOfMore log path gone now

-- A path at which the next log is to stand is no second name of the log any more, and no name of it: what it has is kept.
abbrev pub MakesRoom : ℕ → List ℕ → History → History → Type 0
MakesRoom file path before now =
    (removed : History) × RemovesIf IsOneOfMore file path before removed
    × (StandsForAnother file path removed now ⊎ ((stood : History) × StandsFor file path removed stood × MakesWay path stood now))

-- the same if a log is open; else nothing is done
abbrev pub MakesRoomIf : Option ℕ → List ℕ → History → History → Type 0
MakesRoomIf None path before now = now ≡ before
MakesRoomIf (Some log) path before now = MakesRoom log path before now

-- with no text by its owner alone, and else as it
abbrev pub TakesTextRights : ℕ → Option Look → History → History → Type 0
TakesTextRights file None followed now = now ≡ after (SetsMode file 384) followed
TakesTextRights file (Some like) followed now = TakesMode file like followed now

-- a new log may be read and written as the log that stands there; or as the text
abbrev pub TakesRights : ℕ → Option Look → List ℕ → History → History → Type 0
TakesRights file (Some like) text before now = TakesMode file like before now
TakesRights file None text before now =
    (found : Option Look) × (followed : History) × (followed ≡ after (Follows text found) before) × TakesTextRights file found followed now

-- what stands under the name of a log
abbrev pub old_for : Option Look → Old
old_for None = old.Nothing
old_for (Some look) = old.Log

-- the next log has its rights, before these steps
abbrev pub NamesLog : ℕ → Option ℕ → List ℕ → List ℕ → List ℕ → Option Look → List DiskStep → History → History → Type 0
NamesLog file log path name text standing steps before now =
    (righted : History) × (s : Staged) × TakesRights file standing text before righted
    × (s.path.now ≡ path) × (s.name.now ≡ name) × (s.later ≡ None) × (s.old ≡ old_for standing) × DoesAll file log s steps righted now

-- the next log is held, and named by these steps
abbrev pub PutsLog : Option ℕ → ℕ → List ℕ → List ℕ → List ℕ → Option Look → List DiskStep → History → History → Type 0
PutsLog old file path name text standing steps before put =
    (roomy : History) × (taken : History) × MakesRoomIf old path before roomy × IsTaken file path roomy taken × ChangesOnlyAt path roomy taken
    × NamesLog file old path name text standing steps taken put

-- it gets all of its bytes, and then the name, which is on the device; and it is left so
abbrev pub MakesLog : Option ℕ → ℕ → List ℕ → List ℕ → List ℕ → Option Look → List ℕ → LeftLog → History → History → Type 0
MakesLog old file path name text standing lines left before now =
    (put : History) × (look : Look) × (looked : History) × PutsLog old file path name text standing (whole_steps lines) before put
    × (looked ≡ after (LooksAt file look) put) × IsLeftAt file left look.stamp.length looked now

-- It was taken, and did not get the name; or it did, with all of its bytes, and that may not be on the device.
abbrev pub LeavesNext : ℕ → Option ℕ → List ℕ → List ℕ → List ℕ → Option Look → List ℕ → History → History → Type 0
LeavesNext file old path name text standing lines before now =
    ((begun : History) × (taken : History) × ChangesOnlyAt path before taken × IsTaken file path begun taken × WaitsBeside file path name taken now)
    ⊎ ((named : Named) × (begun : History) × (put : History) × PutsLog old file path name text standing (steps_to named lines) begun put × IsQuiet put now)

-- the same, or none was taken
abbrev pub LeavesLog : Option ℕ → List ℕ → List ℕ → List ℕ → Option Look → List ℕ → History → History → Type 0
LeavesLog old path name text standing lines before now =
    ChangesOnlyAt path before now ⊎ ((file : ℕ) × LeavesNext file old path name text standing lines before now)
