-- What a folder is asked for each step by which a file beside gets new bytes, and a name.
use Rattle.std.specs.Prelude.{◌≡◌, ◌⊎◌, ℕ, List, [], ◌∷◌, Option, Some, None}
use Rattle.mgr_port.specs.Disk.{DiskStep, BeginsSteps}
use Rattle.mgr_port.specs.Disk as disk
use Rattle.mgr_port.specs.Folder.{History, IsIdle, Adds, Dates, Renames, after}
use Rattle.mgr_port.specs.Folder as folder
use Rattle.mgr_port.specs.Locks.{StandsAsRead}
use Rattle.mgr_port.specs.Spares.{IsKept, IsOfFile, GivesFreeName, MayRemove, SparesText}
use Rattle.mgr_port.specs.declared.spare.Reason.{Reason}
use Rattle.mgr_port.specs.declared.staged.Named.{Named}
use Rattle.mgr_port.specs.declared.staged.Named.TheVariants as named
use Rattle.mgr_port.specs.declared.staged.Old.{Old}
use Rattle.mgr_port.specs.declared.staged.Old.TheVariants as old
use Rattle.mgr_port.specs.declared.staged.Staged.{Staged}

-- a name that is on the device
abbrev pub IsSettled : Named → Type 0
IsSettled named.Settled = Unit {0}
IsSettled (named.Unsettled error) = ⊥

-- a file may be dated by a log; a folder may keep no dates
abbrev pub MayDate : ℕ → Option ℕ → Option ℕ → History → History → Type 0
MayDate file log None before now = now ≡ before
MayDate file log (Some later) before now = (now ≡ before) ⊎ ((of : ℕ) × (log ≡ Some of) × (now ≡ after (Dates file of later) before))

-- the file is on the device, with a date if it may have one
abbrev pub SyncsDated : ℕ → Option ℕ → Option ℕ → History → History → Type 0
SyncsDated file log later before now = (dated : History) × MayDate file log later before dated × (now ≡ after (folder.Syncs file) dated)

-- Nothing stood under the name, so far as was seen; or what stands there is kept, or nothing of it is lost. A log that was
-- read stood there as it was read.
abbrev pub KeepsOld : Option ℕ → Old → List ℕ → History → History → Type 0
KeepsOld log old.Nothing name before now = now ≡ before
KeepsOld log old.Log name before now = (why : Reason) × IsKept why name before now
KeepsOld log (old.Text own bytes) name before now = SparesText name own bytes.now before now
KeepsOld log (old.Read length) name before now =
    (why : Reason) × (checked : History) × StandsAsRead log name length before checked × IsKept why name checked now

-- The file takes the name that nothing has; or that which is given to it, and has its own no more.
abbrev pub TakesOld : Old → List ℕ → List ℕ → History → History → Type 0
TakesOld old.Nothing path name before now = GivesFreeName path name before now
TakesOld other path name before now = now ≡ after (Renames path name) before

-- the file beside, and the log by which it is dated, or that was read
module _ (file : ℕ) (log : Option ℕ) where
  -- what is done for a step
  abbrev pub Does : Staged → DiskStep → History → History → Type 0
  Does s disk.Empties before now = now ≡ after (folder.Empties file) before
  Does s (disk.Writes bytes) before now = now ≡ after (Adds file bytes) before
  Does s disk.Syncs before now = SyncsDated file log s.later before now
  Does s disk.Keeps before now = KeepsOld log s.old s.name.now before now
  Does s disk.TakesName before now = TakesOld s.old s.path.now s.name.now before now
  Does s disk.SyncsFolder before now = now ≡ after (folder.SyncsFolder s.name.now) before
  Does s disk.Removes before now = MayRemove IsOfFile file s.path.now before now

  -- what is done for each of these, in their order, and nothing else
  abbrev pub DoesAll : Staged → List DiskStep → History → History → Type 0
  DoesAll s [] before now = now ≡ before
  DoesAll s (step ∷ []) before now = Does s step before now
  DoesAll s (step ∷ next ∷ later) before now = (done : History) × Does s step before done × DoesAll s (next ∷ later) done now

  -- The first of these steps were done, and of the next one, if it is a write, perhaps a part. Then the file may have got its
  -- date, and nothing else changed.
  pub record StopsBefore (s : Staged) (wanted : List DiskStep) (before now : History) : Type 0 where
    pub made : List DiskStep
    pub done : History
    pub begins : BeginsSteps made wanted
    pub does : DoesAll s made before done
    pub dated : History
    pub may : MayDate file log s.later done dated
    pub idle : IsIdle dated now
