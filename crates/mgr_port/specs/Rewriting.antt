-- What a log that is written anew asks of a folder.
use Rattle.std.specs.Prelude.{◌≡◌, ◌⊎◌, ℕ, List, [], ◌∷◌, Bool, true, false, Some, None, if◌then◌else◌}
use Rattle.mgr_port.specs.Disk.{last_steps}
use Rattle.mgr_port.specs.Folder.{History, Adds, EndsInNewline, LooksAt, Opens, Syncs, SyncsFolder, after}
use Rattle.mgr_port.specs.Locks.{IsHeldEmpty, OpensBeside, OpensLocked, ShowsPlain}
use Rattle.mgr_port.specs.Spares.{ChangesOnlyAt, IsOneOfMore, MayRemove, WaitsBeside}
use Rattle.mgr_port.specs.Staging.{DoesAll}
use Rattle.mgr_port.specs.Texts.{TakesMode}
use Rattle.mgr_port.specs.declared.folder.Opening.TheVariants as opening
use Rattle.mgr_port.specs.declared.spare.Look.{Look}
use Rattle.mgr_port.specs.declared.staged.Named.{Named}
use Rattle.mgr_port.specs.declared.staged.Named.TheVariants as named
use Rattle.mgr_port.specs.declared.staged.Old.TheVariants as old
use Rattle.mgr_port.specs.declared.staged.Staged.{Staged}

-- a log is opened and locked, may be written, and nothing of it is read or refused
abbrev pub OpensToRewrite : ℕ → List ℕ → ℕ → Bool → History → Type 0
OpensToRewrite file path read refused now =
    (other : ℕ) × (opened : History) × OpensLocked file path opened × (now ≡ after (Opens other path opening.Write) opened) × (read ≡ 0) × (refused ≡ false)

-- a file has the owner and the rights of another, if it is new
abbrev pub TakesIfNew : ℕ → ℕ → Bool → History → History → Type 0
TakesIfNew file log true before now = now ≡ before
TakesIfNew file log false before now = (like : Look) × (looked : History) × (looked ≡ after (LooksAt log like) before) × TakesMode file like looked now

-- a file was opened so
abbrev pub IsBeside : ℕ → List ℕ → History → Type 0
IsBeside file path now = (before : History) × OpensBeside file path before now

-- what was refused of a log has a plain file, or gets a new one, like the log
unfoldable pub OpensRefused : ℕ → ℕ → List ℕ → History → History → Type 0
OpensRefused file log path before now =
    (is_there : Bool) × (shown : History) × (opened : History)
    × ShowsPlain path before shown is_there × OpensBeside file path shown opened × TakesIfNew file log is_there opened now

-- the last line of a file has its newline
unfoldable pub EndsLine : ℕ → History → History → Type 0
EndsLine file before now =
    (look : Look) × (looked : History) × (looked ≡ after (LooksAt file look) before)
    × (((look.stamp.length ≡ 0) × (now ≡ looked)) ⊎ (now ≡ after (EndsInNewline file look.stamp.length true) looked)
    ⊎ ((asked : History) × (asked ≡ after (EndsInNewline file look.stamp.length false) looked) × (now ≡ after (Adds file (10 ∷ [])) asked)))

-- they are behind it, and on the device under its name
abbrev pub KeepsRefused : ℕ → List ℕ → List ℕ → History → History → Type 0
KeepsRefused log path bytes before now =
    (file : ℕ) × (opened : History) × (ended : History) × (written : History) × (synced : History)
    × OpensRefused file log path before opened × EndsLine file opened ended × (written ≡ after (Adds file bytes) ended)
    × (synced ≡ after (Syncs file) written) × (now ≡ after (SyncsFolder path) synced)

-- Another name of a log may be gone. Then an empty file is held there, like the log.
abbrev pub MakesNextLog : ℕ → ℕ → List ℕ → History → History → Type 0
MakesNextLog file log path before now =
    (removed : History) × (held : History) × (like : Look) × (looked : History) × MayRemove IsOneOfMore log path before removed
    × ChangesOnlyAt path removed held × IsHeldEmpty file path held × (looked ≡ after (LooksAt log like) held) × TakesMode file like looked now

-- What was written beside is on the device, with the date of the log if nothing of that is refused. The log stands there as
-- it was read, and is kept; then the file has its name, which may be on the device too.
abbrev pub NamesReadBy : ℕ → ℕ → List ℕ → List ℕ → ℕ → Bool → Named → History → History → Type 0
NamesReadBy file log path name read refused named before now =
    (s : Staged) × (s.path.now ≡ path) × (s.name.now ≡ name) × (s.later ≡ (if refused then None else Some 0)) × (s.old ≡ old.Read read)
    × DoesAll file (Some log) s (last_steps named) before now

-- it is
abbrev pub NamesRead : ℕ → ℕ → List ℕ → List ℕ → ℕ → Bool → History → History → Type 0
NamesRead file log path name read refused before now = NamesReadBy file log path name read refused named.Settled before now

-- the file does not get the name of the log, or so
abbrev pub LeavesRead : ℕ → ℕ → List ℕ → List ℕ → ℕ → Bool → History → History → Type 0
LeavesRead file log path name read refused before now =
    WaitsBeside file path name before now ⊎ ((named : Named) × NamesReadBy file log path name read refused named before now)
