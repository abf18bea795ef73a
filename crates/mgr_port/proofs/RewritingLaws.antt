-- What a log that is written anew asks of a folder.
use Rattle.std.proofs.Common.{◌≡◌, ℕ, List, [], ◌∷◌, Bool, true, false, Some, None, Result, Ok, Err, IfOk, OnOk, refl, sym, subst}
use Rattle.std.specs.Prelude.{if◌then◌else◌}
use Rattle.mgr_port.specs.Disk as disk
use Rattle.mgr_port.specs.Disk.{last_steps}
use Rattle.mgr_port.specs.Folder.{History, LooksAt, after}
use Rattle.mgr_port.specs.Locks.{OpensBeside, ShowsPlain}
use Rattle.mgr_port.specs.Rewriting.{NamesRead, OpensRefused, TakesIfNew}
use Rattle.mgr_port.specs.Staging.{DoesAll, IsSettled}
use Rattle.mgr_port.specs.Texts.{TakesMode}
use Rattle.mgr_port.specs.declared.spare.Look.{Look}
use Rattle.mgr_port.specs.declared.staged.Named.{Named}
use Rattle.mgr_port.specs.declared.staged.Named.TheVariants as named
use Rattle.mgr_port.specs.declared.staged.Old.TheVariants as old
use Rattle.mgr_port.specs.declared.staged.Staged.{Staged}

-- what was refused of a log had no file, and has a new one
pub opened_new : (file log : ℕ) (path : List ℕ) (is_there : Bool) (like : Look) (a b d e f : History) → ShowsPlain path a b is_there → is_there ≡ false → OpensBeside file path b d
    → e ≡ after (LooksAt log like) d → TakesMode file like e f → OpensRefused file log path a f
unfolding OpensRefused
opened_new file log path is_there like a b d e f shown is opened looked mode =
    (is_there, b, d, shown, opened, subst (λ is. TakesIfNew file log is d f) (sym is) (like, e, looked, mode))

-- it had one, which is opened
pub opened_there : {A E : Type 0} (r : Result A E) (file_of : A → ℕ) (log : ℕ) (path : List ℕ) (is_there : Bool) (a b c : History) → ShowsPlain path a b is_there → is_there ≡ true
    → IfOk r (λ file. OpensBeside (file_of file) path b c) → IfOk r (λ file. OpensRefused (file_of file) log path a c)
unfolding OpensRefused
opened_there (Err e) file_of log path is_there a b c shown is opened = tt
opened_there (Ok file) file_of log path is_there a b c shown is opened = (is_there, b, c, shown, opened, subst (λ is. TakesIfNew (file_of file) log is c c) (sym is) refl)

-- the last steps were done, and the name is on the device
pub settled_steps : (file log : ℕ) (s : Staged) (n : Named) (a b : History) → IsSettled n → DoesAll file (Some log) s (last_steps n) a b
    → DoesAll file (Some log) s (disk.Syncs ∷ disk.Keeps ∷ disk.TakesName ∷ disk.SyncsFolder ∷ []) a b
settled_steps file log s named.Settled a b settled does = does
settled_steps file log s (named.Unsettled error) a b settled does = absurd settled

pub named_read : {A E : Type 0} (file log : ℕ) (r : Result A E) (n : Named) (s : Staged) (path name : List ℕ) (read : ℕ) (refused : Bool) (a b : History) → OnOk r (IsSettled n)
    → s.path.now ≡ path → s.name.now ≡ name → s.later ≡ (if refused then None else Some 0) → s.old ≡ old.Read read → DoesAll file (Some log) s (last_steps n) a b
    → OnOk r (NamesRead file log path name read refused a b)
named_read file log (Err e) n s path name read refused a b settled is_path is_name is_later is_old does = tt
named_read file log (Ok x) n s path name read refused a b settled is_path is_name is_later is_old does =
    (s, is_path, is_name, is_later, is_old, settled_steps file log s n a b settled does)
