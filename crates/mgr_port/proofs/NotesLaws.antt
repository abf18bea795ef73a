-- What a note asks of the folder that its files stand in.
use Rattle.std.proofs.Common.{◌≡◌, ◌⊎◌, inl, inr, ℕ, Bool, false, List, Option, Some, None, Result, Ok, Err, IfOk, IfSome, OnErr, OnOk, refl, ap, subst, sym, ◌∙◌}
use Rattle.std.specs.Option.{option_map}
use Rattle.std.specs.Prelude.{IsSomeAnd, is_some, string_bytes}
use Rattle.mgr_port.specs.Disk.{DiskStep, steps_to}
use Rattle.mgr_port.specs.Folder.{History, Follows, IsQuiet, LooksAt, after}
use Rattle.mgr_port.specs.Growth.{IsAdded}
use Rattle.mgr_port.specs.Locks.{IsTaken, OpensLocked}
use Rattle.mgr_port.specs.Notes.{IsLeftAt, LeavesLog, LoadsLog, MakesLog, MakesRoom, MakesRoomIf, NamesLog, PutsLog, ReadsLog, TakesRights, old_for}
use Rattle.mgr_port.specs.Spares.{ChangesOnlyAt, MakesFileAt, PutsOnlyAt, WaitsBeside}
use Rattle.mgr_port.specs.Staging.{DoesAll, IsSettled}
use Rattle.mgr_port.specs.Texts.{IsOwnBeside, KeepsOwn, LeavesNextText, MakesNextText, NamesText, PutsBeside, PutsInPlace, PutsText, TriesText, WritesBeside, WritesInPlace}
use Rattle.mgr_port.specs.declared.log.LeftLog.{LeftLog}
use Rattle.mgr_port.specs.declared.names.Paths.{Paths}
use Rattle.mgr_port.specs.declared.spare.Look.{Look}
use Rattle.mgr_port.specs.declared.staged.Named.{Named}
use Rattle.mgr_port.specs.declared.staged.Named.TheVariants as named
use Rattle.mgr_port.specs.declared.staged.Staged.{Staged}
use Rattle.mgr_port.specs.declared.stamp.Stamp.{Stamp}

-- the next log has its rights, and the name
pub named_log : {E : Type 0} (r : Result Named E) (file : ℕ) (log : Option ℕ) (s : Staged) (path name text spelled : List ℕ) (standing : Option Look) (lines : List ℕ) (before righted now : History)
    → spelled ≡ text → TakesRights file standing spelled before righted → s.path.now ≡ path → s.name.now ≡ name → s.later ≡ None → s.old ≡ old_for standing
    → IfOk r (λ named. DoesAll file log s (steps_to named lines) righted now) → IfOk r (λ named. NamesLog file log path name text standing (steps_to named lines) before now)
named_log (Err e) file log s path name text spelled standing lines before righted now is rights is_path is_name is_later is_old does = tt
named_log (Ok n) file log s path name text spelled standing lines before righted now is rights is_path is_name is_later is_old does =
    (righted, s, subst (λ t. TakesRights file standing t before righted) is rights, is_path, is_name, is_later, is_old, does)

-- the next log was held, and has the name
pub put_log : (was log : Option ℕ) (file : ℕ) (path spelled name text : List ℕ) (standing : Option Look) (steps : List DiskStep) (before roomy taken put : History)
    → spelled ≡ path → log ≡ was → MakesRoomIf was path before roomy → IsTaken file spelled roomy taken → ChangesOnlyAt spelled roomy taken → NamesLog file log path name text standing steps taken put
    → PutsLog was file path name text standing steps before put
put_log was log file path spelled name text standing steps before roomy taken put is known room took only named = (
  roomy,
  taken,
  room,
  subst (λ p. IsTaken file p roomy taken) is took,
  subst (λ p. ChangesOnlyAt p roomy taken) is only,
  subst (λ l. NamesLog file l path name text standing steps taken put) known named,
)

-- and that is on the device
pub made_log : {A E : Type 0} (r : Result A E) (n : Named) (was : Option ℕ) (file : ℕ) (path name text : List ℕ) (standing : Option Look) (lines : List ℕ) (left : LeftLog) (before put looked now : History) (look : Look)
    → OnOk r (IsSettled n) → PutsLog was file path name text standing (steps_to n lines) before put → looked ≡ after (LooksAt file look) put → IsLeftAt file left look.stamp.length looked now
    → OnOk r (MakesLog was file path name text standing lines left before now)
made_log (Err e) n was file path name text standing lines left before put looked now look settled puts step leaves = tt
made_log (Ok x) named.Settled was file path name text standing lines left before put looked now look settled puts step leaves = (put, look, looked, puts, step, leaves)
made_log (Ok x) (named.Unsettled error) was file path name text standing lines left before put looked now look settled puts step leaves = absurd settled

-- or may not be
pub left_log : {A E : Type 0} (r : Result A E) (n : Named) (was : Option ℕ) (file : ℕ) (path name text : List ℕ) (standing : Option Look) (lines : List ℕ) (before put now : History)
    → PutsLog was file path name text standing (steps_to n lines) before put → IsQuiet put now → OnErr r (LeavesLog was path name text standing lines before now)
left_log (Ok x) n was file path name text standing lines before put now puts quiet = tt
left_log (Err e) n was file path name text standing lines before put now puts quiet = inr (file, inr (n, before, put, puts, quiet))

-- it waited when that was tried
pub left_waiting : (was : Option ℕ) (file : ℕ) (path spelled name text : List ℕ) (standing : Option Look) (lines : List ℕ) (before begun taken now : History) → spelled ≡ path
    → ChangesOnlyAt path before taken → IsTaken file spelled begun taken → WaitsBeside file path name taken now → LeavesLog was path name text standing lines before now
left_waiting was file path spelled name text standing lines before begun taken now is only took waits = inr (file, inl (begun, taken, only, subst (λ p. IsTaken file p begun taken) is took, waits))

-- none was taken
pub left_early : {A E : Type 0} (r : Result A E) (was : Option ℕ) (path name text : List ℕ) (standing : Option Look) (lines : List ℕ) (before now : History)
    → ChangesOnlyAt path before now → OnErr r (LeavesLog was path name text standing lines before now)
left_early (Ok x) was path name text standing lines before now only = tt
left_early (Err e) was path name text standing lines before now only = inl only

-- the same after a look
pub left_once_seen : {A E : Type 0} (r : Result A E) (was known : Option ℕ) (path name spelled text : List ℕ) (found standing : Option Look) (lines : List ℕ) (before looked now : History)
    → was ≡ known → spelled ≡ name → found ≡ standing → looked ≡ after (Follows spelled found) before
    → OnErr r (LeavesLog was path name text standing lines looked now) → OnErr r (IsQuiet before now ⊎ LeavesLog known path name text standing lines (after (Follows name standing) before) now)
left_once_seen (Ok x) was known path name spelled text found standing lines before looked now is same seen step leaves = tt
left_once_seen (Err e) was known path name spelled text found standing lines before looked now is same seen step leaves =
    inr (subst (λ l. LeavesLog l path name text standing lines (after (Follows name standing) before) now) is
    (subst (λ h. LeavesLog was path name text standing lines h now) (step ∙ ap (λ p. after (Follows p found) before) same ∙ ap (λ l. after (Follows name l) before) seen) leaves))

pub left_of_what_stands : {A E : Type 0} (r : Result A E) (Q : Type 0) (P : Option Look → Type 0) (standing : Option Look) → OnErr r (Q ⊎ P standing) → OnErr r (Q ⊎ ((found : Option Look) × P found))
left_of_what_stands (Ok x) Q P standing leaves = tt
left_of_what_stands (Err e) Q P standing (inl same) = inl same
left_of_what_stands (Err e) Q P standing (inr leaves) = inr (standing, leaves)

-- the log that is open has made room
pub room_made : {A B E : Type 0} (r : Result A E) (o : Option B) (log : B) (file_of : B → ℕ) (path spelled : List ℕ) (a b : History) → o ≡ Some log → spelled ≡ path
    → OnOk r (MakesRoom (file_of log) spelled a b) → OnOk r (MakesRoomIf (option_map file_of o) path a b)
room_made r o log file_of path spelled a b is same made =
    subst (λ (p : Option _). OnOk r (MakesRoomIf (option_map file_of p) path a b)) (sym is) (subst (λ p. OnOk r (MakesRoom (file_of log) p a b)) same made)

-- the same once it was looked at what stands there
pub made_after_look : {A B E : Type 0} (r : Result A E) (o : Option B) (file_of : B → ℕ) (left_of : B → LeftLog) (was known : Option ℕ) (path name spelled text : List ℕ) (found standing : Option Look) (lines : List ℕ) (before looked now : History)
    → was ≡ known → spelled ≡ name → found ≡ standing → looked ≡ after (Follows spelled found) before
    → OnOk r (IsSomeAnd o (λ log. MakesLog was (file_of log) path name text standing lines (left_of log) looked now))
    → OnOk r (IsSomeAnd o (λ log. MakesLog known (file_of log) path name text standing lines (left_of log) (after (Follows name standing) before) now))
made_after_look r o file_of left_of was known path name spelled text found standing lines before looked now is same seen step made =
    subst (λ b. OnOk r (IsSomeAnd o (λ log. MakesLog b (file_of log) path name text standing lines (left_of log) (after (Follows name standing) before) now))) is
    (subst (λ h. OnOk r (IsSomeAnd o (λ log. MakesLog was (file_of log) path name text standing lines (left_of log) h now))) (step ∙ ap (λ p. after (Follows p found) before) same ∙ ap (λ l. after (Follows name l) before) seen) made)

-- whatever stood there
pub made_of_what_stands : {A B E : Type 0} (r : Result A E) (o : Option B) (P : Option Look → B → Type 0) (standing : Option Look) → OnOk r (IsSomeAnd o (P standing)) → OnOk r (IsSomeAnd o (λ log. (found : Option Look) × P found log))
made_of_what_stands (Err e) o P standing made = tt
made_of_what_stands (Ok x) None P standing made = absurd made
made_of_what_stands (Ok x) (Some log) P standing made = (standing, made)

pub none_stands : {A : Type 0} (o : Option A) → is_some o ≡ false → o ≡ None
none_stands None e = refl
none_stands (Some x) e = absurd cc

-- lines are added to the log that is open
pub added_to : {T A B E : Type 0} (r : Result A E) (o : Option B) (log : B) (file : B → T) (file_of : T → ℕ) (left_of : B → LeftLog) (kept : T) (longer : LeftLog) (path spelled lines : List ℕ) (a b : History)
    → o ≡ Some log → spelled ≡ path → kept ≡ file log → OnOk r (IsAdded (file_of (file log)) spelled (left_of log) lines longer a b)
    → OnOk r (IfSome o (λ old. (kept ≡ file old) × IsAdded (file_of (file old)) path (left_of old) lines longer a b))
added_to (Err e) o log file file_of left_of kept longer path spelled lines a b is same stays added = tt
added_to (Ok x) o log file file_of left_of kept longer path spelled lines a b is same stays added =
    subst (λ p. IfSome p (λ old. (kept ≡ file old) × IsAdded (file_of (file old)) path (left_of old) lines longer a b)) (sym is)
    (stays, subst (λ p. IsAdded (file_of (file log)) p (left_of log) lines longer a b) same added)

-- a log was opened and held, and all of it read
pub loaded : {A : Type 0} (o : Option A) (file read : A) (file_of : A → ℕ) (path next spelled bytes : List ℕ) (left : LeftLog) (a b c : History) → o ≡ Some file
    → IfSome o (λ f. OpensLocked (file_of f) path a) → spelled ≡ next → read ≡ file → ReadsLog (file_of file) spelled bytes left a b → IsQuiet b c
    → LoadsLog (file_of read) path next bytes left c
loaded o file read file_of path next spelled bytes left a b c there opened is same reads quiet =
    subst (λ f. LoadsLog (file_of f) path next bytes left c) (sym same)
    (a, b, subst (λ p. IfSome p (λ f. OpensLocked (file_of f) path a)) there opened, subst (λ n. ReadsLog (file_of file) n bytes left a b) is reads, quiet)

-- under the paths that the note still has
pub loaded_there : {B : Type 0} (o : Option (List ℕ)) (l : Option B) (file_of : B → ℕ) (left_of : B → LeftLog) (p q : Paths) (now : History) → p ≡ q
    → IfSome o (λ bytes. IsSomeAnd l (λ log. LoadsLog (file_of log) (string_bytes p.log) (string_bytes p.next_log) bytes (left_of log) now))
    → IfSome o (λ bytes. IsSomeAnd l (λ log. LoadsLog (file_of log) (string_bytes q.log) (string_bytes q.next_log) bytes (left_of log) now))
loaded_there o l file_of left_of p q now is read =
    subst (λ (r : Paths). IfSome o (λ bytes. IsSomeAnd l (λ log. LoadsLog (file_of log) (string_bytes r.log) (string_bytes r.next_log) bytes (left_of log) now))) is read

-- and the text beside it is this port's own by the same
pub owned_there : {B : Type 0} (o : Option (List ℕ)) (l : Option B) (left_of : B → LeftLog) (file : Option ℕ) (p q : Paths) (own known now_own : Option Stamp) (now : History) → p ≡ q → own ≡ known
    → IfSome o (λ bytes. IsSomeAnd l (λ log. IsOwnBeside file (string_bytes p.text) (left_of log).stamp own now_own now bytes))
    → IfSome o (λ bytes. IsSomeAnd l (λ log. IsOwnBeside file (string_bytes q.text) (left_of log).stamp known now_own now bytes))
owned_there o l left_of file p q own known now_own now is same owned =
    subst (λ (r : Paths). IfSome o (λ bytes. IsSomeAnd l (λ log. IsOwnBeside file (string_bytes r.text) (left_of log).stamp known now_own now bytes))) is
    (subst (λ (k : Option Stamp). IfSome o (λ bytes. IsSomeAnd l (λ log. IsOwnBeside file (string_bytes p.text) (left_of log).stamp k now_own now bytes))) same owned)

-- ---- a text

-- it has its name, on the device
pub put_beside : {A E : Type 0} (r : Result A E) (n : Named) (file : ℕ) (log : Option ℕ) (path name bytes : List ℕ) (own : Option Stamp) (before put now : History) (look : Look) → OnOk r (IsSettled n)
    → NamesText file log path name bytes own before put n → now ≡ after (LooksAt file look) put → OnOk r (PutsBeside file log path name bytes own (Some look.stamp) before now)
put_beside (Err e) n file log path name bytes own before put now look settled named step = tt
put_beside (Ok x) named.Settled file log path name bytes own before put now look settled (answer, locked, s, free, tried, is, does) step =
    (answer, locked, put, s, look, free, tried, is, does, step, refl)
put_beside (Ok x) (named.Unsettled error) file log path name bytes own before put now look settled named step = absurd settled

-- it was written where it stands
pub put_in_place : {A E : Type 0} (r : Result A E) (log text : Option ℕ) (path name spelled bytes : List ℕ) (own now_own : Option Stamp) (before seen now : History) → spelled ≡ name
    → OnOk r (PutsInPlace log spelled bytes own now_own seen now) → OnOk r (PutsText log text path name bytes own now_own before now)
put_in_place (Err e) log text path name spelled bytes own now_own before seen now same puts = tt
put_in_place (Ok x) log text path name spelled bytes own now_own before seen now same puts =
    inr (seen, subst (λ p. PutsInPlace log p bytes own now_own seen now) same puts)

-- a new file was made for it, and written
pub tried_beside : {A : Type 0} (o : Option A) (next : A) (file_of : A → ℕ) (log : Option ℕ) (path name bytes : List ℕ) (own : Option Stamp) (is_there : Bool) (seen made put : History) → o ≡ Some next
    → IfSome o (λ file. MakesNextText (file_of file) path name is_there seen made) → PutsOnlyAt (file_of next) path name made put → LeavesNextText (file_of next) log path name bytes own made put
    → WritesBeside log path name bytes own made put
tried_beside o next file_of log path name bytes own is_there seen made put there makes puts leaves =
    inr (file_of next, is_there, seen, subst (λ p. IfSome p (λ file. MakesNextText (file_of file) path name is_there seen made)) there makes, puts, leaves)

-- or it was tried to write it where it stands
pub tried_in_place : (log : Option ℕ) (path name spelled bytes : List ℕ) (own : Option Stamp) (before made put now : History) → spelled ≡ name → MakesFileAt path before made
    → WritesBeside log path name bytes own made put → (over : ℕ) × WritesInPlace over log spelled bytes own put now → (over : ℕ) × TriesText over log path name bytes own before now
tried_in_place log path name spelled bytes own before made put now same makes beside (over, writes) = (over, (made, put, makes, beside, subst (λ n. WritesInPlace over log n bytes own put now) same writes))

-- beside the log of the note
pub tried_beside_log : (log known : Option ℕ) (path name bytes : List ℕ) (own : Option Stamp) (before now : History) → log ≡ known → (over : ℕ) × TriesText over log path name bytes own before now
    → (over : ℕ) × TriesText over known path name bytes own before now
tried_beside_log log known path name bytes own before now is (over, tries) = (over, subst (λ l. TriesText over l path name bytes own before now) is tries)

pub kept_beside_log : {A E : Type 0} (r : Result A E) (log known : Option ℕ) (path name bytes : List ℕ) (own now_own : Option Stamp) (now : History) → log ≡ known
    → OnErr r ((file : ℕ) × KeepsOwn file log path name bytes own now_own now) → OnErr r ((file : ℕ) × KeepsOwn file known path name bytes own now_own now)
kept_beside_log (Ok x) log known path name bytes own now_own now is kept = tt
kept_beside_log (Err e) log known path name bytes own now_own now is (file, kept) = (file, subst (λ l. KeepsOwn file l path name bytes own now_own now) is kept)
