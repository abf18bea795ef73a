-- Steps that change something at one path alone, one after another.
use Rattle.std.proofs.Common.{◌≡◌, ◌⊎◌, inl, inr, ◌∙◌, ℕ, Bool, true, false, List, [], ◌∷◌, Option, Some, None, Result, Ok, Err, IfOk, OnErr, OnOk, ◌++◌, refl, sym, subst}
use Rattle.mgr_port.specs.Disk.{DiskStep, BeginsSteps}
use Rattle.mgr_port.specs.Disk as disk
use Rattle.mgr_port.specs.Folder.{History, FolderStep, Adds, Dates, Empties, Follows, GivesTo, Links, Looks, LooksAt, Makes, Reads, Removes, Renames, Syncs, SyncsFolder, AreAll, IsIdle, IsQuiet, IsQuietStep, Only, Steps, Writes, after}
use Rattle.mgr_port.specs.Growth.{AddsFront, IsAdded}
use Rattle.mgr_port.specs.Locks.{MakesBeside}
use Rattle.mgr_port.specs.Notes.{Leaves, MayRemoveIf}
use Rattle.mgr_port.specs.Spares.{ChangesOnlyAt, GivesFreeName, IsKept, IsNoFile, IsNothing, IsOfFile, IsOneOfMore, IsRightsStep, IsShown, IsSpare, IsNamingStep, IsStepAt, IsStepBeside, IsWaitingStep, FitsAt, FitsTaken, MakesFileAt, MakesWay, MayBeGiven, MayBeKept, MayGo, MayRemove, PutsOnlyAt, PutsOnlyBeside, SetsRights, SparesText, WaitsBeside}
use Rattle.mgr_port.specs.Staging.{Does, DoesAll, KeepsOld, MayDate, StopsBefore, SyncsDated, TakesOld}
use Rattle.mgr_port.specs.Texts.{AddsDated, TakesOwner}
use Rattle.mgr_port.specs.declared.spare.Owner.{Owner}
use Rattle.mgr_port.specs.declared.staged.Named.{Named}
use Rattle.mgr_port.specs.declared.staged.Old.{Old}
use Rattle.mgr_port.specs.declared.staged.Old.TheVariants as old
use Rattle.mgr_port.specs.declared.staged.Staged.{Staged}
use Rattle.mgr_port.specs.declared.log.LeftLog.{LeftLog}
use Rattle.mgr_port.specs.declared.spare.Look.{Look}
use Rattle.mgr_port.specs.declared.spare.Reason.{Reason}
use Rattle.mgr_port.specs.declared.spare.Reason.TheVariants as reason
use Rattle.mgr_port.specs.declared.stamp.Stamp.{Stamp}
use Rattle.mgr_port.proofs.BytesLaws.{longer_quiet, shown_quiet}
use Rattle.mgr_port.proofs.FolderLaws.{idle_follow, idle_follow_read, idle_is_quiet, only_chain, only_more, only_none}

all_of : {P Q : FolderStep → Type 0} (steps : List FolderStep) → ((step : FolderStep) → P step → Q step) → AreAll P steps → AreAll Q steps
all_of [] f all = tt
all_of (step ∷ steps) f (one, all) = (f step one, all_of steps f all)

only_of : {P Q : FolderStep → Type 0} (a b : History) → ((step : FolderStep) → P step → Q step) → Only P a b → Only Q a b
only_of a b f i = record { seen = i.seen; all = all_of i.seen f i.all; is = i.is }

pub at_idle : (path : List ℕ) (a b : History) → IsIdle a b → ChangesOnlyAt path a b
at_idle path a b idle = only_of a b (λ step is. inl (idle_is_quiet step is)) idle

pub at_quiet : (path : List ℕ) (a b : History) → IsQuiet a b → ChangesOnlyAt path a b
at_quiet path a b quiet = only_of a b (λ step is. inl is) quiet

pub at_none : (path : List ℕ) (a b : History) → b ≡ a → ChangesOnlyAt path a b
at_none path a b is = only_none a b is

pub at_path : (spelled path : List ℕ) (a b : History) → spelled ≡ path → ChangesOnlyAt spelled a b → ChangesOnlyAt path a b
at_path spelled path a b is only = subst (λ p. ChangesOnlyAt p a b) is only

pub at_chain : (path : List ℕ) (a b c : History) → ChangesOnlyAt path a b → ChangesOnlyAt path b c → ChangesOnlyAt path a c
at_chain path a b c one two = only_chain a b c one two

-- one step that is looked at, and one that changes something
pub then_look : (path : List ℕ) (a b c : History) (step : FolderStep) → ChangesOnlyAt path a b → c ≡ after step b → IsQuietStep step → ChangesOnlyAt path a c
then_look path a b c step before is quiet = only_more a b c step before is (inl quiet)

pub then_step : (path : List ℕ) (a b c : History) (step : FolderStep) → ChangesOnlyAt path a b → c ≡ after step b → IsStepAt path step → ChangesOnlyAt path a c
then_step path a b c step before is there = only_more a b c step before is (inr there)

pub at_look : (path : List ℕ) (a b : History) (step : FolderStep) → b ≡ after step a → IsQuietStep step → ChangesOnlyAt path a b
at_look path a b step is quiet = then_look path a a b step (at_none path a a refl) is quiet

-- it was done, or failed
pub then_may : {A E : Type 0} (r : Result A E) (path : List ℕ) (a b c : History) (step : A → FolderStep) → ChangesOnlyAt path a b → Steps r step b c → ((x : A) → IsStepAt path (step x))
    → ChangesOnlyAt path a c
then_may (Ok x) path a b c step before is there = then_step path a b c (step x) before is (there x)
then_may (Err e) path a b c step before is there = at_chain path a b c before (at_none path b c is)

pub at_kept : (why : Reason) (path : List ℕ) (a b : History) → IsKept why path a b → ChangesOnlyAt path a b
at_kept reason.Linked path a b (name, seen, tilde, idle, is) = then_step path a seen b (Links path name) (at_idle path a seen idle) is (refl, tilde)
at_kept reason.Copied path a b (name, bytes, seen, read, tilde, idle, was, is) =
    then_step path a read b (Makes name bytes) (then_look path a seen read (Reads path bytes) (at_idle path a seen idle) was tt) is tilde
at_kept reason.Nothing path a b kept = absurd kept
at_kept reason.Known path a b kept = absurd kept
at_kept reason.Same path a b kept = absurd kept
at_kept reason.Open path a b kept = absurd kept

pub at_removal : (P : Stamp → Option Look → Type 0) (file : ℕ) (path : List ℕ) (a b : History) → MayRemove P file path a b → ChangesOnlyAt path a b
at_removal P file path a b (inl is) = at_none path a b is
at_removal P file path a b (inr (opened, looked, one, rest)) =
    let first = then_look path a a looked (LooksAt file opened) (at_none path a a refl) one tt in elim rest [
      | inl is ↦ at_chain path a looked b first (at_none path looked b is)
      | inr (found, followed, two, inl is) ↦ at_chain path a followed b (then_look path a looked followed (Follows path found) first two tt) (at_none path followed b is)
      | inr (found, followed, two, inr (of, is)) ↦ then_step path a followed b (Removes path) (then_look path a looked followed (Follows path found) first two tt) is refl
    ]

at_removal_if : (P : Stamp → Option Look → Type 0) (file : Option ℕ) (path : List ℕ) (a b : History) → MayRemoveIf P file path a b → ChangesOnlyAt path a b
at_removal_if P None path a b is = at_none path a b is
at_removal_if P (Some file) path a b may = at_removal P file path a b may

-- what was held is left
pub at_leaving : (next log : Option ℕ) (path : List ℕ) (a b : History) → Leaves next log path a b → ChangesOnlyAt path a b
at_leaving next log path a b (gone, one, two) = at_chain path a gone b (at_removal_if IsOfFile next path a gone one) (at_removal_if IsOneOfMore log path gone b two)

-- what stood there has let go of it
at_spare : (path : List ℕ) (a b : History) → IsSpare path a b → ChangesOnlyAt path a b
unfolding IsSpare
at_spare path a b (inl (found, bare, is)) = at_look path a b (Looks path found) is tt
at_spare path a b (inr (why, kept)) = at_kept why path a b kept

pub at_way : (path : List ℕ) (a b : History) → MakesWay path a b → ChangesOnlyAt path a b
at_way path a b (inl is) = at_look path a b (Looks path None) is tt
at_way path a b (inr (spare, spared, is)) = then_step path a spare b (Removes path) (at_spare path a spare spared) is refl

-- or it may be kept
pub at_left : (path : List ℕ) (a b : History) → MayBeKept path a b → ChangesOnlyAt path a b
at_left path a b (inl idle) = at_idle path a b idle
at_left path a b (inr spared) = at_spare path a b spared

-- it could not be removed
pub left_spare : {A E : Type 0} (r : Result A E) (path : List ℕ) (a b c : History) (step : A → FolderStep) → IsSpare path a b → Steps r step b c → OnErr r (MayBeKept path a c)
left_spare (Ok x) path a b c step spared is = tt
left_spare (Err e) path a b c step spared is = inr (subst (λ h. IsSpare path a h) (sym is) spared)

-- nothing is lost of what takes part
shown_idle : (why : Reason) (path : List ℕ) (own : Option Stamp) (bytes : List ℕ) (a b : History) → IsShown why path own bytes a b → IsIdle a b
shown_idle reason.Nothing path own bytes a b is = idle_follow a b path None is
shown_idle reason.Known path own bytes a b (look, known, is) = idle_follow a b path (Some look) is
shown_idle reason.Same path own bytes a b (look, followed, one, two) = idle_follow_read a followed b path bytes (Some look) one two
shown_idle reason.Linked path own bytes a b shown = absurd shown
shown_idle reason.Copied path own bytes a b shown = absurd shown
shown_idle reason.Open path own bytes a b shown = absurd shown

pub at_spared : (path : List ℕ) (own : Option Stamp) (bytes : List ℕ) (a b : History) → SparesText path own bytes a b → ChangesOnlyAt path a b
at_spared path own bytes a b (why, inl shown) = at_idle path a b (shown_idle why path own bytes a b shown)
at_spared path own bytes a b (why, inr kept) = at_kept why path a b kept

-- a step failed
pub at_failed : {A E : Type 0} (r : Result A E) (path : List ℕ) (a b c : History) (step : A → FolderStep) → ChangesOnlyAt path a b → Steps r step b c → OnErr r (ChangesOnlyAt path a c)
at_failed (Ok x) path a b c step before is = tt
at_failed (Err e) path a b c step before is = at_chain path a b c before (at_none path b c is)

-- ---- a path that may go, or be given

no_file_is_nothing : (found : Option Look) → IsNoFile found → IsNothing found
no_file_is_nothing None none = absurd none
no_file_is_nothing (Some look) other = inl other

pub go_no_file : (path spelled p : List ℕ) (found : Option Look) (a b : History) → path ≡ spelled → spelled ≡ p → b ≡ after (Looks p found) a → IsNoFile found → MayGo path b
unfolding IsSpare
go_no_file path spelled p found a b same is step none = subst (λ q. MayGo q b) (sym (same ∙ is)) (a, inl (inl (found, no_file_is_nothing found none, step)))

pub go_linked : (path p name : List ℕ) (a b : History) → path ≡ p → b ≡ after (Links p name) a → MayGo path b
go_linked path p name a b is step = subst (λ q. MayGo q b) (sym is) (a, inr (inl (name, step)))

pub go_open : (path spelled p : List ℕ) (file : ℕ) (opened : Look) (found : Option Look) (a b c : History) → path ≡ spelled → spelled ≡ p → b ≡ after (LooksAt file opened) a
    → c ≡ after (Follows p found) b → IsOfFile opened.stamp found → MayGo path c
go_open path spelled p file opened found a b c same is one two of = subst (λ q. MayGo q c) (sym (same ∙ is)) (a, inr (inr (file, opened, found, b, one, of, two)))

pub one_of_more : (stamp : Stamp) (found : Option Look) → IsOneOfMore stamp found → IsOfFile stamp found
one_of_more stamp None of = absurd of
one_of_more stamp (Some look) of = of.1

pub given_free : (path p : List ℕ) (found : Option Look) (a b : History) → path ≡ p → found ≡ None → b ≡ after (Looks p found) a → MayBeGiven path b
unfolding IsSpare
given_free path p found a b is none step = subst (λ q. MayBeGiven q b) (sym is) (a, inl (inl (found, subst IsNothing (sym none) tt, step)))

pub given_kept : (why : Reason) (path p : List ℕ) (a b : History) → path ≡ p → IsKept why p a b → MayBeGiven path b
unfolding IsSpare
given_kept why path p a b is kept = subst (λ q. MayBeGiven q b) (sym is) (a, inl (inr (why, kept)))

pub given_text : (path p bytes : List ℕ) (own : Option Stamp) (a b : History) → path ≡ p → SparesText p own bytes a b → MayBeGiven path b
given_text path p bytes own a b is (why, inl shown) = subst (λ q. MayBeGiven q b) (sym is) (a, inr (own, bytes, why, shown))
given_text path p bytes own a b is (why, inr kept) = given_kept why path p a b is kept

-- ---- rights

module _ (file : ℕ) where
  pub rights_none : (a b : History) → b ≡ a → SetsRights file a b
  rights_none a b is = only_none a b is

  pub rights_look : (a b c : History) (step : FolderStep) → SetsRights file a b → c ≡ after step b → IsQuietStep step → SetsRights file a c
  rights_look a b c step before is quiet = only_more a b c step before is (inl quiet)

  pub rights_chain : (a b c : History) → SetsRights file a b → SetsRights file b c → SetsRights file a c
  rights_chain a b c one two = only_chain a b c one two

  pub rights_step : (a b c : History) (step : FolderStep) → SetsRights file a b → c ≡ after step b → IsRightsStep file step → SetsRights file a c
  rights_step a b c step before is rights = only_more a b c step before is (inr rights)

  pub rights_may : {A E : Type 0} (r : Result A E) (a b c : History) (step : A → FolderStep) → SetsRights file a b → Steps r step b c → ((x : A) → IsRightsStep file (step x)) → SetsRights file a c
  rights_may (Ok x) a b c step before is set = rights_step a b c (step x) before is (set x)
  rights_may (Err e) a b c step before is set = rights_chain a b c before (rights_none b c is)

  pub rights_owner : (owner : Owner) (is_owned : Bool) (a b : History) → TakesOwner file owner a b is_owned → SetsRights file a b
  rights_owner owner true a b (look, looked, one, inl (same, is)) = rights_chain a looked b (rights_look a a looked (LooksAt file look) (rights_none a a refl) one tt) (rights_none looked b is)
  rights_owner owner true a b (look, looked, one, inr is) = rights_step a looked b (GivesTo file owner) (rights_look a a looked (LooksAt file look) (rights_none a a refl) one tt) is refl
  rights_owner owner false a b (look, other, is) = rights_look a a b (LooksAt file look) (rights_none a a refl) is tt

-- ---- a file that gets rights at a path

module _ (file : ℕ) (path : List ℕ) where
  abbrev IsFitting : FolderStep → Type 0
  IsFitting step = IsQuietStep step ⊎ IsStepAt path step ⊎ IsRightsStep file step

  fitting_at : (step : FolderStep) → IsQuietStep step ⊎ IsStepAt path step → IsFitting step
  fitting_at step (inl quiet) = inl quiet
  fitting_at step (inr at) = inr (inl at)

  fitting_rights : (step : FolderStep) → IsQuietStep step ⊎ IsRightsStep file step → IsFitting step
  fitting_rights step (inl quiet) = inl quiet
  fitting_rights step (inr rights) = inr (inr rights)

  pub fits_at : (a b : History) → ChangesOnlyAt path a b → FitsAt file path a b
  fits_at a b only = only_of a b fitting_at only

  pub fits_rights : (a b : History) → SetsRights file a b → FitsAt file path a b
  fits_rights a b rights = only_of a b fitting_rights rights

  pub fits_chain : (a b c : History) → FitsAt file path a b → FitsAt file path b c → FitsAt file path a c
  fits_chain a b c one two = only_chain a b c one two

-- it is opened as it is
pub then_opened_fits : {A E : Type 0} (r : Result A E) (file_of : A → ℕ) (path : List ℕ) (a b c : History) → ChangesOnlyAt path a b → ChangesOnlyAt path b c
    → IfOk r (λ x. FitsAt (file_of x) path a c)
then_opened_fits (Ok x) file_of path a b c one two = fits_at (file_of x) path a c (at_chain path a b c one two)
then_opened_fits (Err e) file_of path a b c one two = tt

-- ---- a new file

module _ (path : List ℕ) where
  pub new_at : (a b : History) → ChangesOnlyAt path a b → MakesFileAt path a b
  new_at a b only = inl only

  pub new_later : (a b c : History) → ChangesOnlyAt path a b → MakesFileAt path b c → MakesFileAt path a c
  new_later a b c first (inl only) = inl (at_chain path a b c first only)
  new_later a b c first (inr (file, mode, cleared, made, only, is, fits)) = inr (file, mode, cleared, made, at_chain path a b cleared first only, is, fits)

  -- it was made, and gets rights
  pub new_made : (file mode : ℕ) (a b c : History) → MakesBeside file path mode a b → FitsAt file path b c → MakesFileAt path a c
  new_made file mode a b c (cleared, way, is) fits = inr (file, mode, cleared, b, at_way path a cleared way, is, fits)

pub new_path : (spelled path : List ℕ) (a b : History) → spelled ≡ path → MakesFileAt spelled a b → MakesFileAt path a b
new_path spelled path a b is makes = subst (λ p. MakesFileAt p a b) is makes

-- ---- a file that is still to take its name

module _ (file : ℕ) (path name : List ℕ) where
  beside_fitting : (step : FolderStep) → IsQuietStep step ⊎ IsStepAt path step ⊎ IsRightsStep file step → IsStepBeside file path name step
  beside_fitting step (inl quiet) = inl quiet
  beside_fitting step (inr (inl at)) = inr (inl at)
  beside_fitting step (inr (inr rights)) = inr (inr (inl rights))

  pub waits_fits : (a b : History) → FitsAt file path a b → WaitsBeside file path name a b
  waits_fits a b fits = only_of a b beside_fitting fits

  pub waits_at : (a b : History) → ChangesOnlyAt path a b → WaitsBeside file path name a b
  waits_at a b only = waits_fits a b (fits_at file path a b only)

  pub waits_rights : (a b : History) → SetsRights file a b → WaitsBeside file path name a b
  waits_rights a b rights = waits_fits a b (fits_rights file path a b rights)

  pub waits_quiet : (a b : History) → IsQuiet a b → WaitsBeside file path name a b
  waits_quiet a b quiet = only_of a b (λ step is. inl is) quiet

  pub waits_idle : (a b : History) → IsIdle a b → WaitsBeside file path name a b
  waits_idle a b idle = only_of a b (λ step is. inl (idle_is_quiet step is)) idle

  pub waits_none : (a b : History) → b ≡ a → WaitsBeside file path name a b
  waits_none a b is = only_none a b is

  pub waits_chain : (a b c : History) → WaitsBeside file path name a b → WaitsBeside file path name b c → WaitsBeside file path name a c
  waits_chain a b c one two = only_chain a b c one two

  pub waits_look : (a b c : History) (step : FolderStep) → WaitsBeside file path name a b → c ≡ after step b → IsQuietStep step → WaitsBeside file path name a c
  waits_look a b c step before is quiet = only_more a b c step before is (inl quiet)

  pub waits_one : (a b : History) (step : FolderStep) → b ≡ after step a → IsWaitingStep file name step → WaitsBeside file path name a b
  waits_one a b step is waiting = only_more a a b step (waits_none a a refl) is (inr (inr (inr waiting)))

  -- it may have got its date, and may be on the device
  waits_date : (log later : Option ℕ) (a b : History) → MayDate file log later a b → WaitsBeside file path name a b
  waits_date log None a b is = waits_none a b is
  waits_date log (Some later) a b (inl is) = waits_none a b is
  waits_date log (Some later) a b (inr (of, known, is)) = waits_one a b (Dates file of later) is refl

  waits_synced : (log later : Option ℕ) (a b : History) → SyncsDated file log later a b → WaitsBeside file path name a b
  waits_synced log later a b (dated, may, is) = waits_look a dated b (Syncs file) (waits_date log later a dated may) is tt

  -- a beginning of bytes may have been written
  pub waits_begun : (bytes : List ℕ) (a b : History) → (b ≡ a) ⊎ ((front : List ℕ) × (rest : List ℕ) × (bytes ≡ front ++ rest) × (b ≡ after (Adds file front) a))
      → WaitsBeside file path name a b
  waits_begun bytes a b (inl is) = waits_none a b is
  waits_begun bytes a b (inr (front, rest, parts, is)) = waits_one a b (Adds file front) is refl

  -- what stands under the name is kept, or nothing is lost of it
  waits_kept : (why : Reason) (a b : History) → IsKept why name a b → WaitsBeside file path name a b
  waits_kept reason.Linked a b (kept, seen, tilde, idle, is) = only_more a seen b (Links name kept) (waits_idle a seen idle) is (inr (inr (inr (refl, tilde))))
  waits_kept reason.Copied a b (kept, bytes, seen, read, tilde, idle, was, is) =
      only_more a read b (Makes kept bytes) (waits_look a seen read (Reads name bytes) (waits_idle a seen idle) was tt) is (inr (inl tilde))
  waits_kept reason.Nothing a b kept = absurd kept
  waits_kept reason.Known a b kept = absurd kept
  waits_kept reason.Same a b kept = absurd kept
  waits_kept reason.Open a b kept = absurd kept

  waits_spared : (own : Option Stamp) (bytes : List ℕ) (a b : History) → SparesText name own bytes a b → WaitsBeside file path name a b
  waits_spared own bytes a b (why, inl shown) = waits_idle a b (shown_idle why name own bytes a b shown)
  waits_spared own bytes a b (why, inr kept) = waits_kept why a b kept

  waits_old : (log : Option ℕ) (o : Old) (a b : History) → KeepsOld log o name a b → WaitsBeside file path name a b
  waits_old log old.Nothing a b is = waits_none a b is
  waits_old log old.Log a b (why, kept) = waits_kept why a b kept
  waits_old log (old.Text own bytes) a b spared = waits_spared own bytes.now a b spared
  waits_old log (old.Read size) a b (why, checked, (other, found, opened, followed, known, one, two, same, long), kept) =
      waits_chain a checked b (waits_look a followed checked (LooksAt other opened) (waits_look a a followed (Follows name (Some found)) (waits_none a a refl) one tt) two tt) (waits_kept why checked b kept)

-- steps before the name is taken
abbrev IsUnnamed : DiskStep → Type 0
IsUnnamed disk.TakesName = ⊥
IsUnnamed disk.SyncsFolder = ⊥
IsUnnamed other = Unit {0}

abbrev AreUnnamed : List DiskStep → Type 0
AreUnnamed [] = Unit {0}
AreUnnamed (step ∷ steps) = IsUnnamed step × AreUnnamed steps

begun_unnamed : (wanted made : List DiskStep) → AreUnnamed wanted → BeginsSteps made wanted → AreUnnamed made
begun_unnamed [] made all is = subst AreUnnamed (sym is) tt
begun_unnamed (step ∷ wanted) made all (inl is) = subst AreUnnamed (sym is) tt
begun_unnamed (step ∷ wanted) made all (inr (inl (part, more, same, is))) = subst AreUnnamed (sym is) (tt, tt)
begun_unnamed (step ∷ wanted) made (one, all) (inr (inr (others, is, begins))) = subst AreUnnamed (sym is) (one, begun_unnamed wanted others all begins)

module _ (file : ℕ) (log : Option ℕ) (s : Staged) where
  waits_does : (step : DiskStep) (a b : History) → IsUnnamed step → Does file log s step a b → WaitsBeside file s.path.now s.name.now a b
  waits_does disk.Empties a b is does = waits_one file s.path.now s.name.now a b (Empties file) does refl
  waits_does (disk.Writes bytes) a b is does = waits_one file s.path.now s.name.now a b (Adds file bytes) does refl
  waits_does disk.Syncs a b is does = waits_synced file s.path.now s.name.now log s.later a b does
  waits_does disk.Keeps a b is does = waits_old file s.path.now s.name.now log s.old a b does
  waits_does disk.TakesName a b is does = absurd is
  waits_does disk.SyncsFolder a b is does = absurd is
  waits_does disk.Removes a b is does = waits_at file s.path.now s.name.now a b (at_removal IsOfFile file s.path.now a b does)

  waits_all : (made : List DiskStep) (a b : History) → AreUnnamed made → DoesAll file log s made a b → WaitsBeside file s.path.now s.name.now a b
  waits_all [] a b all is = waits_none file s.path.now s.name.now a b is
  waits_all (step ∷ []) a b (one, all) does = waits_does step a b one does
  waits_all (step ∷ next ∷ later) a b (one, all) (done, does, rest) =
      waits_chain file s.path.now s.name.now a done b (waits_does step a done one does) (waits_all (next ∷ later) done b all rest)

  waits_end : (wanted : List DiskStep) (a b : History) (t : StopsBefore file log s wanted a b) → WaitsBeside file s.path.now s.name.now t.done b
  waits_end wanted a b t =
      waits_chain file s.path.now s.name.now t.done t.dated b (waits_date file s.path.now s.name.now log s.later t.done t.dated t.may) (waits_idle file s.path.now s.name.now t.dated b t.idle)

  -- its rights were set, and then it was put in part
  pub waits_stopped : {A E : Type 0} (r : Result A E) (path name : List ℕ) (wanted : List DiskStep) (a b c : History) → AreUnnamed wanted → s.path.now ≡ path → s.name.now ≡ name
      → SetsRights file a b → OnErr r (StopsBefore file log s wanted b c) → OnErr r (WaitsBeside file path name a c)
  waits_stopped (Ok x) path name wanted a b c unnamed is named rights stops = tt
  waits_stopped (Err e) path name wanted a b c unnamed is named rights t =
      let all = begun_unnamed wanted t.made unnamed t.begins in
      let put = waits_chain file s.path.now s.name.now b t.done c (waits_all t.made b t.done all t.does) (waits_end wanted b c t) in
      waits_chain file path name a b c (waits_rights file path name a b rights)
      (subst (λ n. WaitsBeside file path n b c) named (subst (λ p. WaitsBeside file p s.name.now b c) is put))

-- ---- what changes at a path, and at the name that its file is to take

module _ (file : ℕ) (path name : List ℕ) where
  abbrev IsPut : FolderStep → Type 0
  IsPut step = IsStepBeside file path name step ⊎ IsNamingStep file path name step

  -- the same while it waits
  pub puts_waits : (a b : History) → WaitsBeside file path name a b → PutsOnlyAt file path name a b
  puts_waits a b waits = only_of a b (λ step is. inl is) waits

  pub puts_at : (a b : History) → ChangesOnlyAt path a b → PutsOnlyAt file path name a b
  puts_at a b only = puts_waits a b (waits_at file path name a b only)

  pub puts_quiet : (a b : History) → IsQuiet a b → PutsOnlyAt file path name a b
  puts_quiet a b quiet = puts_waits a b (waits_quiet file path name a b quiet)

  pub puts_none : (a b : History) → b ≡ a → PutsOnlyAt file path name a b
  puts_none a b is = only_none a b is

  pub puts_chain : (a b c : History) → PutsOnlyAt file path name a b → PutsOnlyAt file path name b c → PutsOnlyAt file path name a c
  puts_chain a b c one two = only_chain a b c one two

  pub puts_look : (a b c : History) (step : FolderStep) → PutsOnlyAt file path name a b → c ≡ after step b → IsQuietStep step → PutsOnlyAt file path name a c
  puts_look a b c step before is quiet = only_more a b c step before is (inl (inl quiet))

  pub puts_step : (a b c : History) (step : FolderStep) → PutsOnlyAt file path name a b → c ≡ after step b → IsWaitingStep file name step → PutsOnlyAt file path name a c
  puts_step a b c step before is waiting = only_more a b c step before is (inl (inr (inr (inr waiting))))

  pub puts_one : (a b : History) (step : FolderStep) → b ≡ after step a → IsNamingStep file path name step → PutsOnlyAt file path name a b
  puts_one a b step is naming = only_more a a b step (puts_none a a refl) is (inr naming)

  pub puts_rights : (a b : History) → SetsRights file a b → PutsOnlyAt file path name a b
  puts_rights a b rights = puts_waits a b (waits_rights file path name a b rights)

  -- it was done, or failed
  pub puts_may : {A E : Type 0} (r : Result A E) (a b c : History) (step : A → FolderStep) → PutsOnlyAt file path name a b → Steps r step b c → ((x : A) → IsPut (step x)) → PutsOnlyAt file path name a c
  puts_may (Ok x) a b c step before is put = only_more a b c (step x) before is (put x)
  puts_may (Err e) a b c step before is put = puts_chain a b c before (puts_none b c is)

  pub puts_begun : (bytes : List ℕ) (a b c : History) → PutsOnlyAt file path name a b
      → (c ≡ b) ⊎ ((front : List ℕ) × (rest : List ℕ) × (bytes ≡ front ++ rest) × (c ≡ after (Adds file front) b)) → PutsOnlyAt file path name a c
  puts_begun bytes a b c before begun = puts_chain a b c before (puts_waits b c (waits_begun file path name bytes b c begun))

  pub puts_written : {A E : Type 0} (r : Result A E) (bytes : List ℕ) (a b c : History) → PutsOnlyAt file path name a b → Writes r file bytes b c → PutsOnlyAt file path name a c
  puts_written (Ok x) bytes a b c before is = puts_step a b c (Adds file bytes) before is refl
  puts_written (Err e) bytes a b c before begun = puts_begun bytes a b c before begun

  -- a beginning of lines was added, or none
  pub puts_front : (lines : List ℕ) (a b : History) → AddsFront file lines a b → PutsOnlyAt file path name a b
  puts_front lines a b (inl quiet) = puts_quiet a b quiet
  puts_front lines a b (inr (front, rest, shown, added, parts, first, is, last)) =
      puts_chain a added b (puts_step a shown added (Adds file front) (puts_quiet a shown first) is refl) (puts_quiet added b last)

  -- and of bytes, or all
  pub puts_in_place : (log : Option ℕ) (bytes : List ℕ) (a b : History) → AddsFront file bytes a b ⊎ AddsDated file log bytes a b → PutsOnlyAt file path name a b
  puts_in_place log bytes a b (inl front) = puts_front bytes a b front
  puts_in_place log bytes a b (inr (written, dated, is, may, quiet)) =
      let added = puts_step a a written (Adds file bytes) (puts_none a a refl) is refl in
      puts_chain a dated b (puts_chain a written dated added (puts_waits written dated (waits_date file path name log (Some 100) written dated may))) (puts_quiet dated b quiet)

  -- all of them were, or a beginning
  pub puts_added : {A E : Type 0} (r : Result A E) (log lines : List ℕ) (left longer : LeftLog) (a b : History) → OnOk r (IsAdded file log left lines longer a b)
      → OnErr r (AddsFront file lines a b) → PutsOnlyAt file path name a b
  puts_added (Ok x) log lines left longer a b (shown, added, shows, is, later) front =
      puts_chain a added b (puts_step a shown added (Adds file lines) (puts_quiet a shown (shown_quiet file log left a shown shows)) is refl)
      (puts_quiet added b (longer_quiet file log left longer added b later))
  puts_added (Err e) log lines left longer a b none front = puts_front lines a b front

  puts_free : (a b : History) → GivesFreeName path name a b → PutsOnlyAt file path name a b
  puts_free a b (inl (linked, one, inl is)) = puts_chain a linked b (puts_one a linked (Links path name) one (refl, refl)) (puts_none linked b is)
  puts_free a b (inl (linked, one, inr is)) = only_more a linked b (Removes path) (puts_one a linked (Links path name) one (refl, refl)) is (inl (inr (inl refl)))
  puts_free a b (inr (looked, one, is)) =
      puts_chain a looked b (puts_look a a looked (Looks name None) (puts_none a a refl) one tt) (puts_one looked b (Renames path name) is (refl, refl))

  puts_name : (o : Old) (a b : History) → TakesOld o path name a b → PutsOnlyAt file path name a b
  puts_name old.Nothing a b free = puts_free a b free
  puts_name old.Log a b is = puts_one a b (Renames path name) is (refl, refl)
  puts_name (old.Text own bytes) a b is = puts_one a b (Renames path name) is (refl, refl)
  puts_name (old.Read size) a b is = puts_one a b (Renames path name) is (refl, refl)

module _ (file : ℕ) (log : Option ℕ) (s : Staged) where
  puts_before : (step : DiskStep) (a b : History) → IsUnnamed step → Does file log s step a b → PutsOnlyAt file s.path.now s.name.now a b
  puts_before step a b is does = puts_waits file s.path.now s.name.now a b (waits_does file log s step a b is does)

  puts_does : (step : DiskStep) (a b : History) → Does file log s step a b → PutsOnlyAt file s.path.now s.name.now a b
  puts_does disk.Empties a b does = puts_before disk.Empties a b tt does
  puts_does (disk.Writes bytes) a b does = puts_before (disk.Writes bytes) a b tt does
  puts_does disk.Syncs a b does = puts_before disk.Syncs a b tt does
  puts_does disk.Keeps a b does = puts_before disk.Keeps a b tt does
  puts_does disk.Removes a b does = puts_before disk.Removes a b tt does
  puts_does disk.TakesName a b takes = puts_name file s.path.now s.name.now s.old a b takes
  puts_does disk.SyncsFolder a b is = puts_one file s.path.now s.name.now a b (SyncsFolder s.name.now) is tt

  -- all of a new file's steps, or some
  puts_all : (steps : List DiskStep) (a b : History) → DoesAll file log s steps a b → PutsOnlyAt file s.path.now s.name.now a b
  puts_all [] a b is = puts_none file s.path.now s.name.now a b is
  puts_all (step ∷ []) a b does = puts_does step a b does
  puts_all (step ∷ next ∷ later) a b (done, does, rest) = puts_chain file s.path.now s.name.now a done b (puts_does step a done does) (puts_all (next ∷ later) done b rest)

  puts_some : (wanted : List DiskStep) (a b : History) → StopsBefore file log s wanted a b → PutsOnlyAt file s.path.now s.name.now a b
  puts_some wanted a b t = puts_chain file s.path.now s.name.now a t.done b (puts_all t.made a t.done t.does) (puts_waits file s.path.now s.name.now t.done b (waits_end file log s wanted a b t))

  pub puts_whole : {E : Type 0} (r : Result Named E) (steps : Named → List DiskStep) (wanted : List DiskStep) (a b : History) → IfOk r (λ n. DoesAll file log s (steps n) a b)
      → OnErr r (StopsBefore file log s wanted a b) → PutsOnlyAt file s.path.now s.name.now a b
  puts_whole (Ok n) steps wanted a b does stops = puts_all (steps n) a b does
  puts_whole (Err e) steps wanted a b does stops = puts_some wanted a b stops

pub puts_paths : (file : ℕ) (path beside name spelled : List ℕ) (a b : History) → path ≡ beside → name ≡ spelled → PutsOnlyAt file path name a b → PutsOnlyAt file beside spelled a b
puts_paths file path beside name spelled a b is named puts = subst (λ n. PutsOnlyAt file beside n a b) named (subst (λ p. PutsOnlyAt file p name a b) is puts)

-- a file was taken, and gets rights
pub fits_puts : (IsTaken : ℕ → History → Type 0) (path : List ℕ) (a b : History) → FitsTaken IsTaken path a b → (file : ℕ) × PutsOnlyBeside file path a b
fits_puts IsTaken path a b (inl only) = (0, λ name. puts_at 0 path name a b only)
fits_puts IsTaken path a b (inr (file, taken, only, is, rights)) = (file, λ name. puts_chain file path name a taken b (puts_at file path name a taken only) (puts_rights file path name taken b rights))
