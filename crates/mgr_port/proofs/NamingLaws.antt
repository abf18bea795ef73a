-- What stands under a name once a file has taken it.
use Rattle.std.proofs.Common.{◌≡◌, ◌≢◌, ◌⊎◌, inl, inr, ◌∙◌, ℕ, List, [], ◌∷◌, ◌++◌, Bool, true, false, Option, Some, None, codes, refl, sym, ap, subst, append_assoc, arith, length, suc}
use Rattle.std.proofs.lemmas.List.{append-nil, length-append}
use Rattle.mgr_port.specs.Bytes.{HadFront, HasAfter, IsKnown, MayHave, MayHaveAfter, OfTold, Tells, change_of}
use Rattle.mgr_port.specs.Disk.{last_steps, steps_to}
use Rattle.mgr_port.specs.Folder.{History, FolderStep, Adds, Dates, Empties, Ends, EndsInNewline, Follows, GivesTo, Links, Locks, Looks, LooksAt, Makes, Opens, Overwrites, Reads, ReadsAll, Removes, Renames, Resolves, SetsMode, Syncs, SyncsFolder, AreAll, IsIdle, IsIdleStep, IsQuietStep, Only, after}
use Rattle.mgr_port.specs.Locks.{HoldsEmpty, IsTaken, MakesBeside, StandsFor}
use Rattle.mgr_port.specs.Naming.{AreApart, Holds, Stands, StandsAfter}
use Rattle.mgr_port.specs.Notes.{LeavesLog, LeavesNext, MakesLog, PutsLog, TakesRights, TakesTextRights}
use Rattle.mgr_port.specs.Spares.{ChangesOnlyAt, EndsInTilde, GivesFreeName, IsKept, IsShown, IsSpare, IsNamingStep, IsStepBeside, MakesFileAt, PutsOnlyAt, WaitsBeside}
use Rattle.mgr_port.specs.Staging.{DoesAll, KeepsOld, MayDate, SyncsDated, TakesOld}
use Rattle.mgr_port.specs.Texts.{LeavesNextText, MakesFor, MakesLike, MakesNextText, NamesText, PutsBeside, PutsInPlace, PutsText, TakesMode, TakesOwner, TriesText, WritesBeside, WritesInPlace}
use Rattle.mgr_port.specs.Verdicts.{AreOfOneFile}
use Rattle.mgr_port.specs.declared.folder.Opening.TheVariants as opening
use Rattle.mgr_port.specs.declared.log.LeftLog.{LeftLog}
use Rattle.mgr_port.specs.declared.spare.Look.{Look}
use Rattle.mgr_port.specs.declared.spare.Owner.{Owner}
use Rattle.mgr_port.specs.declared.spare.Reason.{Reason}
use Rattle.mgr_port.specs.declared.spare.Reason.TheVariants as reason
use Rattle.mgr_port.specs.declared.staged.Named.{Named}
use Rattle.mgr_port.specs.declared.staged.Named.TheVariants as named
use Rattle.mgr_port.specs.declared.staged.Old.{Old}
use Rattle.mgr_port.specs.declared.staged.Old.TheVariants as old
use Rattle.mgr_port.specs.declared.staged.Staged.{Staged}
use Rattle.mgr_port.specs.declared.stamp.Stamp.{Stamp}
use Rattle.mgr_port.proofs.BytesLaws.{IsStill, still, unchanged}
use Rattle.mgr_port.proofs.FolderLaws.{idle_is_quiet}
use Rattle.mgr_port.proofs.PlaceLaws.{at_idle, at_spared, puts_chain, puts_in_place, puts_one, puts_waits, waits_at, waits_fits}

-- ---- what holds after a step, and held before it

abbrev IsCarried : (List FolderStep → Type 0) → FolderStep → Type 0
IsCarried P step = (steps : List FolderStep) → P (step ∷ steps) → P steps

-- what is told after a step is told before it
told : (P : List FolderStep → Type 0) (step : FolderStep) (a b : History) → b ≡ after step a → OfTold P b → OfTold (λ steps. P (step ∷ steps)) a
told P step None b is holds = absurd (subst (OfTold P) is holds)
told P step (Some steps) b is holds = subst (OfTold P) is holds

told_more : (P Q : List FolderStep → Type 0) (a : History) → ((steps : List FolderStep) → P steps → Q steps) → OfTold P a → OfTold Q a
told_more P Q None more holds = absurd holds
told_more P Q (Some steps) more holds = more steps holds

-- what does not speak of the steps
told_fact : (X : Type 0) (a : History) → OfTold (λ _. X) a → X
told_fact X None holds = absurd holds
told_fact X (Some steps) holds = holds

carry : (P : List FolderStep → Type 0) (step : FolderStep) (a b : History) → IsCarried P step → b ≡ after step a → OfTold P b → OfTold P a
carry P step a b over is holds = told_more (λ steps. P (step ∷ steps)) P a over (told P step a b is holds)

-- over steps of one kind
module _ (Q : FolderStep → Type 0) (P : List FolderStep → Type 0) (each : (step : FolderStep) → Q step → IsCarried P step) where
  over_seen : (seen steps : List FolderStep) → AreAll Q seen → P (seen ++ steps) → P steps
  over_seen [] steps all holds = holds
  over_seen (step ∷ seen) steps (one, all) holds = over_seen seen steps all (each step one (seen ++ steps) holds)

  over_only : (a b : History) → Only Q a b → OfTold P b → OfTold P a
  over_only None b i holds = absurd (subst (OfTold P) i.is holds)
  over_only (Some steps) b i holds = over_seen i.seen steps i.all (subst (OfTold P) i.is holds)

-- over what changes nothing
module _ (P : List FolderStep → Type 0) (quiet : (step : FolderStep) → IsQuietStep step → IsCarried P step) where
  over_idle : (a b : History) → IsIdle a b → OfTold P b → OfTold P a
  over_idle a b i holds = over_only IsIdleStep P (λ step is. quiet step (idle_is_quiet step is)) a b i holds

  over_one : (a b : History) (step : FolderStep) → IsQuietStep step → b ≡ after step a → OfTold P b → OfTold P a
  over_one a b step is_quiet is holds = carry P step a b (quiet step is_quiet) is holds

  over_shown : (why : Reason) (path : List ℕ) (own : Option Stamp) (bytes : List ℕ) (a b : History) → IsShown why path own bytes a b → OfTold P b → OfTold P a
  over_shown reason.Nothing path own bytes a b is holds = over_one a b (Follows path None) tt is holds
  over_shown reason.Known path own bytes a b (look, known, is) holds = over_one a b (Follows path (Some look)) tt is holds
  over_shown reason.Same path own bytes a b (look, followed, one, two) holds =
      over_one a followed (Follows path (Some look)) tt one (over_one followed b (Reads path bytes) tt two holds)
  over_shown reason.Linked path own bytes a b shown holds = absurd shown
  over_shown reason.Copied path own bytes a b shown holds = absurd shown
  over_shown reason.Open path own bytes a b shown holds = absurd shown

-- and over a date
module _ (P : List FolderStep → Type 0) (quiet : (step : FolderStep) → IsQuietStep step → IsCarried P step) (dates : (file of later : ℕ) → IsCarried P (Dates file of later)) where
  over_date : (file : ℕ) (log later : Option ℕ) (a b : History) → MayDate file log later a b → OfTold P b → OfTold P a
  over_date file log None a b is holds = subst (OfTold P) is holds
  over_date file log (Some later) a b (inl is) holds = subst (OfTold P) is holds
  over_date file log (Some later) a b (inr (of, known, is)) holds = carry P (Dates file of later) a b (dates file of later) is holds

  over_synced : (file : ℕ) (log later : Option ℕ) (a b : History) → SyncsDated file log later a b → OfTold P b → OfTold P a
  over_synced file log later a b (dated, may, is) holds = over_date file log later a dated may (over_one P quiet dated b (Syncs file) tt is holds)

-- and over names that are kept
module _ (P : List FolderStep → Type 0) (quiet : (step : FolderStep) → IsQuietStep step → IsCarried P step)
    (links : (other name : List ℕ) → EndsInTilde name → IsCarried P (Links other name)) (makes : (name bytes : List ℕ) → EndsInTilde name → IsCarried P (Makes name bytes)) where
  over_kept : (why : Reason) (path : List ℕ) (a b : History) → IsKept why path a b → OfTold P b → OfTold P a
  over_kept reason.Linked path a b (name, seen, tilde, i, is) holds = over_idle P quiet a seen i (carry P (Links path name) seen b (links path name tilde) is holds)
  over_kept reason.Copied path a b (name, bytes, seen, read, tilde, i, was, is) holds =
      over_idle P quiet a seen i (over_one P quiet seen read (Reads path bytes) tt was (carry P (Makes name bytes) read b (makes name bytes tilde) is holds))
  over_kept reason.Nothing path a b kept holds = absurd kept
  over_kept reason.Known path a b kept holds = absurd kept
  over_kept reason.Same path a b kept holds = absurd kept
  over_kept reason.Open path a b kept holds = absurd kept

  over_old : (log : Option ℕ) (o : Old) (name : List ℕ) (a b : History) → KeepsOld log o name a b → OfTold P b → OfTold P a
  over_old log old.Nothing name a b is holds = subst (OfTold P) is holds
  over_old log old.Log name a b (why, kept) holds = over_kept why name a b kept holds
  over_old log (old.Text own bytes) name a b (why, inl shown) holds = over_shown P quiet why name own bytes.now a b shown holds
  over_old log (old.Text own bytes) name a b (why, inr kept) holds = over_kept why name a b kept holds
  over_old log (old.Read size) name a b (why, checked, (file, found, opened, followed, known, one, two, same, long), kept) holds =
      over_one P quiet a followed (Follows name (Some found)) tt one
      (over_one P quiet followed checked (LooksAt file opened) tt two (over_kept why name checked b kept holds))

-- over all that leaves bytes as they are
module _ (P : List FolderStep → Type 0) (stays : (step : FolderStep) → IsStill (change_of step) → IsCarried P step) where
  quiet_stays : (step : FolderStep) → IsQuietStep step → IsCarried P step
  quiet_stays step is = stays step (still step is)

  over_still : (step : FolderStep) (a b : History) → IsStill (change_of step) → b ≡ after step a → OfTold P b → OfTold P a
  over_still step a b is_still is holds = carry P step a b (stays step is_still) is holds

  over_free : (path name : List ℕ) (a b : History) → GivesFreeName path name a b → OfTold P b → OfTold P a
  over_free path name a b (inl (linked, one, inl is)) holds = over_still (Links path name) a linked tt one (subst (OfTold P) is holds)
  over_free path name a b (inl (linked, one, inr is)) holds = over_still (Links path name) a linked tt one (over_still (Removes path) linked b tt is holds)
  over_free path name a b (inr (looked, one, is)) holds = over_still (Looks name None) a looked tt one (over_still (Renames path name) looked b tt is holds)

  over_name : (o : Old) (path name : List ℕ) (a b : History) → TakesOld o path name a b → OfTold P b → OfTold P a
  over_name old.Nothing path name a b free holds = over_free path name a b free holds
  over_name old.Log path name a b is holds = over_still (Renames path name) a b tt is holds
  over_name (old.Text own bytes) path name a b is holds = over_still (Renames path name) a b tt is holds
  over_name (old.Read size) path name a b is holds = over_still (Renames path name) a b tt is holds

  kept_stays : (why : Reason) (path : List ℕ) (a b : History) → IsKept why path a b → OfTold P b → OfTold P a
  kept_stays why path a b kept holds = over_kept P quiet_stays (λ other name t. stays (Links other name) tt) (λ name l t. stays (Makes name l) tt) why path a b kept holds

  -- what comes after a new file's bytes
  over_synced_old : (file : ℕ) (log : Option ℕ) (s : Staged) (a b c : History) → SyncsDated file log s.later a b → KeepsOld log s.old s.name.now b c → OfTold P c → OfTold P a
  over_synced_old file log s a b c syncs keeps holds =
      over_synced P quiet_stays (λ other of later. stays (Dates other of later) tt) file log s.later a b syncs
      (over_old P quiet_stays (λ other name t. stays (Links other name) tt) (λ name l t. stays (Makes name l) tt) log s.old s.name.now b c keeps holds)

  over_last : (file : ℕ) (log : Option ℕ) (s : Staged) (n : Named) (a b : History) → DoesAll file log s (last_steps n) a b → OfTold P b → OfTold P a
  over_last file log s named.Settled a b (synced, syncs, (kept, keeps, (given, takes, last))) holds =
      over_synced_old file log s a synced kept syncs keeps (over_name s.old s.path.now s.name.now kept given takes (over_still (SyncsFolder s.name.now) given b tt last holds))
  over_last file log s (named.Unsettled error) a b (synced, syncs, (kept, keeps, takes)) holds =
      over_synced_old file log s a synced kept syncs keeps (over_name s.old s.path.now s.name.now kept b takes holds)

  over_owner : (file : ℕ) (owner : Owner) (is_owned : Bool) (a b : History) → TakesOwner file owner a b is_owned → OfTold P b → OfTold P a
  over_owner file owner true a b (look, looked, one, inl (same, is)) holds = over_still (LooksAt file look) a looked tt one (subst (OfTold P) is holds)
  over_owner file owner true a b (look, looked, one, inr given) holds = over_still (LooksAt file look) a looked tt one (over_still (GivesTo file owner) looked b tt given holds)
  over_owner file owner false a b (look, other, is) holds = over_still (LooksAt file look) a b tt is holds

  over_spare : (path : List ℕ) (a b : History) → IsSpare path a b → OfTold P b → OfTold P a
  unfolding IsSpare
  over_spare path a b (inl (found, bare, is)) holds = over_still (Looks path found) a b tt is holds
  over_spare path a b (inr (why, kept)) holds = kept_stays why path a b kept holds

  over_beside : (file : ℕ) (path : List ℕ) (mode : ℕ) (a b : History) → MakesBeside file path mode a b → OfTold P b → OfTold P a
  over_beside file path mode a b (cleared, inl none, is) holds = over_still (Looks path None) a cleared tt none (over_still (Opens file path (opening.New mode)) cleared b tt is holds)
  over_beside file path mode a b (cleared, inr (spared, spare, gone), is) holds =
      over_spare path a spared spare (over_still (Removes path) spared cleared tt gone (over_still (Opens file path (opening.New mode)) cleared b tt is holds))

  over_made : (file : ℕ) (path : List ℕ) (found : Option Look) (is_there : Bool) (a b : History) → MakesFor file path found is_there a b → OfTold P b → OfTold P a
  over_made file path None is_there a b makes holds = over_beside file path 438 a b makes holds
  over_made file path (Some look) is_there a b (plain, there, (made, owned, makes, owner, is)) holds =
      over_beside file path 0 a made makes (over_owner file look.owner true made owned owner (over_still (SetsMode file look.mode) owned b tt is holds))

-- the parts of what a new file's steps do
put_parts : (file : ℕ) (log : Option ℕ) (s : Staged) (n : Named) (bytes : List ℕ) (a b : History) → DoesAll file log s (steps_to n bytes) a b
    → (one : History) × (two : History) × (one ≡ after (Empties file) a) × (two ≡ after (Adds file bytes) one) × DoesAll file log s (last_steps n) two b
put_parts file log s named.Settled bytes a b (one, empties, (two, writes, rest)) = (one, two, empties, writes, rest)
put_parts file log s (named.Unsettled error) bytes a b (one, empties, (two, writes, rest)) = (one, two, empties, writes, rest)

-- ---- which bytes a file has

emptied : (file : ℕ) (found : List ℕ) (a b : History) → b ≡ after (Empties file) a → OfTold (HasAfter file found) b → found ≡ []
emptied file found None b is has = absurd (subst (OfTold (HasAfter file found)) is has)
emptied file found (Some steps) b is has = let s = subst (OfTold (HasAfter file found)) is has in s.2.1.0 refl

overwritten : (file : ℕ) (path found : List ℕ) (a b : History) → b ≡ after (Overwrites file path) a → OfTold (HasAfter file found) b → found ≡ []
overwritten file path found None b is has = absurd (subst (OfTold (HasAfter file found)) is has)
overwritten file path found (Some steps) b is has = let s = subst (OfTold (HasAfter file found)) is has in s.2.1.0 refl

module _ (file : ℕ) (found : List ℕ) where
  abbrev HasFound : List FolderStep → Type 0
  HasFound = HasAfter file found

  has_over : (step : FolderStep) → IsStill (change_of step) → IsCarried HasFound step
  has_over step still steps (was, has, tells) = subst (λ l. HasAfter file l steps) (sym (unchanged file (change_of step) was found still tells.1)) has

  abbrev Has : History → Type 0
  Has h = OfTold HasFound h

  had : (step : FolderStep) (a b : History) → IsStill (change_of step) → b ≡ after step a → Has b → Has a
  had step a b still is has = carry HasFound step a b (has_over step still) is has

  -- bytes that it got when it had those
  added : (was bytes : List ℕ) (a b : History) → b ≡ after (Adds file bytes) a → ((l : List ℕ) → OfTold (HasAfter file l) a → l ≡ was) → Has b → found ≡ was ++ bytes
  added was bytes None b is known has = absurd (subst Has is has)
  added was bytes (Some steps) b is known has = let s = subst Has is has in s.2.1.0 refl ∙ ap (λ l. l ++ bytes) (known s.0 s.1)

  had_synced : (log later : Option ℕ) (a b : History) → SyncsDated file log later a b → Has b → Has a
  had_synced log later a b syncs has = over_synced HasFound (quiet_stays HasFound has_over) (λ other of at. has_over (Dates other of at) tt) file log later a b syncs has

  -- all that was written, if nothing else was
  whole_bytes : (log : Option ℕ) (s : Staged) (n : Named) (bytes : List ℕ) (a b : History) → DoesAll file log s (steps_to n bytes) a b → Has b → found ≡ bytes
  whole_bytes log s n bytes a b does has =
      let (one, two, empties, writes, rest) = put_parts file log s n bytes a b does in
      added [] bytes one two writes (λ l. emptied file l a one empties) (over_last HasFound has_over file log s n two b rest has)

-- ---- what a log has, while a text is put

module _ (log : ℕ) (bytes : List ℕ) where
  -- it had a beginning of these bytes
  abbrev Front : List FolderStep → Type 0
  Front steps = (old : List ℕ) × (more : List ℕ) × MayHaveAfter log old steps × (bytes ≡ old ++ more)

  before_same : (step : FolderStep) → ((old new : List ℕ) → Tells log step old new → new ≡ old) → IsCarried Front step
  before_same step same steps (l, more, (old, new, rest, has, tells, is), all) = (
    old,
    rest ++ more,
    has,
    all ∙ ap (λ p. p ++ more) (is ∙ ap (λ p. p ++ rest) (same old new tells)) ∙ append_assoc old rest more,
  )

  front_stays : (step : FolderStep) → IsStill (change_of step) → IsCarried Front step
  front_stays step is = before_same step (λ old new tells. unchanged log (change_of step) old new is tells.1)

  told_front : (a : History) → MayHave log a bytes → OfTold Front a
  told_front None has = absurd has
  told_front (Some steps) has = (bytes, [], has, sym (append-nil bytes))

  had_front : (a : History) → OfTold Front a → HadFront log a bytes
  had_front None front = absurd front
  had_front (Some steps) front = front

  pub text_is_elsewhere : (file : ℕ) (dated : Option ℕ) (path name text : List ℕ) (own now_own : Option Stamp) (is_there : Bool) (a made b : History) → file ≢ log
      → MakesNextText file path name is_there a made → PutsBeside file dated path name text own now_own made b → MayHave log b bytes → HadFront log a bytes
  text_is_elsewhere file dated path name text own now_own is_there a made b other (found, looked, one, makes)
      (answer, locked, put, s, look, no_others, tried, next, (empty, empties, (written, writes, rest)), step, is_own) has =
      let late = over_still Front front_stays (LooksAt file look) put b tt step (told_front b has) in
      let last = over_last Front front_stays file dated s named.Settled written put rest late in
      let add = carry Front (Adds file text) empty written (before_same (Adds file text) (λ _ _ t. t.1.1 other)) writes last in
      let early = carry Front (Empties file) locked empty (before_same (Empties file) (λ _ _ t. t.1.1 other)) empties add in
      let before = over_made Front front_stays file path found is_there looked made makes (over_still Front front_stays (Locks file answer) made locked tt tried early) in
      had_front a (over_still Front front_stays (Looks name found) a looked tt one before)

-- ---- which file a path stands for

module _ (stamp_of : ℕ → Stamp) (path : List ℕ) (file : ℕ) where
  abbrev At : List FolderStep → Type 0
  At = StandsAfter stamp_of path file

  quiet_names : (step : FolderStep) → IsQuietStep step → IsCarried At step
  quiet_names (Looks other seen) quiet steps s = s
  quiet_names (Follows other None) quiet steps s = s.1
  quiet_names (Follows other (Some look)) quiet steps s = s.1
  quiet_names (Resolves other target) quiet steps s = s
  quiet_names (LooksAt opened look) quiet steps s = s.1
  quiet_names (Opens opened other opening.Read) quiet steps s = s.1
  quiet_names (Opens opened other opening.Write) quiet steps s = s.1
  quiet_names (Opens opened other opening.Add) quiet steps s = s.1
  quiet_names (Opens opened other opening.Beside) quiet steps s = absurd quiet
  quiet_names (Opens opened other (opening.New mode)) quiet steps s = absurd quiet
  quiet_names (Locks opened lock) quiet steps s = s
  quiet_names (Ends opened size end) quiet steps s = s
  quiet_names (EndsInNewline opened size newline) quiet steps s = s
  quiet_names (Adds opened bytes) quiet steps s = absurd quiet
  quiet_names (Empties opened) quiet steps s = absurd quiet
  quiet_names (SetsMode opened mode) quiet steps s = absurd quiet
  quiet_names (GivesTo opened owner) quiet steps s = absurd quiet
  quiet_names (Dates opened log later) quiet steps s = absurd quiet
  quiet_names (Syncs opened) quiet steps s = s
  quiet_names (SyncsFolder other) quiet steps s = absurd quiet
  quiet_names (ReadsAll opened bytes) quiet steps s = absurd quiet
  quiet_names (Reads other bytes) quiet steps s = s
  quiet_names (Links other new) quiet steps s = absurd quiet
  quiet_names (Makes new bytes) quiet steps s = absurd quiet
  quiet_names (Removes other) quiet steps s = absurd quiet
  quiet_names (Renames other new) quiet steps s = absurd quiet
  quiet_names (Overwrites opened other) quiet steps s = absurd quiet

  abbrev Here : History → Type 0
  Here h = OfTold At h

  stood : (step : FolderStep) (a b : History) → IsCarried At step → b ≡ after step a → Here b → Here a
  stood step a b over is here = carry At step a b over is here

  stood_quiet : (step : FolderStep) (a b : History) → IsQuietStep step → b ≡ after step a → Here b → Here a
  stood_quiet step a b quiet is here = stood step a b (quiet_names step quiet) is here

  stood_owner : (which : ℕ) (owner : Owner) (is_owned : Bool) (a b : History) → TakesOwner which owner a b is_owned → Here b → Here a
  stood_owner which owner true a b (look, looked, one, inl (same, is)) here = stood_quiet (LooksAt which look) a looked tt one (subst Here is here)
  stood_owner which owner true a b (look, looked, one, inr given) here =
      stood_quiet (LooksAt which look) a looked tt one (stood (GivesTo which owner) looked b (λ steps s. s) given here)
  stood_owner which owner false a b (look, other, is) here = stood_quiet (LooksAt which look) a b tt is here

  stood_mode : (which : ℕ) (like : Look) (a b : History) → TakesMode which like a b → Here b → Here a
  stood_mode which like a b (owned, is_owned, owner, is) here = stood_owner which like.owner is_owned a owned owner (carry At _ owned b (λ steps s. s) is here)

  stood_text_rights : (which : ℕ) (found : Option Look) (a b : History) → TakesTextRights which found a b → Here b → Here a
  stood_text_rights which None a b is here = carry At _ a b (λ steps s. s) is here
  stood_text_rights which (Some like) a b takes here = stood_mode which like a b takes here

  stood_rights : (which : ℕ) (standing : Option Look) (text : List ℕ) (a b : History) → TakesRights which standing text a b → Here b → Here a
  stood_rights which (Some like) text a b takes here = stood_mode which like a b takes here
  stood_rights which None text a b (found, followed, one, takes) here = stood_quiet (Follows text found) a followed tt one (stood_text_rights which found followed b takes here)

  stood_synced : (which : ℕ) (log later : Option ℕ) (a b : History) → SyncsDated which log later a b → Here b → Here a
  stood_synced which log later a b syncs here = over_synced At quiet_names (λ other of at steps s. s) which log later a b syncs here

  -- it is shown to stand for a file that is which
  is_shown : (which : ℕ) (a b : History) → AreApart stamp_of → StandsFor which path a b → Here b → file ≡ which
  is_shown which a b apart (found, opened, followed, one, two, same) here =
      let late = told At (LooksAt which opened) followed b two here in
      let first : AreOfOneFile opened.stamp (stamp_of which) = told_fact _ followed (told_more _ _ followed (λ steps s. s.0) late) in
      let early = told At (Follows path (Some found)) a followed one (told_more _ At followed (λ steps s. s.1) late) in
      let second : AreOfOneFile found.stamp (stamp_of file) = told_fact _ a (told_more _ _ a (λ steps s. s.0 refl) early) in
      apart file which (record { device = sym second.device ∙ same.device ∙ first.device; inode = sym second.inode ∙ same.inode ∙ first.inode })

  is_held : (which : ℕ) (a b : History) → AreApart stamp_of → HoldsEmpty which path a b → Here b → file ≡ which
  unfolding HoldsEmpty
  is_held which a b apart (look, held, (answer, locked, free, tried, stands), is, empty) here =
      is_shown which locked held apart stands (stood_quiet (LooksAt which look) held b tt is here)

  is_taken : (which : ℕ) (a b : History) → AreApart stamp_of → IsTaken which path a b → Here b → file ≡ which
  is_taken which a b apart (inl stands) here = is_shown which a b apart stands here
  is_taken which a b apart (inr (old, opened, opens, held)) here = is_held which opened b apart held here

  -- it is shown to stand for none
  is_not_there : (a : History) → Here (after (Follows path None) a) → ⊥
  is_not_there None here = here
  is_not_there (Some steps) here = here.0 refl

  -- it is a file that was written over
  is_overwritten : (which : ℕ) (a b : History) → b ≡ after (Overwrites which path) a → Here b → file ≡ which
  is_overwritten which a b is here = told_fact _ a (told_more _ _ a (λ steps s. s.0 refl) (told At (Overwrites which path) a b is here))

-- what is so of a path as soon as a file is made beside a text
module _ (stamp_of : ℕ → Stamp) (path : List ℕ) (file which : ℕ) (beside : List ℕ) (X : Type 0)
    (at_once : (mode : ℕ) (steps : List FolderStep) → StandsAfter stamp_of path file (Opens which beside (opening.New mode) ∷ steps) → X) where
  once_made : (mode : ℕ) (a b : History) → MakesBeside which beside mode a b → Stands stamp_of path file b → X
  once_made mode a b (cleared, way, is) here =
      told_fact X cleared (told_more _ _ cleared (at_once mode) (told (StandsAfter stamp_of path file) (Opens which beside (opening.New mode)) cleared b is here))

  once_like : (like : Look) (a b : History) → MakesLike which beside like a b → Stands stamp_of path file b → X
  once_like like a b (made, owned, makes, owner, is) here =
      once_made 0 a made makes (stood_owner stamp_of path file which like.owner true made owned owner (stood stamp_of path file (SetsMode which like.mode) owned b (λ steps s. s) is here))

  once_for : (found : Option Look) (is_there : Bool) (a b : History) → MakesFor which beside found is_there a b → Stands stamp_of path file b → X
  once_for None is_there a b makes here = once_made 438 a b makes here
  once_for (Some look) is_there a b (plain, there, makes) here = once_like look a b makes here

  once_next : (name : List ℕ) (is_there : Bool) (a b : History) → MakesNextText which beside name is_there a b → Stands stamp_of path file b → X
  once_next name is_there a b (found, looked, one, makes) here = once_for found is_there looked b makes here

module _ (stamp_of : ℕ → Stamp) (path : List ℕ) (file which : ℕ) where
  -- it stands for that file
  is_made : (name : List ℕ) (is_there : Bool) (a b : History) → MakesNextText which path name is_there a b → Stands stamp_of path file b → file ≡ which
  is_made name is_there a b makes here = once_next stamp_of path file which path (file ≡ which) (λ mode steps s. s.0 refl) name is_there a b makes here

  -- another path does not
  is_another : (beside name : List ℕ) (is_there : Bool) (a b : History) → path ≢ beside → MakesNextText which beside name is_there a b → Stands stamp_of path file b → file ≢ which
  is_another beside name is_there a b off makes here = once_next stamp_of path file which beside (file ≢ which) (λ mode steps s. (s.1 off).0) name is_there a b makes here

-- ---- a file that takes a name

module _ (stamp_of : ℕ → Stamp) (path : List ℕ) (file : ℕ) (free : EndsInTilde path → ⊥) where
  -- a path that is no kept one, while others are kept
  over_links : (other name : List ℕ) → EndsInTilde name → IsCarried (StandsAfter stamp_of path file) (Links other name)
  over_links other name tilde steps s = s.1 (λ same. free (subst EndsInTilde (sym same) tilde))

  over_makes : (name bytes : List ℕ) → EndsInTilde name → IsCarried (StandsAfter stamp_of path file) (Makes name bytes)
  over_makes name bytes tilde steps s = s (λ same. free (subst EndsInTilde (sym same) tilde))

  stood_kept : (log : Option ℕ) (o : Old) (name : List ℕ) (a b : History) → KeepsOld log o name a b → Stands stamp_of path file b → Stands stamp_of path file a
  stood_kept log o name a b keeps stands = over_old (StandsAfter stamp_of path file) (quiet_names stamp_of path file) over_links over_makes log o name a b keeps stands

module _ (stamp_of : ℕ → Stamp) (file : ℕ) where
  moved : (path name : List ℕ) (a b : History) → b ≡ after (Renames path name) a → Stands stamp_of name file b → Stands stamp_of path file a
  moved path name a b is stands = told_more _ (StandsAfter stamp_of path file) a (λ steps s. s.0 refl) (told (StandsAfter stamp_of name file) (Renames path name) a b is stands)

  linked : (path name : List ℕ) (a b : History) → b ≡ after (Links path name) a → Stands stamp_of name file b → Stands stamp_of path file a
  linked path name a b is stands = told_more _ (StandsAfter stamp_of path file) a (λ steps s. s.0 refl) (told (StandsAfter stamp_of name file) (Links path name) a b is stands)

  had_name : (path name : List ℕ) (a b : History) → GivesFreeName path name a b → Stands stamp_of name file b → Stands stamp_of path file a
  had_name path name a b (inl (link, one, inl is)) stands = linked path name a link one (subst (Stands stamp_of name file) is stands)
  had_name path name a b (inl (link, one, inr is)) stands = linked path name a link one (stood stamp_of name file (Removes path) link b (λ steps s. s.1) is stands)
  had_name path name a b (inr (looked, one, is)) stands = stood_quiet stamp_of path file (Looks name None) a looked tt one (moved path name looked b is stands)

  taken : (o : Old) (path name : List ℕ) (a b : History) → TakesOld o path name a b → Stands stamp_of name file b → Stands stamp_of path file a
  taken old.Nothing path name a b gives stands = had_name path name a b gives stands
  taken old.Log path name a b is stands = moved path name a b is stands
  taken (old.Text own bytes) path name a b is stands = moved path name a b is stands
  taken (old.Read size) path name a b is stands = moved path name a b is stands

  last_names : (which : ℕ) (log : Option ℕ) (s : Staged) (n : Named) (a b : History) → (EndsInTilde s.path.now → ⊥) → DoesAll which log s (last_steps n) a b
      → Stands stamp_of s.name.now file b → Stands stamp_of s.path.now file a
  last_names which log s named.Settled a b free (synced, syncs, (kept, keeps, (given, takes, last))) stands =
      let path = s.path.now in
      let named = taken s.old path s.name.now kept given takes (stood stamp_of s.name.now file (SyncsFolder s.name.now) given b (λ steps t. t) last stands) in
      stood_synced stamp_of path file which log s.later a synced syncs (stood_kept stamp_of path file free log s.old s.name.now synced kept keeps named)
  last_names which log s (named.Unsettled error) a b free (synced, syncs, (kept, keeps, takes)) stands =
      let path = s.path.now in
      stood_synced stamp_of path file which log s.later a synced syncs
      (stood_kept stamp_of path file free log s.old s.name.now synced kept keeps (taken s.old path s.name.now kept b takes stands))

  -- what has the name, stood at the path before
  whole_names : (which : ℕ) (log : Option ℕ) (s : Staged) (n : Named) (bytes : List ℕ) (a b : History) → (EndsInTilde s.path.now → ⊥) → DoesAll which log s (steps_to n bytes) a b
      → Stands stamp_of s.name.now file b → Stands stamp_of s.path.now file a
  whole_names which log s n bytes a b free does stands =
      let (one, two, empties, writes, rest) = put_parts which log s n bytes a b does in
      let path = s.path.now in
      let late = last_names which log s n two b free rest stands in
      stood stamp_of path file (Empties which) a one (λ steps t. t) empties (stood stamp_of path file (Adds which bytes) one two (λ steps t. t) writes late)

-- ---- a log, and a text

-- all of its lines, if nobody else writes into it
put_known : (old : Option ℕ) (file : ℕ) (path name text : List ℕ) (standing : Option Look) (n : Named) (lines : List ℕ) (a b : History) → PutsLog old file path name text standing (steps_to n lines) a b
    → IsKnown file b lines
put_known old file path name text standing n lines a b (roomy, taken, room, took, only, (righted, s, rights, is_path, is_name, is_later, is_old, does)) = λ found has.
    whole_bytes file found old s n lines righted b does has

pub log_known : (old : Option ℕ) (file : ℕ) (path name text : List ℕ) (standing : Option Look) (lines : List ℕ) (left : LeftLog) (a b : History) → MakesLog old file path name text standing lines left a b
    → IsKnown file b lines
log_known old file path name text standing lines left a b (put, look, looked, puts, step, (seen, at, one, two, same)) = λ found has.
    let ended = had file found (Ends file look.stamp.length (Some left.end)) at b tt two has in
    put_known old file path name text standing named.Settled lines a put puts found
    (had file found (LooksAt file look) put looked tt step (had file found (LooksAt file seen) looked at tt one ended))

module _ (stamp_of : ℕ → Stamp) (apart : AreApart stamp_of) where
  put_holds : (old : Option ℕ) (file : ℕ) (path name text : List ℕ) (standing : Option Look) (n : Named) (lines found : List ℕ) (a b : History) → (EndsInTilde path → ⊥)
      → PutsLog old file path name text standing (steps_to n lines) a b → Holds stamp_of name found b → found ≡ lines
  put_holds old file path name text standing n lines found a b free puts (other, stands, has) =
      let (roomy, taken, room, took, only, (righted, s, rights, is_path, is_name, is_later, is_old, does)) = puts in
      let beside = whole_names stamp_of other file old s n lines righted b (λ t. free (subst EndsInTilde is_path t)) does (subst (λ m. Stands stamp_of m other b) (sym is_name) stands) in
      let here = stood_rights stamp_of path other file standing text taken righted rights (subst (λ p. Stands stamp_of p other righted) is_path beside) in
      let is : other ≡ file = is_taken stamp_of path other file roomy taken apart took here in
      put_known old file path name text standing n lines a b puts found (subst (λ f. OfTold (HasAfter f found) b) is has)

  pub log_holds : (old : Option ℕ) (file : ℕ) (path name text : List ℕ) (standing : Option Look) (lines found : List ℕ) (left : LeftLog) (a b : History) → (EndsInTilde path → ⊥)
      → MakesLog old file path name text standing lines left a b → Holds stamp_of name found b → found ≡ lines
  log_holds old file path name text standing lines found left a b free (put, look, looked, puts, step, (seen, at, one, two, same)) (other, stands, has) =
      let ended = stood stamp_of name other (Ends file look.stamp.length (Some left.end)) at b (λ steps t. t) two stands in
      let there = stood_quiet stamp_of name other (LooksAt file look) put looked tt step (stood_quiet stamp_of name other (LooksAt file seen) looked at tt one ended) in
      let had_last = had other found (Ends file look.stamp.length (Some left.end)) at b tt two has in
      let whole = had other found (LooksAt file look) put looked tt step (had other found (LooksAt file seen) looked at tt one had_last) in
      put_holds old file path name text standing named.Settled lines found a put free puts (other, there, whole)

  named_text : (log : Option ℕ) (file : ℕ) (path name bytes found : List ℕ) (own : Option Stamp) (is_there : Bool) (n : Named) (seen made b : History) → (EndsInTilde path → ⊥)
      → MakesNextText file path name is_there seen made → NamesText file log path name bytes own made b n → Holds stamp_of name found b → found ≡ bytes
  named_text log file path name bytes found own is_there n seen made b free makes (answer, locked, s, no_others, tried, next, does) (other, stands, has) =
      let beside = whole_names stamp_of other file log s n bytes locked b (λ t. free (subst EndsInTilde next.is_path t)) does (subst (λ m. Stands stamp_of m other b) (sym next.is_name) stands) in
      let here = stood stamp_of path other (Locks file answer) made locked (λ steps t. t) tried (subst (λ p. Stands stamp_of p other locked) next.is_path beside) in
      let is : other ≡ file = is_made stamp_of path other file name is_there seen made makes here in
      whole_bytes file found log s n bytes locked b does (subst (λ f. OfTold (HasAfter f found) b) is has)

  text_beside : (log : Option ℕ) (file : ℕ) (path name bytes found : List ℕ) (own now_own : Option Stamp) (is_there : Bool) (seen made b : History) → (EndsInTilde path → ⊥)
      → MakesNextText file path name is_there seen made → PutsBeside file log path name bytes own now_own made b → Holds stamp_of name found b → found ≡ bytes
  text_beside log file path name bytes found own now_own is_there seen made b free makes (answer, locked, put, s, look, no_others, tried, next, does, step, is_own) (other, stands, has) =
      named_text log file path name bytes found own is_there named.Settled seen made put free makes (answer, locked, s, no_others, tried, next, does)
      (other, stood_quiet stamp_of name other (LooksAt file look) put b tt step stands, had other found (LooksAt file look) put b tt step has)

  text_in_place : (log : Option ℕ) (name bytes found : List ℕ) (own now_own : Option Stamp) (a b : History) → PutsInPlace log name bytes own now_own a b
      → Holds stamp_of name found b → found ≡ bytes
  text_in_place log name bytes found own now_own a b (file, spared, over, written, synced, look, spares, overwrites, writes, syncs, step, is_own) (other, stands, has) =
      let late = stood_synced stamp_of name other file log (Some 100) written synced syncs (stood_quiet stamp_of name other (LooksAt file look) synced b tt step stands) in
      let is : other ≡ file = is_overwritten stamp_of name other file spared over overwrites (stood stamp_of name other (Adds file bytes) over written (λ steps t. t) writes late) in
      let had_last = had file found (LooksAt file look) synced b tt step (subst (λ f. OfTold (HasAfter f found) b) is has) in
      added file found [] bytes over written writes (λ l. overwritten file name l spared over overwrites) (had_synced file found log (Some 100) written synced syncs had_last)

  pub text_holds : (log text : Option ℕ) (path name bytes found : List ℕ) (own now_own : Option Stamp) (a b : History) → (EndsInTilde path → ⊥) → PutsText log text path name bytes own now_own a b
      → Holds stamp_of name found b → found ≡ bytes
  text_holds log text path name bytes found own now_own a b free (inl (file, is_there, seen, made, there, makes, puts, is)) holds =
      text_beside log file path name bytes found own now_own is_there seen made b free makes puts holds
  text_holds log text path name bytes found own now_own a b free (inr (seen, puts)) holds = text_in_place log name bytes found own now_own seen b puts holds

-- ---- what stands elsewhere

module _ (stamp_of : ℕ → Stamp) (next : ℕ) (path name here : List ℕ) (file : ℕ) (off_path : here ≢ path) (not_kept : EndsInTilde here → ⊥) where
  -- a step that gives this path to no file
  abbrev IsElsewhere : FolderStep → Type 0
  IsElsewhere step = IsStepBeside next path name step ⊎ (IsNamingStep next path name step × (here ≢ name))

  off_kept : (new : List ℕ) → EndsInTilde new → here ≢ new
  off_kept new tilde same = not_kept (subst EndsInTilde (sym same) tilde)

  off_beside : (opened : ℕ) (other : List ℕ) → IsElsewhere (Opens opened other opening.Beside) → here ≢ other
  off_beside opened other (inl (inl quiet)) = absurd quiet
  off_beside opened other (inl (inr (inl at))) = λ same. off_path (same ∙ at)
  off_beside opened other (inl (inr (inr (inl rights)))) = absurd rights
  off_beside opened other (inl (inr (inr (inr waiting)))) = absurd waiting
  off_beside opened other (inr (naming, off_name)) = absurd naming

  off_new : (opened : ℕ) (other : List ℕ) (mode : ℕ) → IsElsewhere (Opens opened other (opening.New mode)) → here ≢ other
  off_new opened other mode (inl (inl quiet)) = absurd quiet
  off_new opened other mode (inl (inr (inl at))) = absurd at
  off_new opened other mode (inl (inr (inr (inl rights)))) = absurd rights
  off_new opened other mode (inl (inr (inr (inr waiting)))) = absurd waiting
  off_new opened other mode (inr (naming, off_name)) = absurd naming

  off_link : (other new : List ℕ) → IsElsewhere (Links other new) → here ≢ new
  off_link other new (inl (inl quiet)) = absurd quiet
  off_link other new (inl (inr (inl at))) = off_kept new at.1
  off_link other new (inl (inr (inr (inl rights)))) = absurd rights
  off_link other new (inl (inr (inr (inr waiting)))) = off_kept new waiting.1
  off_link other new (inr (naming, off_name)) = λ same. off_name (same ∙ naming.1)

  off_make : (new bytes : List ℕ) → IsElsewhere (Makes new bytes) → here ≢ new
  off_make new bytes (inl (inl quiet)) = absurd quiet
  off_make new bytes (inl (inr (inl at))) = off_kept new at
  off_make new bytes (inl (inr (inr (inl rights)))) = absurd rights
  off_make new bytes (inl (inr (inr (inr waiting)))) = absurd waiting
  off_make new bytes (inr (naming, off_name)) = absurd naming

  off_rename : (other new : List ℕ) → IsElsewhere (Renames other new) → here ≢ new
  off_rename other new (inl (inl quiet)) = absurd quiet
  off_rename other new (inl (inr (inl at))) = absurd at
  off_rename other new (inl (inr (inr (inl rights)))) = absurd rights
  off_rename other new (inl (inr (inr (inr waiting)))) = absurd waiting
  off_rename other new (inr (naming, off_name)) = λ same. off_name (same ∙ naming.1)

  off_over : (opened : ℕ) (other : List ℕ) → IsElsewhere (Overwrites opened other) → here ≢ other
  off_over opened other (inl (inl quiet)) = absurd quiet
  off_over opened other (inl (inr (inl at))) = absurd at
  off_over opened other (inl (inr (inr (inl rights)))) = absurd rights
  off_over opened other (inl (inr (inr (inr waiting)))) = absurd waiting
  off_over opened other (inr (naming, off_name)) = λ same. off_name (same ∙ naming.0)

  names_elsewhere : (step : FolderStep) → IsElsewhere step → IsCarried (StandsAfter stamp_of here file) step
  names_elsewhere (Looks other seen) of steps s = s
  names_elsewhere (Follows other None) of steps s = s.1
  names_elsewhere (Follows other (Some look)) of steps s = s.1
  names_elsewhere (Resolves other target) of steps s = s
  names_elsewhere (LooksAt opened look) of steps s = s.1
  names_elsewhere (Opens opened other opening.Read) of steps s = s.1
  names_elsewhere (Opens opened other opening.Write) of steps s = s.1
  names_elsewhere (Opens opened other opening.Add) of steps s = s.1
  names_elsewhere (Opens opened other opening.Beside) of steps s = s.1 (off_beside opened other of)
  names_elsewhere (Opens opened other (opening.New mode)) of steps s = (s.1 (off_new opened other mode of)).1
  names_elsewhere (Locks opened lock) of steps s = s
  names_elsewhere (Ends opened size end) of steps s = s
  names_elsewhere (EndsInNewline opened size newline) of steps s = s
  names_elsewhere (Adds opened bytes) of steps s = s
  names_elsewhere (Empties opened) of steps s = s
  names_elsewhere (SetsMode opened mode) of steps s = s
  names_elsewhere (GivesTo opened owner) of steps s = s
  names_elsewhere (Dates opened log later) of steps s = s
  names_elsewhere (Syncs opened) of steps s = s
  names_elsewhere (SyncsFolder other) of steps s = s
  names_elsewhere (ReadsAll opened bytes) of steps s = s
  names_elsewhere (Reads other bytes) of steps s = s
  names_elsewhere (Links other new) of steps s = s.1 (off_link other new of)
  names_elsewhere (Makes new bytes) of steps s = s (off_make new bytes of)
  names_elsewhere (Removes other) of steps s = s.1
  names_elsewhere (Renames other new) of steps s = (s.1 (off_rename other new of)).1
  names_elsewhere (Overwrites opened other) of steps s = s.1 (off_over opened other of)

  stood_waiting : (a b : History) → WaitsBeside next path name a b → Stands stamp_of here file b → Stands stamp_of here file a
  stood_waiting a b waits stands = over_only _ (StandsAfter stamp_of here file) (λ step is. names_elsewhere step (inl is)) a b waits stands

  elsewhere : here ≢ name → (step : FolderStep) → IsStepBeside next path name step ⊎ IsNamingStep next path name step → IsElsewhere step
  elsewhere off_name step (inl beside) = inl beside
  elsewhere off_name step (inr naming) = inr (naming, off_name)

  pub stood_elsewhere : (off_name : here ≢ name) (a b : History) → PutsOnlyAt next path name a b → Stands stamp_of here file b → Stands stamp_of here file a
  stood_elsewhere off_name a b puts stands = over_only _ (StandsAfter stamp_of here file) (λ step is. names_elsewhere step (elsewhere off_name step is)) a b puts stands

-- ---- a log, while one that is to take its name waits

-- if it is another file
module _ (next : ℕ) (path name : List ℕ) (file : ℕ) (other : file ≢ next) (found : List ℕ) where
  abbrev IsOf : FolderStep → Type 0
  IsOf step = IsStepBeside next path name step ⊎ IsNamingStep next path name step

  adds_to : (opened : ℕ) (bytes : List ℕ) → IsOf (Adds opened bytes) → opened ≡ next
  adds_to opened bytes (inl (inl quiet)) = absurd quiet
  adds_to opened bytes (inl (inr (inl at))) = absurd at
  adds_to opened bytes (inl (inr (inr (inl rights)))) = absurd rights
  adds_to opened bytes (inl (inr (inr (inr waiting)))) = waiting
  adds_to opened bytes (inr naming) = absurd naming

  empties : (opened : ℕ) → IsOf (Empties opened) → opened ≡ next
  empties opened (inl (inl quiet)) = absurd quiet
  empties opened (inl (inr (inl at))) = absurd at
  empties opened (inl (inr (inr (inl rights)))) = absurd rights
  empties opened (inl (inr (inr (inr waiting)))) = waiting
  empties opened (inr naming) = absurd naming

  overwrites : (opened : ℕ) (there : List ℕ) → IsOf (Overwrites opened there) → opened ≡ next
  overwrites opened there (inl (inl quiet)) = absurd quiet
  overwrites opened there (inl (inr (inl at))) = absurd at
  overwrites opened there (inl (inr (inr (inl rights)))) = absurd rights
  overwrites opened there (inl (inr (inr (inr waiting)))) = absurd waiting
  overwrites opened there (inr naming) = naming.1

  not_written : (written : ℕ) (bytes was : List ℕ) (steps : List FolderStep) → written ≡ next → (written ≢ file → found ≡ was) → HasAfter file was steps → HasAfter file found steps
  not_written written bytes was steps is same has = subst (λ l. HasAfter file l steps) (sym (same (λ e. other (sym e ∙ is)))) has

  put_bytes : (step : FolderStep) → IsOf step → IsCarried (HasAfter file found) step
  put_bytes (Looks there seen) of steps has = has_over file found (Looks there seen) tt steps has
  put_bytes (Follows there seen) of steps has = has_over file found (Follows there seen) tt steps has
  put_bytes (Resolves there target) of steps has = has_over file found (Resolves there target) tt steps has
  put_bytes (LooksAt opened look) of steps has = has_over file found (LooksAt opened look) tt steps has
  put_bytes (Opens opened there how) of steps has = has_over file found (Opens opened there how) tt steps has
  put_bytes (Locks opened lock) of steps has = has_over file found (Locks opened lock) tt steps has
  put_bytes (Ends opened size end) of steps has = has_over file found (Ends opened size end) tt steps has
  put_bytes (EndsInNewline opened size newline) of steps has = has_over file found (EndsInNewline opened size newline) tt steps has
  put_bytes (SetsMode opened mode) of steps has = has_over file found (SetsMode opened mode) tt steps has
  put_bytes (GivesTo opened owner) of steps has = has_over file found (GivesTo opened owner) tt steps has
  put_bytes (Dates opened dated later) of steps has = has_over file found (Dates opened dated later) tt steps has
  put_bytes (Syncs opened) of steps has = has_over file found (Syncs opened) tt steps has
  put_bytes (SyncsFolder there) of steps has = has_over file found (SyncsFolder there) tt steps has
  put_bytes (ReadsAll opened bytes) of steps has = has_over file found (ReadsAll opened bytes) tt steps has
  put_bytes (Reads there bytes) of steps has = has_over file found (Reads there bytes) tt steps has
  put_bytes (Links there new) of steps has = has_over file found (Links there new) tt steps has
  put_bytes (Makes new bytes) of steps has = has_over file found (Makes new bytes) tt steps has
  put_bytes (Removes there) of steps has = has_over file found (Removes there) tt steps has
  put_bytes (Renames there new) of steps has = has_over file found (Renames there new) tt steps has
  put_bytes (Adds opened bytes) of steps (was, has, tells) = not_written opened bytes was steps (adds_to opened bytes of) tells.1.1 has
  put_bytes (Empties opened) of steps (was, has, tells) = not_written opened [] was steps (empties opened of) tells.1.1 has
  put_bytes (Overwrites opened there) of steps (was, has, tells) = not_written opened [] was steps (overwrites opened there of) tells.1.1 has

  pub had_elsewhere : (a b : History) → PutsOnlyAt next path name a b → OfTold (HasAfter file found) b → OfTold (HasAfter file found) a
  had_elsewhere a b puts has = over_only _ (HasAfter file found) put_bytes a b puts has

  had_waiting : (a b : History) → WaitsBeside next path name a b → OfTold (HasAfter file found) b → OfTold (HasAfter file found) a
  had_waiting a b waits has = had_elsewhere a b (puts_waits next path name a b waits) has

pub held_early : (stamp_of : ℕ → Stamp) (path name found : List ℕ) (a b : History) → name ≢ path → (EndsInTilde name → ⊥) → ChangesOnlyAt path a b → Holds stamp_of name found b
    → Holds stamp_of name found a
held_early stamp_of path name found a b off_path not_kept only (file, stands, has) =
    (file, stood_waiting stamp_of file path name name file off_path not_kept a b (waits_at file path name a b only) stands, had_waiting (suc file) path name file (λ e. absurd omega (arith, e)) found a b (waits_at (suc file) path name a b only) has)

module _ (stamp_of : ℕ → Stamp) (apart : AreApart stamp_of) where
  -- the log is the old one, or has all of the lines
  pub left_holds : (next : ℕ) (old : Option ℕ) (path name text : List ℕ) (standing : Option Look) (lines found : List ℕ) (a b : History) → name ≢ path → (EndsInTilde path → ⊥) → (EndsInTilde name → ⊥)
      → LeavesNext next old path name text standing lines a b → (Stands stamp_of name next a → ⊥) → Holds stamp_of name found b → Holds stamp_of name found a ⊎ (found ≡ lines)
  left_holds next old path name text standing lines found a b off_path free not_kept (inl (begun, taken, only, took, waits)) not_next (file, stands, has) =
      let before : WaitsBeside next path name a taken = waits_at next path name a taken only in
      let stood = stood_waiting stamp_of next path name name file off_path not_kept a taken before (stood_waiting stamp_of next path name name file off_path not_kept taken b waits stands) in
      let other : file ≢ next = λ same. not_next (subst (λ f. Stands stamp_of name f a) same stood) in
      inl (file, stood, had_waiting next path name file other found a taken before (had_waiting next path name file other found taken b waits has))
  left_holds next old path name text standing lines found a b off_path free not_kept (inr (n, begun, put, puts, quiet)) not_next (file, stands, has) =
      let there = over_only IsQuietStep (StandsAfter stamp_of name file) (quiet_names stamp_of name file) put b quiet stands in
      let whole = over_only IsQuietStep (HasAfter file found) (λ step q. has_over file found step (still step q)) put b quiet has in
      inr (put_holds stamp_of apart old next path name text standing n lines found begun put free puts (file, there, whole))

  -- there is none, or it has all of the lines
  pub unmade_holds : (old : Option ℕ) (path name text : List ℕ) (standing : Option Look) (lines found : List ℕ) (a b : History) → name ≢ path → (EndsInTilde path → ⊥) → (EndsInTilde name → ⊥)
      → LeavesLog old path name text standing lines (after (Follows name None) a) b → Holds stamp_of name found b → found ≡ lines
  unmade_holds old path name text standing lines found a b off_path free not_kept (inl only) holds =
      let (file, stands, has) = held_early stamp_of path name found (after (Follows name None) a) b off_path not_kept only holds in
      absurd (is_not_there stamp_of name file a stands)
  unmade_holds old path name text standing lines found a b off_path free not_kept (inr (next, leaves)) holds =
      elim (left_holds next old path name text standing lines found (after (Follows name None) a) b off_path free not_kept leaves (is_not_there stamp_of name next a) holds) [
        | inl held ↦ absurd (is_not_there stamp_of name held.0 a held.1)
        | inr is ↦ is
      ]

-- ---- a log, while a text is put that may fail

module _ (stamp_of : ℕ → Stamp) (path name log : List ℕ) (off_path : log ≢ path) (off_name : log ≢ name) (not_kept : EndsInTilde log → ⊥) where
  held_elsewhere : (next file : ℕ) (found : List ℕ) (a b : History) → PutsOnlyAt next path name a b → (Stands stamp_of log file a → file ≢ next)
      → Stands stamp_of log file b → OfTold (HasAfter file found) b → Holds stamp_of log found a
  held_elsewhere next file found a b puts other stands has =
      let stood = stood_elsewhere stamp_of next path name log file off_path not_kept off_name a b puts stands in
      (file, stood, had_elsewhere next path name file (other stood) found a b puts has)

  -- a new one does
  held_beside : (dated : Option ℕ) (bytes found : List ℕ) (own : Option Stamp) (a b : History) → WritesBeside dated path name bytes own a b → Holds stamp_of log found b → Holds stamp_of log found a
  held_beside dated bytes found own a b (inl is) holds = subst (Holds stamp_of log found) is holds
  held_beside dated bytes found own a b (inr (next, is_there, seen, makes, puts, left)) (file, stands, has) =
      held_elsewhere next file found a b puts (λ stood. is_another stamp_of log file next path name is_there seen a off_path makes stood) stands has

  -- one that is not the log's does
  held_over : (over : ℕ) (dated : Option ℕ) (bytes found : List ℕ) (own : Option Stamp) (a b : History) → WritesInPlace over dated name bytes own a b → (Stands stamp_of log over b → ⊥)
      → Holds stamp_of log found b → Holds stamp_of log found a
  held_over over dated bytes found own a b (inl idle) not_over holds = held_early stamp_of path log found a b off_path not_kept (at_idle path a b idle) holds
  held_over over dated bytes found own a b (inr (spared, spares, inl is)) not_over holds =
      held_early stamp_of name log found a spared off_name not_kept (at_spared name own bytes a spared spares) (subst (Holds stamp_of log found) is holds)
  held_over over dated bytes found own a b (inr (spared, spares, inr (emptied, is, adds))) not_over (file, stands, has) =
      let puts = puts_chain over path name spared emptied b (puts_one over path name spared emptied (Overwrites over name) is (refl, refl)) (puts_in_place over path name dated bytes emptied b adds) in
      let other : file ≢ over = λ same. not_over (subst (λ f. Stands stamp_of log f b) same stands) in
      held_early stamp_of name log found a spared off_name not_kept (at_spared name own bytes a spared spares) (held_elsewhere over file found spared b puts (λ _. other) stands has)

  -- or is made, and gets none
  held_new : (found : List ℕ) (a b : History) → MakesFileAt path a b → Holds stamp_of log found b → Holds stamp_of log found a
  held_new found a b (inl only) holds = held_early stamp_of path log found a b off_path not_kept only holds
  held_new found a b (inr (next, mode, cleared, made, only, is, fits)) (file, stands, has) =
      let waits : WaitsBeside next path name made b = waits_fits next path name made b fits in
      let here = told (StandsAfter stamp_of log file) (Opens next path (opening.New mode)) cleared made is (stood_waiting stamp_of next path name log file off_path not_kept made b waits stands) in
      let other = told_fact (file ≢ next) cleared (told_more _ _ cleared (λ steps s. (s.1 off_path).0) here) in
      let there = told_more _ (StandsAfter stamp_of log file) cleared (λ steps s. (s.1 off_path).1) here in
      let whole = had file found (Opens next path (opening.New mode)) cleared made tt is (had_waiting next path name file other found made b waits has) in
      held_early stamp_of path log found a cleared off_path not_kept only (file, there, whole)

  pub held_tried : (over : ℕ) (dated : Option ℕ) (bytes found : List ℕ) (own : Option Stamp) (a b : History) → TriesText over dated path name bytes own a b → (Stands stamp_of log over b → ⊥)
      → Holds stamp_of log found b → Holds stamp_of log found a
  held_tried over dated bytes found own a b (made, put, makes, beside, in_place) not_over holds =
      held_new found a made makes (held_beside dated bytes found own made put beside (held_over over dated bytes found own put b in_place not_over holds))

-- a text that could not be put beside is the old one, or has all of the bytes
pub text_left : (stamp_of : ℕ → Stamp) (apart : AreApart stamp_of) (file : ℕ) (log : Option ℕ) (path name bytes found : List ℕ) (own : Option Stamp) (is_there : Bool) (seen made b : History)
    → name ≢ path → (EndsInTilde path → ⊥) → (EndsInTilde name → ⊥) → MakesNextText file path name is_there seen made → LeavesNextText file log path name bytes own made b
    → Holds stamp_of name found b → Holds stamp_of name found made ⊎ (found ≡ bytes)
text_left stamp_of apart file log path name bytes found own is_there seen made b off_path free not_kept makes (inl waits) (other, stands, has) =
    let stood = stood_waiting stamp_of file path name name other off_path not_kept made b waits stands in
    inl (other, stood, had_waiting file path name other (is_another stamp_of name other file path name is_there seen made off_path makes stood) found made b waits has)
text_left stamp_of apart file log path name bytes found own is_there seen made b off_path free not_kept makes (inr (n, put, names, quiet)) (other, stands, has) =
    let there = over_only IsQuietStep (StandsAfter stamp_of name other) (quiet_names stamp_of name other) put b quiet stands in
    let whole = over_only IsQuietStep (HasAfter other found) (λ step q. has_over other found step (still step q)) put b quiet has in
    inr (named_text stamp_of apart log file path name bytes found own is_there n seen made put free makes names (other, there, whole))

-- ---- names beside

abbrev last_of : ℕ → List ℕ → ℕ
last_of x [] = x
last_of x (y ∷ l) = last_of y l

last_behind : (x : ℕ) (l : List ℕ) (y : ℕ) (m : List ℕ) → last_of x (l ++ y ∷ m) ≡ last_of y m
last_behind x [] y m = refl
last_behind x (z ∷ l) y m = last_behind z l y m

no_kept : (name : List ℕ) (x : ℕ) (end : List ℕ) → last_of x end ≢ 126 → EndsInTilde (name ++ x ∷ end) → ⊥
no_kept name x end other (front, is) = other (sym (last_behind 0 name x end) ∙ ap (last_of 0) is ∙ last_behind 0 front 126 [])

-- what is written beside a log or a text is no name that is kept
pub next_log_is_not_kept : (name : List ℕ) → EndsInTilde (name ++ codes ".new") → ⊥
next_log_is_not_kept name kept = no_kept name 46 (110 ∷ 101 ∷ 119 ∷ []) (λ e. absurd omega (arith, e)) kept

pub next_text_is_not_kept : (name : List ℕ) → EndsInTilde (name ++ codes ".ops.text") → ⊥
next_text_is_not_kept name kept = no_kept name 46 (111 ∷ 112 ∷ 115 ∷ 46 ∷ 116 ∷ 101 ∷ 120 ∷ 116 ∷ []) (λ e. absurd omega (arith, e)) kept

-- and has another name than what it is beside
pub next_log_differs : (name : List ℕ) → name ≢ name ++ codes ".new"
next_log_differs name same = let long = length-append name (codes ".new") in absurd omega (arith, long, ap length same)

pub next_text_differs : (name : List ℕ) → name ≢ name ++ codes ".ops.text"
next_text_differs name same = let long = length-append name (codes ".ops.text") in absurd omega (arith, long, ap length same)
