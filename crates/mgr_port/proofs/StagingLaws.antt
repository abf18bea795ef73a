-- A file beside, as far as it came.
use Rattle.std.proofs.Common.{◌≡◌, ◌⊎◌, inl, inr, ◌∙◌, ℕ, List, [], ◌∷◌, ◌++◌, Option, Some, None, Result, Ok, Err, OnOk, OnErr, refl, sym, ap, subst}
use Rattle.std.proofs.lemmas.Result.{on_err_weaker}
use Rattle.mgr_port.specs.Disk.{DiskStep, BeginsSteps, Syncs, Keeps, TakesName, unnamed_steps}
use Rattle.mgr_port.specs.Disk as disk
use Rattle.mgr_port.specs.Folder.{History, FolderStep, IsIdle, Adds, Renames, Steps, after}
use Rattle.mgr_port.specs.Folder as folder
use Rattle.mgr_port.specs.Locks.{StandsAsRead}
use Rattle.mgr_port.specs.Spares.{GivesFreeName}
use Rattle.mgr_port.specs.Staging.{Does, DoesAll, KeepsOld, MayDate, StopsBefore, TakesOld}
use Rattle.mgr_port.specs.declared.staged.Old.{Old}
use Rattle.mgr_port.specs.declared.staged.Old.TheVariants as old
use Rattle.mgr_port.specs.declared.staged.Staged.{Staged}
use Rattle.mgr_port.proofs.FolderLaws.{only_none, only_chain, idle_follow_look_at, on_err}

begins_none : (wanted : List DiskStep) → BeginsSteps [] wanted
begins_none [] = refl
begins_none (step ∷ later) = inl refl

-- something stands under the name
abbrev pub HasOld : Old → Type 0
HasOld old.Nothing = ⊥
HasOld other = Unit {0}

takes : (o : Old) (path name : List ℕ) (b c : History) → HasOld o → c ≡ after (Renames path name) b → TakesOld o path name b c
takes old.Nothing path name b c has is = absurd has
takes old.Log path name b c has is = is
takes (old.Text own bytes) path name b c has is = is
takes (old.Read size) path name b c has is = is

module _ (file : ℕ) (log : Option ℕ) where
  undated : (later : Option ℕ) (a : History) → MayDate file log later a a
  undated None a = refl
  undated (Some later) a = inl refl

  -- the step that comes next failed
  pub stops_here : (s : Staged) (a b : History) (wanted : List DiskStep) → IsIdle a b → StopsBefore file log s wanted a b
  stops_here s a b wanted i = record { made = []; done = a; begins = begins_none wanted; does = refl; dated = a; may = undated s.later a; idle = i }

  -- the same once it has its date
  pub stops_dated : (s : Staged) (a b : History) (wanted : List DiskStep) → MayDate file log s.later a b → StopsBefore file log s wanted a b
  stops_dated s a b wanted may = record { made = []; done = a; begins = begins_none wanted; does = refl; dated = b; may = may; idle = only_none b b refl }

  does_more : (s : Staged) (a b c : History) (step : DiskStep) (made : List DiskStep) → Does file log s step a b → DoesAll file log s made b c → DoesAll file log s (step ∷ made) a c
  does_more s a b c step [] one is = subst (λ h. Does file log s step a h) (sym is) one
  does_more s a b c step (next ∷ later) one all = (b, one, all)

  -- it was done, and a later one failed
  pub stops_behind : (s : Staged) (a b c : History) (step : DiskStep) (later : List DiskStep) → Does file log s step a b → StopsBefore file log s later b c → StopsBefore file log s (step ∷ later) a c
  stops_behind s a b c step later one t = record {
    made = step ∷ t.made;
    done = t.done;
    begins = inr (inr (t.made, refl, t.begins));
    does = does_more s a b t.done step t.made one t.does;
    dated = t.dated;
    may = t.may;
    idle = t.idle;
  }

  -- of its bytes none were written, or a beginning
  stops_in_write : (s : Staged) (a b : History) (bytes : List ℕ) (later : List DiskStep)
      → (b ≡ a) ⊎ ((front : List ℕ) × (rest : List ℕ) × (bytes ≡ front ++ rest) × (b ≡ after (Adds file front) a)) → StopsBefore file log s (disk.Writes bytes ∷ later) a b
  stops_in_write s a b bytes later (inl is) = stops_here s a b (disk.Writes bytes ∷ later) (only_none a b is)
  stops_in_write s a b bytes later (inr (front, rest, parts, is)) = record {
    made = disk.Writes front ∷ [];
    done = b;
    begins = inr (inl (front, rest, ap (λ (l : List ℕ). disk.Writes l) parts, refl));
    does = is;
    dated = b;
    may = undated s.later b;
    idle = only_none b b refl;
  }

  -- ---- a whole file, as far as it came

  -- of its bytes not all were written
  pub stops_unwritten : (s : Staged) (a b c : History) (bytes : List ℕ) → b ≡ after (folder.Empties file) a
      → (c ≡ b) ⊎ ((front : List ℕ) × (rest : List ℕ) × (bytes ≡ front ++ rest) × (c ≡ after (Adds file front) b)) → StopsBefore file log s (unnamed_steps bytes) a c
  stops_unwritten s a b c bytes emptied begun =
      let later = Syncs ∷ Keeps ∷ [] in stops_behind s a b c disk.Empties (disk.Writes bytes ∷ later) emptied (stops_in_write s b c bytes later begun)

  -- all of them were
  pub stops_unnamed : {A E : Type 0} (answer : Result A E) (s : Staged) (a b c d : History) (bytes : List ℕ) → b ≡ after (folder.Empties file) a → c ≡ after (Adds file bytes) b
      → OnErr answer (StopsBefore file log s (Syncs ∷ Keeps ∷ []) c d) → OnErr answer (StopsBefore file log s (unnamed_steps bytes) a d)
  stops_unnamed answer s a b c d bytes emptied written =
      let later = Syncs ∷ Keeps ∷ [] in
      on_err_weaker answer (λ t. stops_behind s a b d disk.Empties (disk.Writes bytes ∷ later) emptied (stops_behind s b c d (disk.Writes bytes) later written t))

  -- ---- the name

  given : (s : Staged) (o : Old) (a b c : History) → s.old ≡ o → HasOld o → KeepsOld log o s.name.now a b → c ≡ after (Renames s.path.now s.name.now) b → DoesAll file log s (Keeps ∷ TakesName ∷ []) a c
  given s o a b c same has kept is =
      (b, subst (λ p. KeepsOld log p s.name.now a b) (sym same) kept, subst (λ p. TakesOld p s.path.now s.name.now b c) (sym same) (takes o s.path.now s.name.now b c has is))

  -- what stands there is kept, and the name is given to the file; or could not be
  pub named_kept : {A E : Type 0} (r : Result A E) (s : Staged) (o : Old) (a b c : History) (name : List ℕ) → s.old ≡ o → HasOld o → KeepsOld log o s.name.now a b → name ≡ s.name.now
      → Steps r (λ _. Renames s.path.now name) b c → OnOk r (DoesAll file log s (Keeps ∷ TakesName ∷ []) a c)
  named_kept (Err e) s o a b c name same has kept is step = tt
  named_kept (Ok x) s o a b c name same has kept is step = given s o a b c same has kept (step ∙ ap (λ n. after (Renames s.path.now n) b) is)

  pub unnamed_kept : {A E : Type 0} (r : Result A E) (s : Staged) (o : Old) (a b c : History) (step : A → FolderStep) → s.old ≡ o → KeepsOld log o s.name.now a b → Steps r step b c
      → OnErr r (StopsBefore file log s (Keeps ∷ []) a c)
  unnamed_kept (Ok x) s o a b c step same kept is = tt
  unnamed_kept (Err e) s o a b c step same kept is =
      stops_behind s a b c Keeps [] (subst (λ p. KeepsOld log p s.name.now a b) (sym same) kept) (stops_here s b c [] (only_none b c is))

  -- nothing stands there
  pub named_free : {A E : Type 0} (r : Result A E) (s : Staged) (a c : History) → s.old ≡ old.Nothing → OnOk r (GivesFreeName s.path.now s.name.now a c)
      → OnOk r (DoesAll file log s (Keeps ∷ TakesName ∷ []) a c)
  named_free (Err e) s a c same free = tt
  named_free (Ok x) s a c same free =
      (a, subst (λ p. KeepsOld log p s.name.now a a) (sym same) refl, subst (λ p. TakesOld p s.path.now s.name.now a c) (sym same) free)

  -- a log was not kept after it was seen to stand as it was read
  pub unkept_read : {A E : Type 0} (r : Result A E) (s : Staged) (a b c : History) (path : List ℕ) (size : ℕ) → StandsAsRead log path size a b → IsIdle b c → OnErr r (StopsBefore file log s (Keeps ∷ []) a c)
  unkept_read r s a b c path size (n, found, opened, followed, known, one, two, same, long) i =
      on_err r (stops_here s a c (Keeps ∷ []) (only_chain a b c (idle_follow_look_at a followed b path (Some found) n opened one two) i))
