-- Steps that change nothing, one behind another.
use Rattle.std.proofs.Common.{◌≡◌, inr, ◌∙◌, ℕ, List, [], ◌∷◌, ◌++◌, Option, Some, None, Result, Ok, Err, IfOk, OnOk, OnErr, refl, sym, ap, subst, append_assoc}
use Rattle.std.specs.Option.{option_map}
use Rattle.mgr_port.specs.Folder.{History, FolderStep, Adds, Dates, Empties, Ends, EndsInNewline, Follows, GivesTo, Links, Locks, Looks, LooksAt, Makes, Opens, Overwrites, Reads, ReadsAll, Removes, Renames, Resolves, SetsMode, Syncs, SyncsFolder, IsIdleStep, IsQuietStep, AreAll, IsIdle, IsQuiet, Only, Steps, after}
use Rattle.mgr_port.specs.Spares.{IsKept, IsSpare, IsSpareFor, SparesText}
use Rattle.mgr_port.specs.Staging.{MayDate}
use Rattle.mgr_port.specs.declared.folder.Lock.{Lock}
use Rattle.mgr_port.specs.declared.folder.Opening.TheVariants as opening
use Rattle.mgr_port.specs.declared.spare.Look.{Look}
use Rattle.mgr_port.specs.declared.spare.Reason.{Reason}
use Rattle.mgr_port.specs.declared.spare.Reason.TheVariants as reason
use Rattle.mgr_port.specs.declared.spare.Spare.{Spare}
use Rattle.mgr_port.specs.declared.stamp.Stamp.{Stamp}

none_more : (h : History) → h ≡ option_map (λ steps. [] ++ steps) h
none_more None = refl
none_more (Some steps) = refl

-- nothing was asked
pub only_none : {P : FolderStep → Type 0} (a b : History) → b ≡ a → Only P a b
only_none a b is = record { seen = []; all = tt; is = is ∙ none_more a }

one_more : (h : History) (step : FolderStep) (seen : List FolderStep) → after step (option_map (λ steps. seen ++ steps) h) ≡ option_map (λ steps. (step ∷ seen) ++ steps) h
one_more None step seen = refl
one_more (Some steps) step seen = refl

pub only_more : {P : FolderStep → Type 0} (a b c : History) (step : FolderStep) → Only P a b → c ≡ after step b → P step → Only P a c
only_more a b c step i is one = record {
  seen = step ∷ i.seen;
  all = (one, i.all);
  is = is ∙ ap (after step) i.is ∙ one_more a step i.seen;
}

more_more : (h : History) (one two : List FolderStep) → option_map (λ steps. two ++ steps) (option_map (λ steps. one ++ steps) h) ≡ option_map (λ steps. (two ++ one) ++ steps) h
more_more None one two = refl
more_more (Some steps) one two = ap (λ (l : List FolderStep). Some l) (sym (append_assoc two one steps))

both_all : (P : FolderStep → Type 0) (one two : List FolderStep) → AreAll P one → AreAll P two → AreAll P (two ++ one)
both_all P one [] i j = i
both_all P one (step ∷ two) i (is, j) = (is, both_all P one two i j)

pub only_chain : {P : FolderStep → Type 0} (a b c : History) → Only P a b → Only P b c → Only P a c
only_chain {P} a b c i j = record {
  seen = j.seen ++ i.seen;
  all = both_all P i.seen j.seen i.all j.all;
  is = j.is ∙ ap (option_map (λ steps. j.seen ++ steps)) i.is ∙ more_more a i.seen j.seen;
}

-- what was kept later on
pub kept_later : (why : Reason) (path : List ℕ) (a b c : History) → IsIdle a b → IsKept why path b c → IsKept why path a c
kept_later reason.Linked path a b c i (name, seen, tilde, j, is) = (name, seen, tilde, only_chain a b seen i j, is)
kept_later reason.Copied path a b c i (name, bytes, seen, read, tilde, j, was, is) = (name, bytes, seen, read, tilde, only_chain a b seen i j, was, is)
kept_later reason.Nothing path a b c i kept = absurd kept
kept_later reason.Known path a b c i kept = absurd kept
kept_later reason.Same path a b c i kept = absurd kept
kept_later reason.Open path a b c i kept = absurd kept

-- ---- one step that changes nothing

pub idle_one : (a b : History) (step : FolderStep) → b ≡ after step a → IsIdleStep step → IsIdle a b
idle_one a b step is idle = only_more a a b step (only_none a a refl) is idle

pub idle_look : (a b : History) (path : List ℕ) (found : Option Look) → b ≡ after (Looks path found) a → IsIdle a b
idle_look a b path found is = idle_one a b (Looks path found) is tt

pub idle_follow : (a b : History) (path : List ℕ) (found : Option Look) → b ≡ after (Follows path found) a → IsIdle a b
idle_follow a b path found is = idle_one a b (Follows path found) is tt

pub idle_read : (a b : History) (path bytes : List ℕ) → b ≡ after (Reads path bytes) a → IsIdle a b
idle_read a b path bytes is = idle_one a b (Reads path bytes) is tt

-- two such steps
pub idle_follow_read : (a b c : History) (path bytes : List ℕ) (found : Option Look) → b ≡ after (Follows path found) a → c ≡ after (Reads path bytes) b → IsIdle a c
idle_follow_read a b c path bytes found one two = only_more a b c (Reads path bytes) (idle_follow a b path found one) two tt

pub idle_follow_look_at : (a b c : History) (path : List ℕ) (found : Option Look) (file : ℕ) (look : Look) → b ≡ after (Follows path found) a → c ≡ after (LooksAt file look) b → IsIdle a c
idle_follow_look_at a b c path found file look one two = only_more a b c (LooksAt file look) (idle_follow a b path found one) two tt

pub on_err : {A E P : Type 0} (r : Result A E) → P → OnErr r P
on_err (Ok a) p = tt
on_err (Err e) p = p

-- a date may have been given, and a later step failed
pub still_dated : {A E : Type 0} (r : Result A E) (file : ℕ) (log : Option ℕ) (a b c : History) (step : A → FolderStep) (later : Option ℕ) → MayDate file log later a b → Steps r step b c
    → OnErr r (MayDate file log later a c)
still_dated (Ok x) file log a b c step later may is = tt
still_dated (Err e) file log a b c step later may is = subst (λ h. MayDate file log later a h) (sym is) may

-- a text of which something would be lost was kept, or could not be
pub text_kept : {E : Type 0} (r : Result Spare E) (o : Option Spare) (path : List ℕ) (own : Option Stamp) (bytes : List ℕ) (a b c : History) → o ≡ None → IsSpareFor path own bytes a b o
    → IfOk r (λ spare. IsKept spare.reason path b c) → OnOk r (SparesText path own bytes a c)
text_kept (Err e) o path own bytes a b c none shown kept = tt
text_kept (Ok spare) o path own bytes a b c none shown kept =
    (spare.reason, inr (kept_later spare.reason path a b c (subst (λ p. IsSpareFor path own bytes a b p) none shown) kept))

pub text_idle : {A E : Type 0} (r : Result A E) (o : Option Spare) (path : List ℕ) (own : Option Stamp) (bytes : List ℕ) (a b c : History) → o ≡ None → IsSpareFor path own bytes a b o
    → OnErr r (IsIdle b c) → OnErr r (IsIdle a c)
text_idle (Ok x) o path own bytes a b c none shown idle = tt
text_idle (Err e) o path own bytes a b c none shown idle = only_chain a b c (subst (λ p. IsSpareFor path own bytes a b p) none shown) idle

-- what stood there had bytes, and is kept
pub spare_kept : (why : Reason) (path : List ℕ) (found : Option Look) (a b c : History) → b ≡ after (Looks path found) a → IsKept why path b c → IsSpare path a c
unfolding IsSpare
spare_kept why path found a b c is kept = inr (why, kept_later why path a b c (idle_look a b path found is) kept)

-- ---- what changes nothing, of an open file too

pub idle_is_quiet : (step : FolderStep) → IsIdleStep step → IsQuietStep step
idle_is_quiet (Looks path found) idle = tt
idle_is_quiet (Follows path found) idle = tt
idle_is_quiet (Resolves path target) idle = tt
idle_is_quiet (LooksAt file look) idle = tt
idle_is_quiet (Reads path bytes) idle = tt
idle_is_quiet (Opens file path how) idle = absurd idle
idle_is_quiet (Locks file lock) idle = absurd idle
idle_is_quiet (Ends file size end) idle = absurd idle
idle_is_quiet (EndsInNewline file size newline) idle = absurd idle
idle_is_quiet (Adds file bytes) idle = absurd idle
idle_is_quiet (Empties file) idle = absurd idle
idle_is_quiet (SetsMode file mode) idle = absurd idle
idle_is_quiet (GivesTo file owner) idle = absurd idle
idle_is_quiet (Dates file log later) idle = absurd idle
idle_is_quiet (Syncs file) idle = absurd idle
idle_is_quiet (SyncsFolder path) idle = absurd idle
idle_is_quiet (ReadsAll file bytes) idle = absurd idle
idle_is_quiet (Links path name) idle = absurd idle
idle_is_quiet (Makes name bytes) idle = absurd idle
idle_is_quiet (Removes path) idle = absurd idle
idle_is_quiet (Renames path name) idle = absurd idle
idle_is_quiet (Overwrites file path) idle = absurd idle

pub quiet_one : (a b : History) (step : FolderStep) → b ≡ after step a → IsQuietStep step → IsQuiet a b
quiet_one a b step is quiet = only_more a a b step (only_none a a refl) is quiet

pub quiet_follow : (a b : History) (path : List ℕ) (found : Option Look) → b ≡ after (Follows path found) a → IsQuiet a b
quiet_follow a b path found is = quiet_one a b (Follows path found) is tt

pub quiet_follow_look_at : (a b c : History) (path : List ℕ) (found : Option Look) (file : ℕ) (look : Look) → b ≡ after (Follows path found) a → c ≡ after (LooksAt file look) b → IsQuiet a c
quiet_follow_look_at a b c path found file look one two = only_more a b c (LooksAt file look) (quiet_follow a b path found one) two tt

pub quiet_lock : (a b : History) (file : ℕ) (lock : Lock) → b ≡ after (Locks file lock) a → IsQuiet a b
quiet_lock a b file lock is = quiet_one a b (Locks file lock) is tt

pub quiet_hold : (a b c : History) (file : ℕ) (lock : Lock) → b ≡ after (Locks file lock) a → IsQuiet b c → IsQuiet a c
quiet_hold a b c file lock is quiet = only_chain a b c (quiet_lock a b file lock is) quiet

pub quiet_open_to_read : (a b : History) (file : ℕ) (path : List ℕ) → b ≡ after (Opens file path opening.Read) a → IsQuiet a b
quiet_open_to_read a b file path is = quiet_one a b (Opens file path opening.Read) is tt

pub quiet_open_to_add : (a b : History) (file : ℕ) (path : List ℕ) → b ≡ after (Opens file path opening.Add) a → IsQuiet a b
quiet_open_to_add a b file path is = quiet_one a b (Opens file path opening.Add) is tt

pub quiet_follow_open : (a b c : History) (path : List ℕ) (found : Option Look) → b ≡ after (Follows path found) a → IsQuiet b c → IsQuiet a c
quiet_follow_open a b c path found is quiet = only_chain a b c (quiet_follow a b path found is) quiet

pub quiet_then_open_to_write : (a b c : History) (file : ℕ) (path : List ℕ) → IsQuiet a b → c ≡ after (Opens file path opening.Write) b → IsQuiet a c
quiet_then_open_to_write a b c file path quiet is = only_more a b c (Opens file path opening.Write) quiet is tt

pub quiet_then_look_at : (a b c : History) (file : ℕ) (look : Look) → IsQuiet a b → c ≡ after (LooksAt file look) b → IsQuiet a c
quiet_then_look_at a b c file look quiet is = only_more a b c (LooksAt file look) quiet is tt

pub quiet_then_read : (a b c : History) (path bytes : List ℕ) → IsQuiet a b → c ≡ after (Reads path bytes) b → IsQuiet a c
quiet_then_read a b c path bytes quiet is = only_more a b c (Reads path bytes) quiet is tt

pub quiet_then_look_at_read : (a b c d : History) (file : ℕ) (look : Look) (path bytes : List ℕ) → IsQuiet a b → c ≡ after (LooksAt file look) b → d ≡ after (Reads path bytes) c → IsQuiet a d
quiet_then_look_at_read a b c d file look path bytes quiet one two = quiet_then_read a c d path bytes (quiet_then_look_at a b c file look quiet one) two
