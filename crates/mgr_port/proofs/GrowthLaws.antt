-- Lines that are put behind a log, or a beginning of them.
use Rattle.std.proofs.Common.{◌≡◌, ◌⊎◌, inl, inr, ℕ, List, [], ◌++◌, Bool, Option, Result, Ok, Err, refl, sym}
use Rattle.std.proofs.lemmas.List.{append-nil}
use Rattle.mgr_port.specs.Folder.{History, Adds, Ends, EndsInNewline, Follows, IsQuiet, LooksAt, Steps, Syncs, after}
use Rattle.mgr_port.specs.Growth.{AddsFront}
use Rattle.mgr_port.specs.declared.log.End.{End}
use Rattle.mgr_port.specs.declared.spare.Look.{Look}
use Rattle.mgr_port.proofs.FolderLaws.{only_none, only_more, only_chain, quiet_follow, quiet_one}

-- ---- looks at a log

pub quiet_end : (a b c : History) (path : List ℕ) (found : Option Look) (file size : ℕ) (end : Option End) → b ≡ after (Follows path found) a → c ≡ after (Ends file size end) b → IsQuiet a c
quiet_end a b c path found file size end one two = only_more a b c (Ends file size end) (quiet_follow a b path found one) two tt

pub quiet_ends : (a b c d : History) (path : List ℕ) (found : Option Look) (file size all : ℕ) (end : Option End) (newline : Bool) → b ≡ after (Follows path found) a
    → c ≡ after (Ends file size end) b → d ≡ after (EndsInNewline file all newline) c → IsQuiet a d
quiet_ends a b c d path found file size all end newline one two three = only_more a c d (EndsInNewline file all newline) (quiet_end a b c path found file size end one two) three tt

pub quiet_sync : (a b : History) (file : ℕ) → b ≡ after (Syncs file) a → IsQuiet a b
quiet_sync a b file is = quiet_one a b (Syncs file) is tt

pub quiet_sync_look_at : (a b c : History) (file : ℕ) (look : Look) → b ≡ after (Syncs file) a → c ≡ after (LooksAt file look) b → IsQuiet a c
quiet_sync_look_at a b c file look one two = only_more a b c (LooksAt file look) (quiet_sync a b file one) two tt

synced : {A E : Type 0} (r : Result A E) (file : ℕ) (a b : History) → Steps r (λ _. Syncs file) a b → IsQuiet a b
synced (Ok x) file a b is = quiet_sync a b file is
synced (Err e) file a b is = only_none a b is

-- the lines are on the device, and the log was looked at again
pub quiet_longer : {A E : Type 0} (r : Result A E) (file : ℕ) (a b c d e : History) (look : Look) (size : ℕ) (end : Option End) → Steps r (λ _. Syncs file) a b
    → c ≡ after (LooksAt file look) b → d ≡ after (Ends file size end) c → IsQuiet d e → IsQuiet a e
quiet_longer r file a b c d e look size end one two three quiet =
    only_chain a d e (only_more a c d (Ends file size end) (only_more a b c (LooksAt file look) (synced r file a b one) two tt) three tt) quiet

pub quiet_look_at : (a b : History) (file : ℕ) (look : Look) → b ≡ after (LooksAt file look) a → IsQuiet a b
quiet_look_at a b file look is = quiet_one a b (LooksAt file look) is tt

pub quiet_look_at_end : (a b c : History) (file : ℕ) (look : Look) (size : ℕ) (end : Option End) → b ≡ after (LooksAt file look) a → c ≡ after (Ends file size end) b → IsQuiet a c
quiet_look_at_end a b c file look size end one two = only_more a b c (Ends file size end) (quiet_look_at a b file look one) two tt

-- ---- an append that failed

pub adds_none : (file : ℕ) (lines : List ℕ) (a b : History) → IsQuiet a b → AddsFront file lines a b
adds_none file lines a b quiet = inl quiet

pub adds_front : (file : ℕ) (lines : List ℕ) (a b c : History) → IsQuiet a b
    → (c ≡ b) ⊎ ((front : List ℕ) × (rest : List ℕ) × (lines ≡ front ++ rest) × (c ≡ after (Adds file front) b)) → AddsFront file lines a c
adds_front file lines a b c quiet (inl is) = inl (only_chain a b c quiet (only_none b c is))
adds_front file lines a b c quiet (inr (front, rest, parts, is)) = inr (front, rest, b, c, parts, quiet, is, only_none c c refl)

pub adds_all : (file : ℕ) (lines : List ℕ) (a b c d : History) → IsQuiet a b → c ≡ after (Adds file lines) b → IsQuiet c d → AddsFront file lines a d
adds_all file lines a b c d quiet added later = inr (lines, [], b, c, sym (append-nil lines), quiet, added, later)
