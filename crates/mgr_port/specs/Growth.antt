-- When lines may be put behind a log.
use Rattle.std.specs.Prelude.{◌≡◌, ◌⊎◌, ◌<◌, ℕ, List, ◌++◌, Bool, Option, Some}
use Rattle.mgr_port.specs.Folder.{History, Adds, Ends, EndsInNewline, Follows, IsQuiet, LooksAt, Syncs, after}
use Rattle.mgr_port.specs.Verdicts.{MayGrow}
use Rattle.mgr_port.specs.declared.log.End.{End}
use Rattle.mgr_port.specs.declared.log.LeftLog.{LeftLog}
use Rattle.mgr_port.specs.declared.spare.Look.{Look}

-- These steps show that the path stands for the log that was left, to which lines may be added.
abbrev pub ShowsGrowth : ℕ → List ℕ → LeftLog → History → History → Type 0
ShowsGrowth file path left old now =
    (look : Look) × (end : Option End) × (newline : Bool) × (followed : History) × (ended : History)
    × (followed ≡ after (Follows path (Some look)) old) × (ended ≡ after (Ends file left.stamp.length end) followed)
    × (now ≡ after (EndsInNewline file look.stamp.length newline) ended)
    × MayGrow left (record { stamp = look.stamp; end = end; ends_in_newline = newline })

-- the last steps do
abbrev pub MayAdd : ℕ → List ℕ → LeftLog → History → Type 0
MayAdd file path left now = (old : History) × ShowsGrowth file path left old now

-- What was added is on the device; the log is longer than it was, and left so; and lines might have been added to what was
-- left before once more.
abbrev pub IsLonger : ℕ → List ℕ → LeftLog → LeftLog → History → History → Type 0
IsLonger file path left longer added now =
    (look : Look) × (synced : History) × (looked : History) × (ended : History) × (synced ≡ after (Syncs file) added)
    × (looked ≡ after (LooksAt file look) synced) × (ended ≡ after (Ends file look.stamp.length (Some longer.end)) looked)
    × ShowsGrowth file path left ended now × (longer.stamp ≡ look.stamp) × (left.stamp.length < longer.stamp.length)

-- Lines might be added to a log, and they are; and it is so much longer.
abbrev pub IsAdded : ℕ → List ℕ → LeftLog → List ℕ → LeftLog → History → History → Type 0
IsAdded file path left lines longer old now =
    (shown : History) × (added : History) × ShowsGrowth file path left old shown × (added ≡ after (Adds file lines) shown)
    × IsLonger file path left longer added now

-- They were not, or a beginning of them was, and nothing else changed.
abbrev pub AddsFront : ℕ → List ℕ → History → History → Type 0
AddsFront file lines old now =
    IsQuiet old now ⊎ ((front : List ℕ) × (rest : List ℕ) × (shown : History) × (added : History)
    × (lines ≡ front ++ rest) × IsQuiet old shown × (added ≡ after (Adds file front) shown) × IsQuiet added now)
