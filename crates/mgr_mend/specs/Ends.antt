-- What becomes of a note that is to be mended: of its log, and of what is kept as refused of it.
use Rattle.std.specs.Prelude.{◌⊎◌, ℕ, List, [], ◌∷◌, Option}
use Rattle.std.specs.Io.KnownBytes.{Appends}
use Rattle.mgr_port.specs.Disk.{whole_steps}
use Rattle.mgr_port.specs.Logs.{Standing, StaysSame, StopsEarly, AppendsFront, renamed}
use Rattle.mgr_mend.specs.Fitting.{fitted}

-- what stands there in the end, where this is refused: the mended log, written anew; with nothing refused what stood there
abbrev pub mended_standing : List ℕ → Standing → Standing
mended_standing [] s = s
mended_standing (byte ∷ refused) s = renamed whole_steps (fitted s.log)

-- An error was answered: at least one step is missing. The old log stands there, and a beginning of what is refused was
-- kept. Or all of that was kept before a file beside was made with the mended bytes: then it has the name, if the last step
-- alone is missing, and else the old log stands there.
abbrev pub MendsInPart : (bytes refused : List ℕ) → Standing → (found : Option Standing) (kept now : Option (List ℕ)) → Type 0
MendsInPart bytes refused s found kept now =
    (StaysSame s found × AppendsFront kept now refused) ⊎ (StopsEarly bytes s found × Appends kept now refused)
