-- What is told of logs that are written anew.
use Rattle.std.specs.Prelude.{◌≡◌, ◌≢◌, ◌⊎◌, ℕ, zero, suc, List, [], ◌∷◌, ◌++◌, Option, Some, Result, Ok, Err}
use Rattle.std.specs.Io.KnownBytes.{Appends}
use Rattle.rga_exchange.specs.Counting.{one_more}
use Rattle.mg_files.specs.declared.port.PortFault.{PortFault}
use Rattle.mgr_port.specs.Disk.{DiskStep, Removes, AreGivenUp, named_steps, whole_steps}

-- the log under a name, and the steps that were made with the last file beside it that was to take the name
pub record Standing : Type 0 where
  pub log : List ℕ
  pub steps : List DiskStep

-- nothing else changed: what is told of each other name
abbrev pub SameElsewhere : {A : Type 0} → List ℕ → (List ℕ → A) → (List ℕ → A) → Type 0
SameElsewhere name old new = (other : List ℕ) → other ≢ name → new other ≡ old other

-- the file beside has no name, and nothing was done with it but that it was removed
abbrev pub left : Standing → Standing
left s = record s { steps = Removes ∷ [] }

-- the old log stands there: no file was beside it, or that one was removed
abbrev pub StaysSame : Standing → Option Standing → Type 0
StaysSame s found = (found ≡ Some s) ⊎ (found ≡ Some (left s))

-- the file beside has the name, after these steps
abbrev pub renamed : (List ℕ → List DiskStep) → List ℕ → Standing
renamed steps bytes = record { log = bytes; steps = steps bytes }

-- the old log has the name
abbrev pub GivesUp : List ℕ → Standing → Option Standing → Type 0
GivesUp bytes s found = (made : List DiskStep) × AreGivenUp bytes made × (found ≡ Some (record s { steps = made }))

-- after an error the old log has the name, or the new one, and only the last step is missing
abbrev pub StopsEarly : List ℕ → Standing → Option Standing → Type 0
StopsEarly bytes s found = GivesUp bytes s found ⊎ (found ≡ Some (renamed named_steps bytes))

-- what is told of a name once these bytes were to stand there
abbrev pub Names : {A : Type 0} → Result A PortFault → List ℕ → Standing → Option Standing → Type 0
Names (Ok a) bytes s found = found ≡ Some (renamed whole_steps bytes)
Names (Err fault) bytes s found = StopsEarly bytes s found

-- a beginning of bytes was put behind what stood there
pub record AppendsFront (old new : Option (List ℕ)) (bytes : List ℕ) : Type 0 where
  pub front : List ℕ
  pub rest : List ℕ
  pub parts : bytes ≡ front ++ rest
  pub appended : Appends old new front

-- what is told of what was refused once these bytes were to be put behind it
abbrev pub Gains : {A : Type 0} → Result A PortFault → List ℕ → Option (List ℕ) → Option (List ℕ) → Type 0
Gains (Ok a) bytes old new = Appends old new bytes
Gains (Err fault) bytes old new = AppendsFront old new bytes

-- so many failures more
abbrev pub raised : ℕ → ℕ → ℕ
raised n zero = n
raised n (suc k) = one_more (raised n k)
