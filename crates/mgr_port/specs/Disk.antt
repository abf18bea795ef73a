-- The steps by which a file gets new bytes, and what stands under its name if the machine stops behind one of them.
use Rattle.std.specs.Prelude.{◌≡◌, ◌⊎◌, ℕ, List, [], ◌∷◌, ◌++◌, Bool, true, false, Option, Some}
use Rattle.mgr_port.specs.declared.staged.Named.{Named}
use Rattle.mgr_port.specs.declared.staged.Named.TheVariants.{Settled, Unsettled}

-- The file beside is emptied; gets these bytes at its end; is brought to the device; what stands under the name is kept
-- beside it; the file beside gets the name; the names of the folder are brought to the device; and a file beside that got
-- no name is removed.
pub data DiskStep : Type 0 where
  Empties : DiskStep
  Writes : List ℕ → DiskStep
  Syncs : DiskStep
  Keeps : DiskStep
  TakesName : DiskStep
  SyncsFolder : DiskStep
  Removes : DiskStep

-- ---- a whole file

-- before it gets the name, all of its bytes are on the device, and what stands there is kept where it is to be
abbrev pub unnamed_steps : List ℕ → List DiskStep
unnamed_steps bytes = Empties ∷ Writes bytes ∷ Syncs ∷ Keeps ∷ []

-- then it has it
abbrev pub named_steps : List ℕ → List DiskStep
named_steps bytes = Empties ∷ Writes bytes ∷ Syncs ∷ Keeps ∷ TakesName ∷ []

-- and then the name is on the device
abbrev pub whole_steps : List ℕ → List DiskStep
whole_steps bytes = Empties ∷ Writes bytes ∷ Syncs ∷ Keeps ∷ TakesName ∷ SyncsFolder ∷ []

-- the steps behind the last write, and all of them
abbrev pub last_steps : Named → List DiskStep
last_steps Settled = Syncs ∷ Keeps ∷ TakesName ∷ SyncsFolder ∷ []
last_steps (Unsettled error) = Syncs ∷ Keeps ∷ TakesName ∷ []

abbrev pub steps_to : Named → List ℕ → List DiskStep
steps_to named bytes = Empties ∷ Writes bytes ∷ last_steps named

-- a write was done in part
abbrev pub WritesPart : DiskStep → List DiskStep → Type 0
WritesPart step made = (part : List ℕ) × (more : List ℕ) × (step ≡ Writes (part ++ more)) × (made ≡ Writes part ∷ [])

-- The first of these steps were done, and of the next one, if it is a write, perhaps a part.
abbrev pub BeginsSteps : List DiskStep → List DiskStep → Type 0
BeginsSteps made [] = made ≡ []
BeginsSteps made (step ∷ later) = (made ≡ []) ⊎ WritesPart step made ⊎ ((others : List DiskStep) × (made ≡ step ∷ others) × BeginsSteps others later)

-- some of the steps before it gets the name were made, and then it was removed
pub record AreGivenUp (bytes : List ℕ) (made : List DiskStep) : Type 0 where
  pub begun : List DiskStep
  pub begins : BeginsSteps begun (unnamed_steps bytes)
  pub is : made ≡ begun ++ Removes ∷ []

-- what was made when the machine stops: a beginning of all steps, or what was given up
abbrev pub MayBeMade : List ℕ → List DiskStep → Type 0
MayBeMade bytes made = BeginsSteps made (whole_steps bytes) ⊎ AreGivenUp bytes made

-- ---- a machine that stops

-- the bytes of the file beside, whether they are on the device; whether what stands under the name is kept; whether the
-- file beside has the name, and whether that is on the device
pub record Place : Type 0 where
  pub beside : List ℕ
  pub is_synced : Bool
  pub is_kept : Bool
  pub is_named : Bool
  pub is_settled : Bool

abbrev pub behind_step : Place → DiskStep → Place
behind_step p Empties = record p { beside = []; is_synced = false }
behind_step p (Writes bytes) = record p { beside = p.beside ++ bytes; is_synced = false }
behind_step p Syncs = record p { is_synced = true }
behind_step p Keeps = record p { is_kept = true }
behind_step p TakesName = record p { is_named = true }
behind_step p SyncsFolder = record p { is_settled = p.is_named }
behind_step p Removes = record p { beside = []; is_synced = false }

abbrev pub behind_steps : Place → List DiskStep → Place
behind_steps p [] = p
behind_steps p (step ∷ steps) = behind_steps (behind_step p step) steps

-- the file beside stands there: with all of its bytes where these are on the device, and else with whatever came there
abbrev pub StandsBeside : Place → Option (List ℕ) → Type 0
StandsBeside p found = p.is_synced ≡ true → found ≡ Some p.beside

-- What may stand under a name, where this stood there, if the machine stops now: that, until the file beside has the name;
-- then either, until the name is on the device.
abbrev pub MayStand : Bool → Bool → Option (List ℕ) → Place → Option (List ℕ) → Type 0
MayStand named true old p found = StandsBeside p found
MayStand true false old p found = (found ≡ old) ⊎ StandsBeside p found
MayStand false false old p found = found ≡ old

abbrev pub MayBeFound : Option (List ℕ) → Place → Option (List ℕ) → Type 0
MayBeFound old p found = MayStand p.is_named p.is_settled old p found

-- no step was done: whatever an earlier time left may be beside
pub record IsUntouched (p : Place) : Type 0 where
  pub unkept : p.is_kept ≡ false
  pub unnamed : p.is_named ≡ false
  pub unsettled : p.is_settled ≡ false
