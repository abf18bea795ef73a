-- Which file a path stands for by the steps of a history, and which bytes are there then, if nobody else takes part.
use Rattle.std.specs.Prelude.{◌≡◌, ◌≢◌, ℕ, List, [], ◌∷◌, Some, None}
use Rattle.mgr_port.specs.Bytes.{HasAfter, OfTold}
use Rattle.mgr_port.specs.Folder.{History, FolderStep, Follows, Links, LooksAt, Makes, Opens, Overwrites, Removes, Renames}
use Rattle.mgr_port.specs.Verdicts.{AreOfOneFile}
use Rattle.mgr_port.specs.declared.folder.Opening.TheVariants as opening
use Rattle.mgr_port.specs.declared.stamp.Stamp.{Stamp}

-- no two files are of one device and number
abbrev pub AreApart : (ℕ → Stamp) → Type 0
AreApart stamp_of = (one two : ℕ) → AreOfOneFile (stamp_of one) (stamp_of two) → one ≡ two

-- which device and number each file has
module _ (stamp_of : ℕ → Stamp) where
  -- A path stands for a file after a step: by what each path stood for before it, and by what the step shows.
  abbrev pub StandsBehind : FolderStep → List ℕ → ℕ → (List ℕ → Type 0) → Type 0
  StandsBehind (Links other name) path file Stood = (path ≡ name → Stood other) × (path ≢ name → Stood path)
  StandsBehind (Renames other name) path file Stood = (path ≡ name → Stood other) × (path ≢ name → (path ≢ other) × Stood path)
  StandsBehind (Removes other) path file Stood = (path ≢ other) × Stood path
  StandsBehind (Makes name bytes) path file Stood = path ≢ name → Stood path
  StandsBehind (Opens opened other opening.Beside) path file Stood = (path ≡ other → file ≡ opened) × (path ≢ other → Stood path)
  StandsBehind (Opens opened other (opening.New mode)) path file Stood = (path ≡ other → file ≡ opened) × (path ≢ other → (file ≢ opened) × Stood path)
  StandsBehind (Opens opened other how) path file Stood = (path ≡ other → file ≡ opened) × Stood path
  StandsBehind (Overwrites opened other) path file Stood = (path ≡ other → file ≡ opened) × (path ≢ other → Stood path)
  StandsBehind (Follows other None) path file Stood = (path ≢ other) × Stood path
  StandsBehind (Follows other (Some look)) path file Stood = (path ≡ other → AreOfOneFile look.stamp (stamp_of file)) × Stood path
  StandsBehind (LooksAt opened look) path file Stood = AreOfOneFile look.stamp (stamp_of opened) × Stood path
  StandsBehind other path file Stood = Stood path

  abbrev pub StandsAfter : List ℕ → ℕ → List FolderStep → Type 0
  StandsAfter path file [] = Unit {0}
  StandsAfter path file (step ∷ steps) = StandsBehind step path file (λ p. StandsAfter p file steps)

  abbrev pub Stands : List ℕ → ℕ → History → Type 0
  Stands path file history = OfTold (StandsAfter path file) history

  -- what stands under a path has these bytes
  abbrev pub Holds : List ℕ → List ℕ → History → Type 0
  Holds path bytes history = (file : ℕ) × Stands path file history × OfTold (HasAfter file bytes) history
