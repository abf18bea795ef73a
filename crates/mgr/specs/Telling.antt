-- What is told on standard error.
use Rattle.std.specs.Prelude.{◌≡◌, List, [], ◌∷◌, ◌++◌, ℕ, Option, Some, Result, Ok, Err, IfSome, map}
use Rattle.mgr_args.specs.declared.job.JobFault.{JobFault}
use Rattle.mgr_mend.specs.declared.merged.Torn.{Torn}
use Rattle.mgr_mend.specs.declared.fault.MergeFault.{MergeFault}
use Rattle.mgr_mend.specs.declared.fault.MergeFault.TheVariants.{TextStays}
use Rattle.mgr.specs.Report.{merge_message, torn_message}

-- a line, without its newline, or the text of a fault of the command line
pub data Telling : Type 0 where
  line : List ℕ → Telling
  text : JobFault → Telling

-- all of it, where that is known
abbrev pub KnownTelling : Type 0
KnownTelling = Option (List Telling)

-- what is known grew by these
abbrev pub TellsMore : KnownTelling → KnownTelling → List Telling → Type 0
TellsMore old new more = IfSome old (λ known. new ≡ Some (known ++ more))

-- what is told of an answer: the line of its fault, by what that says, and nothing where there is none
abbrev pub answer_telling : {A F : Type 0} → (F → List ℕ) → Result A F → List Telling
answer_telling message (Ok done) = []
answer_telling message (Err fault) = line (message fault) ∷ []

-- of logs with these names, a line for each of which the last line was left out
abbrev pub torn_telling : List (List ℕ) → List Torn → List Telling
torn_telling names torn = map (λ log. line (torn_message names log)) torn

-- those that were taken before a fault of a merge
abbrev pub torn_before : MergeFault → List Torn
torn_before (TextStays torn) = torn.items
torn_before e = []

-- of the fault of a merge of logs with these names into the note with this name: these lines, and then that of the fault
abbrev pub merge_telling : List ℕ → List (List ℕ) → MergeFault → List Telling
merge_telling name logs e = torn_telling logs (torn_before e) ++ line (merge_message name logs e) ∷ []
