-- The calls of a port, and what it tells of them.
use Rattle.std.specs.Prelude.{◌≡◌, ℕ, List, [], ◌∷◌, ◌++◌, Bool, true, false, Option, Some, None, Result, Ok, Err, IfSome}
use Rattle.rga_exchange.specs.Counting.{one_more}
use Rattle.mg_files.specs.Files.{Files}
use Rattle.mg_files.specs.declared.port.CallKind.{CallKind}
use Rattle.mg_files.specs.declared.port.CallKind.TheVariants.{Load}
use Rattle.mg_files.specs.declared.port.PortFault.{PortFault}
use Rattle.mg_files.specs.declared.port.PortFault.TheVariants.{File, Memory}
use Rattle.mg_files.specs.declared.port.LinkFault.{LinkFault}
use Rattle.mg_files.specs.declared.port.LinkFault.TheVariants as link

-- A call under a name with these bytes, whether it was answered `Ok`, and the files that a load then answered. A call for
-- a link has neither name nor bytes.
pub record Call : Type 0 where
  pub kind : CallKind
  pub name : List ℕ
  pub bytes : List ℕ
  pub answered : Bool
  pub found : Option Files

-- one that was
abbrev pub call : CallKind → List ℕ → List ℕ → Call
call kind name bytes = record { kind = kind; name = name; bytes = bytes; answered = true; found = None }

abbrev pub link_call : CallKind → Call
link_call kind = call kind [] []

abbrev pub refused : Call → Call
refused c = record c { answered = false }

-- the load of a name, and one that answered these files
abbrev pub load_call : List ℕ → Call
load_call name = call Load name []

abbrev pub found_call : List ℕ → Files → Call
found_call name files = record (load_call name) { found = Some files }

-- what is told of a call with this fault: memory was wanting before the call was made
abbrev pub refusals : PortFault → Call → List Call
refusals File c = refused c ∷ []
refusals (Memory _) c = []

-- what is told of a call that is answered so
abbrev pub told : {A : Type 0} → Result A PortFault → Call → List Call
told (Ok a) c = c ∷ []
told (Err fault) c = refusals fault c

-- the same of a load, which tells the files that it answers
abbrev pub load_told : Result Files PortFault → List ℕ → List Call
load_told (Ok files) name = found_call name files ∷ []
load_told (Err fault) name = refusals fault (load_call name)

-- the same of a call for a link
abbrev pub link_refusals : LinkFault → Call → List Call
link_refusals link.Socket c = refused c ∷ []
link_refusals link.NoPort c = refused c ∷ []
link_refusals (link.Memory _) c = []

abbrev pub link_told : {A : Type 0} → Result A LinkFault → Call → List Call
link_told (Ok a) c = c ∷ []
link_told (Err fault) c = link_refusals fault c

-- a port that tells its calls, or its links, tells these more
abbrev pub Adds : {A : Type 0} → Option (List A) → Option (List A) → List A → Type 0
Adds old new more = IfSome old (λ told. new ≡ Some (told ++ more))

-- how many calls failed, after one that is answered so
abbrev pub failures_after : {A : Type 0} → Result A PortFault → ℕ → ℕ
failures_after (Ok a) n = n
failures_after (Err File) n = one_more n
failures_after (Err (Memory _)) n = n

-- the same of a call for a link
abbrev pub failures_after_link : {A : Type 0} → Result A LinkFault → ℕ → ℕ
failures_after_link (Ok a) n = n
failures_after_link (Err link.Socket) n = one_more n
failures_after_link (Err link.NoPort) n = n
failures_after_link (Err (link.Memory _)) n = n
