-- Why the lines of a stream are taken no further, in words.
use Rattle.std.specs.Prelude.{◌≡◌, ℕ, ◌+◌, nat_lt, if◌then◌else◌, List, [], ◌∷◌, ◌++◌, length, Option, Some, None, Result, Ok, Err}
use Rattle.rga_ops.specs.Content.{Content}
use Rattle.rga_ops.specs.Answer.{taken}
use Rattle.rga_ops.specs.declared.refusal.Refusal.{Refusal}
use Rattle.rga_lines.specs.Table.{AnyReading, any_line_at}
use Rattle.rga_lines.specs.declared.line.TheConstants.{MAX_LINE}
use Rattle.rga_lines.specs.Stream.{lines_of, rest_of}
use Rattle.rga_lines.specs.Runs.{stretch_operations, run_deletions}
use Rattle.rga_lines.specs.declared.line.Line.{Line}
use Rattle.rga_lines.specs.declared.line.Line.TheVariants.{One, Run, Deletions, Head, Last}
use Rattle.rga_lines.specs.declared.fault.LineFault.{LineFault}
use Rattle.rga_lines.specs.declared.fault.LineFault.TheVariants as line_fault
use Rattle.rga_exchange.specs.declared.taking.Form.{Form}
use Rattle.rga_exchange.specs.declared.fault.LogFault.{LogFault}
use Rattle.rga_exchange.specs.declared.fault.LogFault.TheVariants as fault
use Rattle.rga_exchange.specs.Memory.{LogMemory}
use Rattle.rga_exchange.specs.declared.log.LogEnd.{LogEnd}
use Rattle.rga_exchange.specs.declared.log.LogEnd.TheVariants.{Whole, Bare, Torn}
use Rattle.rga_exchange.specs.Taking.{may_be_head, body, Stop, AllTaken, AtEnd, AtFault, Progress, progress, taken_whole, AreTaken}

-- the first of the lines says the end of an exchange, with this number
pub record StartsWithEnd (lines : List (List ℕ)) (number : ℕ) : Type 0 where
  pub line : List ℕ
  pub later : List (List ℕ)
  pub split : lines ≡ line ∷ later
  pub says : any_line_at line ≡ Ok (Last number)

-- what is wrong with the line of that number: a head where none may be is a line of another kind
abbrev pub fault_in : Form → ℕ → AnyReading → Option LineFault
fault_in form n (Ok (One op)) = None
fault_in form n (Ok (Run r)) = None
fault_in form n (Ok (Deletions r)) = None
fault_in form n (Ok Head) = if may_be_head form n then None else Some line_fault.Kind
fault_in form n (Ok (Last number)) = None
fault_in form n (Err e) = Some e

-- the first of the lines, which has that number, is neither an operation nor the end, nor a head where one may be
pub record StartsAtFault (form : Form) (n : ℕ) (lines : List (List ℕ)) (e : LineFault) : Type 0 where
  pub line : List ℕ
  pub later : List (List ℕ)
  pub split : lines ≡ line ∷ later
  pub wrong : fault_in form n (any_line_at line) ≡ Some e

-- what is held once that was taken which a line says; the head and the end of an exchange add nothing
abbrev pub taken_of_line : ℕ → Content → Line → Result Content Refusal
taken_of_line limit c (One op) = taken limit c op
taken_of_line limit c (Run r) = taken_whole limit c (stretch_operations r)
taken_of_line limit c (Deletions r) = taken_whole limit c (run_deletions r)
taken_of_line limit c Head = Ok c
taken_of_line limit c (Last number) = Ok c

-- the first of the lines is an operation or a run that a store with that limit and that content refuses
pub record StartsRefused (limit : ℕ) (c : Content) (lines : List (List ℕ)) (e : Refusal) : Type 0 where
  pub line : List ℕ
  pub later : List (List ℕ)
  pub split : lines ≡ line ∷ later
  pub said : Line
  pub says : any_line_at line ≡ Ok said
  pub refused : taken_of_line limit c said ≡ Err e

-- behind n lines, at content c, these lines go on so
abbrev pub GoesOnWith : Form → ℕ → ℕ → Content → List (List ℕ) → Stop → Type 0
GoesOnWith form limit n c lines AllTaken = lines ≡ []
GoesOnWith form limit n c lines (AtEnd number) = StartsWithEnd lines number
GoesOnWith form limit n c lines (AtFault (fault.Line k e)) = (k ≡ n + 1) × StartsAtFault form k lines e
GoesOnWith form limit n c lines (AtFault (fault.Refused k e)) = (k ≡ n + 1) × StartsRefused limit c lines e
GoesOnWith form limit n c lines (AtFault fault.Read) = ⊥
GoesOnWith form limit n c lines (AtFault (fault.Memory _)) = ⊥

-- The first of the lines are operations that were taken, behind the head of an exchange where it has one, as many as were
-- and to the content that they lead to; what comes then is why no more are.
pub record IsTakenUpTo (form : Form) (limit : ℕ) (c : Content) (lines : List (List ℕ)) (t : Progress) : Type 0 where
  pub front : List (List ℕ)
  pub later : List (List ℕ)
  pub split : lines ≡ front ++ later
  pub count : t.lines ≡ length front
  pub taken : AreTaken limit (body form front) c t.content
  pub reason : GoesOnWith form limit t.lines t.content later t.stop

-- the same behind one line more
abbrev pub fault_further : LogFault → LogFault
fault_further (fault.Line n e) = fault.Line (n + 1) e
fault_further (fault.Refused n e) = fault.Refused (n + 1) e
fault_further fault.Read = fault.Read
fault_further (fault.Memory _) = LogMemory

abbrev pub stop_further : Stop → Stop
stop_further AllTaken = AllTaken
stop_further (AtEnd number) = AtEnd number
stop_further (AtFault e) = AtFault (fault_further e)

abbrev pub one_further : Progress → Progress
one_further t = progress (t.lines + 1) t.content (stop_further t.stop)

-- the lines of a stream, of which a rest that is too long is one
abbrev pub all_lines : List ℕ → List (List ℕ)
all_lines bytes = if nat_lt MAX_LINE (length (rest_of bytes)) then lines_of bytes ++ rest_of bytes ∷ [] else lines_of bytes

-- nothing of the log was cut off
abbrev pub HasNothingTorn : LogEnd → Type 0
HasNothingTorn Whole = Unit {0}
HasNothingTorn Bare = Unit {0}
HasNothingTorn (Torn bytes) = ⊥
