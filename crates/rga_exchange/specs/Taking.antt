-- What comes of the lines of a stream that are taken in turn.
use Rattle.std.specs.Prelude.{◌≡◌, ℕ, ◌+◌, ◌≤◌, ◌==◌, Bool, false, nat_lt, if◌then◌else◌, List, [], ◌∷◌, ◌++◌, length, Option, Result, Ok, Err}
use Rattle.std.specs.List.{AllByRecursion}
use Rattle.std.specs.Io.KnownBytes.{Consumes}
use Rattle.rga_ops.specs.Content.{Content, join, content_of}
use Rattle.rga_ops.specs.Answer.{taken, taken_one_by_one}
use Rattle.rga_ops.specs.ListAnswer.{Verdict, list_answer}
use Rattle.rga_ops.specs.declared.op.Op.{Op}
use Rattle.rga_ops.specs.declared.refusal.Refusal.{Refusal}
use Rattle.rga_exchange.specs.Counting.{Calls}
use Rattle.rga_lines.specs.Runs.{stretch_operations, run_deletions}
use Rattle.rga_lines.specs.Table.{AnyReading, any_line_at}
use Rattle.rga_lines.specs.declared.line.TheConstants.{MAX_LINE}
use Rattle.rga_lines.specs.Stream.{lines_of, rest_of}
use Rattle.rga_lines.specs.Log.{operations_of, behind_head, IsOperation}
use Rattle.rga_lines.specs.declared.line.Line.TheVariants.{One, Run, Deletions, Head, Last}
use Rattle.rga_lines.specs.declared.fault.LineFault.TheVariants as line_fault
use Rattle.rga_exchange.specs.declared.block.TheConstants.{BLOCK}
use Rattle.rga_exchange.specs.declared.taking.Form.{Form}
use Rattle.rga_exchange.specs.declared.taking.Form.TheVariants.{Log, Exchange}
use Rattle.rga_exchange.specs.declared.fault.LogFault.{LogFault}
use Rattle.rga_exchange.specs.declared.fault.LogFault.TheVariants as fault

-- ---- the head of an exchange

-- whether the line with this number may be a head: the first one of an exchange
abbrev pub may_be_head : Form → ℕ → Bool
may_be_head Log n = false
may_be_head Exchange n = n == 1

-- of lines behind n others those that are to be operations: all, but for the head of an exchange
abbrev pub body_behind : Form → ℕ → List (List ℕ) → List (List ℕ)
body_behind form n lines = if may_be_head form (n + 1) then behind_head lines else lines

-- those of all lines of a stream
abbrev pub body : Form → List (List ℕ) → List (List ℕ)
body form lines = body_behind form 0 lines

-- ---- what is taken

-- why no further line is taken
pub data Stop : Type 0 where
  -- all are operations, but for a head, and were taken
  AllTaken : Stop
  -- the end line, which names a number
  AtEnd : ℕ → Stop
  AtFault : LogFault → Stop

-- how many lines were taken, the content then, and why no further one is
pub record Progress : Type 0 where
  pub lines : ℕ
  pub content : Content
  pub stop : Stop

abbrev pub progress : ℕ → Content → Stop → Progress
progress n c stop = record { lines = n; content = c; stop = stop }

-- ---- one line

abbrev pub refused_at : ℕ → Result Content Refusal → Result Content Stop
refused_at n (Ok c) = Ok c
refused_at n (Err e) = Err (AtFault (fault.Refused n e))

abbrev pub after_list : Content → List Op → Verdict → Result Content Refusal
after_list c ops (Ok u) = Ok (join c (content_of ops))
after_list c ops (Err e) = Err e

-- what a store holds once it took a list whole, or why it took none of it
abbrev pub taken_whole : ℕ → Content → List Op → Result Content Refusal
taken_whole limit c ops = after_list c ops (list_answer limit c ops)

-- a head adds nothing, and is a line of another kind where none may be
abbrev pub after_head : Form → ℕ → Content → Result Content Stop
after_head form n c = if may_be_head form n then Ok c else Err (AtFault (fault.Line n line_fault.Kind))

-- what is held after line n, at a store that may know that many identifiers and holds c; or why the line is not taken
abbrev pub after_line : Form → ℕ → ℕ → Content → AnyReading → Result Content Stop
after_line form limit n c (Ok (One op)) = refused_at n (taken limit c op)
after_line form limit n c (Ok (Run r)) = refused_at n (taken_whole limit c (stretch_operations r))
after_line form limit n c (Ok (Deletions r)) = refused_at n (taken_whole limit c (run_deletions r))
after_line form limit n c (Ok Head) = after_head form n c
after_line form limit n c (Ok (Last number)) = Err (AtEnd number)
after_line form limit n c (Err e) = Err (AtFault (fault.Line n e))

-- ---- lines in turn, behind n others

abbrev pub go_on : ℕ → Content → Result Content Stop → (Content → Progress) → Progress
go_on n c (Ok d) f = f d
go_on n c (Err stop) f = progress n c stop

abbrev pub lines_taken : Form → ℕ → ℕ → Content → List (List ℕ) → Progress
lines_taken form limit n c [] = progress n c AllTaken
lines_taken form limit n c (line ∷ lines) = go_on n c (after_line form limit (n + 1) c (any_line_at line)) (λ d. lines_taken form limit (n + 1) d lines)

-- ---- a stream, of which n lines were taken before

-- a rest that is too long is the fault of a line
abbrev pub stop_at_rest : ℕ → List ℕ → Stop → Stop
stop_at_rest n rest AllTaken = if nat_lt MAX_LINE (length rest) then AtFault (fault.Line (n + 1) line_fault.Long) else AllTaken
stop_at_rest n rest (AtEnd number) = AtEnd number
stop_at_rest n rest (AtFault e) = AtFault e

abbrev pub with_rest : List ℕ → Progress → Progress
with_rest rest t = progress t.lines t.content (stop_at_rest t.lines rest t.stop)

abbrev pub bytes_taken : Form → ℕ → ℕ → Content → List ℕ → Progress
bytes_taken form limit n c bytes = with_rest (rest_of bytes) (lines_taken form limit n c (lines_of bytes))

-- all of a stream
abbrev pub stream_taken : Form → ℕ → Content → List ℕ → Progress
stream_taken form limit c bytes = bytes_taken form limit 0 c bytes

-- ---- where a device or memory failed

-- these lines are operations, which a store that held c took one after another, and so it holds d
pub record AreTaken (limit : ℕ) (lines : List (List ℕ)) (c d : Content) : Type 0 where
  pub operations : AllByRecursion IsOperation lines
  pub taken : taken_one_by_one limit c (operations_of lines) ≡ Ok d
  pub joined : d ≡ join c (content_of (operations_of lines))

-- A taker between two states: how many identifiers it may know, its content then and now, and what it keeps beside these,
-- by the operations that it took.
pub record Intake : Type 1 where
  pub limit : ℕ
  pub old : Content
  pub new : Content
  pub follows : List Op → Type 0

-- the same by its members
abbrev pub intake : {T : Type 0} → (T → ℕ) → (T → Content) → (T → List Op → T → Type 0) → T → T → Intake
intake limit content follows t u = record { limit = limit t; old = content t; new = content u; follows = λ ops. follows t ops u }

-- the same where the content alone is told
abbrev pub content_intake : ℕ → Content → Content → Intake
content_intake limit c d = record { limit = limit; old = c; new = d; follows = λ _. Unit {0} }

-- the taker holds what it held, and took nothing
pub record TakesNone (took : Intake) : Type 0 where
  pub same : took.new ≡ took.old
  pub nothing : took.follows []

-- Between two states of a reader that gives a stream of that form.
module _ {R : Type 0} (form : Form) (remaining : R → Option (List ℕ)) (r s : Calls R) (took : Intake) where
  -- Of what the reader gave were taken all lines that were whole before the last block, the first ones of those that end
  -- in it, and nothing else.
  pub record HasTakenLines : Type 0 where
    pub before : List ℕ
    pub block : List ℕ
    pub read : Consumes (remaining r.inner) (remaining s.inner) (before ++ block)
    pub one_block : length block ≤ BLOCK
    pub lines : List (List ℕ)
    pub begun : List (List ℕ)
    pub later : List (List ℕ)
    pub whole_before : lines ≡ lines_of before ++ begun
    pub begins : lines_of (before ++ block) ≡ lines ++ later
    pub taken : AreTaken took.limit (body form lines) took.old took.new
    pub beside : took.follows (operations_of (body form lines))

  -- all whole lines of what the reader gave were taken, and nothing else
  pub record HasTakenWholeLines : Type 0 where
    pub bytes : List ℕ
    pub read : Consumes (remaining r.inner) (remaining s.inner) bytes
    pub taken : AreTaken took.limit (body form (lines_of bytes)) took.old took.new
    pub beside : took.follows (operations_of (body form (lines_of bytes)))
