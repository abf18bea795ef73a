-- A stream that is taken in parts, as it is read.
use Rattle.std.specs.Prelude.{◌≡◌, ℕ, ◌+◌, ◌≤◌, if◌then◌else◌, false, List, [], ◌++◌, length, Option, Some, None, Result, Ok, Err}
use Rattle.rga_ops.specs.Content.{Content}
use Rattle.rga_ops.specs.declared.op.Op.{Op}
use Rattle.rga_exchange.specs.Counting.{Calls, IsReadToEnd}
use Rattle.rga_lines.specs.Log.{operations_of}
use Rattle.rga_lines.specs.Stream.{Splitting, lines_of, rest_of}
use Rattle.rga_lines.specs.Table.{any_line_at}
use Rattle.rga_lines.specs.declared.line.Line.TheVariants.{One}
use Rattle.rga_lines.specs.declared.line.TheConstants.{MAX_LINE}
use Rattle.rga_lines.specs.declared.fault.LineFault.TheVariants as line_fault
use Rattle.rga_exchange.specs.Receiving.{EndsWithLastRead}
use Rattle.rga_exchange.specs.Taking.{may_be_head, body_behind, body, Stop, AllTaken, AtEnd, AtFault, progress, after_line, lines_taken, bytes_taken, stream_taken, Intake, TakesNone}
use Rattle.rga_exchange.specs.declared.taking.Form.{Form}
use Rattle.rga_exchange.specs.declared.taking.LineTaken.{LineTaken}
use Rattle.rga_exchange.specs.declared.taking.LineTaken.TheVariants.{Operations, EndLine}
use Rattle.rga_exchange.specs.declared.taking.StreamEnd.{StreamEnd}
use Rattle.rga_exchange.specs.declared.taking.StreamEnd.TheVariants as stream_end
use Rattle.rga_exchange.specs.declared.fault.LogFault.{LogFault}
use Rattle.rga_exchange.specs.declared.fault.LogFault.TheVariants as fault

-- How far a stream was taken: so many lines, so many operations, and these bytes wait.
pub record Stage : Type 0 where
  pub lines : ℕ
  pub operations : ℕ
  pub waiting : List ℕ

abbrev pub stage : ℕ → ℕ → List ℕ → Stage
stage n j waiting = record { lines = n; operations = j; waiting = waiting }

-- the line says this operation
abbrev pub SaysAlone : List ℕ → Op → Type 0
SaysAlone line op = any_line_at line ≡ Ok (One op)

-- what comes of a line with that number
abbrev pub line_outcome : {T : Type 0} → Form → (T → ℕ) → (T → Content) → T → ℕ → List ℕ → Result Content Stop
line_outcome form limit content t n line = after_line form (limit t) n (content t) (any_line_at line)

-- what a head as the line with that number comes to
abbrev pub head_answer : Form → ℕ → Result LineTaken LogFault
head_answer form n = if may_be_head form n then Ok (Operations 0) else Err (fault.Line n line_fault.Kind)

-- What became of a line that may stand for these operations, where these lead to that outcome: all are taken, or none.
abbrev pub TakesAs : Intake → Result Content Stop → List Op → Result LineTaken LogFault → Type 0
TakesAs took outcome ops (Ok (Operations count)) = (outcome ≡ Ok took.new) × took.follows ops × (count ≡ length ops)
TakesAs took outcome ops (Ok (EndLine number)) = (outcome ≡ Err (AtEnd number)) × (ops ≡ []) × TakesNone took
TakesAs took outcome ops (Err (fault.Line n e)) = (outcome ≡ Err (AtFault (fault.Line n e))) × (ops ≡ []) × TakesNone took
TakesAs took outcome ops (Err (fault.Refused n e)) = (outcome ≡ Err (AtFault (fault.Refused n e))) × TakesNone took
TakesAs took outcome ops (Err fault.Read) = ⊥
TakesAs took outcome ops (Err (fault.Memory _)) = TakesNone took

-- From the one stage to the other the first lines of the bytes that waited were taken. Whatever bytes follow are cut as if
-- all had been there from the start.
pub record TakesUpTo (form : Form) (took : Intake) (p q : Stage) : Type 0 where
  pub lines : List (List ℕ)
  pub cut : (more : List ℕ) → lines_of (p.waiting ++ more) ≡ lines ++ lines_of (q.waiting ++ more)
  pub rest : (more : List ℕ) → rest_of (p.waiting ++ more) ≡ rest_of (q.waiting ++ more)
  pub taken : lines_taken form took.limit p.lines took.old lines ≡ progress q.lines took.new AllTaken
  pub beside : took.follows (operations_of (body_behind form p.lines lines))
  pub count : q.operations ≡ p.operations + length (operations_of (body_behind form p.lines lines))

-- whatever follows the bytes that wait, they lead to so many lines, and stop so there
abbrev pub StopsAs : Form → Intake → Stage → ℕ → Stop → Type 0
StopsAs form took p n stop = (more : List ℕ) → bytes_taken form took.limit p.lines took.old (p.waiting ++ more) ≡ progress n took.new stop

-- all lines that waited were taken, and none waits now
pub record TakesAll (form : Form) (took : Intake) (p : Stage) (n j : ℕ) (s : Splitting) : Type 0 where
  pub up_to : TakesUpTo form took p (stage n j s.waiting)
  pub none_left : lines_of s.waiting ≡ []
  pub short : length s.waiting ≤ MAX_LINE
  pub whole : s.broken ≡ false
  pub room : n + length s.waiting ≤ p.lines + length p.waiting

-- the first of them were taken
abbrev pub TakesFirst : Form → Intake → Stage → ℕ → ℕ → Type 0
TakesFirst form took p n j = (waiting : List ℕ) × TakesUpTo form took p (stage n j waiting)

-- What became of the lines that waited: all are taken, or the first of them, up to one that stops.
abbrev pub TakesLines : Form → Intake → Stage → ℕ → ℕ → Splitting → Result (Option ℕ) LogFault → Type 0
TakesLines form took p n j s (Ok None) = TakesAll form took p n j s
TakesLines form took p n j s (Ok (Some number)) = TakesFirst form took p n j × StopsAs form took p n (AtEnd number)
TakesLines form took p n j s (Err (fault.Line k e)) = TakesFirst form took p n j × StopsAs form took p n (AtFault (fault.Line k e))
TakesLines form took p n j s (Err (fault.Refused k e)) = TakesFirst form took p n j × StopsAs form took p n (AtFault (fault.Refused k e))
TakesLines form took p n j s (Err fault.Read) = ⊥
TakesLines form took p n j s (Err (fault.Memory _)) = TakesFirst form took p n j

-- all bytes of a stream lead to n lines, and stop so there
abbrev pub LeadsTo : Form → Intake → List ℕ → ℕ → Stop → Type 0
LeadsTo form took bytes n stop = stream_taken form took.limit took.old bytes ≡ progress n took.new stop

-- the stream of these bytes ended so behind n lines, and behind j operations where it was the end line
abbrev pub EndsAs : Form → Intake → List ℕ → ℕ → ℕ → StreamEnd → Type 0
EndsAs form took bytes n j (stream_end.EndLine number) = LeadsTo form took bytes n (AtEnd number) × (j ≡ length (operations_of (body form (lines_of bytes))))
EndsAs form took bytes n j (stream_end.Input rest) = LeadsTo form took bytes n AllTaken × (rest_of bytes ≡ rest.items)

-- the rest at the end of the input
abbrev pub left_at : StreamEnd → Option (List ℕ)
left_at (stream_end.EndLine number) = None
left_at (stream_end.Input rest) = Some rest.items

module _ {R : Type 0} (form : Form) (remaining : R → Option (List ℕ)) (r s : Calls R) where
  -- no read follows that of the end line
  abbrev pub StopsReading : StreamEnd → Type 0
  StopsReading (stream_end.EndLine number) = EndsWithLastRead form remaining r s
  StopsReading (stream_end.Input bytes) = Unit {0}

  -- What the reader gave was taken up to that stage: all lines that were whole before the last block, and then some more.
  pub record HasTakenOfRead (took : Intake) (q : Stage) : Type 0 where
    pub read : EndsWithLastRead form remaining r s
    pub up_to : TakesUpTo form took (stage 0 0 (read.before ++ read.last)) q
    pub begun : List (List ℕ)
    pub whole_before : up_to.lines ≡ lines_of read.before ++ begun

  -- the input was read to its end, and what waits is its rest
  pub record HasTakenAllBut (took : Intake) (q : Stage) : Type 0 where
    pub end : IsReadToEnd remaining s
    pub taken : HasTakenOfRead took q
    pub no_line : lines_of q.waiting ≡ []
    pub short : length q.waiting ≤ MAX_LINE
