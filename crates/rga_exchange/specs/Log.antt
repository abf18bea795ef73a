-- What a log leads to.
use Rattle.std.specs.Prelude.{◌≡◌, ◌≢◌, ℕ, ◌+◌, List, [], ◌∷◌, length, Option, Result, Ok, Err, OnOk, OnErr}
use Rattle.std.specs.Io.KnownBytes.{Consumes}
use Rattle.rga_ops.specs.Prelude.{Content, taken, join, content_of}
use Rattle.rga_ops.specs.Answer.{taken_one_by_one}
use Rattle.rga_ops.specs.declared.refusal.Refusal.{Refusal}
use Rattle.rga_exchange.specs.Counting.{Calls, IsReadToEnd, OnBytes}
use Rattle.rga_lines.specs.Log.{log_operations, operations_of}
use Rattle.rga_lines.specs.Runs.{stretch_operations, run_deletions}
use Rattle.rga_lines.specs.Table.{AnyReading, any_line_at}
use Rattle.rga_lines.specs.declared.line.Line.TheVariants.{One, Run, Deletions, Head, Last}
use Rattle.rga_lines.specs.Stream.{rest_of}
use Rattle.rga_lines.specs.declared.fault.LineFault.TheVariants as line_fault
use Rattle.rga_exchange.specs.declared.taking.Form.TheVariants as form
use Rattle.rga_exchange.specs.declared.fault.LogFault.{LogFault}
use Rattle.rga_exchange.specs.declared.fault.LogFault.TheVariants as fault
use Rattle.rga_exchange.specs.Memory.{LogMemory}
use Rattle.rga_exchange.specs.declared.log.LogEnd.{LogEnd}
use Rattle.rga_exchange.specs.declared.log.LogEnd.TheVariants.{Whole, Bare, Torn}
use Rattle.rga_exchange.specs.declared.log.LogRead.{LogRead}
use Rattle.rga_exchange.specs.declared.taking.LineTaken.{LineTaken}
use Rattle.rga_exchange.specs.declared.taking.LineTaken.TheVariants.{Operations, EndLine}
use Rattle.rga_exchange.specs.declared.fault.ReceiveFault.{ReceiveFault}
use Rattle.rga_exchange.specs.Receiving.{receive_fault}
use Rattle.rga_exchange.specs.Taking.{Stop, AllTaken, AtEnd, AtFault, Progress, taken_whole, stream_taken, Intake, TakesNone, HasTakenLines, HasTakenWholeLines}

-- the content, and the number of lines with how the log ends, or a fault
abbrev pub LogOutcome : Type 0
LogOutcome = Content × Result LogRead LogFault

abbrev pub end_outcome : ℕ → Content → LogEnd → LogOutcome
end_outcome n c end = (c, Ok (record { lines = n; end = end }))

abbrev pub after_bare_operation : ℕ → Content → Result Content Refusal → LogOutcome
after_bare_operation n c (Ok d) = end_outcome n d Bare
after_bare_operation n c (Err e) = (c, Err (fault.Refused (n + 1) e))

-- a last line that no newline ends counts if it is an operation or a run, and else was cut off
abbrev pub after_bare_line : ℕ → ℕ → Content → ℕ → AnyReading → LogOutcome
after_bare_line limit n c bytes (Ok (One op)) = after_bare_operation n c (taken limit c op)
after_bare_line limit n c bytes (Ok (Run r)) = after_bare_operation n c (taken_whole limit c (stretch_operations r))
after_bare_line limit n c bytes (Ok (Deletions r)) = after_bare_operation n c (taken_whole limit c (run_deletions r))
after_bare_line limit n c bytes (Ok Head) = end_outcome n c (Torn bytes)
after_bare_line limit n c bytes (Ok (Last number)) = end_outcome n c (Torn bytes)
after_bare_line limit n c bytes (Err e) = end_outcome n c (Torn bytes)

-- the rest of a log behind n lines, at a store that may know that many identifiers and holds c
abbrev pub after_rest : ℕ → ℕ → Content → List ℕ → LogOutcome
after_rest limit n c [] = end_outcome n c Whole
after_rest limit n c (b ∷ bytes) = after_bare_line limit n c (length (b ∷ bytes)) (any_line_at (b ∷ bytes))

-- what is answered for a rest of so many bytes, by what is answered for it as a line
abbrev pub bare_answer : ℕ → Result LineTaken LogFault → Result LogEnd LogFault
bare_answer bytes (Ok (Operations count)) = Ok Bare
bare_answer bytes (Ok (EndLine number)) = Ok (Torn bytes)
bare_answer bytes (Err (fault.Line n e)) = Ok (Torn bytes)
bare_answer bytes (Err (fault.Refused n e)) = Err (fault.Refused n e)
bare_answer bytes (Err fault.Read) = Err fault.Read
bare_answer bytes (Err (fault.Memory _)) = Err LogMemory

-- what became of the rest behind n lines: an operation or a run is taken, or nothing is
abbrev pub TakesRest : Intake → ℕ → List ℕ → Result LogEnd LogFault → Type 0
TakesRest took n rest (Ok end) = (after_rest took.limit n took.old rest ≡ end_outcome n took.new end) × took.follows (operations_of (rest ∷ []))
TakesRest took n rest (Err (fault.Line k e)) = ⊥
TakesRest took n rest (Err (fault.Refused k e)) = (after_rest took.limit n took.old rest ≡ (took.new, Err (fault.Refused k e))) × TakesNone took
TakesRest took n rest (Err fault.Read) = ⊥
TakesRest took n rest (Err (fault.Memory _)) = TakesNone took

-- the rest comes where all lines were taken; the end of an exchange is no line of a log
abbrev pub after_stop : ℕ → List ℕ → ℕ → Content → Stop → LogOutcome
after_stop limit rest n c AllTaken = after_rest limit n c rest
after_stop limit rest n c (AtEnd number) = (c, Err (fault.Line (n + 1) line_fault.Kind))
after_stop limit rest n c (AtFault e) = (c, Err e)

abbrev pub after_lines : ℕ → List ℕ → Progress → LogOutcome
after_lines limit rest t = after_stop limit rest t.lines t.content t.stop

-- a whole log
abbrev pub log_outcome : ℕ → Content → List ℕ → LogOutcome
log_outcome limit c bytes = after_lines limit (rest_of bytes) (stream_taken form.Log limit c bytes)

-- how the log ends, whatever the number of its lines, or the fault as one of those that an exchange has too
abbrev pub log_end : Result LogRead LogFault → Result LogEnd ReceiveFault
log_end (Ok read) = Ok read.end
log_end (Err e) = Err (receive_fault e)

-- these bytes, as a whole log, lead to what is held and to what is answered, where the outcome is told so
abbrev pub LeadsToAnswer : {A E : Type 0} → Intake → (Result LogRead LogFault → Result A E) → Result A E → List ℕ → Type 0
LeadsToAnswer took told result bytes = let p = log_outcome took.limit took.old bytes in (p.0 ≡ took.new) × (told p.1 ≡ result)

-- What comes of a log that a taker takes from a reader.
module _ {R A E : Type 0} (remaining : R → Option (List ℕ)) (r s : Calls R) (took : Intake) (told : Result LogRead LogFault → Result A E) (result : Result A E) where
  -- The reader was read to its end. What it gave, as a whole log, led to what is held and to what is answered: all its
  -- operations were taken, and nothing else.
  pub record HasTakenLog : Type 0 where
    pub end : IsReadToEnd remaining s
    pub bytes : List ℕ
    pub read : Consumes (remaining r.inner) (remaining s.inner) bytes
    pub outcome : LeadsToAnswer took told result bytes
    pub taken : taken_one_by_one took.limit took.old (log_operations bytes) ≡ Ok took.new
    pub beside : took.follows (log_operations bytes)

  pub record TakesLog : Type 0 where
    -- however the reads cut the bytes, they lead to what the whole log leads to
    pub outcome : result ≢ told (Err fault.Read) → result ≢ told (Err LogMemory) → OnBytes remaining r (LeadsToAnswer took told result)
    pub joined : OnOk result (OnBytes remaining r (λ bytes. took.new ≡ join took.old (content_of (log_operations bytes))))
    pub whole_lines : result ≡ told (Err fault.Read) → HasTakenWholeLines form.Log remaining r s took
    -- whatever the fault, all lines that were whole before the last block were taken, the first of those that end in it,
    -- and nothing else
    pub lines : OnErr result (HasTakenLines form.Log remaining r s took)
    -- without one all operations were taken, to the end of the input, and nothing else
    pub log : OnOk result HasTakenLog
