-- The texts of notices, as they are shown.
use Rattle.std.specs.Prelude.{ℕ, List, codes}
use Rattle.mg_plain.specs.declared.outcome.Notice.{Notice}
use Rattle.mg_plain.specs.declared.outcome.Notice.TheVariants.{BeginningOfBuffer, EndOfBuffer, NoMark, SearchFailed, NothingToUndo, Memory}

abbrev pub notice_message : Notice → List ℕ
notice_message BeginningOfBuffer = codes "Beginning of buffer"
notice_message EndOfBuffer = codes "End of buffer"
notice_message NoMark = codes "No mark set"
notice_message SearchFailed = codes "Search failed"
notice_message NothingToUndo = codes "Nothing to undo"
notice_message (Memory _) = codes "Out of memory"
