-- Whether a log has runs of deletions.
use Rattle.std.specs.Prelude.{ℕ, Bool, true, false, List, [], ◌∷◌, ◌++◌, Ok, Err}
use Rattle.std.specs.List.{list_any}
use Rattle.rga_lines.specs.declared.line.Line.TheVariants.{One, Run, Deletions, Head, Last}
use Rattle.rga_lines.specs.Stream.{lines_of, rest_of}
use Rattle.rga_lines.specs.Table.{AnyReading, any_line_at}

-- whether a line says a run of deletions
abbrev pub is_deletion_run : AnyReading → Bool
is_deletion_run (Ok (One op)) = false
is_deletion_run (Ok (Run r)) = false
is_deletion_run (Ok (Deletions r)) = true
is_deletion_run (Ok Head) = false
is_deletion_run (Ok (Last number)) = false
is_deletion_run (Err e) = false

-- whether one of the lines does
abbrev pub have_deletion_runs : List (List ℕ) → Bool
have_deletion_runs lines = list_any (λ line. is_deletion_run (any_line_at line)) lines

-- whether one of a log's lines does, or its rest
abbrev pub has_deletion_runs : List ℕ → Bool
has_deletion_runs bytes = have_deletion_runs (lines_of bytes ++ rest_of bytes ∷ [])
