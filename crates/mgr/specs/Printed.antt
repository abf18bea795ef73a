-- What is printed of a merge and of a mended log.
use Rattle.std.specs.Prelude.{◌==◌, ◌&&◌, not, ℕ, Bool, List, [], ◌++◌, if◌then◌else◌, codes}
use Rattle.std.specs.Fmt.{decimal}
use Rattle.mgr_mend.specs.declared.mended.LeftOut.{LeftOut}

-- how many operations of a merge were new
abbrev pub count_line : ℕ → List ℕ
count_line n = if n == 1 then codes "1 new operation\n" else (decimal n ++ codes " new operations\n")

-- how many lines of a log were left out, and why
abbrev pub faulty_text : ℕ → List ℕ
faulty_text n = if n == 0 then [] else (if n == 1 then codes "1 line is no operation\n" else (decimal n ++ codes " lines are no operation\n"))

abbrev pub beaten_text : ℕ → List ℕ
beaten_text n = if n == 0 then [] else (if n == 1 then codes "1 line conflicts with one that stays\n" else (decimal n ++ codes " lines conflict with others that stay\n"))

abbrev pub torn_text : Bool → List ℕ
torn_text torn = if torn then codes "the last line was cut off\n" else []

abbrev pub excess_text : ℕ → List ℕ
excess_text n = if n == 0 then [] else (if n == 1 then codes "1 line would bring more than 1,000,000 identifiers\n" else (decimal n ++ codes " lines would bring more than 1,000,000 identifiers\n"))

abbrev pub is_nothing : LeftOut → Bool
is_nothing left = (((left.faulty == 0) && (left.beaten == 0)) && not left.torn) && (left.excess == 0)

-- and where they are
abbrev pub left_out_text : LeftOut → List ℕ
left_out_text left =
    if is_nothing left then codes "nothing to mend\n"
    else (faulty_text left.faulty ++ (beaten_text left.beaten ++ (torn_text left.torn ++ (excess_text left.excess
    ++ codes "What was left out is in .ops.refused, beside the log; the old log is there too, with a ~.\nWhoever wrote what was left out goes on under another number.\n"))))
