-- How a damaged log is mended: which of its lines are kept, and what is left out.
use Rattle.std.specs.Prelude.{◌≡◌, ℕ, ◌+◌, Bool, true, false, ◌&&◌, not, if◌then◌else◌, List, [], ◌∷◌, ◌++◌, filter, Contains, Result, Ok, Err}
use Rattle.std.specs.List.{list_any, flat_map}
use Rattle.std.specs.Ordering.{nat_cmp, is_lt}
use Rattle.std.specs.declared.cmp.Ordering.TheVariants.{Less}
use Rattle.std.specs.Cmp.Lexicographic.{slice_cmp}
use Rattle.rga_ops.specs.Identifier.{is_id}
use Rattle.rga_ops.specs.declared.op.Op.{Op}
use Rattle.rga_ops.specs.declared.op.Op.TheVariants.{Insert}
use Rattle.rga_lines.specs.Log.{operations_at}
use Rattle.rga_lines.specs.declared.fault.LineFault.{LineFault}
use Rattle.rga_lines.specs.Spelling.{line}
use Rattle.rga_lines.specs.Stream.{newline, lines_of, rest_of}
use Rattle.rga_exchange.specs.Sending.{log_text}
use Rattle.mgr_mend.specs.declared.mended.LeftOut.{LeftOut}
use Rattle.mgr_mend.specs.declared.fate.Fate.{Fate}
use Rattle.mgr_mend.specs.declared.fate.Fate.TheVariants.{Kept, Beaten, Faulty}

-- what a line stands for: some operations, or it is none
abbrev pub Said : Type 0
Said = Result (List Op) LineFault

-- ---- the operations of a damaged log

abbrev pub operations_said : Said → List Op
operations_said (Ok ops) = ops
operations_said (Err e) = []

-- those of a line; a line that is no operation has none
abbrev pub line_operations : List ℕ → List Op
line_operations bytes = operations_said (operations_at bytes)

-- the lines of a log, and its rest as one more; an empty rest is no operation
abbrev pub all_lines : List ℕ → List (List ℕ)
all_lines bytes = lines_of bytes ++ rest_of bytes ∷ []

-- the operations of all lines that have some
abbrev pub whole_operations : List ℕ → List Op
whole_operations bytes = flat_map line_operations (all_lines bytes)

-- ---- which insertions are beaten

-- the line of the first operation is less than that of the second, byte by byte
abbrev pub IsLessLine : Op → Op → Type 0
IsLessLine op other = slice_cmp nat_cmp (line op) (line other) ≡ Less

-- both are insertions of one identifier, and the line of the first is less
abbrev pub Beats : Op → Op → Type 0
Beats (Insert id parent ch) (Insert other above char) =
    (id ≡ other) × IsLessLine (Insert id parent ch) (Insert other above char)
Beats op other = ⊥

-- an operation of the list beats this one
abbrev pub IsBeaten : List Op → Op → Type 0
IsBeaten ops op = (other : Op) × Contains ops other × Beats other op

-- the same as tests
abbrev pub is_less_line : Op → Op → Bool
is_less_line op other = is_lt (slice_cmp nat_cmp (line op) (line other))

abbrev pub beats : Op → Op → Bool
beats (Insert id parent ch) (Insert other above char) =
    is_id id other && is_less_line (Insert id parent ch) (Insert other above char)
beats op other = false

abbrev pub is_beaten : List Op → Op → Bool
is_beaten ops op = list_any (λ other. beats other op) ops

-- those of some operations that none of all beats
abbrev pub unbeaten : List Op → List Op → List Op
unbeaten all ops = filter (λ op. not (is_beaten all op)) ops

abbrev pub have_beaten : List Op → List Op → Bool
have_beaten all ops = list_any (is_beaten all) ops

-- ---- what becomes of a line, among all operations of the log

-- A line that is no operation is faulty; one with a beaten insertion does not stay as it is.
abbrev pub fate : List Op → Said → Fate
fate all (Ok ops) = if have_beaten all ops then Beaten else Kept
fate all (Err e) = Faulty

-- What the mended log has for these bytes, a line with its newline or the rest: themselves, the lines of what stays of
-- its operations, or nothing.
abbrev pub mended_as : Fate → List ℕ → List Op → List ℕ
mended_as Kept part stay = part
mended_as Beaten part stay = log_text stay
mended_as Faulty part stay = []

-- what is left out of the log for them: nothing, or all of them
abbrev pub refused_as : Fate → List ℕ → List ℕ
refused_as Kept part = []
refused_as f part = part

abbrev pub mended_part : List Op → List ℕ → Said → List ℕ
mended_part all part said = mended_as (fate all said) part (unbeaten all (operations_said said))

abbrev pub refused_part : List Op → List ℕ → Said → List ℕ
refused_part all part said = refused_as (fate all said) part

abbrev pub mended_line : List Op → List ℕ → List ℕ
mended_line all bytes = mended_part all (bytes ++ newline ∷ []) (operations_at bytes)

abbrev pub refused_line : List Op → List ℕ → List ℕ
refused_line all bytes = refused_part all (bytes ++ newline ∷ []) (operations_at bytes)

-- the line stays as it is, and nothing of it is left out
abbrev pub StaysWhole : List Op → List ℕ → Type 0
StaysWhole all bytes = (mended_line all bytes ≡ bytes ++ newline ∷ []) × (refused_line all bytes ≡ [])

-- the line is left out as it is, and what stays of its operations stands in its place
abbrev pub IsLeftOut : List Op → List ℕ → Type 0
IsLeftOut all bytes = (refused_line all bytes ≡ bytes ++ newline ∷ []) × (mended_line all bytes ≡ log_text (unbeaten all (line_operations bytes)))

-- ---- the whole log

-- by all operations, the lines and the rest
abbrev pub mended_from : List Op → List (List ℕ) → List ℕ → List ℕ
mended_from all lines rest = flat_map (mended_line all) lines ++ mended_part all rest (operations_at rest)

abbrev pub refused_from : List Op → List (List ℕ) → List ℕ → List ℕ
refused_from all lines rest = flat_map (refused_line all) lines ++ refused_part all rest (operations_at rest)

-- the mended log
abbrev pub mended : List ℕ → List ℕ
mended bytes = mended_from (whole_operations bytes) (lines_of bytes) (rest_of bytes)

-- what was left out of it, in order
abbrev pub refused_of : List ℕ → List ℕ
refused_of bytes = refused_from (whole_operations bytes) (lines_of bytes) (rest_of bytes)

-- ---- what was left out, in lines

abbrev pub is_beaten_line : Fate → Bool
is_beaten_line Beaten = true
is_beaten_line f = false

abbrev pub is_faulty : Fate → Bool
is_faulty Faulty = true
is_faulty f = false

abbrev pub one_if : Bool → ℕ
one_if test = if test then 1 else 0

-- how many of the lines have such a fate
abbrev pub fate_count : (Fate → Bool) → List Op → List (List ℕ) → ℕ
fate_count test all [] = 0
fate_count test all (bytes ∷ lines) = one_if (test (fate all (operations_at bytes))) + fate_count test all lines

-- whether the rest was cut off: it is not empty, and no operation
abbrev pub is_torn : List Op → List ℕ → Bool
is_torn all [] = false
is_torn all (b ∷ bytes) = is_faulty (fate all (operations_at (b ∷ bytes)))

-- the whole lines that are no operation, and the lines, or the rest, with a beaten insertion
abbrev pub left_out_of : List ℕ → LeftOut
left_out_of bytes = record {
  faulty = fate_count is_faulty (whole_operations bytes) (lines_of bytes);
  beaten = fate_count is_beaten_line (whole_operations bytes) (all_lines bytes);
  torn = is_torn (whole_operations bytes) (rest_of bytes);
  excess = 0;
}

abbrev pub nothing_left_out : LeftOut
nothing_left_out = record { faulty = 0; beaten = 0; torn = false; excess = 0 }
