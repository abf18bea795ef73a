-- Keys, and reports among them: the byte 255, a line of at most 65536 bytes, and a newline.
use Rattle.std.specs.Prelude.{◌≡◌, ℕ, ◌==◌, Bool, true, false, nat_lt, if◌then◌else◌, List, [], ◌∷◌, ◌++◌, length, ◌⊎◌, ⊤, ◌≢◌}
use Rattle.rga_lines.specs.declared.fault.LineFault.{LineFault}
use Rattle.rga_lines.specs.declared.fault.LineFault.TheVariants as fault
use Rattle.rga_lines.specs.Memory.{LineMemory}
use Rattle.mg_events.specs.declared.reader.Phase.{Phase}
use Rattle.mg_events.specs.declared.reader.Phase.TheVariants.{Keys, Report, Dropping}
use Rattle.mg_events.specs.declared.reader.Event.{Event}
use Rattle.mg_events.specs.declared.reader.Event.TheVariants.{Key, Line, Refused, Nothing}

-- ---- one byte

-- what is begun, and the line of a report: as far as it has come, or of the last one that was whole
pub record Reading : Type 0 where
  pub phase : Phase
  pub line : List ℕ

abbrev pub reading : Phase → List ℕ → Reading
reading phase line = record { phase = phase; line = line }

-- nothing was read
abbrev pub fresh : Reading
fresh = reading Keys []

-- the rest of a report is dropped, and it is refused at its newline
abbrev pub dropping : LineFault → Reading
dropping fault = reading (Dropping fault) []

-- what a byte leaves, and what it leads to
pub record Read : Type 0 where
  pub left : Reading
  pub event : Event

abbrev pub reads : Reading → Event → Read
reads left event = record { left = left; event = event }

-- a key, or the beginning of a report
abbrev pub key_step : Reading → ℕ → Read
key_step r b = if b == 255 then reads (reading Report []) Nothing else reads r (Key b)

-- a byte of a report's line, or its newline
abbrev pub line_step : Reading → ℕ → Read
line_step r b =
    if b == 10 then reads (reading Keys r.line) Line
    else (if nat_lt (length r.line) 65536 then reads (reading Report (r.line ++ b ∷ [])) Nothing
    else reads (dropping fault.Long) Nothing)

-- a byte that is dropped, or the newline behind such
abbrev pub dropping_step : LineFault → Reading → ℕ → Read
dropping_step fault r b = if b == 10 then reads (reading Keys r.line) (Refused fault) else reads r Nothing

abbrev pub step_in : Phase → Reading → ℕ → Read
step_in Keys r b = key_step r b
step_in Report r b = line_step r b
step_in (Dropping fault) r b = dropping_step fault r b

abbrev pub step : Reading → ℕ → Read
step r b = step_in r.phase r b

-- a report's line is to grow by the byte
abbrev pub Grows : Reading → ℕ → Type 0
Grows r b = (r.phase ≡ Report) × ((line_step r b).left ≡ reading Report (r.line ++ b ∷ []))

-- What a byte leaves: what the step says; or where a line is to grow, memory is refused, and the rest is dropped.
abbrev pub Leaves : Reading → ℕ → Reading → Type 0
Leaves r b left = (left ≡ (step r b).left) ⊎ (Grows r b × (left ≡ dropping LineMemory))

-- a report is begun
abbrev pub is_in_report : Phase → Bool
is_in_report Keys = false
is_in_report Report = true
is_in_report (Dropping fault) = true

-- ---- bytes, one after the other

-- a key; a whole report, by its line; a report that is refused
pub data Told : Type 0 where
  key : ℕ → Told
  report : List ℕ → Told
  refused : LineFault → Told

-- by the event, and what is left with it
abbrev pub told_by : Event → Reading → List Told
told_by (Key b) left = key b ∷ []
told_by Line left = report left.line ∷ []
told_by (Refused fault) left = refused fault ∷ []
told_by Nothing left = []

abbrev pub told : Read → List Told
told r = told_by r.event r.left

-- what the bytes lead to, if memory is never refused, and what they leave
abbrev pub events : Reading → List ℕ → List Told
events r [] = []
events r (b ∷ bs) = told (step r b) ++ events (step r b).left bs

abbrev pub after : Reading → List ℕ → Reading
after r [] = r
after r (b ∷ bs) = after (step r b).left bs

-- ---- where memory may be refused

-- The bytes lead to these and leave this, where each byte leaves what `Leaves` says.
abbrev pub Leads : Reading → List ℕ → List Told → Reading → Type 0
Leads r [] ts left = (ts ≡ []) × (left ≡ r)
Leads r (b ∷ bs) ts left =
    (next : Reading) × (more : List Told) × Leaves r b next × (ts ≡ told_by (step r b).event next ++ more) × Leads next bs more left

abbrev pub IsNoMemory : Told → Type 0
IsNoMemory (key b) = ⊤
IsNoMemory (report line) = ⊤
IsNoMemory (refused e) = e ≢ LineMemory

-- no report is refused for want of memory
abbrev pub HasNoMemory : List Told → Type 0
HasNoMemory [] = ⊤
HasNoMemory (t ∷ ts) = IsNoMemory t × HasNoMemory ts
