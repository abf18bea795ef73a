-- What the bytes of a line say by their value, and that what is read is well-formed.
use Rattle.rga_lines.proofs.Prelude.{◌≡◌, ◌≢◌, ℕ, ◌<◌, ◌≤◌, Bool, true, false, List, length, Option, Some, None, Ok, Err, refl, sym, ap, ◌∙◌, arith, lt-ltb, le-ltb, IsUtf8, is_utf8, is_utf8-from_IsUtf8, IsUtf8-from_is_utf8, Data, read, checked, Op, One}
use Rattle.rga_lines.proofs.Prelude.{Run, Deletions, MAX_LINE, DeletionRun, is_operation, Stretch, IsRun, IsDeletionRun, Reading, AnyReading, value_line, text_line, operation_alone}
use Rattle.rga_lines.specs.Table.{any_line_at, line_at}
use Rattle.rga_lines.specs.declared.line.Line.{Line}
use Rattle.rga_lines.proofs.SoundLemmas.{IsSound, IsSoundOperation, sound_line}
use Rattle.rga_lines.specs.declared.fault.LineFault.TheVariants as fault
use Rattle.rga_lines.specs.Memory.{LineMemory}

-- ---- the whole

pub too_long : (bytes : List ℕ) → MAX_LINE < length bytes → any_line_at bytes ≡ Err fault.Long
unfolding any_line_at
too_long bytes h = rw (lt-ltb _ _ h)

-- a line that says something is not too long
pub short_line : (bytes : List ℕ) (said : Line) → any_line_at bytes ≡ Ok said → length bytes ≤ MAX_LINE
short_line bytes said e = grind (arith, too_long)

is_refused : (utf8 : Bool) (value : Option Data) → (utf8 ≡ true → value ≡ None) → text_line utf8 value ≡ Err fault.Json
is_refused true value h = rw (h refl)
is_refused false value h = refl

pub refused : (bytes : List ℕ) → length bytes ≤ MAX_LINE → (IsUtf8 bytes → read bytes ≡ None) → any_line_at bytes ≡ Err fault.Json
unfolding any_line_at
refused bytes h none = rw (le-ltb _ _ h) (is_refused (is_utf8 bytes) (read bytes) (λ e. none (IsUtf8-from_is_utf8 bytes e)))

pub accepted : (bytes : List ℕ) (d : Data) → length bytes ≤ MAX_LINE → IsUtf8 bytes → read bytes ≡ Some d → any_line_at bytes ≡ value_line d
unfolding any_line_at
accepted bytes d h text e = rw (le-ltb _ _ h) (ap (λ (b : Bool). text_line b (read bytes)) (is_utf8-from_IsUtf8 bytes text) ∙ ap (text_line true) e)

-- where operations alone may stand
pub alone : (bytes : List ℕ) (r : AnyReading) → any_line_at bytes ≡ r → line_at bytes ≡ operation_alone r
unfolding line_at
alone bytes r e = ap operation_alone e

-- what was said of the bytes, with no refusal of memory, says of them what it says alone
pub said_alone : (bytes : List ℕ) (said : AnyReading) (r : Reading) → (said ≢ Err LineMemory → said ≡ any_line_at bytes) → operation_alone said ≡ r → r ≢ Err LineMemory → r ≡ line_at bytes
unfolding line_at
said_alone bytes said r says is other = sym is ∙ ap operation_alone (says (λ e. other (sym is ∙ ap operation_alone e)))

-- ---- what is read is well-formed

-- a run that a line says has 1 to 4096 characters, counters in range, and a parent that is before it
pub any_run : (bytes : List ℕ) (r : Stretch) → any_line_at bytes ≡ Ok (Run r) → IsRun r
any_run bytes r e = let sound : IsSound (is_operation (read bytes)) (Ok (Run r)) = rw e at (sound_line bytes) in sound.0

-- and a run of deletions
pub any_deletions : (bytes : List ℕ) (r : DeletionRun) → any_line_at bytes ≡ Ok (Deletions r) → IsDeletionRun r
any_deletions bytes r e = let sound : IsSound (is_operation (read bytes)) (Ok (Deletions r)) = rw e at (sound_line bytes) in sound.0

pub any_well_formed : (bytes : List ℕ) (op : Op) → any_line_at bytes ≡ Ok (One op) → checked op ≡ Ok tt
any_well_formed bytes op e = let sound : IsSound (is_operation (read bytes)) (Ok (One op)) = rw e at (sound_line bytes) in sound.0

sound_alone : (single : Bool) (r : AnyReading) → IsSound single r → IsSoundOperation (operation_alone r)
sound_alone single (Ok (One op)) sound = sound.0
sound_alone single r sound = tt

sound_operation : (bytes : List ℕ) → IsSoundOperation (line_at bytes)
unfolding line_at
sound_operation bytes = sound_alone (is_operation (read bytes)) (any_line_at bytes) (sound_line bytes)

pub well_formed : (bytes : List ℕ) (op : Op) → line_at bytes ≡ Ok op → checked op ≡ Ok tt
well_formed bytes op e = let sound : IsSoundOperation (Ok op) = rw e at (sound_operation bytes) in sound
