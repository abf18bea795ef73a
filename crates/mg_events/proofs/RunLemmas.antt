-- A run that a report says is one.
use Rattle.std.proofs.Common.{◌≡◌, arith, ◌≢◌, ℕ, Bool, true, false, List, length, Option, Some, None, Ok, Err, IfOk, refl, sym, subst, codes, nat_lt, if◌then◌else◌}
use Rattle.std.specs.Str.{is_utf8}
use Rattle.serde_json.specs.Data.{Data}
use Rattle.serde_json.specs.Read.{read}
use Rattle.rga_lines.specs.Runs.{Stretch, IsRun, IsDeletionRun}
use Rattle.rga_lines.specs.declared.deletion_run.DeletionRun.{DeletionRun}
use Rattle.rga_lines.specs.declared.line.Line.TheVariants as line
use Rattle.rga_lines.specs.declared.fault.LineFault.TheVariants as fault
use Rattle.rga_lines.specs.Memory.{LineMemory}
use Rattle.serde_json.specs.Find.{get}
use Rattle.rga_lines.specs.Table.{AnyReading, number_at, text_at, value_line, any_line_at}
use Rattle.rga_lines.proofs.ReadingLemmas.{any_run, any_deletions}
use Rattle.mg_events.proofs.ReportLemmas.{by_kind, line_by, report_by}
use Rattle.mg_events.specs.Reports.{ReportReading, HasSoundRun, member_count, more_of, with_splice_types, splice, operations_report, of_kind, with_name, value_report, report_at}

abbrev IsSound : ReportReading → Type 0
IsSound (Ok said) = HasSoundRun said
IsSound (Err e) = Unit {0}

-- ---- reports that say no run

splice_types : (b h l : Option ℕ) (t : Option (List ℕ)) (m : Option Bool) → IsSound (with_splice_types b h l t m)
splice_types b h l t m = grind arith

sound_if : (b : Bool) (r : ReportReading) → IsSound r → IsSound (if b then r else Err fault.Member)
sound_if b r sound = grind arith

sound_splice : (count : ℕ) (d : Data) → IsSound (splice count d)
sound_splice count d =
    sound_if _ (with_splice_types (number_at (codes "base") d) (number_at (codes "hi") d) (number_at (codes "lo") d) (text_at (codes "text") d) (more_of (get (codes "more") d)))
    (splice_types (number_at (codes "base") d) (number_at (codes "hi") d) (number_at (codes "lo") d) (text_at (codes "text") d) (more_of (get (codes "more") d)))

-- ---- the whole

abbrev HasRuns : AnyReading → Type 0
HasRuns said = ((r : Stretch) → said ≡ Ok (line.Run r) → IsRun r) × ((r : DeletionRun) → said ≡ Ok (line.Deletions r) → IsDeletionRun r)

sound_operations : (said : AnyReading) → HasRuns said → IsSound (operations_report said)
sound_operations (Ok (line.One op)) h = tt
sound_operations (Ok (line.Run r)) h = h.0 r refl
sound_operations (Ok (line.Deletions r)) h = h.1 r refl
sound_operations (Ok line.Head) h = tt
sound_operations (Ok (line.Last operations)) h = tt
sound_operations (Err e) h = tt

sound_kind : (said : AnyReading) (d : Data) (name : List ℕ) → HasRuns said → IsSound (of_kind said d name)
sound_kind said d name h =
    by_kind (λ r kind. IsSound r) name said d (λ _. grind arith) (λ _. sound_splice (member_count d) d) (λ _. grind arith) (λ _. grind arith) (λ _. grind arith)
    (sound_operations said h)

sound_name : (said : AnyReading) (d : Data) (name : Option (List ℕ)) → HasRuns said → IsSound (with_name said d name)
sound_name said d (Some name) h = sound_kind said d name h
sound_name said d None h = sound_operations said h

sound_value : (d : Data) → HasRuns (value_line d) → IsSound (value_report d)
unfolding value_report
sound_value d h = sound_name (value_line d) d (text_at (codes "op") d) h

sound_parts : (long utf8 : Bool) (d : Option Data) → HasRuns (line_by long utf8 d) → IsSound (report_by long utf8 d)
sound_parts true utf8 d h = tt
sound_parts false true (Some d) h = sound_value d h
sound_parts false true None h = tt
sound_parts false false d h = tt

runs_by : (bytes : List ℕ) → HasRuns (any_line_at bytes)
runs_by bytes = (any_run bytes, any_deletions bytes)

sound_report : (bytes : List ℕ) → IsSound (report_at bytes)
unfolding any_line_at report_at
sound_report bytes = sound_parts (nat_lt 65536 (length bytes)) (is_utf8 bytes) (read bytes) (runs_by bytes)

pub read_is_sound : (bytes : List ℕ) (r : ReportReading) → (r ≢ Err LineMemory → r ≡ report_at bytes) → IfOk r HasSoundRun
read_is_sound bytes (Ok said) exact =
    let is : Ok said ≡ report_at bytes = exact (λ e. cc) in
    let sound : IsSound (Ok said) = subst IsSound (sym is) (sound_report bytes) in
    sound
read_is_sound bytes (Err e) exact = tt
