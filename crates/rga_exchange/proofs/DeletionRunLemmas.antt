-- Whether lines that were taken have runs of deletions.
use Rattle.std.proofs.Common.{arith, ◌≡◌, ℕ, Bool, false, ◌||◌, List, [], ◌++◌, Option, refl, sym, ap, ◌∙◌, append_assoc, append-nil}
use Rattle.std.specs.Prelude.{IfSome}
use Rattle.std.specs.Io.KnownBytes.{Consumes, IsAtEnd}
use Rattle.std.proofs.KnownBytes.{Consumes-nil, Consumes-trans}
use Rattle.std.proofs.lemmas.Option.{IfSome_then}
use Rattle.std.proofs.Math.Bool.{or-false}
use Rattle.rga_lines.specs.Stream.{Splitting, lines_of}
use Rattle.rga_lines.specs.Table.{AnyReading, any_line_at}
use Rattle.rga_lines.proofs.SplitterLemmas.{GivesLine, rest_is_all}
use Rattle.rga_exchange.specs.DeletionRuns.{is_deletion_run, has_deletion_runs}

-- a line that is none changes nothing, and one that is tells so
pub none_told : (old : Bool) (line : List ℕ) (r : AnyReading) → any_line_at line ≡ r → is_deletion_run r ≡ false → old ≡ (old || is_deletion_run (any_line_at line))
none_told old line r says none = sym (ap (λ (s : AnyReading). old || is_deletion_run s) says ∙ ap (λ b. old || b) none ∙ or-false old)

-- behind a line the others are left, whatever follows them
pub line_told : (s t : Splitting) (line : List ℕ) (old new : Bool) → GivesLine s t line → new ≡ (old || is_deletion_run (any_line_at line))
    → (more : List ℕ) → (old || has_deletion_runs (s.waiting ++ more)) ≡ (new || has_deletion_runs (t.waiting ++ more))
line_told s t line old new given is more = grind arith

-- Of the bytes that a reader gave it is told but for these, which wait.
pub record IsTold (known left : Option (List ℕ)) (old new : Bool) (waiting : List ℕ) : Type 0 where
  pub bytes : List ℕ
  pub read : Consumes known left bytes
  pub told : (more : List ℕ) → (old || has_deletion_runs (bytes ++ more)) ≡ (new || has_deletion_runs (waiting ++ more))

pub nothing_told : (known : Option (List ℕ)) (old : Bool) → IsTold known known old old []
nothing_told known old = record { bytes = []; read = Consumes-nil known; told = λ more. refl }

pub lines_told : (known left : Option (List ℕ)) (old now new : Bool) (waiting later : List ℕ) → IsTold known left old now waiting
    → ((more : List ℕ) → (now || has_deletion_runs (waiting ++ more)) ≡ (new || has_deletion_runs (later ++ more))) → IsTold known left old new later
lines_told known left old now new waiting later h k = record { bytes = h.bytes; read = h.read; told = λ more. h.told more ∙ k more }

pub read_told : (known left next : Option (List ℕ)) (old new : Bool) (waiting piece : List ℕ) → IsTold known left old new waiting → Consumes left next piece → IsTold known next old new (waiting ++ piece)
read_told known left next old new waiting piece h read = record {
  bytes = h.bytes ++ piece;
  read = Consumes-trans known left next h.bytes piece h.read read;
  told = λ more.
      ap (λ l. old || has_deletion_runs l) (append_assoc h.bytes piece more) ∙ h.told (piece ++ more) ∙ ap (λ l. new || has_deletion_runs l) (sym (append_assoc waiting piece more));
}

-- where nothing is left and no line waits, only the rest is
pub all_told : (known left next : Option (List ℕ)) (old new : Bool) (rest : List ℕ) → IsTold known left old new rest → Consumes left next [] → IsAtEnd next → lines_of rest ≡ []
    → IfSome known (λ bytes. (old || has_deletion_runs bytes) ≡ (new || is_deletion_run (any_line_at rest)))
all_told known left next old new rest h read end none = grind (arith, append-nil, rest_is_all, or-false)

-- and then the rest is told of
pub log_told : (known : Option (List ℕ)) (old now new : Bool) (rest : List ℕ) → IfSome known (λ bytes. (old || has_deletion_runs bytes) ≡ (now || is_deletion_run (any_line_at rest)))
    → new ≡ (now || is_deletion_run (any_line_at rest)) → IfSome known (λ bytes. new ≡ (old || has_deletion_runs bytes))
log_told known old now new rest h is = IfSome_then known h (λ bytes told. is ∙ sym told)
