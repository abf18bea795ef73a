-- Logs that are read to their end, in words.
use Rattle.std.proofs.Common.{◌≡◌, ℕ, ◌+◌, ◌≤◌, cond, List, [], ◌∷◌, ◌++◌, length, Result, Ok, Err, refl, sym, ap, subst, ◌∙◌, arith, append-nil, inl, inr}
use Rattle.std.specs.Prelude.{◌⊎◌}
use Rattle.std.specs.List.{AllByRecursion}
use Rattle.std.specs.FinSet as finite_set
use Rattle.std.proofs.lemmas.Bool.{cases_lt, le-ltb}
use Rattle.std.proofs.lemmas.List.Elements.{All-contains, All-from_recursion}
use Rattle.rga_ops.specs.Operation.{checked}
use Rattle.rga_ops.specs.Content.{Content, Agree, join, content_of, known_ids}
use Rattle.rga_ops.specs.Answer.{taken_one_by_one}
use Rattle.rga_ops.specs.ListAnswer.{IsJoinable}
use Rattle.rga_ops.specs.declared.op.Op.{Op}
use Rattle.rga_ops.proofs.MemberLaws.{all_append}
use Rattle.rga_ops.proofs.TakenLaws.{took}
use Rattle.rga_ops.proofs.KnownLaws.{takeable_is_taken, taken_list_within}
use Rattle.rga_ops.proofs.ListAnswerLaws.{one_by_one_list, list_taken-iff}
use Rattle.rga_lines.specs.Table.{any_line_at}
use Rattle.rga_lines.specs.declared.line.TheConstants.{MAX_LINE}
use Rattle.rga_lines.specs.Stream.{lines_of, rest_of}
use Rattle.rga_lines.specs.Log.{operations_in, operations_of, operations_at, then_operations, log_operations, IsOperation, HasOnlyOperations}
use Rattle.rga_lines.specs.declared.fault.LineFault.{LineFault}
use Rattle.rga_lines.specs.declared.fault.LineFault.TheVariants as line_fault
use Rattle.rga_lines.proofs.StandLemmas.{stands, stands_for, stands_for_none, stand_checked, AreChecked, long_stands, nothing_stands}
use Rattle.rga_exchange.specs.declared.fault.LogFault.TheVariants as fault
use Rattle.rga_exchange.specs.declared.log.LogEnd.{LogEnd}
use Rattle.rga_exchange.specs.declared.log.LogEnd.TheVariants.{Whole, Bare, Torn}
use Rattle.rga_exchange.specs.declared.log.LogRead.{LogRead}
use Rattle.rga_exchange.specs.declared.taking.Form.TheVariants.{Log}
use Rattle.rga_exchange.specs.Taking.{AllTaken, AtFault, progress, stop_at_rest}
use Rattle.rga_exchange.specs.Log.{end_outcome, after_bare_operation, after_rest, after_stop, after_lines, log_outcome}
use Rattle.rga_exchange.specs.Sending.{StandsFor}
use Rattle.rga_exchange.specs.Stops.{HasNothingTorn}
use Rattle.rga_exchange.proofs.TakingLaws.{some_or_none, are_taken, lines_counted, took_front, operations_of-append}
use Rattle.rga_exchange.proofs.OperationLaws.{rest_taken, is_read, log_taken}
use Rattle.rga_exchange.proofs.StopLaws.{operations_are_taken}
use Rattle.rga_exchange.proofs.MeetingLaws.{first_fits}

pub log_joinable : (limit : ℕ) (c d : Content) (read : LogRead) (bytes : List ℕ) → finite_set.len (known_ids c) ≤ limit → log_outcome limit c bytes ≡ (d, Ok read) → IsJoinable c (log_operations bytes) × (finite_set.len (known_ids d) ≤ limit)
log_joinable limit c d read bytes within h =
    let was = log_taken limit c d read bytes h in (
      ((list_taken-iff limit c (log_operations bytes)).0 (one_by_one_list limit c d (log_operations bytes) within was)).1,
      taken_list_within limit c (log_operations bytes) d within was,
    )

-- ---- what a log that is read to its end is

pub log_lines : (limit : ℕ) (c d : Content) (read : LogRead) (bytes : List ℕ) → log_outcome limit c bytes ≡ (d, Ok read) → read.lines ≡ length (lines_of bytes)
log_lines limit c d read bytes h =
    let w = is_read limit c d read bytes h in
    let count = lines_counted Log limit 0 w.lines c w.content (lines_of bytes) w.taken in
    let told = (rest_taken limit w.lines w.content d read (rest_of bytes) w.rest).lines in
    omega (arith, count, told)

pub log_only_operations : (limit : ℕ) (c d : Content) (read : LogRead) (bytes : List ℕ) → log_outcome limit c bytes ≡ (d, Ok read) → HasNothingTorn read.end → HasOnlyOperations bytes
log_only_operations limit c d read bytes h whole =
    let w = is_read limit c d read bytes h in
    record {
      lines = (are_taken Log limit 0 w.lines c w.content (lines_of bytes) w.taken).operations;
      rest = (rest_taken limit w.lines w.content d read (rest_of bytes) w.rest).operation whole;
    }

-- ---- what is read to its end

operations_checked : (lines : List (List ℕ)) → AreChecked (operations_of lines)
operations_checked [] = tt
operations_checked (line ∷ lines) = grind (arith, all_append, stand_checked, operations_checked lines)

-- lines that are operations were taken one by one, and then others
parts_taken : (limit : ℕ) (c d : Content) (lines others : List (List ℕ)) → AllByRecursion IsOperation lines → taken_one_by_one limit c (operations_of (lines ++ others)) ≡ Ok d → (e : Content) × (taken_one_by_one limit c (operations_of lines) ≡ Ok e) × (taken_one_by_one limit e (operations_of others) ≡ Ok d)
parts_taken limit c d lines others all h =
    took_front limit c d (operations_of lines) (operations_of others) (sym (ap (taken_one_by_one limit c) (operations_of-append lines others all)) ∙ h)

-- a rest that is not empty and no operation
none_torn : (b : ℕ) (bytes : List ℕ) (e : LineFault) → operations_at (b ∷ bytes) ≡ Err e → (b ∷ bytes ≡ []) ⊎ IsOperation (b ∷ bytes) → ⊥
none_torn b bytes e reads given = grind arith

abbrev ReadTo : ℕ → ℕ → Content → Content → List ℕ → Type 0
ReadTo limit n c d rest = (read : LogRead) × (after_rest limit n c rest ≡ (d, Ok read)) × ((rest ≡ []) ⊎ IsOperation rest → HasNothingTorn read.end)

-- The rest ends a log. With one that is an operation, or none, nothing is torn off.
rest_read : (limit n : ℕ) (c d : Content) (rest : List ℕ) → finite_set.len (known_ids c) ≤ limit → taken_one_by_one limit c (operations_of (rest ∷ [])) ≡ Ok d → ReadTo limit n c d rest
rest_read limit n c d [] within h =
    let same : took c ≡ took d = sym (ap (λ r. taken_one_by_one limit c (then_operations r [])) nothing_stands) ∙ h in
    let is : c ≡ d = cc in
    (record { lines = n; end = Whole }, ap (λ e. end_outcome n e Whole) is, λ _. tt)
rest_read limit n c d (b ∷ bytes) within h = elim (some_or_none limit c (any_line_at (b ∷ bytes))) [
  | inl w ↦
      let all : taken_one_by_one limit c (w.ops ++ []) ≡ Ok d = sym (said (Ok w.ops) w.is) ∙ h in
      (record { lines = n; end = Bare }, w.bare n (length (b ∷ bytes)) ∙ ap (after_bare_operation n c) (w.whole d within (ap (taken_one_by_one limit c) (sym (append-nil w.ops)) ∙ all)), λ _. tt)
  | inr w ↦
      let same : took c ≡ took d = sym (said (Err w.wrong) w.is) ∙ h in
      let is : c ≡ d = cc in
      let end : LogEnd = Torn (length (b ∷ bytes)) in
      (record { lines = n; end = end }, w.bare n (length (b ∷ bytes)) ∙ ap (λ e. end_outcome n e end) is, λ one. absurd (none_torn b bytes w.wrong (stands (b ∷ bytes) (any_line_at (b ∷ bytes)) refl ∙ w.is) one))
]
  where
    said : (r : Result (List Op) LineFault) → operations_in (any_line_at (b ∷ bytes)) ≡ r → taken_one_by_one limit c (operations_of ((b ∷ bytes) ∷ [])) ≡ taken_one_by_one limit c (then_operations r [])
    said r is = ap (λ r. taken_one_by_one limit c (then_operations r [])) (stands (b ∷ bytes) (any_line_at (b ∷ bytes)) refl ∙ is)

-- a rest that is an operation, or none, is not too long
rest_is_short : (rest : List ℕ) → (rest ≡ []) ⊎ IsOperation rest → length rest ≤ MAX_LINE
rest_is_short rest given = grind (arith, cases_lt, stands_for_none, stands_for, long_stands)

log_to_end : (limit : ℕ) (c : Content) (bytes : List ℕ) → AllByRecursion IsOperation (lines_of bytes) → length (rest_of bytes) ≤ MAX_LINE → IsJoinable c (log_operations bytes) → finite_set.len (known_ids (join c (content_of (log_operations bytes)))) ≤ limit → (read : LogRead) × (log_outcome limit c bytes ≡ (join c (content_of (log_operations bytes)), Ok read)) × ((rest_of bytes ≡ []) ⊎ IsOperation (rest_of bytes) → HasNothingTorn read.end)
log_to_end limit c bytes operations short joinable fits =
    let rest : List ℕ = rest_of bytes in
    let lines : List (List ℕ) = lines_of bytes in
    let all = takeable_is_taken limit c (log_operations bytes) (record { well_formed = λ op. All-contains (λ op. checked op ≡ Ok tt) (log_operations bytes) op (All-from_recursion (λ op. checked op ≡ Ok tt) (log_operations bytes) (operations_checked (lines ++ rest ∷ []))); joinable = joinable; fits = fits }) in
    let parts = parts_taken limit c (join c (content_of (log_operations bytes))) lines (rest ∷ []) operations all in
    let within = first_fits limit c (content_of (log_operations bytes)) fits in
    let read = rest_read limit (0 + length lines) parts.0 (join c (content_of (log_operations bytes))) rest (taken_list_within limit c (operations_of lines) parts.0 within parts.1) parts.2 in (
      read.0,
      ap (λ t. after_lines limit rest (progress t.lines t.content (stop_at_rest t.lines rest t.stop))) (operations_are_taken Log limit 0 c parts.0 lines within operations parts.1)
          ∙ ap (λ long. after_stop limit rest (0 + length lines) parts.0 (cond long (AtFault (fault.Line (0 + length lines + 1) line_fault.Long)) AllTaken)) (le-ltb MAX_LINE (length rest) short)
          ∙ read.1,
      read.2,
    )

pub log_without_fault : (limit : ℕ) (c : Content) (bytes : List ℕ) → HasOnlyOperations bytes → IsJoinable c (log_operations bytes) → finite_set.len (known_ids (join c (content_of (log_operations bytes)))) ≤ limit → (read : LogRead) × (log_outcome limit c bytes ≡ (join c (content_of (log_operations bytes)), Ok read)) × HasNothingTorn read.end
log_without_fault limit c bytes only joinable fits =
    let read = log_to_end limit c bytes only.lines (rest_is_short (rest_of bytes) only.rest) joinable fits in
    (read.0, read.1, read.2 only.rest)

-- ---- what a log stands for, whatever its rest

pub log_stands : (limit : ℕ) (c d : Content) (read : LogRead) (bytes : List ℕ) → finite_set.len (known_ids c) ≤ limit → log_outcome limit c bytes ≡ (d, Ok read) → StandsFor bytes (content_of (log_operations bytes))
log_stands limit c d read bytes within h =
    let w = is_read limit c d read bytes h in
    record {
      lines = (are_taken Log limit 0 w.lines c w.content (lines_of bytes) w.taken).operations;
      short = w.short;
      agreed = (log_joinable limit c d read bytes within h).0.agreed;
      content = refl;
    }

pub log_that_stands : (limit : ℕ) (c d : Content) (bytes : List ℕ) → StandsFor bytes d → Agree c d → finite_set.len (known_ids (join c d)) ≤ limit → (read : LogRead) × (log_outcome limit c bytes ≡ (join c d, Ok read))
log_that_stands limit c d bytes stands agree fits =
    let read = log_to_end limit c bytes stands.lines stands.short (record { agreed = stands.agreed; agree = subst (Agree c) stands.content agree }) (subst (λ e. finite_set.len (known_ids (join c e)) ≤ limit) stands.content fits) in
    (read.0, subst (λ e. log_outcome limit c bytes ≡ (join c e, Ok read.0)) (sym stands.content) read.1)
