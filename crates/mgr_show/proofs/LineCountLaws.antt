-- An accepted log has no fewer lines than it is compacted to.
use Rattle.std.proofs.Common.{◌≡◌, ℕ, ◌≤◌, Bool, false, ◌||◌, List, [], ◌∷◌, ◌++◌, length, sym, ap, subst, ◌∙◌, append-nil, inl, inr, ◌⊎◌}
use Rattle.std.specs.List.{AllByRecursion}
use Rattle.std.proofs.Math.Bool.{or-false}
use Rattle.std.proofs.lemmas.List.Folds.{list_any-append}
use Rattle.rga_ops.proofs.MemberLaws.{all_append}
use Rattle.rga_ops.specs.Content.{content_of, nothing, IsAgreed}
use Rattle.rga_store.specs.declared.text_store.TheConstants.{MAX_LIMIT}
use Rattle.rga_lines.specs.Log.{operations_of, then_operations, IsOperation, HasOnlyOperations}
use Rattle.rga_lines.specs.Stream.{lines_of, rest_of}
use Rattle.rga_lines.specs.Table.{AnyReading, any_line_at}
use Rattle.rga_lines.proofs.StandLemmas.{nothing_says, nothing_stands}
use Rattle.rga_exchange.specs.DeletionRuns.{is_deletion_run, have_deletion_runs}
use Rattle.rga_exchange.proofs.LogLaws.{log_only_operations}
use Rattle.rga_exchange.proofs.TakingLaws.{operations_of-append}
use Rattle.rga_exchange.specs.Compacting.{compact_lines}
use Rattle.rga_exchange.proofs.FewLinesLaws.{no_more_lines}
use Rattle.mgr_show.specs.Shown.{IsAccepted, log_content}
use Rattle.mgr_show.specs.Compacted.{compacted_lines, and_rest, log_lines}
use Rattle.mgr_show.proofs.ShownLaws.{read_to_end}

only_operations : (bytes : List ℕ) → IsAccepted bytes → HasOnlyOperations bytes
only_operations bytes h =
    let w = read_to_end MAX_LIMIT nothing (log_content bytes) bytes h.content in
    log_only_operations MAX_LIMIT nothing (log_content bytes) w.0 bytes w.1 w.2

-- lines, of which the last one may be no operation
abbrev compacted_to : Bool → List (List ℕ) → List (List ℕ)
compacted_to dels lines = compact_lines (dels || have_deletion_runs lines) (content_of (operations_of lines))

by_rest : (dels : Bool) (lines : List (List ℕ)) (rest : List ℕ) → AllByRecursion IsOperation lines → (rest ≡ []) ⊎ IsOperation rest → IsAgreed (operations_of (lines ++ rest ∷ []))
    → length (compacted_to dels (lines ++ rest ∷ [])) ≤ length (and_rest lines rest)
by_rest dels lines [] all ends agreed =
    let operations : operations_of (lines ++ [] ∷ []) ≡ operations_of lines = operations_of-append lines ([] ∷ []) all ∙ ap (λ r. operations_of lines ++ then_operations r []) nothing_stands ∙ append-nil (operations_of lines) in
    let runs : have_deletion_runs (lines ++ [] ∷ []) ≡ have_deletion_runs lines =
    list_any-append (λ line. is_deletion_run (any_line_at line)) lines ([] ∷ [])
    ∙ ap (λ (r : AnyReading). have_deletion_runs lines || (is_deletion_run r || false)) nothing_says
    ∙ or-false (have_deletion_runs lines) in
    subst (λ (ls : List (List ℕ)). length ls ≤ length lines) (λ k. compact_lines (dels || sym runs k) (content_of (sym operations k)))
    (no_more_lines dels lines all (subst IsAgreed operations agreed))
by_rest dels lines (b ∷ rest) all (inl none) agreed = absurd (let clash : b ∷ rest ≡ [] = none in cc)
by_rest dels lines (b ∷ rest) all (inr one) agreed = no_more_lines dels (lines ++ (b ∷ rest) ∷ []) (all_append IsOperation lines ((b ∷ rest) ∷ []) all (one, tt)) agreed

pub no_more_than_read : (dels : Bool) (bytes : List ℕ) → IsAccepted bytes → length (compacted_lines dels bytes) ≤ length (log_lines bytes)
no_more_than_read dels bytes h =
    let only = only_operations bytes h in
    by_rest dels (lines_of bytes) (rest_of bytes) only.lines only.rest h.agreed
