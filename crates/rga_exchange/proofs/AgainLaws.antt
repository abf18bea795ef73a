-- A stream whose first lines were taken, taken once more from its start.
use Rattle.std.proofs.Common.{arith, ◌≡◌, ℕ, ◌+◌, ◌≤◌, List, [], ◌∷◌, ◌++◌, length, Ok, refl, sym, ap, ◌∙◌, append_assoc}
use Rattle.std.specs.Prelude.{Contains}
use Rattle.std.specs.FinSet as finite_set
use Rattle.rga_ops.specs.Operation.{checked}
use Rattle.rga_ops.specs.Content.{Content, Holds, known_ids}
use Rattle.rga_ops.specs.Answer.{taken_one_by_one}
use Rattle.rga_ops.specs.declared.op.Op.{Op}
use Rattle.rga_ops.proofs.AnswerLaws.{known-iff}
use Rattle.rga_ops.proofs.OperationLaws.{Contains-later}
use Rattle.rga_ops.proofs.KnownLaws.{taken_list_within}
use Rattle.rga_ops.proofs.TakenLaws.{taken_list_is}
use Rattle.rga_lines.specs.Stream.{lines_of, rest_of}
use Rattle.rga_lines.specs.Log.{operations_of, behind_head, stream_operations}
use Rattle.rga_lines.proofs.StreamLemmas.{lines-append_ended}
use Rattle.rga_exchange.specs.declared.taking.Form.{Form}
use Rattle.rga_exchange.specs.declared.taking.Form.TheVariants.{Log, Exchange}
use Rattle.rga_exchange.specs.Taking.{body, Progress, lines_taken, stream_taken, AreTaken}
use Rattle.rga_exchange.specs.Log.{after_lines, log_outcome}
use Rattle.rga_exchange.specs.Receiving.{number_received, exchange_outcome}
use Rattle.rga_exchange.proofs.TakingLaws.{lines_taken-append}
use Rattle.rga_exchange.proofs.StopLaws.{operations_are_taken}

-- operations that are held change nothing
held_again : (limit : ℕ) (d : Content) (ops : List Op) → ((op : Op) → Contains ops op → checked op ≡ Ok tt) → ((op : Op) → Contains ops op → Holds d op) → taken_one_by_one limit d ops ≡ Ok d
held_again limit d [] well_formed held = refl
held_again limit d (op ∷ ops) well_formed held = grind (arith, known-iff, held_again limit d ops (λ o m. well_formed o (Contains-later op o ops m)) (λ o m. held o (Contains-later op o ops m)))

-- what follows lines that were taken is taken alike
lines_again : (form : Form) (limit : ℕ) (c d : Content) (lines later : List (List ℕ)) → finite_set.len (known_ids c) ≤ limit → AreTaken limit (body form lines) c d → lines_taken form limit 0 d (lines ++ later) ≡ lines_taken form limit 0 c (lines ++ later)
lines_again form limit c d lines later within w =
    let ops : List Op = operations_of (body form lines) in
    let held = taken_list_is limit c ops d w.taken in
    let again = held_again limit d ops held.well_formed held.held in
    lines_taken-append form limit 0 (0 + length lines) d d lines later (operations_are_taken form limit 0 d d lines (taken_list_within limit c ops d within w.taken) w.operations again)
    ∙ sym (lines_taken-append form limit 0 (0 + length lines) c d lines later (operations_are_taken form limit 0 c d lines within w.operations w.taken))

stream_again : (form : Form) (limit : ℕ) (c d : Content) (bytes more : List ℕ) (lines later : List (List ℕ)) → lines_of bytes ≡ lines ++ later → finite_set.len (known_ids c) ≤ limit → AreTaken limit (body form lines) c d → stream_taken form limit d (bytes ++ more) ≡ stream_taken form limit c (bytes ++ more)
stream_again form limit c d bytes more lines later begins within w = grind (arith, lines-append_ended, append_assoc, lines_again)

pub exchange_again : (limit : ℕ) (c d : Content) (bytes more : List ℕ) (lines later : List (List ℕ)) → lines_of bytes ≡ lines ++ later → finite_set.len (known_ids c) ≤ limit → AreTaken limit (behind_head lines) c d → exchange_outcome limit d (bytes ++ more) ≡ exchange_outcome limit c (bytes ++ more)
exchange_again limit c d bytes more lines later begins within w =
    ap (λ (t : Progress). (t.content, number_received (length (stream_operations (bytes ++ more))) t.stop)) (stream_again Exchange limit c d bytes more lines later begins within w)

pub log_again : (limit : ℕ) (c d : Content) (bytes more : List ℕ) (lines later : List (List ℕ)) → lines_of bytes ≡ lines ++ later → finite_set.len (known_ids c) ≤ limit → AreTaken limit lines c d → log_outcome limit d (bytes ++ more) ≡ log_outcome limit c (bytes ++ more)
log_again limit c d bytes more lines later begins within w =
    ap (after_lines limit (rest_of (bytes ++ more))) (stream_again Log limit c d bytes more lines later begins within w)
