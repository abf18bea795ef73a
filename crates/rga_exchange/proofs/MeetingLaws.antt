-- What one replica sends and another receives.
use Rattle.std.proofs.Common.{◌≡◌, ℕ, ◌+◌, ◌<◌, ◌≤◌, ◌^◌, List, [], ◌∷◌, map, length, Result, Ok, Err, refl, sym, ap, subst, ◌∙◌, arith}
use Rattle.std.proofs.lemmas.Bool.{eq-eqb}
use Rattle.std.proofs.lemmas.List.{length-map}
use Rattle.std.specs.FinSet as finite_set
use Rattle.rga_ops.specs.Content.{Content, Agree, join, content_of, known_ids, known_count, IsSound}
use Rattle.std.specs.Prelude.{IfOk}
use Rattle.rga_ops.specs.Answer.{taken_one_by_one}
use Rattle.rga_ops.specs.ListAnswer.{AreWellFormed, IsJoinable}
use Rattle.rga_ops.specs.Operations.{operations}
use Rattle.rga_ops.specs.declared.op.Op.{Op}
use Rattle.rga_ops.proofs.KnownLaws.{IsTakeable, takeable_is_taken, len-le_union, known_join}
use Rattle.rga_ops.proofs.OperationsLaws.{operations_agree, content_of-operations}
use Rattle.rga_lines.specs.Spelling.{line, end_line}
use Rattle.rga_lines.proofs.ReadBack.{head_back, end_back}
use Rattle.rga_exchange.specs.declared.fault.ReceiveFault.{ReceiveFault}
use Rattle.rga_exchange.specs.declared.fault.SendFault.{SendFault}
use Rattle.rga_exchange.specs.declared.taking.Form.TheVariants.{Log, Exchange}
use Rattle.rga_exchange.specs.Taking.{AllTaken, AtEnd, Progress, progress, after_line, go_on, lines_taken, with_rest, stream_taken}
use Rattle.rga_exchange.specs.Receiving.{number_received, exchange_outcome}
use Rattle.rga_exchange.specs.Sending.{exchange_text, stream_text, AreWritable}
use Rattle.rga_exchange.proofs.HeadLaws.{as_log}
use Rattle.rga_exchange.proofs.TakingLaws.{lines_taken-append}
use Rattle.rga_exchange.proofs.StopLaws.{operations_are_taken}
use Rattle.rga_exchange.proofs.AppendedLaws.{written, lines_and_end, exchange_lines-cut, exchange_rest, exchange_says, sound_list}

written_taken : (limit n : ℕ) (d e : Content) (ops : List Op) → finite_set.len (known_ids d) ≤ limit → AreWritable ops → AreWellFormed ops → taken_one_by_one limit d ops ≡ Ok e → lines_taken Log limit n d (map line ops) ≡ progress (n + length ops) e AllTaken
written_taken limit n d e ops within writable well h =
    let count : n + length (map line ops) ≡ n + length ops = omega (arith, length-map ops line) in
    operations_are_taken Log limit n d e (map line ops) within (written ops writable well).all (ap (taken_one_by_one limit d) (written ops writable well).operations ∙ h)
    ∙ ap (λ k. progress k e AllTaken) count

-- what has room for a join has room for its first part
pub first_fits : (limit : ℕ) (c d : Content) → finite_set.len (known_ids (join c d)) ≤ limit → finite_set.len (known_ids c) ≤ limit
first_fits limit c d fits = omega (arith, fits, len-le_union (known_ids c) (known_ids d), ap (λ ids. finite_set.len ids) (known_join c d))

-- the head, the operations, and then the end
list_is_taken : (limit : ℕ) (d : Content) (ops : List Op) → IsTakeable limit d ops → AreWritable ops → length ops < 2 ^ 64
    → stream_taken Exchange limit d (exchange_text ops) ≡ progress (1 + length ops) (join d (content_of ops)) (AtEnd (length ops))
list_is_taken limit d ops w writable few =
    let number : ℕ = length ops in
    let both : Content = join d (content_of ops) in
    (λ k. with_rest (exchange_rest ops writable few k) (lines_taken Exchange limit 0 d (exchange_lines-cut ops writable few k)))
    ∙ ap (with_rest []) (
    ap (λ r. go_on 0 d (after_line Exchange limit 1 d r) (λ e. lines_taken Exchange limit 1 e (lines_and_end ops))) head_back
    ∙ as_log Exchange limit 1 d (lines_and_end ops) refl
    ∙ lines_taken-append Log limit 1 (1 + number) d both (map line ops) (end_line number ∷ [])
    (written_taken limit 1 d both ops (first_fits limit d (content_of ops) w.fits) writable w.well_formed (takeable_is_taken limit d ops w))
    ∙ ap (λ r. go_on (1 + number) both (after_line Log limit (1 + number + 1) both r) (λ e. lines_taken Log limit (1 + number + 1) e [])) (end_back number few))

abbrev outcome : Content → Result ℕ ReceiveFault → Content × Result ℕ ReceiveFault
outcome c r = (c, r)

abbrev answer_of : ℕ → Progress → Content × Result ℕ ReceiveFault
answer_of k t = outcome t.content (number_received k t.stop)

taken_list_received : (limit : ℕ) (d : Content) (ops : List Op) → IsTakeable limit d ops → AreWritable ops → length ops < 2 ^ 64 → exchange_outcome limit d (exchange_text ops) ≡ (join d (content_of ops), Ok (length ops))
taken_list_received limit d ops w writable few = grind (arith, list_is_taken, exchange_says, eq-eqb)

-- a list that was written is received whole by what it can be joined to
pub list_received : (limit : ℕ) (d : Content) (ops : List Op) (number : ℕ) → number ≡ length ops → number < 2 ^ 64 → (AreWellFormed ops → AreWritable ops)
    → AreWellFormed ops → IsJoinable d ops → finite_set.len (known_ids (join d (content_of ops))) ≤ limit → exchange_outcome limit d (exchange_text ops) ≡ (join d (content_of ops), Ok number)
list_received limit d ops number count few writable well joinable fits = grind (arith, taken_list_received)

-- ---- the operations of a content

-- a content that agrees with another can take its operations
content_takeable : (limit : ℕ) (c d : Content) → IsSound c → Agree d c → finite_set.len (known_ids (join d c)) ≤ limit → IsTakeable limit d (operations c)
content_takeable limit c d sound agree fits =
    let is : content_of (operations c) ≡ c = content_of-operations c in
    record {
      well_formed = sound_list c sound;
      joinable = record { agreed = operations_agree c; agree = subst (Agree d) (sym is) agree };
      fits = subst (λ e. finite_set.len (known_ids (join d e)) ≤ limit) (sym is) fits;
    }

pub sent_is_received : (limit : ℕ) (c d : Content) → IsSound c → AreWritable (operations c) → length (operations c) < 2 ^ 64 → Agree d c → finite_set.len (known_ids (join d c)) ≤ limit
    → exchange_outcome limit d (stream_text c) ≡ (join d c, Ok (length (operations c)))
sent_is_received limit c d sound writable few agree fits = grind (arith, taken_list_received, content_takeable, content_of-operations)

-- what is said of a list that was sent, where it is that of a content's operations
pub content_received : (r : Result ℕ SendFault) (c : Content) (ops : List Op) → ops ≡ operations c
    → IfOk r (λ number. (limit : ℕ) (d : Content) → AreWellFormed ops → IsJoinable d ops → known_count (join d (content_of ops)) ≤ limit → exchange_outcome limit d (exchange_text ops) ≡ (join d (content_of ops), Ok number))
    → IfOk r (λ number. (limit : ℕ) (d : Content) → IsSound c → Agree d c → known_count (join d c) ≤ limit → exchange_outcome limit d (stream_text c) ≡ (join d c, Ok number))
content_received (Err e) c ops are h = h
content_received (Ok number) c ops are h = grind (arith, content_takeable, content_of-operations)
