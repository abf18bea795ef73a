-- What was taken of a stream or a log, as operations.
use Rattle.std.proofs.Common.{◌≡◌, ◌≢◌, ℕ, ◌+◌, ◌≤◌, Bool, true, false, cond, List, [], ◌∷◌, ◌++◌, length, Option, Result, Ok, Err, refl, sym, ap, subst, ◌∙◌, arith, nat_lt, append-nil, inl, inr, ◌⊎◌}
use Rattle.std.specs.Prelude.{IfSome}
use Rattle.std.proofs.lemmas.Bool.{ltb-false}
use Rattle.std.proofs.lemmas.List.{nil_from_length}
use Rattle.std.proofs.lemmas.Option.{IfSome_then}
use Rattle.rga_ops.specs.Content.{Content, join, content_of}
use Rattle.rga_ops.specs.Answer.{taken, taken_one_by_one}
use Rattle.rga_ops.specs.declared.op.Op.{Op}
use Rattle.rga_ops.specs.declared.refusal.Refusal.{Refusal}
use Rattle.rga_ops.proofs.TakenLaws.{taken_list_is, one_by_one-append}
use Rattle.rga_lines.specs.Table.{any_line_at}
use Rattle.rga_lines.specs.declared.line.TheConstants.{MAX_LINE}
use Rattle.rga_lines.specs.Stream.{lines_of, rest_of}
use Rattle.rga_lines.specs.Log.{operations_of, operations_at, stream_operations, log_operations, then_operations, IsOperation}
use Rattle.rga_lines.specs.declared.fault.LineFault.{LineFault}
use Rattle.rga_lines.specs.declared.fault.LineFault.TheVariants as line_fault
use Rattle.rga_lines.proofs.StandLemmas.{stands, nothing_stands}
use Rattle.rga_store.specs.Taking.{TakesMore}
use Rattle.rga_store.proofs.TakingLaws.{joined_taken}
use Rattle.rga_exchange.specs.declared.fault.LogFault.{LogFault}
use Rattle.rga_exchange.specs.declared.fault.LogFault.TheVariants as fault
use Rattle.rga_exchange.specs.Memory.{LogMemory}
use Rattle.rga_exchange.specs.declared.log.LogEnd.{LogEnd}
use Rattle.rga_exchange.specs.declared.log.LogEnd.TheVariants.{Whole, Bare, Torn}
use Rattle.rga_exchange.specs.declared.taking.LineTaken.{LineTaken}
use Rattle.rga_exchange.specs.declared.log.LogRead.{LogRead}
use Rattle.rga_exchange.specs.declared.taking.Form.{Form}
use Rattle.rga_exchange.specs.declared.taking.Form.TheVariants.{Log, Exchange}
use Rattle.rga_exchange.specs.Taking.{body_behind, Stop, AllTaken, AtEnd, AtFault, Progress, progress, after_line, lines_taken, stop_at_rest, stream_taken, Intake, TakesNone}
use Rattle.rga_exchange.specs.Parts.{TakesAs}
use Rattle.rga_exchange.specs.Log.{LogOutcome, end_outcome, after_bare_operation, after_rest, after_stop, after_lines, log_outcome, bare_answer, TakesRest}
use Rattle.rga_exchange.specs.Receiving.{exchange_outcome}
use Rattle.rga_exchange.specs.declared.fault.ReceiveFault.TheVariants as exchange_fault
use Rattle.rga_exchange.specs.Stops.{StartsWithEnd, HasNothingTorn}
use Rattle.rga_exchange.proofs.HeadLaws.{body-append}
use Rattle.rga_exchange.proofs.TakingLaws.{StandsForSome, some_or_none, log_lines, lines_are_operations, operations_of-append}
use Rattle.rga_exchange.proofs.StopLaws.{stopped}

abbrev pub ran : Result LogRead LogFault → Content → LogOutcome
ran r c = (c, r)

-- ---- up to the end line

-- nothing counts from an end line on
nothing_behind : (form : Form) (n number : ℕ) (lines : List (List ℕ)) → StartsWithEnd lines number → operations_of (body_behind form n lines) ≡ []
nothing_behind form n number lines w = grind (arith, stands)

-- the lines of a stream before an end line are operations behind its head, which were taken
lines_end : (form : Form) (limit n m : ℕ) (c d : Content) (number : ℕ) (lines : List (List ℕ)) → lines_taken form limit n c lines ≡ progress m d (AtEnd number) → taken_one_by_one limit c (operations_of (body_behind form n lines)) ≡ Ok d
lines_end form limit n m c d number lines h =
    let w = stopped form limit n m c d lines (AtEnd number) h in
    let front = body_behind form n w.front in
    let back = body_behind form (n + length w.front) w.later in
    let first = lines_are_operations form limit n m c d w.front w.taken in
    ap (λ ls. taken_one_by_one limit c (operations_of ls)) (ap (body_behind form n) w.split ∙ body-append form n w.front w.later)
    ∙ ap (taken_one_by_one limit c) (operations_of-append front back first.0 ∙ ap (λ (ops : List Op). operations_of front ++ ops) (nothing_behind form (n + length w.front) number w.later w.reason) ∙ append-nil (operations_of front))
    ∙ first.1

-- where none was taken before it, none counts
pub ends_at_once : (form : Form) (limit n : ℕ) (c d : Content) (number : ℕ) (lines : List (List ℕ)) → lines_taken form limit n c lines ≡ progress n d (AtEnd number) → operations_of (body_behind form n lines) ≡ []
ends_at_once form limit n c d number lines h =
    let w = stopped form limit n n c d lines (AtEnd number) h in
    let none : w.front ≡ [] = nil_from_length w.front (omega (arith, w.count)) in
    ap (λ ls. operations_of (body_behind form n ls)) (w.split ∙ ap (λ (ls : List (List ℕ)). ls ++ w.later) none) ∙ nothing_behind form n number w.later w.reason

pub stream_lines_end : (form : Form) (limit n : ℕ) (c d : Content) (number : ℕ) (bytes : List ℕ) → stream_taken form limit c bytes ≡ progress n d (AtEnd number) → lines_taken form limit 0 c (lines_of bytes) ≡ progress n d (AtEnd number)
stream_lines_end form limit n c d number bytes h = grind arith

-- what is received up to the end was taken, operation by operation
pub stream_is_taken : (limit n : ℕ) (c d : Content) (number : ℕ) (bytes : List ℕ) → stream_taken Exchange limit c bytes ≡ progress n d (AtEnd number) → taken_one_by_one limit c (stream_operations bytes) ≡ Ok d
stream_is_taken limit n c d number bytes h =
    lines_end Exchange limit 0 n c d number (lines_of bytes) (stream_lines_end Exchange limit n c d number bytes h)

pub stream_joined : (limit n : ℕ) (c d : Content) (number : ℕ) (bytes : List ℕ) → stream_taken Exchange limit c bytes ≡ progress n d (AtEnd number) → d ≡ join c (content_of (stream_operations bytes))
stream_joined limit n c d number bytes h = (taken_list_is limit c (stream_operations bytes) d (stream_is_taken limit n c d number bytes h)).joined

-- ---- a whole log

abbrev pub is_read_to_end : LogRead → Result LogRead LogFault
is_read_to_end read = Ok read

pub no_fault : {c d : Content} (e : LogFault) (read : LogRead) → ran (Err e) c ≡ ran (Ok read) d → ⊥
no_fault e read h = let clash : Err e ≡ is_read_to_end read = ap (λ (o : LogOutcome). o.1) h in cc

-- what becomes of the rest
module _ (took : Intake) (n : ℕ) (rest : List ℕ) where
  pub rest_empty : length rest ≡ 0 → TakesNone took → TakesRest took n rest (Ok Whole)
  rest_empty empty none = grind (arith, nil_from_length, nothing_stands)

  pub rest_takes : (r : Result LineTaken LogFault) → length rest ≢ 0 → TakesAs took (after_line Log took.limit (n + 1) took.old (any_line_at rest)) (operations_of (rest ∷ [])) r → TakesRest took n rest (bare_answer (length rest) r)
  rest_takes r some h = grind arith

  pub rest_fails : (e : LogFault) → TakesRest took n rest (Err e) → (e ≢ LogMemory → after_rest took.limit n took.old rest ≡ ran (Err e) took.new) × TakesNone took × (e ≢ fault.Read)
  rest_fails e h = grind (arith)

-- how the rest of a log ends it, at content c behind n lines
pub record RestTaken (limit n : ℕ) (c d : Content) (read : LogRead) (rest : List ℕ) : Type 0 where
  pub taken : taken_one_by_one limit c (operations_of (rest ∷ [])) ≡ Ok d
  pub lines : read.lines ≡ n
  pub operation : HasNothingTorn read.end → (rest ≡ []) ⊎ IsOperation rest

pub rest_taken : (limit n : ℕ) (c d : Content) (read : LogRead) (rest : List ℕ) → after_rest limit n c rest ≡ (d, Ok read) → RestTaken limit n c d read rest
rest_taken limit n c d read rest h = by_rest rest h
  where
    ends_so : (rest : List ℕ) (e : Content) (end : LogEnd) → taken_one_by_one limit c (operations_of (rest ∷ [])) ≡ Ok e → (HasNothingTorn end → (rest ≡ []) ⊎ IsOperation rest) → end_outcome n e end ≡ (d, Ok read) → RestTaken limit n c d read rest
    ends_so rest e end taken one h =
        let same : is_read_to_end (record { lines = n; end = end }) ≡ is_read_to_end read = ap (λ (o : LogOutcome). o.1) h in
        let is : record { lines = n; end = end } ≡ read = cc in
        record {
          taken = taken ∙ ap Ok (ap (λ (o : LogOutcome). o.0) h);
          lines = sym (ap (λ (r : LogRead). r.lines) is);
          operation = λ whole. one (subst HasNothingTorn (sym (ap (λ (r : LogRead). r.end) is)) whole);
        }

    said : (rest : List ℕ) (r : Result (List Op) LineFault) → operations_at rest ≡ r → taken_one_by_one limit c (operations_of (rest ∷ [])) ≡ taken_one_by_one limit c (then_operations r [])
    said rest r is = ap (λ r. taken_one_by_one limit c (then_operations r [])) is

    by_answer : (rest : List ℕ) (w : StandsForSome limit c (any_line_at rest)) (r : Result Content Refusal) → w.answer ≡ r → after_bare_operation n c r ≡ (d, Ok read) → RestTaken limit n c d read rest
    by_answer rest w (Ok e) is g =
        let reads = stands rest (any_line_at rest) refl ∙ w.is in
        ends_so rest e Bare (said rest (Ok w.ops) reads ∙ ap (taken_one_by_one limit c) (append-nil w.ops) ∙ w.one_by_one e is) (λ _. inr (w.ops, reads)) g
    by_answer rest w (Err x) is g = absurd (no_fault (fault.Refused (n + 1) x) read g)

    by_rest : (rest : List ℕ) → after_rest limit n c rest ≡ (d, Ok read) → RestTaken limit n c d read rest
    by_rest [] g = ends_so [] c Whole (said [] (Err line_fault.Json) nothing_stands) (λ _. inl refl) g
    by_rest (b ∷ bytes) g = elim (some_or_none limit c (any_line_at (b ∷ bytes))) [
      | inl w ↦ by_answer (b ∷ bytes) w w.answer refl (sym (w.bare n (length (b ∷ bytes))) ∙ g)
      | inr w ↦
          let reads = stands (b ∷ bytes) (any_line_at (b ∷ bytes)) refl ∙ w.is in
          ends_so (b ∷ bytes) c (Torn (length (b ∷ bytes))) (said (b ∷ bytes) (Err w.wrong) reads) (λ torn. absurd torn) (sym (w.bare n (length (b ∷ bytes))) ∙ g)
    ]

-- the operations of lines that were taken, and then those of others
pub then_taken : (limit n m : ℕ) (c d : Content) (xs ys : List (List ℕ)) → lines_taken Log limit n c xs ≡ progress m d AllTaken → taken_one_by_one limit c (operations_of (xs ++ ys)) ≡ taken_one_by_one limit d (operations_of ys)
then_taken limit n m c d xs ys h =
    let w = log_lines limit n m c d xs h in
    ap (taken_one_by_one limit c) (operations_of-append xs ys w.0) ∙ one_by_one-append limit c d (operations_of xs) (operations_of ys) w.1

-- a log that is read to its end was read so: all its lines, and then its rest
pub record IsRead (limit : ℕ) (c d : Content) (read : LogRead) (bytes : List ℕ) : Type 0 where
  pub lines : ℕ
  pub content : Content
  pub taken : lines_taken Log limit 0 c (lines_of bytes) ≡ progress lines content AllTaken
  pub rest : after_rest limit lines content (rest_of bytes) ≡ (d, Ok read)
  pub short : length (rest_of bytes) ≤ MAX_LINE

pub is_read : (limit : ℕ) (c d : Content) (read : LogRead) (bytes : List ℕ) → log_outcome limit c bytes ≡ (d, Ok read) → IsRead limit c d read bytes
is_read limit c d read bytes h = by_stop t.stop refl h
  where
    t : Progress
    t = lines_taken Log limit 0 c (lines_of bytes)

    by_size : (long : Bool) → nat_lt MAX_LINE (length (rest_of bytes)) ≡ long → t.stop ≡ AllTaken → after_stop limit (rest_of bytes) t.lines t.content (cond long (AtFault (fault.Line (t.lines + 1) line_fault.Long)) AllTaken) ≡ (d, Ok read) → IsRead limit c d read bytes
    by_size true size is g = absurd (no_fault (fault.Line (t.lines + 1) line_fault.Long) read g)
    by_size false size is g = record { lines = t.lines; content = t.content; taken = ap (progress t.lines t.content) is; rest = g; short = ltb-false MAX_LINE (length (rest_of bytes)) size }

    by_stop : (stop : Stop) → t.stop ≡ stop → after_stop limit (rest_of bytes) t.lines t.content (stop_at_rest t.lines (rest_of bytes) stop) ≡ (d, Ok read) → IsRead limit c d read bytes
    by_stop AllTaken is g = by_size (nat_lt MAX_LINE (length (rest_of bytes))) refl is g
    by_stop (AtEnd number) is g = absurd (no_fault (fault.Line (t.lines + 1) line_fault.Kind) read g)
    by_stop (AtFault e) is g = absurd (no_fault e read g)

pub log_taken : (limit : ℕ) (c d : Content) (read : LogRead) (bytes : List ℕ) → log_outcome limit c bytes ≡ (d, Ok read) → taken_one_by_one limit c (log_operations bytes) ≡ Ok d
log_taken limit c d read bytes h =
    let w = is_read limit c d read bytes h in
    then_taken limit 0 w.lines c w.content (lines_of bytes) (rest_of bytes ∷ []) w.taken
    ∙ (rest_taken limit w.lines w.content d read (rest_of bytes) w.rest).taken

pub log_joined : (limit : ℕ) (c d : Content) (read : LogRead) (bytes : List ℕ) → log_outcome limit c bytes ≡ (d, Ok read) → d ≡ join c (content_of (log_operations bytes))
log_joined limit c d read bytes h = (taken_list_is limit c (log_operations bytes) d (log_taken limit c d read bytes h)).joined

-- ---- of a device that tells its bytes

abbrev pub EndsBehind : Option (List ℕ) → ℕ → ℕ → ℕ → ℕ → Content → Content → Type 0
EndsBehind known limit n j number c d = IfSome known (λ bytes. (stream_taken Exchange limit c bytes ≡ progress n d (AtEnd number)) × (j ≡ length (stream_operations bytes)))

pub received_joined : (known : Option (List ℕ)) (limit n j number : ℕ) (c d : Content) → EndsBehind known limit n j number c d → IfSome known (λ bytes. d ≡ join c (content_of (stream_operations bytes)))
received_joined known limit n j number c d h = IfSome_then known h (λ bytes k. stream_joined limit n c d number bytes k.0)

-- who joined the operations of what a reader gives took them
pub told_taken : (known : Option (List ℕ)) (operations : List ℕ → List Op) (c d : Content) → IfSome known (λ bytes. d ≡ join c (content_of (operations bytes))) → IfSome known (λ bytes. TakesMore c (operations bytes) d)
told_taken known operations c d h = IfSome_then known h (λ bytes. joined_taken c d (operations bytes))

-- the end line names the number of the operations, or another one
pub received_number : (known : Option (List ℕ)) (limit n j number : ℕ) (c d : Content) → number ≡ j → EndsBehind known limit n j number c d → IfSome known (λ bytes. number ≡ length (stream_operations bytes))
received_number known limit n j number c d same h = IfSome_then known h (λ bytes k. same ∙ k.1)

pub received_all : (known : Option (List ℕ)) (limit n j number : ℕ) (c d : Content) → number ≡ j → EndsBehind known limit n j number c d → IfSome known (λ bytes. exchange_outcome limit c bytes ≡ (d, Ok number))
received_all known limit n j number c d same h = grind arith

pub received_other : (known : Option (List ℕ)) (limit n j number : ℕ) (c d : Content) → (number ≡ j → ⊥) → EndsBehind known limit n j number c d → IfSome known (λ bytes. exchange_outcome limit c bytes ≡ (d, Err exchange_fault.Count))
received_other known limit n j number c d other h = grind arith

-- a log of which all lines were taken, and then the rest; the taker's own limit may be another name of the same number
pub log_ends : (limit own n : ℕ) (c e d : Content) (rest bytes : List ℕ) (told : Result LogRead LogFault) → own ≡ limit → (stream_taken Log limit c bytes ≡ progress n e AllTaken) × (rest_of bytes ≡ rest) → after_rest own n e rest ≡ ran told d → log_outcome limit c bytes ≡ ran told d
log_ends limit own n c e d rest bytes told is h outcome =
    (λ k. after_lines limit (h.1 k) (h.0 k)) ∙ sym (ap (λ l. after_rest l n e rest) is) ∙ outcome

pub log_ends_outcome : (known : Option (List ℕ)) (limit own n : ℕ) (c e d : Content) (rest : List ℕ) (told : Result LogRead LogFault) → own ≡ limit → IfSome known (λ bytes. (stream_taken Log limit c bytes ≡ progress n e AllTaken) × (rest_of bytes ≡ rest)) → after_rest own n e rest ≡ ran told d → IfSome known (λ bytes. let p = log_outcome limit c bytes in (p.0 ≡ d) × (p.1 ≡ told))
log_ends_outcome known limit own n c e d rest told is h outcome = grind arith

pub log_ends_joined : (known : Option (List ℕ)) (limit own n : ℕ) (c e d : Content) (rest : List ℕ) (end : LogEnd) → own ≡ limit → IfSome known (λ bytes. (stream_taken Log limit c bytes ≡ progress n e AllTaken) × (rest_of bytes ≡ rest)) → after_rest own n e rest ≡ end_outcome n d end → IfSome known (λ bytes. d ≡ join c (content_of (log_operations bytes)))
log_ends_joined known limit own n c e d rest end is h outcome = IfSome_then known h (λ bytes h.
    log_joined limit c d (record { lines = n; end = end }) bytes (log_ends limit own n c e d rest bytes (Ok (record { lines = n; end = end })) is h outcome))
