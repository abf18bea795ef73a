-- Why the lines of a stream are taken no further, in words.
use Rattle.std.proofs.Common.{◌≡◌, ℕ, ◌+◌, Bool, true, false, cond, nat_lt, List, [], ◌∷◌, ◌++◌, length, Result, Ok, Err, refl, sym, ap, subst, ◌∙◌, ◌≤◌, arith}
use Rattle.std.specs.Prelude.{◌↔◌}
use Rattle.std.specs.List.{AllByRecursion}
use Rattle.std.proofs.lemmas.Bool.{ltb-true}
use Rattle.std.specs.FinSet as finite_set
use Rattle.rga_ops.specs.Content.{Content, known_ids}
use Rattle.rga_ops.specs.Answer.{taken_one_by_one}
use Rattle.rga_ops.specs.declared.op.Op.{Op}
use Rattle.rga_ops.proofs.TakenLaws.{took}
use Rattle.rga_ops.proofs.KnownLaws.{taken_list_within}
use Rattle.rga_lines.specs.Table.{any_line_at}
use Rattle.rga_lines.specs.declared.line.TheConstants.{MAX_LINE}
use Rattle.rga_lines.specs.Stream.{lines_of, rest_of}
use Rattle.rga_lines.specs.Log.{operations_of, operations_at, then_operations, IsOperation}
use Rattle.rga_lines.specs.declared.fault.LineFault.TheVariants as line_fault
use Rattle.rga_lines.proofs.ReadingLemmas.{too_long}
use Rattle.rga_exchange.specs.declared.fault.LogFault.TheVariants as fault
use Rattle.rga_exchange.specs.declared.taking.Form.{Form}
use Rattle.rga_exchange.specs.declared.taking.Form.TheVariants.{Log}
use Rattle.rga_exchange.specs.Taking.{body_behind, Stop, AllTaken, AtEnd, AtFault, Progress, progress, after_line, go_on, lines_taken, stream_taken}
use Rattle.rga_exchange.specs.Stops.{GoesOnWith, IsTakenUpTo, all_lines}
use Rattle.rga_exchange.proofs.HeadLaws.{through_body}
use Rattle.rga_exchange.proofs.TakingLaws.{halting_line, lines_taken-append, line_is_taken, took_front, are_taken}

-- ---- what stops is so

pub record Stopped (form : Form) (limit n m : ℕ) (c d : Content) (lines : List (List ℕ)) (stop : Stop) : Type 0 where
  pub front : List (List ℕ)
  pub later : List (List ℕ)
  pub split : lines ≡ front ++ later
  pub count : m ≡ n + length front
  pub taken : lines_taken form limit n c front ≡ progress m d AllTaken
  pub reason : GoesOnWith form limit m d later stop

-- nothing was taken
at_once : (form : Form) (limit n m : ℕ) (c d : Content) (lines : List (List ℕ)) (s stop : Stop) → progress n c s ≡ progress m d stop → GoesOnWith form limit n c lines s → Stopped form limit n m c d lines stop
at_once form limit n m c d lines s stop h w = grind (arith)

pub stopped : (form : Form) (limit n m : ℕ) (c d : Content) (lines : List (List ℕ)) (stop : Stop) → lines_taken form limit n c lines ≡ progress m d stop → Stopped form limit n m c d lines stop
stopped form limit n m c d [] stop h = at_once form limit n m c d [] AllTaken stop h refl
stopped form limit n m c d (line ∷ lines) stop h = by_first (after_line form limit (n + 1) c (any_line_at line)) refl h (λ e g. stopped form limit (n + 1) m e d lines stop g)
  where
    by_first : (r : Result Content Stop) → after_line form limit (n + 1) c (any_line_at line) ≡ r → go_on n c r (λ e. lines_taken form limit (n + 1) e lines) ≡ progress m d stop → ((e : Content) → lines_taken form limit (n + 1) e lines ≡ progress m d stop → Stopped form limit (n + 1) m e d lines stop) → Stopped form limit n m c d (line ∷ lines) stop
    by_first (Ok e) first g later =
        let w = later e g in
        record {
          front = line ∷ w.front;
          later = w.later;
          split = ap (λ ls. line ∷ ls) w.split;
          count = omega (arith, w.count);
          taken = ap (λ r. go_on n c r (λ f. lines_taken form limit (n + 1) f w.front)) first ∙ w.taken;
          reason = w.reason;
        }
    by_first (Err s) first g later = at_once form limit n m c d (line ∷ lines) s stop g (halting_line form limit n c line lines s first)

-- ---- what is so stops

log_is_taken : (limit n : ℕ) (c d : Content) (lines : List (List ℕ)) → finite_set.len (known_ids c) ≤ limit → AllByRecursion IsOperation lines → taken_one_by_one limit c (operations_of lines) ≡ Ok d → lines_taken Log limit n c lines ≡ progress (n + length lines) d AllTaken
log_is_taken limit n c d [] within all h = grind (arith, took)
log_is_taken limit n c d (line ∷ lines) within all h =
    let ops : List Op = all.0.0 in
    let reads : operations_at line ≡ Ok ops = all.0.1 in
    let w = took_front limit c d ops (operations_of lines) (sym (ap (λ r. taken_one_by_one limit c (then_operations r (operations_of lines))) reads) ∙ h) in
    let count : n + 1 + length lines ≡ n + length (line ∷ lines) = omega arith in
    ap (λ r. go_on n c r (λ e. lines_taken Log limit (n + 1) e lines)) (line_is_taken limit (n + 1) c w.0 line ops within reads w.1)
    ∙ log_is_taken limit (n + 1) w.0 d lines (taken_list_within limit c ops w.0 within w.1) all.1 w.2
    ∙ ap (λ k. progress k d AllTaken) count

-- lines that are operations behind a head, where these are taken
pub operations_are_taken : (form : Form) (limit n : ℕ) (c d : Content) (lines : List (List ℕ)) → finite_set.len (known_ids c) ≤ limit → AllByRecursion IsOperation (body_behind form n lines) → taken_one_by_one limit c (operations_of (body_behind form n lines)) ≡ Ok d → lines_taken form limit n c lines ≡ progress (n + length lines) d AllTaken
operations_are_taken form limit n c d lines within all h =
    let w = through_body form limit n c lines in
    w.same ∙ log_is_taken limit w.before c d (body_behind form n lines) within all h ∙ ap (λ k. progress k d AllTaken) w.count

goes_on_so : (form : Form) (limit n : ℕ) (c : Content) (lines : List (List ℕ)) (stop : Stop) → GoesOnWith form limit n c lines stop → lines_taken form limit n c lines ≡ progress n c stop
goes_on_so form limit n c lines stop none = grind arith

pub taken_up_to-iff : (form : Form) (limit : ℕ) (c : Content) (lines : List (List ℕ)) (t : Progress) → finite_set.len (known_ids c) ≤ limit → (lines_taken form limit 0 c lines ≡ t) ↔ IsTakenUpTo form limit c lines t
taken_up_to-iff form limit c lines t within = (there, back)
  where
    there : lines_taken form limit 0 c lines ≡ t → IsTakenUpTo form limit c lines t
    there h =
        let w = stopped form limit 0 t.lines c t.content lines t.stop h in
        record { front = w.front; later = w.later; split = w.split; count = omega (arith, w.count); taken = are_taken form limit 0 t.lines c t.content w.front w.taken; reason = w.reason }

    back : IsTakenUpTo form limit c lines t → lines_taken form limit 0 c lines ≡ t
    back w =
        let count : 0 + length w.front ≡ t.lines = omega (arith, w.count) in
        ap (lines_taken form limit 0 c) w.split
        ∙ lines_taken-append form limit 0 t.lines c t.content w.front w.later (operations_are_taken form limit 0 c t.content w.front within w.taken.operations w.taken.taken ∙ ap (λ k. progress k t.content AllTaken) count)
        ∙ goes_on_so form limit t.lines t.content w.later t.stop w.reason

-- ---- a rest that is too long counts as a line

-- what stops before all lines were taken stops so whatever lines follow
abbrev HasStopped : Stop → Type 0
HasStopped AllTaken = ⊥
HasStopped (AtEnd number) = Unit {0}
HasStopped (AtFault e) = Unit {0}

stops_longer : (form : Form) (limit n m : ℕ) (c d : Content) (lines more : List (List ℕ)) (stop : Stop) → HasStopped stop → lines_taken form limit n c lines ≡ progress m d stop → lines_taken form limit n c (lines ++ more) ≡ progress m d stop
stops_longer form limit n m c d [] more stop halts h = absurd (subst HasStopped (sym (ap (λ (t : Progress). t.stop) h)) halts)
stops_longer form limit n m c d (line ∷ lines) more stop halts h = by_first (after_line form limit (n + 1) c (any_line_at line)) h (λ e g. stops_longer form limit (n + 1) m e d lines more stop halts g)
  where
    by_first : (r : Result Content Stop) → go_on n c r (λ e. lines_taken form limit (n + 1) e lines) ≡ progress m d stop → ((e : Content) → lines_taken form limit (n + 1) e lines ≡ progress m d stop → lines_taken form limit (n + 1) e (lines ++ more) ≡ progress m d stop) → go_on n c r (λ e. lines_taken form limit (n + 1) e (lines ++ more)) ≡ progress m d stop
    by_first (Ok e) g later = later e g
    by_first (Err s) g later = g

-- a rest that is too long counts as a line
pub stream_is_its_lines : (form : Form) (limit : ℕ) (c : Content) (bytes : List ℕ) → stream_taken form limit c bytes ≡ lines_taken form limit 0 c (all_lines bytes)
stream_is_its_lines form limit c bytes = by_size (nat_lt MAX_LINE (length rest)) refl
  where
    rest : List ℕ
    rest = rest_of bytes

    lines : List (List ℕ)
    lines = lines_of bytes

    t : Progress
    t = lines_taken form limit 0 c lines

    size_stop : Bool → Stop → Stop
    size_stop long AllTaken = cond long (AtFault (fault.Line (t.lines + 1) line_fault.Long)) AllTaken
    size_stop long (AtEnd number) = AtEnd number
    size_stop long (AtFault e) = AtFault e

    short : (stop : Stop) → size_stop false stop ≡ stop
    short AllTaken = refl
    short (AtEnd number) = refl
    short (AtFault e) = refl

    long : nat_lt MAX_LINE (length rest) ≡ true → (stop : Stop) → t.stop ≡ stop → progress t.lines t.content (size_stop true stop) ≡ lines_taken form limit 0 c (lines ++ rest ∷ [])
    long size AllTaken is =
        sym (lines_taken-append form limit 0 t.lines c t.content lines (rest ∷ []) (ap (progress t.lines t.content) is)
        ∙ ap (λ r. go_on t.lines t.content (after_line form limit (t.lines + 1) t.content r) (λ d. lines_taken form limit (t.lines + 1) d [])) (too_long rest (ltb-true MAX_LINE (length rest) size)))
    long size (AtEnd number) is = sym (stops_longer form limit 0 t.lines c t.content lines (rest ∷ []) (AtEnd number) tt (ap (progress t.lines t.content) is))
    long size (AtFault e) is = sym (stops_longer form limit 0 t.lines c t.content lines (rest ∷ []) (AtFault e) tt (ap (progress t.lines t.content) is))

    by_size : (b : Bool) → nat_lt MAX_LINE (length rest) ≡ b → progress t.lines t.content (size_stop b t.stop) ≡ lines_taken form limit 0 c (cond b (lines ++ rest ∷ []) lines)
    by_size true size = long size t.stop refl
    by_size false size = ap (progress t.lines t.content) (short t.stop)
