-- A stream line by line: what is taken of it, in whatever parts it comes.
use Rattle.std.proofs.Common.{◌≡◌, ℕ, ◌+◌, ◌≤◌, Bool, true, false, List, [], ◌∷◌, ◌++◌, length, Option, None, Result, Ok, Err, refl, sym, ap, subst, ◌∙◌, append_assoc, append-nil, cond, arith, length-append, inl, inr, ◌⊎◌}
use Rattle.std.specs.List.{AllByRecursion}
use Rattle.std.proofs.lemmas.Bool.{lt-ltb, le-ltb}
use Rattle.std.specs.FinSet as finite_set
use Rattle.rga_ops.specs.Content.{Content, known_ids}
use Rattle.rga_ops.specs.ListAnswer.{Verdict, list_answer}
use Rattle.rga_ops.specs.Answer.{taken, and_take, taken_one_by_one}
use Rattle.rga_ops.specs.declared.op.Op.{Op}
use Rattle.rga_ops.specs.declared.refusal.Refusal.{Refusal}
use Rattle.rga_ops.proofs.TakenLaws.{took, refused, taken_list_is, one_by_one-append}
use Rattle.rga_ops.proofs.ListAnswerLaws.{list_one_by_one, one_by_one_list}
use Rattle.rga_lines.specs.Runs.{stretch_operations, run_deletions}
use Rattle.rga_lines.specs.Table.{AnyReading, any_line_at}
use Rattle.rga_lines.specs.declared.line.TheConstants.{MAX_LINE}
use Rattle.rga_lines.specs.Stream.{lines_of, rest_of, BeginsLong, Splitting}
use Rattle.rga_lines.specs.Log.{operations_in, operations_of, operations_at, then_operations, IsOperation}
use Rattle.rga_lines.specs.declared.line.Line.TheVariants.{One, Run, Deletions, Head, Last}
use Rattle.rga_lines.specs.declared.fault.LineFault.{LineFault}
use Rattle.rga_lines.specs.declared.fault.LineFault.TheVariants as line_fault
use Rattle.rga_lines.proofs.ReadingLemmas.{too_long}
use Rattle.rga_lines.proofs.StandLemmas.{stands, stands_for, stands_for_none}
use Rattle.rga_lines.proofs.SplitterLemmas.{GivesLine}
use Rattle.rga_exchange.specs.declared.fault.LogFault.{LogFault}
use Rattle.rga_exchange.specs.declared.fault.LogFault.TheVariants as fault
use Rattle.rga_exchange.specs.Memory.{LogMemory}
use Rattle.rga_exchange.specs.declared.taking.LineTaken.{LineTaken}
use Rattle.rga_exchange.specs.declared.taking.LineTaken.TheVariants.{Operations, EndLine}
use Rattle.rga_exchange.specs.declared.taking.Form.{Form}
use Rattle.rga_exchange.specs.declared.taking.Form.TheVariants.{Log}
use Rattle.rga_exchange.specs.Taking.{may_be_head, body_behind, Stop, AllTaken, AtEnd, AtFault, Progress, progress, refused_at, after_list, taken_whole, after_head, after_line, go_on, lines_taken, with_rest, bytes_taken, Intake, TakesNone, AreTaken}
use Rattle.rga_exchange.specs.declared.log.LogEnd.TheVariants.{Torn}
use Rattle.rga_exchange.specs.Log.{end_outcome, after_bare_operation, after_bare_line}
use Rattle.rga_exchange.specs.Stops.{GoesOnWith}
use Rattle.rga_exchange.specs.Parts.{Stage, stage, head_answer, TakesAs, TakesUpTo, TakesFirst, StopsAs, TakesLines}
use Rattle.rga_exchange.proofs.HeadLaws.{on, halt, through_body, body-nil, body-append, body_alone}

-- ---- the first line

abbrev pub no_fault : Option LineFault
no_fault = None

-- what stops at a line is so
pub halting_line : (form : Form) (limit n : ℕ) (c : Content) (line : List ℕ) (lines : List (List ℕ)) (stop : Stop) → after_line form limit (n + 1) c (any_line_at line) ≡ Err stop → GoesOnWith form limit n c (line ∷ lines) stop
halting_line form limit n c line lines stop h = grind arith

pub record GoesOn (form : Form) (limit n m : ℕ) (c d : Content) (line : List ℕ) (lines : List (List ℕ)) : Type 0 where
  pub next : Content
  pub first : after_line form limit (n + 1) c (any_line_at line) ≡ Ok next
  pub later : lines_taken form limit (n + 1) next lines ≡ progress m d AllTaken

-- where all lines were taken the first was, and then the others
pub goes_on : (form : Form) (limit n m : ℕ) (c d : Content) (line : List ℕ) (lines : List (List ℕ)) → lines_taken form limit n c (line ∷ lines) ≡ progress m d AllTaken → GoesOn form limit n m c d line lines
goes_on form limit n m c d line lines h = by_first (after_line form limit (n + 1) c (any_line_at line)) refl h
  where
    by_first : (r : Result Content Stop) → after_line form limit (n + 1) c (any_line_at line) ≡ r → go_on n c r (λ e. lines_taken form limit (n + 1) e lines) ≡ progress m d AllTaken → GoesOn form limit n m c d line lines
    by_first (Ok e) first h = record { next = e; first = first; later = h }
    by_first (Err stop) first h =
        let none : line ∷ lines ≡ [] = subst (GoesOnWith form limit n c (line ∷ lines)) (ap (λ (t : Progress). t.stop) h) (halting_line form limit n c line lines stop first) in
        absurd cc

-- ---- lines in a row

pub lines_taken-append : (form : Form) (limit n m : ℕ) (c d : Content) (xs ys : List (List ℕ)) → lines_taken form limit n c xs ≡ progress m d AllTaken → lines_taken form limit n c (xs ++ ys) ≡ lines_taken form limit m d ys
lines_taken-append form limit n m c d [] ys h = grind (arith)
lines_taken-append form limit n m c d (x ∷ xs) ys h =
    let w = goes_on form limit n m c d x xs h in
    ap (λ r. go_on n c r (λ e. lines_taken form limit (n + 1) e (xs ++ ys))) w.first
    ∙ lines_taken-append form limit (n + 1) m w.next d xs ys w.later

-- and so does a line that is too long
pub begins_long : (form : Form) (limit n : ℕ) (c : Content) (lines : List (List ℕ)) (rest : List ℕ) → BeginsLong lines rest → with_rest rest (lines_taken form limit n c lines) ≡ progress n c (AtFault (fault.Line (n + 1) line_fault.Long))
begins_long form limit n c lines rest h = grind (arith, lt-ltb, too_long)

-- no line waits: the rest alone is left, which is not too long
pub only_rest : (form : Form) (limit n : ℕ) (c : Content) (waiting : List ℕ) → lines_of waiting ≡ [] → rest_of waiting ≡ waiting → length waiting ≤ MAX_LINE → bytes_taken form limit n c (waiting ++ []) ≡ progress n c AllTaken
only_rest form limit n c waiting none whole short = grind (arith, append-nil, le-ltb)

-- ---- what was taken, as operations

pub took_first : (limit : ℕ) (c d : Content) (op : Op) (ops : List Op) → taken_one_by_one limit c (op ∷ ops) ≡ Ok d → (e : Content) × (taken limit c op ≡ Ok e) × (taken_one_by_one limit e ops ≡ Ok d)
took_first limit c d op ops h = by_first (taken limit c op) refl h
  where
    by_first : (r : Result Content Refusal) → taken limit c op ≡ r → and_take r (λ e. taken_one_by_one limit e ops) ≡ Ok d → (e : Content) × (taken limit c op ≡ Ok e) × (taken_one_by_one limit e ops ≡ Ok d)
    by_first (Ok e) was g = (e, was, g)
    by_first (Err x) was g = let clash : refused x ≡ took d = g in absurd cc

-- operations that were taken, and then others
pub took_front : (limit : ℕ) (c d : Content) (xs ys : List Op) → taken_one_by_one limit c (xs ++ ys) ≡ Ok d → (e : Content) × (taken_one_by_one limit c xs ≡ Ok e) × (taken_one_by_one limit e ys ≡ Ok d)
took_front limit c d [] ys h = (c, refl, h)
took_front limit c d (x ∷ xs) ys h =
    let w = took_first limit c d x (xs ++ ys) h in
    let later = took_front limit w.0 d xs ys w.2 in
    (later.0, ap (λ r. and_take r (λ e. taken_one_by_one limit e xs)) w.1 ∙ later.1, later.2)

whole_taken : (limit : ℕ) (c d : Content) (ops : List Op) (v : Verdict) → list_answer limit c ops ≡ v → after_list c ops v ≡ Ok d → taken_one_by_one limit c ops ≡ Ok d
whole_taken limit c d ops (Ok u) e h = list_one_by_one limit c ops e ∙ h
whole_taken limit c d ops (Err x) e h = let clash : refused x ≡ took d = h in absurd cc

-- a list that was taken whole was taken one by one, and the other way round
pub taken_whole_one_by_one : (limit : ℕ) (c d : Content) (ops : List Op) → taken_whole limit c ops ≡ Ok d → taken_one_by_one limit c ops ≡ Ok d
taken_whole_one_by_one limit c d ops h = whole_taken limit c d ops (list_answer limit c ops) refl h

pub one_by_one_taken_whole : (limit : ℕ) (c d : Content) (ops : List Op) → finite_set.len (known_ids c) ≤ limit → taken_one_by_one limit c ops ≡ Ok d → taken_whole limit c ops ≡ Ok d
one_by_one_taken_whole limit c d ops within h =
    ap (after_list c ops) (one_by_one_list limit c d ops within h) ∙ ap Ok (sym (taken_list_is limit c ops d h).joined)

pub one_taken : (limit : ℕ) (c d : Content) (op : Op) → taken_one_by_one limit c (op ∷ []) ≡ Ok d → taken limit c op ≡ Ok d
one_taken limit c d op h = grind arith

-- ---- what a line of a log stands for

-- for these operations, and it is taken as they are
pub record StandsForSome (limit : ℕ) (c : Content) (r : AnyReading) : Type 0 where
  pub ops : List Op
  pub is : operations_in r ≡ Ok ops
  pub answer : Result Content Refusal
  pub line : (n : ℕ) → after_line Log limit n c r ≡ refused_at n answer
  pub bare : (n bytes : ℕ) → after_bare_line limit n c bytes r ≡ after_bare_operation n c answer
  pub one_by_one : (d : Content) → answer ≡ Ok d → taken_one_by_one limit c ops ≡ Ok d
  pub whole : (d : Content) → finite_set.len (known_ids c) ≤ limit → taken_one_by_one limit c ops ≡ Ok d → answer ≡ Ok d

-- or for none, and it is not taken
pub record StandsForNone (limit : ℕ) (c : Content) (r : AnyReading) : Type 0 where
  pub wrong : LineFault
  pub is : operations_in r ≡ Err wrong
  pub stop : ℕ → Stop
  pub line : (n : ℕ) → after_line Log limit n c r ≡ Err (stop n)
  pub bare : (n bytes : ℕ) → after_bare_line limit n c bytes r ≡ end_outcome n c (Torn bytes)

pub some_or_none : (limit : ℕ) (c : Content) (r : AnyReading) → StandsForSome limit c r ⊎ StandsForNone limit c r
some_or_none limit c (Ok (One op)) =
    inl (record { ops = op ∷ []; is = refl; answer = taken limit c op; line = λ n. refl; bare = λ n bytes. refl; one_by_one = λ d. ap (λ r. and_take r (λ e. Ok e)); whole = λ d within. one_taken limit c d op })
some_or_none limit c (Ok (Run r)) =
    let ops = stretch_operations r in
    inl (record { ops = ops; is = refl; answer = taken_whole limit c ops; line = λ n. refl; bare = λ n bytes. refl; one_by_one = λ d. taken_whole_one_by_one limit c d ops; whole = λ d. one_by_one_taken_whole limit c d ops })
some_or_none limit c (Ok (Deletions r)) =
    let ops = run_deletions r in
    inl (record { ops = ops; is = refl; answer = taken_whole limit c ops; line = λ n. refl; bare = λ n bytes. refl; one_by_one = λ d. taken_whole_one_by_one limit c d ops; whole = λ d. one_by_one_taken_whole limit c d ops })
some_or_none limit c (Ok Head) = inr (record { wrong = line_fault.Kind; is = refl; stop = λ n. AtFault (fault.Line n line_fault.Kind); line = λ n. refl; bare = λ n bytes. refl })
some_or_none limit c (Ok (Last number)) = inr (record { wrong = line_fault.Kind; is = refl; stop = λ n. AtEnd number; line = λ n. refl; bare = λ n bytes. refl })
some_or_none limit c (Err e) = inr (record { wrong = e; is = refl; stop = λ n. AtFault (fault.Line n e); line = λ n. refl; bare = λ n bytes. refl })

was_taken : (n : ℕ) (d : Content) (r : Result Content Refusal) → refused_at n r ≡ Ok d → r ≡ Ok d
was_taken n d (Ok e) h = let same : on e ≡ on d = h in let is : e ≡ d = cc in ap Ok is
was_taken n d (Err e) h = let clash : halt (AtFault (fault.Refused n e)) ≡ on d = h in absurd cc

-- a line of a log that was taken stands for operations that were taken
pub line_taken : (limit n : ℕ) (c d : Content) (line : List ℕ) → after_line Log limit n c (any_line_at line) ≡ Ok d → (ops : List Op) × (operations_at line ≡ Ok ops) × (taken_one_by_one limit c ops ≡ Ok d)
line_taken limit n c d line h = elim (some_or_none limit c (any_line_at line)) [
  | inl w ↦ (w.ops, stands line (any_line_at line) refl ∙ w.is, w.one_by_one d (was_taken n d w.answer (sym (w.line n) ∙ h)))
  | inr w ↦ let clash : halt (w.stop n) ≡ on d = sym (w.line n) ∙ h in absurd cc
]

-- and the other way round
pub line_is_taken : (limit n : ℕ) (c d : Content) (line : List ℕ) (ops : List Op) → finite_set.len (known_ids c) ≤ limit → operations_at line ≡ Ok ops → taken_one_by_one limit c ops ≡ Ok d → after_line Log limit n c (any_line_at line) ≡ Ok d
line_is_taken limit n c d line ops within reads h = elim (some_or_none limit c (any_line_at line)) [
  | inl w ↦
      let same : stands_for w.ops ≡ stands_for ops = sym (stands line (any_line_at line) refl ∙ w.is) ∙ reads in
      let is : w.ops ≡ ops = cc in
      w.line n ∙ ap (refused_at n) (w.whole d within (ap (taken_one_by_one limit c) is ∙ h))
  | inr w ↦ let clash : stands_for_none w.wrong ≡ stands_for ops = sym (stands line (any_line_at line) refl ∙ w.is) ∙ reads in absurd cc
]

-- ---- what becomes of a line

module _ (form : Form) (took : Intake) (n : ℕ) (line : List ℕ) where
  -- by what it says, and what becomes of that
  pub line_takes : (r : Result LineTaken LogFault) (said : AnyReading) (ops : List Op) → any_line_at line ≡ said → then_operations (operations_in said) [] ≡ ops → TakesAs took (after_line form took.limit n took.old said) ops r
      → TakesAs took (after_line form took.limit n took.old (any_line_at line)) (operations_of (line ∷ [])) r
  line_takes r said ops says are h = grind (arith, took, stands)

  pub head_takes : (r : Result LineTaken LogFault) → any_line_at line ≡ Ok Head → TakesNone took → r ≡ head_answer form n → TakesAs took (after_line form took.limit n took.old (any_line_at line)) (operations_of (line ∷ [])) r
  head_takes r says none is = line_takes r (Ok Head) [] says refl (subst (TakesAs took (after_head form n took.old) []) (sym is) (by_place (may_be_head form n)))
    where
      by_place : (may : Bool) → TakesAs took (cond may (on took.old) (halt (AtFault (fault.Line n line_fault.Kind)))) [] (cond may (Ok (Operations 0)) (Err (fault.Line n line_fault.Kind)))
      by_place true = (ap Ok (sym none.same), none.nothing, refl)
      by_place false = (refl, refl, none)

-- ---- lines

pub lines_counted : (form : Form) (limit n m : ℕ) (c d : Content) (lines : List (List ℕ)) → lines_taken form limit n c lines ≡ progress m d AllTaken → m ≡ n + length lines
lines_counted form limit n m c d [] h = grind (arith)
lines_counted form limit n m c d (line ∷ lines) h =
    let w = goes_on form limit n m c d line lines h in
    omega (arith, lines_counted form limit (n + 1) m w.next d lines w.later)

pub log_lines : (limit n m : ℕ) (c d : Content) (lines : List (List ℕ)) → lines_taken Log limit n c lines ≡ progress m d AllTaken → AllByRecursion IsOperation lines × (taken_one_by_one limit c (operations_of lines) ≡ Ok d)
log_lines limit n m c d [] h = (tt, ap Ok (ap (λ (t : Progress). t.content) h))
log_lines limit n m c d (line ∷ lines) h =
    let w = goes_on Log limit n m c d line lines h in
    let first = line_taken limit (n + 1) c w.next line w.first in
    let later = log_lines limit (n + 1) m w.next d lines w.later in (
      ((first.0, first.1), later.0),
      ap (λ r. taken_one_by_one limit c (then_operations r (operations_of lines))) first.1
          ∙ one_by_one-append limit c w.next first.0 (operations_of lines) first.2
          ∙ later.1,
    )

-- where all lines were taken, those behind a head are operations
pub lines_are_operations : (form : Form) (limit n m : ℕ) (c d : Content) (lines : List (List ℕ)) → lines_taken form limit n c lines ≡ progress m d AllTaken
    → AllByRecursion IsOperation (body_behind form n lines) × (taken_one_by_one limit c (operations_of (body_behind form n lines)) ≡ Ok d)
lines_are_operations form limit n m c d lines h =
    let w = through_body form limit n c lines in
    log_lines limit w.before m c d (body_behind form n lines) (sym w.same ∙ h)

pub are_taken : (form : Form) (limit n m : ℕ) (c d : Content) (lines : List (List ℕ)) → lines_taken form limit n c lines ≡ progress m d AllTaken → AreTaken limit (body_behind form n lines) c d
are_taken form limit n m c d lines h =
    let w = lines_are_operations form limit n m c d lines h in
    record { operations = w.0; taken = w.1; joined = (taken_list_is limit c (operations_of (body_behind form n lines)) d w.1).joined }

pub operations_of-append : (xs ys : List (List ℕ)) → AllByRecursion IsOperation xs → operations_of (xs ++ ys) ≡ operations_of xs ++ operations_of ys
operations_of-append [] ys all = refl
operations_of-append (x ∷ xs) ys all = grind (arith, append_assoc, operations_of-append xs ys all.1)

-- ---- what was taken of a stream in parts

abbrev pub between : ℕ → Content → Content → (List Op → Type 0) → Intake
between limit c d follows = record { limit = limit; old = c; new = d; follows = follows }

-- whatever bytes follow, what waits leads to what all bytes lead to
pub takes_after : {form : Form} {took : Intake} {p q : Stage} → TakesUpTo form took p q → (more : List ℕ) → bytes_taken form took.limit p.lines took.old (p.waiting ++ more) ≡ bytes_taken form took.limit q.lines took.new (q.waiting ++ more)
takes_after {form} {took} {p} {q} s more = grind (arith, took, lines_taken-append)

-- no line, by a taker that holds the same
abbrev pub up_to_nothing : {form : Form} {limit : ℕ} {c d : Content} {follows : List Op → Type 0} {n k j : ℕ} {bytes : List ℕ} → d ≡ c → follows [] → j ≡ k → TakesUpTo form (between limit c d follows) (stage n k bytes) (stage n j bytes)
up_to_nothing {form} {limit} {c} {d} {follows} {n} {k} {j} {bytes} same none counted =
    let nothing : [] ≡ operations_of (body_behind form n []) = ap operations_of (sym (body-nil form n)) in
    record {
      lines = [];
      cut = λ more. refl;
      rest = λ more. refl;
      taken = ap (λ e. progress n e AllTaken) (sym same);
      beside = subst follows nothing none;
      count = omega (arith, counted, ap (λ (ops : List Op). length ops) nothing);
    }

abbrev pub up_to_line : {form : Form} {limit : ℕ} {c d : Content} {follows : List Op → Type 0} {n k j : ℕ} {s x : Splitting} (line : List ℕ) → GivesLine s x line → after_line form limit (n + 1) c (any_line_at line) ≡ Ok d → follows (operations_of (line ∷ [])) → j ≡ k + length (operations_of (line ∷ []))
    → TakesUpTo form (between limit c d follows) (stage n k s.waiting) (stage (n + 1) j x.waiting)
up_to_line {form} {limit} {c} {d} {follows} {n} {k} line given h beside count = record {
  lines = line ∷ [];
  cut = given.lines;
  rest = given.rest;
  taken = ap (λ r. go_on n c r (λ e. lines_taken form limit (n + 1) e [])) h;
  beside = subst follows (sym (body_alone form n line)) beside;
  count = count ∙ ap (λ (ops : List Op). k + length ops) (sym (body_alone form n line));
}

-- the second taker's own limit may be another name of the same number
abbrev pub up_to_chain : {form : Form} {limit own : ℕ} {c d e : Content} {first later all : List Op → Type 0} {p q w : Stage} → own ≡ limit → ((xs ys : List Op) → first xs → later ys → all (xs ++ ys)) → TakesUpTo form (between limit c d first) p q → TakesUpTo form (between own d e later) q w
    → TakesUpTo form (between limit c e all) p w
up_to_chain {form} {limit} {own} {c} {d} {e} {first} {later} {all} {p} {q} {w} is then s h =
    let xs = body_behind form p.lines s.lines in
    let ys = body_behind form q.lines h.lines in
    let operations = (lines_are_operations form limit p.lines q.lines c d s.lines s.taken).0 in
    let count = lines_counted form limit p.lines q.lines c d s.lines s.taken in
    let both = ap operations_of (body-append form p.lines s.lines h.lines ∙ ap (λ i. xs ++ body_behind form i h.lines) (sym count)) ∙ operations_of-append xs ys operations in
    let longer = ap (λ (ops : List Op). length ops) both in
    record {
      lines = s.lines ++ h.lines;
      cut = λ more. s.cut more ∙ ap (λ ls. s.lines ++ ls) (h.cut more) ∙ sym (append_assoc s.lines h.lines (lines_of (w.waiting ++ more)));
      rest = λ more. s.rest more ∙ h.rest more;
      taken = lines_taken-append form limit p.lines q.lines c d s.lines h.lines s.taken ∙ subst (λ l. lines_taken form l q.lines d h.lines ≡ progress w.lines e AllTaken) is h.taken;
      beside = subst all (sym both) (then (operations_of xs) (operations_of ys) s.beside h.beside);
      count = omega (arith, s.count, h.count, longer, length-append (operations_of xs) (operations_of ys));
    }

abbrev pub up_to_more_bytes : {form : Form} {took : Intake} {n k m j : ℕ} {bytes waiting : List ℕ} (piece : List ℕ) → TakesUpTo form took (stage n k bytes) (stage m j waiting) → TakesUpTo form took (stage n k (bytes ++ piece)) (stage m j (waiting ++ piece))
up_to_more_bytes {form} {took} {n} {k} {m} {j} {bytes} {waiting} piece s = record {
  lines = s.lines;
  cut = λ more. ap lines_of (append_assoc bytes piece more) ∙ s.cut (piece ++ more) ∙ ap (λ l. s.lines ++ lines_of l) (sym (append_assoc waiting piece more));
  rest = λ more. ap rest_of (append_assoc bytes piece more) ∙ s.rest (piece ++ more) ∙ ap rest_of (sym (append_assoc waiting piece more));
  taken = s.taken;
  beside = s.beside;
  count = s.count;
}

-- behind what was taken a line that is not ends the stream
pub line_stops : {form : Form} {limit own : ℕ} {c d e : Content} {follows : List Op → Type 0} {p : Stage} {n j : ℕ} {s x : Splitting} (line : List ℕ) (stop : Stop) → own ≡ limit → TakesUpTo form (between limit c d follows) p (stage n j s.waiting) → GivesLine s x line → after_line form own (n + 1) d (any_line_at line) ≡ Err stop → e ≡ d
    → (more : List ℕ) → bytes_taken form limit p.lines c (p.waiting ++ more) ≡ with_rest (rest_of (s.waiting ++ more)) (progress n e stop)
line_stops {form} {limit} {own} {c} {d} {e} {follows} {p} {n} {j} {s} {x} line stop is taken given h same more =
    takes_after taken more
    ∙ ap (λ ls. with_rest (rest_of (s.waiting ++ more)) (lines_taken form limit n d ls)) (given.lines more)
    ∙ ap (λ r. with_rest (rest_of (s.waiting ++ more)) (go_on n d r (λ d. lines_taken form limit (n + 1) d (lines_of (x.waiting ++ more))))) (subst (λ l. after_line form l (n + 1) d (any_line_at line) ≡ Err stop) is h)
    ∙ ap (λ f. with_rest (rest_of (s.waiting ++ more)) (progress n f stop)) (sym same)

-- to take nothing more
pub then_nothing : (first later all : List Op → Type 0) → ((xs ys : List Op) → first xs → later ys → all (xs ++ ys)) → later [] → (ops : List Op) → first ops → all ops
then_nothing first later all then none ops h = subst all (append-nil ops) (then ops [] h none)

-- ---- up to a line that stops

module _ {form : Form} {limit own : ℕ} {c d : Content} {first : List Op → Type 0} {p : Stage} {n j : ℕ} {s x : Splitting} (e : Content) (later all : List Op → Type 0) (line : List ℕ) (is : own ≡ limit) (then : (xs ys : List Op) → first xs → later ys → all (xs ++ ys)) (given : GivesLine s x line) (taken : TakesUpTo form (between limit c d first) p (stage n j s.waiting)) where
  first_taken : TakesNone (between own d e later) → TakesFirst form (between limit c e all) p n j
  first_taken h = (s.waiting, up_to_chain is then taken (up_to_nothing h.same h.nothing refl))

  pub end_stops : (number : ℕ) → TakesAs (between own d e later) (after_line form own (n + 1) d (any_line_at line)) (operations_of (line ∷ [])) (Ok (EndLine number)) → TakesFirst form (between limit c e all) p n j × StopsAs form (between limit c e all) p n (AtEnd number)
  end_stops number h = (first_taken h.2, line_stops line (AtEnd number) is taken given h.0 h.2.same)

  pub fault_stops : (y : Splitting) (f : LogFault) → TakesAs (between own d e later) (after_line form own (n + 1) d (any_line_at line)) (operations_of (line ∷ [])) (Err f) → TakesLines form (between limit c e all) p n j y (Err f)
  fault_stops y (fault.Line k w) h = (first_taken h.2, line_stops line (AtFault (fault.Line k w)) is taken given h.0 h.2.same)
  fault_stops y (fault.Refused k w) h = (first_taken h.1, line_stops line (AtFault (fault.Refused k w)) is taken given h.0 h.1.same)
  fault_stops y fault.Read h = absurd h
  fault_stops y (fault.Memory _) h = first_taken h

-- at a fault the first of them were taken, and but for want of memory the stream stops there
pub faulted : (form : Form) (took : Intake) (p : Stage) (n j : ℕ) (s : Splitting) (e : LogFault) → TakesLines form took p n j s (Err e) → TakesFirst form took p n j × ((e ≡ LogMemory → ⊥) → StopsAs form took p n (AtFault e))
faulted form took p n j s e h = grind arith
