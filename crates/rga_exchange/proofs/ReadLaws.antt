-- What was read of a device, and what was taken of it.
use Rattle.std.proofs.Common.{◌≡◌, ℕ, ◌≤◌, List, [], ◌∷◌, ◌++◌, length, Option, Result, Ok, refl, sym, ap, subst, ◌∙◌, append_assoc, append-nil, arith}
use Rattle.std.specs.Prelude.{IfSome}
use Rattle.std.specs.List.{AllByRecursion}
use Rattle.std.specs.Io.KnownBytes.{Consumes, Keeps, IsAtEnd}
use Rattle.std.proofs.KnownBytes.{Consumes-nil, Consumes-trans, Consumes-kept, Consumes-whole}
use Rattle.rga_ops.specs.Content.{Content}
use Rattle.rga_ops.specs.declared.op.Op.{Op}
use Rattle.rga_exchange.specs.Counting.{Calls, OnBytes}
use Rattle.rga_lines.specs.Log.{operations_of, IsOperation}
use Rattle.rga_lines.specs.Stream.{lines_of, rest_of}
use Rattle.rga_lines.specs.declared.line.TheConstants.{MAX_LINE}
use Rattle.rga_lines.proofs.SplitterLemmas.{rest_is_all}
use Rattle.rga_exchange.specs.declared.block.TheConstants.{BLOCK}
use Rattle.rga_exchange.specs.declared.fault.LogFault.{LogFault}
use Rattle.rga_exchange.specs.declared.taking.Form.{Form}
use Rattle.rga_exchange.specs.declared.taking.Form.TheVariants.{Log}
use Rattle.rga_exchange.specs.Taking.{body_behind, body, Stop, AllTaken, AtEnd, AtFault, progress, lines_taken, bytes_taken, stream_taken, Intake, AreTaken, HasTakenLines, HasTakenWholeLines}
use Rattle.rga_exchange.specs.declared.log.LogEnd.{LogEnd}
use Rattle.rga_exchange.specs.declared.log.LogRead.{LogRead}
use Rattle.rga_exchange.specs.Log.{LogOutcome, after_rest, end_outcome, HasTakenLog}
use Rattle.rga_exchange.specs.Receiving.{EndsWithLastRead}
use Rattle.rga_exchange.specs.Parts.{Stage, stage, TakesUpTo, LeadsTo, HasTakenOfRead, HasTakenAllBut}
use Rattle.rga_exchange.proofs.HeadLaws.{body-nil, body-append}
use Rattle.rga_exchange.proofs.TakingLaws.{between, lines_taken-append, lines_counted, takes_after, only_rest, are_taken, operations_of-append, then_nothing, up_to_nothing, up_to_chain, up_to_more_bytes}
use Rattle.rga_exchange.proofs.OperationLaws.{ends_at_once, stream_lines_end, log_ends, log_taken}

-- what holds of all bytes that were read, whatever follows them, holds of what the reader is known to give
pub on_all : (old now : Option (List ℕ)) (all : List ℕ) (P : List ℕ → Type 0) → Consumes old now all → ((more : List ℕ) → P (all ++ more)) → IfSome old P
on_all old now all P read holds = grind (arith)

abbrev all_read : {R : Type 0} {form : Form} {remaining : R → Option (List ℕ)} {r s : Calls R} → EndsWithLastRead form remaining r s → List ℕ
all_read h = h.before ++ h.last

-- where no line waits, the lines that were taken are all that were there
all_lines : {form : Form} {took : Intake} {p q : Stage} (s : TakesUpTo form took p q) → lines_of q.waiting ≡ [] → lines_of p.waiting ≡ s.lines
all_lines {form} {took} {p} {q} s none =
    ap lines_of (sym (append-nil p.waiting)) ∙ s.cut [] ∙ ap (λ l. s.lines ++ lines_of l) (append-nil q.waiting) ∙ ap (λ ls. s.lines ++ ls) none ∙ append-nil s.lines

module _ {R : Type 0} {form : Form} {remaining : R → Option (List ℕ)} where
  pub read_nothing : {limit : ℕ} {c : Content} {follows : List Op → Type 0} (r : Calls R) → follows [] → HasTakenOfRead form remaining r r (between limit c c follows) (stage 0 0 [])
  read_nothing r nothing = record {
    read = record { before = []; last = []; read = Consumes-nil (remaining r.inner); one_block = omega arith; operations = subst (AllByRecursion IsOperation) (sym (body-nil form 0)) tt };
    up_to = up_to_nothing refl nothing refl;
    begun = [];
    whole_before = refl;
  }

  -- then lines were taken that waited; the taker's own limit may be another name of the same number
  pub read_lines : {limit own : ℕ} {c d e : Content} {first later all : List Op → Type 0} {r s : Calls R} {q w : Stage} → own ≡ limit → ((xs ys : List Op) → first xs → later ys → all (xs ++ ys)) → HasTakenOfRead form remaining r s (between limit c d first) q → TakesUpTo form (between own d e later) q w
      → HasTakenOfRead form remaining r s (between limit c e all) w
  read_lines is then h more = record {
    read = h.read;
    up_to = up_to_chain is then h.up_to more;
    begun = h.begun ++ more.lines;
    whole_before = ap (λ ls. ls ++ more.lines) h.whole_before ∙ append_assoc (lines_of h.read.before) h.begun more.lines;
  }

  -- then a read gave this piece
  pub read_piece : {took : Intake} {r s next : Calls R} {n j : ℕ} {w : List ℕ} (piece : List ℕ) → HasTakenOfRead form remaining r s took (stage n j w) → lines_of w ≡ [] → Consumes (remaining s.inner) (remaining next.inner) piece → length piece ≤ BLOCK
      → HasTakenOfRead form remaining r next took (stage n j (w ++ piece))
  read_piece {took} {r} {s} {next} {n} {j} {w} piece h none more fits = record {
    read = record {
      before = all_read h.read;
      last = piece;
      read = Consumes-trans (remaining r.inner) (remaining s.inner) (remaining next.inner) (all_read h.read) piece h.read.read more;
      one_block = fits;
      operations = subst (λ ls. AllByRecursion IsOperation (body form ls)) (sym (all_lines h.up_to none)) (are_taken form took.limit 0 n took.old took.new h.up_to.lines h.up_to.taken).operations;
    };
    up_to = up_to_more_bytes piece h.up_to;
    begun = [];
    whole_before = sym (append-nil (lines_of (all_read h.read)) ∙ all_lines h.up_to none);
  }

  -- then a call gave nothing
  read_as_far : {took : Intake} {r s next : Calls R} {q : Stage} (h : HasTakenOfRead form remaining r s took q) → Consumes (remaining r.inner) (remaining next.inner) (all_read h.read) → HasTakenOfRead form remaining r next took q
  read_as_far h gave = record {
    read = record { before = h.read.before; last = h.read.last; read = gave; one_block = h.read.one_block; operations = h.read.operations };
    up_to = h.up_to;
    begun = h.begun;
    whole_before = h.whole_before;
  }

  pub read_failed : {took : Intake} {r s next : Calls R} {q : Stage} → HasTakenOfRead form remaining r s took q → Keeps (remaining s.inner) (remaining next.inner) → HasTakenOfRead form remaining r next took q
  read_failed {took} {r} {s} {next} h kept = read_as_far h (Consumes-kept (remaining r.inner) (remaining s.inner) (remaining next.inner) (all_read h.read) h.read.read kept)

  pub read_empty : {took : Intake} {r s next : Calls R} {q : Stage} → HasTakenOfRead form remaining r s took q → Consumes (remaining s.inner) (remaining next.inner) [] → HasTakenOfRead form remaining r next took q
  read_empty {took} {r} {s} {next} h nothing =
      read_as_far h (subst (Consumes (remaining r.inner) (remaining next.inner)) (append-nil (all_read h.read)) (Consumes-trans (remaining r.inner) (remaining s.inner) (remaining next.inner) (all_read h.read) [] h.read.read nothing))

  -- where no line waits, all bytes lead to all lines, and what waits is the rest
  leads_to_all : {took : Intake} {r s : Calls R} {n j : ℕ} {w : List ℕ} (h : HasTakenOfRead form remaining r s took (stage n j w)) → lines_of w ≡ [] → length w ≤ MAX_LINE → LeadsTo form took (all_read h.read) n AllTaken × (rest_of (all_read h.read) ≡ w)
  leads_to_all {took} {r} {s} {n} {j} {w} h none short =
      let all = all_read h.read in
      let rest = rest_is_all w none in (
        ap (bytes_taken form took.limit 0 took.old) (sym (append-nil all)) ∙ takes_after h.up_to [] ∙ only_rest form took.limit n took.new w none rest short,
        ap rest_of (sym (append-nil all)) ∙ h.up_to.rest [] ∙ ap rest_of (append-nil w) ∙ rest,
      )

  pub read_all : {took : Intake} {r s : Calls R} {n j : ℕ} {w rest : List ℕ} → HasTakenOfRead form remaining r s took (stage n j w) → IsAtEnd (remaining s.inner) → lines_of w ≡ [] → length w ≤ MAX_LINE → rest ≡ w
      → OnBytes remaining r (λ bytes. LeadsTo form took bytes n AllTaken × (rest_of bytes ≡ rest))
  read_all {took} {r} {s} {n} {j} {w} {rest} h end none short is =
      let all = leads_to_all h none short in
      Consumes-whole (remaining r.inner) (remaining s.inner) (all_read h.read) (λ bytes. LeadsTo form took bytes n AllTaken × (rest_of bytes ≡ rest)) h.read.read end (all.0, all.1 ∙ sym is)

  -- a stop that stands whatever follows is the stop of all
  stops_all : {limit own : ℕ} {c d e : Content} {first : List Op → Type 0} {r s : Calls R} {q : Stage} {n : ℕ} {stop : Stop} → own ≡ limit → (h : HasTakenOfRead form remaining r s (between limit c d first) q) → ((more : List ℕ) → bytes_taken form own q.lines d (q.waiting ++ more) ≡ progress n e stop)
      → (more : List ℕ) → stream_taken form limit c (all_read h.read ++ more) ≡ progress n e stop
  stops_all {limit} {own} {c} {d} {e} {first} {r} {s} {q} {n} {stop} is h stands more =
      takes_after h.up_to more ∙ subst (λ l. bytes_taken form l q.lines d (q.waiting ++ more) ≡ progress n e stop) is (stands more)

  pub read_fault : {limit own : ℕ} {c d e : Content} {first : List Op → Type 0} {r s : Calls R} {q : Stage} {n : ℕ} (fault : LogFault) → own ≡ limit → HasTakenOfRead form remaining r s (between limit c d first) q → ((more : List ℕ) → bytes_taken form own q.lines d (q.waiting ++ more) ≡ progress n e (AtFault fault))
      → OnBytes remaining r (λ bytes. (lines : ℕ) × (stream_taken form limit c bytes ≡ progress lines e (AtFault fault)))
  read_fault {limit} {own} {c} {d} {e} {first} {r} {s} {q} {n} fault is h stands =
      on_all (remaining r.inner) (remaining s.inner) (all_read h.read) (λ bytes. (lines : ℕ) × (stream_taken form limit c bytes ≡ progress lines e (AtFault fault))) h.read.read (λ more. (n, stops_all is h stands more))

  -- and where it is the end line, the operations taken before are those of all
  pub read_end : {limit own : ℕ} {c d e : Content} {first later : List Op → Type 0} {r s : Calls R} {q w : Stage} (number : ℕ) → own ≡ limit → HasTakenOfRead form remaining r s (between limit c d first) q → TakesUpTo form (between own d e later) q w → ((more : List ℕ) → bytes_taken form own q.lines d (q.waiting ++ more) ≡ progress w.lines e (AtEnd number))
      → OnBytes remaining r (λ bytes. (stream_taken form limit c bytes ≡ progress w.lines e (AtEnd number)) × (w.operations ≡ length (operations_of (body form (lines_of bytes)))))
  read_end {limit} {own} {c} {d} {e} {first} {later} {r} {s} {q} {w} number is h more stands =
      let bytes = all_read h.read in
      let now : TakesUpTo form (between limit c e (λ _. Unit {0})) (stage 0 0 bytes) w = up_to_chain is (λ xs ys x y. tt) h.up_to more in
      let m : ℕ = w.lines in
      on_all (remaining r.inner) (remaining s.inner) bytes (λ bytes. (stream_taken form limit c bytes ≡ progress m e (AtEnd number)) × (w.operations ≡ length (operations_of (body form (lines_of bytes))))) h.read.read (λ further.
      let leads = stops_all is h stands further in
      let others = lines_of (w.waiting ++ further) in
      let taken = sym (lines_taken-append form limit 0 m c e now.lines others now.taken)
      ∙ ap (lines_taken form limit 0 c) (sym (now.cut further))
      ∙ stream_lines_end form limit m c e number (bytes ++ further) leads in
      let front = body form now.lines in
      let back = body_behind form m others in
      let none = ends_at_once form limit m e e number others taken in
      let operations = (are_taken form limit 0 m c e now.lines now.taken).operations in
      let count = lines_counted form limit 0 m c e now.lines now.taken in
      let same = ap (λ ls. operations_of (body form ls)) (now.cut further)
      ∙ ap operations_of (body-append form 0 now.lines others ∙ ap (λ i. front ++ body_behind form i others) (sym count))
      ∙ operations_of-append front back operations
      ∙ ap (λ (ops : List Op). operations_of front ++ ops) none
      ∙ append-nil (operations_of front) in
      (leads, omega (arith, now.count, ap (λ (ops : List Op). length ops) same)))

  -- where no line waits, all whole lines of what was read were taken
  pub whole_lines : {took : Intake} {r s : Calls R} {n j : ℕ} {w : List ℕ} → HasTakenOfRead form remaining r s took (stage n j w) → lines_of w ≡ [] → HasTakenWholeLines form remaining r s took
  whole_lines {took} {r} {s} {n} h none = record {
    bytes = all_read h.read;
    read = h.read.read;
    taken = subst (λ ls. AreTaken took.limit (body form ls) took.old took.new) (sym (all_lines h.up_to none)) (are_taken form took.limit 0 n took.old took.new h.up_to.lines h.up_to.taken);
    beside = subst (λ ls. took.follows (operations_of (body form ls))) (sym (all_lines h.up_to none)) h.up_to.beside;
  }

  -- whatever fails, all lines that were whole before the last block were taken, and the first of those that end in it
  pub first_lines : {took : Intake} {r s : Calls R} {n j : ℕ} {w : List ℕ} → HasTakenOfRead form remaining r s took (stage n j w) → HasTakenLines form remaining r s took
  first_lines {took} {r} {s} {n} {j} {w} h = record {
    before = h.read.before;
    block = h.read.last;
    read = h.read.read;
    one_block = h.read.one_block;
    lines = h.up_to.lines;
    begun = h.begun;
    later = lines_of (w ++ []);
    whole_before = h.whole_before;
    begins = ap lines_of (sym (append-nil (all_read h.read))) ∙ h.up_to.cut [];
    taken = are_taken form took.limit 0 n took.old took.new h.up_to.lines h.up_to.taken;
    beside = h.up_to.beside;
  }

  -- a taker that holds the same took the same lines
  pub same_lines : {limit : ℕ} {c d e : Content} {first later all : List Op → Type 0} {r s : Calls R} → e ≡ d → ((xs ys : List Op) → first xs → later ys → all (xs ++ ys)) → later [] → HasTakenLines form remaining r s (between limit c d first) → HasTakenLines form remaining r s (between limit c e all)
  same_lines {limit} {c} {d} {e} {first} {later} {all} same then none h = record {
    before = h.before;
    block = h.block;
    read = h.read;
    one_block = h.one_block;
    lines = h.lines;
    begun = h.begun;
    later = h.later;
    whole_before = h.whole_before;
    begins = h.begins;
    taken = subst (AreTaken limit (body form h.lines) c) (sym same) h.taken;
    beside = then_nothing first later all then none (operations_of (body form h.lines)) h.beside;
  }

-- the rest of a log is taken behind its lines; the taker's own limit may be another name of the same number
pub whole_log : {R : Type 0} {remaining : R → Option (List ℕ)} {limit own : ℕ} {c d e : Content} {first later all : List Op → Type 0} {r s : Calls R} {n j : ℕ} {rest : List ℕ} (end : LogEnd) → own ≡ limit → ((xs ys : List Op) → first xs → later ys → all (xs ++ ys)) → HasTakenAllBut Log remaining r s (between limit c d first) (stage n j rest) → after_rest own n d rest ≡ end_outcome n e end → later (operations_of (rest ∷ []))
    → HasTakenLog remaining r s (between limit c e all) (λ (o : Result LogRead LogFault). o) (Ok (record { lines = n; end = end }))
unfolding whole_lines
whole_log {R} {remaining} {limit} {own} {c} {d} {e} {first} {later} {all} {r} {s} {n} {j} {rest} end is then h ends more =
    let whole = whole_lines h.taken h.no_line in
    let bytes = whole.bytes in
    let leads = leads_to_all h.taken h.no_line h.short in
    let read : LogRead = record { lines = n; end = end } in
    let outcome = log_ends limit own n c d e rest bytes (Ok read) is leads ends in
    record {
      end = h.end;
      bytes = bytes;
      read = whole.read;
      outcome = (ap (λ (o : LogOutcome). o.0) outcome, ap (λ (o : LogOutcome). o.1) outcome);
      taken = log_taken limit c e read bytes outcome;
      beside = subst all (sym (operations_of-append (lines_of bytes) (rest_of bytes ∷ []) whole.taken.operations))
          (then (operations_of (lines_of bytes)) (operations_of (rest_of bytes ∷ [])) whole.beside (subst (λ l. later (operations_of (l ∷ []))) (sym leads.1) more));
    }
