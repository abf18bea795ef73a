use Rattle.std.proofs.Common.{◌≡◌, ◌∙◌, ◌++◌, take, length, Ok, refl, ap, arith, length-append}
use Rattle.std.proofs.lemmas.Bool.{lt-ltb}
use Rattle.std.proofs.lemmas.Result.{err_from_is_err_and}
use Rattle.std.proofs.lemmas.List.{length-take}
use Rattle.rga_exchange.specs.Counting.{IsReadToEnd}
use Rattle.rga_lines.specs.Stream.{Splitting, splitting_with}
use Rattle.rga_lines.proofs.SplitterLemmas.{fed_holds}
use Rattle.rga_exchange.specs.Taking.{intake}
use Rattle.rga_exchange.specs.Parts.{stage}
use Rattle.rga_exchange.proofs.DeletionRunLemmas.{nothing_told, lines_told, read_told, all_told}
use Rattle.rga_exchange.proofs.TakingLaws.{faulted}
use Rattle.rga_exchange.proofs.ReadLaws.{read_nothing, read_lines, read_piece, read_failed, read_empty, read_all, read_end, read_fault, whole_lines, first_lines}
use Rattle.rga_exchange.proofs.taking.take_stream.Goals as goal

pub reads-init : goal.reads-init
reads-init g c =
    let start = c.new-splitter.ensures in
    let waits = ap (λ (s : Splitting). s.waiting) start in
    record {
      whole = ap (λ (s : Splitting). s.broken) start;
      room = rw waits (omega arith);
      limit = refl;
      same_failures = refl;
      read = rw waits (read_nothing _ (g.T.Taker.follows_nothing _));
      few = omega arith;
      told = rw waits (nothing_told _ _);
    }

pub returns-in_err-number-clause-fault : goal.returns-in_err-number-clause-fault
returns-in_err-number-clause-fault g c =
    let p = err_from_is_err_and c.from_residual.result c.from_residual.ensures.1 in
    let e = c.in_err-number.field-0.0 in
    rw (p.1, p.2) (λ read memory. read_fault e c.reads.invariant.limit c.reads.invariant.read ((faulted c.args.form (intake g.T.Taker.limit g.T.Taker.content g.T.Taker.follows c.reads.taker c.take_lines.new.taker) (stage c.reads.lines c.reads.operations c.reads.splitter.waiting) c.take_lines.new.lines c.take_lines.new.operations c.take_lines.new.splitter e c.in_err-number.ensures.taken).1 memory))

pub returns-in_err-number-clause-lines : goal.returns-in_err-number-clause-lines
returns-in_err-number-clause-lines g c = first_lines (read_lines c.reads.invariant.limit (g.T.Taker.follows_on c.args.taker.now c.reads.taker c.take_lines.new.taker) c.reads.invariant.read ((faulted c.args.form (intake g.T.Taker.limit g.T.Taker.content g.T.Taker.follows c.reads.taker c.take_lines.new.taker) (stage c.reads.lines c.reads.operations c.reads.splitter.waiting) c.take_lines.new.lines c.take_lines.new.operations c.take_lines.new.splitter c.in_err-number.field-0.0 c.in_err-number.ensures.taken).0).1)

pub returns-in-Some-clause-end : goal.returns-in-Some-clause-end
returns-in-Some-clause-end g c =
    let told = rw c.in-Some.is at c.in_ok-number.ensures.taken in
    read_end c.in-Some.number c.reads.invariant.limit c.reads.invariant.read (told.0).1 told.1

pub returns-in-Some-clause-lines : goal.returns-in-Some-clause-lines
returns-in-Some-clause-lines g c =
    let told = rw c.in-Some.is at c.in_ok-number.ensures.taken in
    first_lines (read_lines c.reads.invariant.limit (g.T.Taker.follows_on c.args.taker.now c.reads.taker c.take_lines.new.taker) c.reads.invariant.read (told.0).1)

pub returns-in_default-read-clause-lines : goal.returns-in_default-read-clause-lines
returns-in_default-read-clause-lines g c =
    let none = rw c.in_default.is at c.in_ok-number.ensures.taken in
    first_lines (read_failed {next = c.read.new.self} (read_lines c.reads.invariant.limit (g.T.Taker.follows_on c.args.taker.now c.reads.taker c.take_lines.new.taker) c.reads.invariant.read none.up_to) c.in_default-read.ensures.bytes)

pub returns-in_default-read-clause-whole_lines : goal.returns-in_default-read-clause-whole_lines
returns-in_default-read-clause-whole_lines g c =
    let none = rw c.in_default.is at c.in_ok-number.ensures.taken in
    λ _. whole_lines (read_failed {next = c.read.new.self} (read_lines c.reads.invariant.limit (g.T.Taker.follows_on c.args.taker.now c.reads.taker c.take_lines.new.taker) c.reads.invariant.read none.up_to) c.in_default-read.ensures.bytes) none.none_left

pub returns-then-count-eq0-clause-end : goal.returns-then-count-eq0-clause-end
returns-then-count-eq0-clause-end g c =
    let none = rw c.in_default.is at c.in_ok-number.ensures.taken in
    let read = rw c.if-count-eq0.true at c.in-Ok.ensures.bytes in
    read_all (read_empty {next = c.read.new.self} (read_lines {all = λ ops. g.T.Taker.follows c.args.taker.now ops c.take_lines.new.taker} c.reads.invariant.limit (g.T.Taker.follows_on c.args.taker.now c.reads.taker c.take_lines.new.taker) c.reads.invariant.read none.up_to) read.0) (read.1 refl (omega arith)) none.none_left none.short c.finish.ensures.rest

pub returns-then-count-eq0-clause-rest : goal.returns-then-count-eq0-clause-rest
returns-then-count-eq0-clause-rest g c =
    let none = rw c.in_default.is at c.in_ok-number.ensures.taken in
    let read = rw c.if-count-eq0.true at c.in-Ok.ensures.bytes in
    let end : IsReadToEnd g.R.Read.remaining c.read.new.self = record { last_read = (rw c.if-count-eq0.true at c.in-Ok.ensures.end) ∙ lt-ltb 0 (length c.read.new.buf) (omega arith); none_left = read.1 refl (omega arith) } in
    rw c.finish.ensures.rest (record { end = end; taken = read_empty {next = c.read.new.self} (read_lines c.reads.invariant.limit (g.T.Taker.follows_on c.args.taker.now c.reads.taker c.take_lines.new.taker) c.reads.invariant.read none.up_to) read.0; no_line = none.none_left; short = none.short })

pub returns-then-count-eq0-clause-lines : goal.returns-then-count-eq0-clause-lines
returns-then-count-eq0-clause-lines g c =
    let none = rw c.in_default.is at c.in_ok-number.ensures.taken in
    first_lines (read_empty {next = c.read.new.self} (read_lines c.reads.invariant.limit (g.T.Taker.follows_on c.args.taker.now c.reads.taker c.take_lines.new.taker) c.reads.invariant.read none.up_to) (rw c.if-count-eq0.true at c.in-Ok.ensures.bytes).0)

pub reads-preserved : goal.reads-preserved
reads-preserved g c =
    let none = rw c.in_default.is at c.in_ok-number.ensures.taken in
    let piece = take c.in-Ok.count c.read.new.buf in
    let now : c.feed.new.self ≡ splitting_with (c.take_lines.new.splitter.waiting ++ piece) = fed_holds c.take_lines.new.splitter c.feed.new.self piece none.whole c.in_ok-feed.ensures.ok in
    let waits = ap (λ (s : Splitting). s.waiting) now in
    let k = length-append c.take_lines.new.splitter.waiting piece in
    let m = length-take c.in-Ok.count c.read.new.buf in
    record {
      whole = ap (λ (s : Splitting). s.broken) now;
      room = rw waits (omega (arith, k, m, c.in-Ok.ensures.bound, c.in-Ok.ensures.calls.0, c.in-Ok.ensures.calls.1, none.room, c.reads.invariant.room));
      limit = c.in_ok-number.ensures.limit ∙ c.reads.invariant.limit;
      few = c.in_ok-number.ensures.few;
      same_failures = c.in-Ok.ensures.device ∙ c.reads.invariant.same_failures;
      read = rw waits (read_piece {next = c.read.new.self} piece (read_lines c.reads.invariant.limit (g.T.Taker.follows_on c.args.taker.now c.reads.taker c.take_lines.new.taker) c.reads.invariant.read none.up_to) none.none_left c.in-Ok.ensures.bytes.0 (omega (arith, m, c.in-Ok.ensures.bound)));
      told = rw waits (read_told _ _ _ _ _ c.take_lines.new.splitter.waiting piece (lines_told _ _ _ _ _ _ _ c.reads.invariant.told (c.in_ok-number.ensures.deletion_runs (ap Ok c.in_default.is))) c.in-Ok.ensures.bytes.0);
    }

pub returns-in_err-feed-clause-lines : goal.returns-in_err-feed-clause-lines
returns-in_err-feed-clause-lines g c =
    let none = rw c.in_default.is at c.in_ok-number.ensures.taken in
    let piece = take c.in-Ok.count c.read.new.buf in
    let m = length-take c.in-Ok.count c.read.new.buf in
    first_lines (read_piece {next = c.read.new.self} piece (read_lines c.reads.invariant.limit (g.T.Taker.follows_on c.args.taker.now c.reads.taker c.take_lines.new.taker) c.reads.invariant.read none.up_to) none.none_left c.in-Ok.ensures.bytes.0 (omega (arith, m, c.in-Ok.ensures.bound)))

pub returns-then-count-eq0-clause-deletion_runs : goal.returns-then-count-eq0-clause-deletion_runs
returns-then-count-eq0-clause-deletion_runs g c =
    let none = rw c.in_default.is at c.in_ok-number.ensures.taken in
    let read = rw c.if-count-eq0.true at c.in-Ok.ensures.bytes in
    rw c.finish.ensures.rest (all_told _ _ (g.R.Read.remaining c.read.new.self.inner) _ _ c.take_lines.new.splitter.waiting (lines_told _ _ _ _ _ _ _ c.reads.invariant.told (c.in_ok-number.ensures.deletion_runs (ap Ok c.in_default.is))) read.0 (read.1 refl (omega arith)) none.none_left)
