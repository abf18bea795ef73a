use Rattle.std.proofs.Common.{rules, Fits, w64, ◌∙◌, ◌+◌, ◌++◌, drop, refl, ap, arith}
use Rattle.std.proofs.lemmas.Result.{err_from_is_err_and}
use Rattle.rga_lines.specs.Stream.{Splitting, lines_of, rest_of, splitting_with}
use Rattle.rga_lines.specs.declared.fault.LineFault.TheVariants as line_fault
use Rattle.rga_lines.proofs.SplitterLemmas.{GivesLine, passes_line, gives_up}
use Rattle.rga_exchange.proofs.DeletionRunLemmas.{line_told}
use Rattle.rga_exchange.proofs.TakingLaws.{takes_after, begins_long, up_to_nothing, up_to_line, up_to_chain, end_stops, fault_stops}
use Rattle.rga_exchange.proofs.taking.take_lines.Goals as goal

pub returns-in-Err-clause-taken : goal.returns-in-Err-clause-taken
returns-in-Err-clause-taken g c =
    let waiting = c.lines.splitter.waiting in
    rw c.in-Err.ensures.err.0 (
      (waiting, c.lines.invariant.up_to),
      (λ more.
          takes_after c.lines.invariant.up_to more
          ∙ begins_long _ _ c.lines.lines (g.T.Taker.content c.lines.taker) (lines_of (waiting ++ more)) (rest_of (waiting ++ more))
          ((gives_up c.lines.splitter c.find_next.new.splitter line_fault.Long c.lines.invariant.whole c.in-Err.ensures.err.1).1 more)),
    )

pub returns-in_err-count-clause-taken : goal.returns-in_err-count-clause-taken
returns-in_err-count-clause-taken g c =
    let found = rw c.in-Ok-Some.field-0-is at c.in-Ok-Some.ensures.found in
    let behind : Splitting = splitting_with (drop (c.in-Ok-Some.next.end + 1) c.find_next.new.splitter.waiting) in
    let given : GivesLine c.lines.splitter behind c.line.result.now = passes_line c.lines.splitter c.find_next.new.splitter behind c.line.result.now c.in-Ok-Some.next.end c.lines.invariant.whole found.0 found.1.0 c.line.ensures refl in
    let p = err_from_is_err_and c.from_residual.result c.from_residual.ensures.1 in
    rw (p.1, p.2) (fault_stops (g.T.Taker.content c.take_line.new.taker) _ (λ ops. g.T.Taker.follows c.args.taker.now ops c.take_line.new.taker) c.line.result.now c.lines.invariant.limit (g.T.Taker.follows_on c.args.taker.now c.lines.taker c.take_line.new.taker) given c.lines.invariant.up_to c.find_next.new.splitter c.in_err-count.field-0.0 c.in_err-count.ensures.taken)

pub returns-in-EndLine-clause-taken : goal.returns-in-EndLine-clause-taken
returns-in-EndLine-clause-taken g c =
    let found = rw c.in-Ok-Some.field-0-is at c.in-Ok-Some.ensures.found in
    let behind : Splitting = splitting_with (drop (c.in-Ok-Some.next.end + 1) c.find_next.new.splitter.waiting) in
    let given : GivesLine c.lines.splitter behind c.line.result.now = passes_line c.lines.splitter c.find_next.new.splitter behind c.line.result.now c.in-Ok-Some.next.end c.lines.invariant.whole found.0 found.1.0 c.line.ensures refl in
    end_stops (g.T.Taker.content c.take_line.new.taker) _ (λ ops. g.T.Taker.follows c.args.taker.now ops c.take_line.new.taker) c.line.result.now c.lines.invariant.limit (g.T.Taker.follows_on c.args.taker.now c.lines.taker c.take_line.new.taker) given c.lines.invariant.up_to c.in-EndLine.number (rw c.in-EndLine.is at c.in_ok-count.ensures.taken)

pub lines-init : goal.lines-init
lines-init g c = record {
  whole = c.requires.whole;
  room = omega arith;
  limit = refl;
  up_to = up_to_nothing refl (g.T.Taker.follows_nothing _) refl;
  few = c.requires.few;
  told = λ more. refl;
}

pub lines-preserved : goal.lines-preserved
lines-preserved g c =
    let found = rw c.in-Ok-Some.field-0-is at c.in-Ok-Some.ensures.found in
    let given : GivesLine c.lines.splitter c.pass_line.new.self c.line.result.now = passes_line c.lines.splitter c.find_next.new.splitter c.pass_line.new.self c.line.result.now c.in-Ok-Some.next.end c.lines.invariant.whole found.0 found.1.0 c.line.ensures c.pass_line.ensures in
    let fits : Fits w64 c.in-Operations.count = search rules in
    let took = rw c.in-Operations.is at c.in_ok-count.ensures.taken in
    record {
      whole = given.good;
      room = omega (arith, given.shorter, c.lines.invariant.room);
      limit = c.in_ok-count.ensures.limit ∙ c.lines.invariant.limit;
      few = omega (arith, c.lines.invariant.few, c.from.ensures, fits.fits);
      up_to = up_to_chain c.lines.invariant.limit (g.T.Taker.follows_on c.args.taker.now c.lines.taker c.take_line.new.taker) c.lines.invariant.up_to (
          up_to_line c.line.result.now given took.0 took.1 (ap (λ n. c.lines.operations + n) (c.from.ensures ∙ took.2)));
      told = λ more. c.lines.invariant.told more
          ∙ line_told c.lines.splitter c.pass_line.new.self c.line.result.now c.lines.deletion_runs c.take_line.new.deletion_runs given (c.in_ok-count.ensures.deletion_runs (λ e. absurd cc)) more;
    }
