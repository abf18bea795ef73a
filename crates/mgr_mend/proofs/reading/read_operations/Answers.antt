use Rattle.std.proofs.Common.{arith, ◌∙◌}
use Rattle.std.specs.List.{flat_map}
use Rattle.std.proofs.lemmas.List.Concat.{flat_map_single}
use Rattle.rga_lines.specs.Log.{operations_at}
use Rattle.mgr_mend.specs.Mending.{line_operations, all_lines, whole_operations}
use Rattle.mgr_mend.specs.Parts.{count_said}
use Rattle.mgr_mend.proofs.LinesLemmas.{FirstPart, first_part, all_lines-only, count_line, gathers_line, gathers_rest, shorter}
use Rattle.mgr_mend.proofs.reading.read_operations.Goals as goal

pub lines-preserved : goal.lines-preserved
lines-preserved c =
    let rest = c.lines.rest.now in
    let n = c.in-Some.end in
    let first : FirstPart rest n = first_part rest n c.in-Some.ensures in
    let front = c.split_at.ensures.front in
    let back = c.split_at-in-Some.ensures.back in
    record {
      read = gathers_line line_operations c.lines.ops.items c.add_line.new.ops.items (whole_operations c.args.bytes.now) rest c.split_at.result.0.now c.split_at-in-Some.result.1.now n first front back c.in_ok-add_line.ensures.ops c.lines.invariant.read;
      counted = gathers_line count_line c.lines.counts.items c.add_line.new.counts.items (flat_map count_line (all_lines c.args.bytes.now)) rest c.split_at.result.0.now c.split_at-in-Some.result.1.now n first front back c.in_ok-add_line.ensures.counts c.lines.invariant.counted;
      within = rw back (omega (arith, shorter rest n first, c.lines.invariant.within));
    }

pub overflow_add-end : goal.overflow_add-end
overflow_add-end c =
    let first : FirstPart c.lines.rest.now c.in-Some.end = first_part c.lines.rest.now c.in-Some.end c.in-Some.ensures in
    omega (arith, first.within, c.lines.invariant.within)

pub lines-smaller : goal.lines-smaller
lines-smaller c =
    let rest = c.lines.rest.now in
    rw c.split_at-in-Some.ensures.back (shorter rest c.in-Some.end (first_part rest c.in-Some.end c.in-Some.ensures))

pub returns-clause-ops : goal.returns-clause-ops
returns-clause-ops c =
    let rest = c.lines.rest.now in
    gathers_rest line_operations c.lines.ops.items c.add_line-2.new.ops.items (whole_operations c.args.bytes.now) rest (all_lines-only rest (rw c.in_default.is at c.memchr.ensures)) c.in_ok-add_line-2.ensures.ops c.lines.invariant.read

pub returns-clause-counts : goal.returns-clause-counts
returns-clause-counts c =
    let rest = c.lines.rest.now in
    gathers_rest count_line c.lines.counts.items c.add_line-2.new.counts.items (flat_map count_line (all_lines c.args.bytes.now)) rest (all_lines-only rest (rw c.in_default.is at c.memchr.ensures)) c.in_ok-add_line-2.ensures.counts c.lines.invariant.counted
    ∙ flat_map_single (λ bytes. count_said (operations_at bytes)) (all_lines c.args.bytes.now)
