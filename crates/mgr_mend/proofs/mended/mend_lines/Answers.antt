use Rattle.std.proofs.Common.{ℕ, ◌+◌, List, ◌++◌, take, ap, ◌∙◌, arith}
use Rattle.rga_ops.specs.declared.op.Op.{Op}
use Rattle.mgr_mend.specs.Mending.{one_if, mended_as}
use Rattle.mgr_mend.proofs.LinesLemmas.{FirstPart, first_part, no_lines, only_rest, all_lines-only, shorter}
use Rattle.mgr_mend.proofs.MendedLemmas.{begins, first_left, left_step, own_step, more_left, mends_step, fate_told, stays_told, faulty_within, beaten_within, mends_rest, rest_left, some_left, last_beaten, last_within, left_out_is}
use Rattle.mgr_mend.proofs.mended.mend_lines.Goals as goal

pub lines-init : goal.lines-init
lines-init c = record {
  left = record { counted = c.requires.counts; told = c.requires.judged };
  sofar = rw (c.new-log.ensures.items, c.new-refused.ensures.items) (begins c.args.bytes.now);
  within = omega arith;
}

pub overflow_add-end : goal.overflow_add-end
overflow_add-end c =
    let first : FirstPart c.lines.rest.now c.in-Some.end = first_part c.lines.rest.now c.in-Some.end c.in-Some.ensures in
    omega (arith, first.within, c.lines.invariant.within)

pub first_count-count-requires : goal.first_count-count-requires
first_count-count-requires c =
    more_left c.args.bytes.now c.lines.rest.now c.in-Some.end c.lines.later_counts.now c.lines.later.now (first_part c.lines.rest.now c.in-Some.end c.in-Some.ensures) c.lines.invariant.left

pub split_at-requires-in-Some-2 : goal.split_at-requires-in-Some-2
split_at-requires-in-Some-2 c =
    let rest = c.lines.rest.now in
    let parts = first_left c.args.bytes.now rest c.in-Some.end c.lines.later_counts.now c.lines.later.now c.first_count-count.result (first_part rest c.in-Some.end c.in-Some.ensures) c.lines.invariant.left c.first_count-count.ensures in
    omega (arith, parts.within, c.unwrap_or.ensures)

pub overflow_add-faulty : goal.overflow_add-faulty
overflow_add-faulty c =
    let bytes = c.args.bytes.now in
    let rest = c.lines.rest.now in
    let n = c.in-Some.end in
    let first : FirstPart rest n = first_part rest n c.in-Some.ensures in
    let parts = first_left bytes rest n c.lines.later_counts.now c.lines.later.now c.first_count-count.result first c.lines.invariant.left c.first_count-count.ensures in
    let told = own_step bytes rest n c.lines.later_counts.now c.lines.later.now c.split_at-in-Some-2.result.0.now c.first_count-count.result c.unwrap_or.result first c.lines.invariant.left c.first_count-count.ensures c.unwrap_or.ensures c.split_at-in-Some-2.ensures.front in
    let fated = c.in_ok-fate.ensures.fate ∙ fate_told bytes (take n rest) c.first_count-count.result c.split_at-in-Some-2.result.0.now parts.count_is told in
    let one = c.one_if-faulty.ensures ∙ ap one_if c.is_faulty.ensures in
    omega (arith, one, faulty_within bytes rest c.lines.log.items c.lines.refused.items c.lines.faulty c.lines.beaten n c.in_ok-fate.fate first fated c.lines.invariant.sofar)

pub overflow_add-beaten : goal.overflow_add-beaten
overflow_add-beaten c =
    let bytes = c.args.bytes.now in
    let rest = c.lines.rest.now in
    let n = c.in-Some.end in
    let first : FirstPart rest n = first_part rest n c.in-Some.ensures in
    let parts = first_left bytes rest n c.lines.later_counts.now c.lines.later.now c.first_count-count.result first c.lines.invariant.left c.first_count-count.ensures in
    let told = own_step bytes rest n c.lines.later_counts.now c.lines.later.now c.split_at-in-Some-2.result.0.now c.first_count-count.result c.unwrap_or.result first c.lines.invariant.left c.first_count-count.ensures c.unwrap_or.ensures c.split_at-in-Some-2.ensures.front in
    let fated = c.in_ok-fate.ensures.fate ∙ fate_told bytes (take n rest) c.first_count-count.result c.split_at-in-Some-2.result.0.now parts.count_is told in
    let one = c.one_if-beaten.ensures ∙ ap one_if c.is_beaten.ensures in
    omega (arith, one, beaten_within bytes rest c.lines.log.items c.lines.refused.items c.lines.faulty c.lines.beaten n c.in_ok-fate.fate first fated c.lines.invariant.sofar)

pub lines-preserved : goal.lines-preserved
lines-preserved c =
    let bytes = c.args.bytes.now in
    let rest = c.lines.rest.now in
    let n = c.in-Some.end in
    let first : FirstPart rest n = first_part rest n c.in-Some.ensures in
    let parts = first_left bytes rest n c.lines.later_counts.now c.lines.later.now c.first_count-count.result first c.lines.invariant.left c.first_count-count.ensures in
    let told = own_step bytes rest n c.lines.later_counts.now c.lines.later.now c.split_at-in-Some-2.result.0.now c.first_count-count.result c.unwrap_or.result first c.lines.invariant.left c.first_count-count.ensures c.unwrap_or.ensures c.split_at-in-Some-2.ensures.front in
    record {
      left = left_step bytes rest c.split_at.result.1.now n c.lines.later_counts.now c.split_at-in-Some.result.1.now c.lines.later.now c.split_at-in-Some-2.result.1.now c.first_count-count.result c.unwrap_or.result first c.lines.invariant.left c.first_count-count.ensures c.split_at.ensures.back c.split_at-in-Some.ensures.back c.unwrap_or.ensures c.split_at-in-Some-2.ensures.back;
      sofar = mends_step bytes rest c.split_at.result.0.now c.split_at.result.1.now n c.first_count-count.result c.split_at-in-Some-2.result.0.now c.lines.log.items c.lines.refused.items c.put_part.new.log.items c.put_part.new.refused.items c.lines.faulty c.lines.beaten c.one_if-faulty.result c.one_if-beaten.result c.in_ok-fate.fate first parts.count_is told c.split_at.ensures.front c.split_at.ensures.back c.in_ok-fate.ensures.fate c.in_ok-fate.ensures.log c.in_ok-fate.ensures.refused (c.one_if-faulty.ensures ∙ ap one_if c.is_faulty.ensures) (c.one_if-beaten.ensures ∙ ap one_if c.is_beaten.ensures) c.lines.invariant.sofar;
      within = rw c.split_at.ensures.back (omega (arith, shorter rest n first, c.lines.invariant.within));
    }

pub lines-smaller : goal.lines-smaller
lines-smaller c =
    let rest = c.lines.rest.now in
    rw c.split_at.ensures.back (shorter rest c.in-Some.end (first_part rest c.in-Some.end c.in-Some.ensures))

pub first_count-count-requires-2 : goal.first_count-count-requires-2
first_count-count-requires-2 c =
    some_left c.args.bytes.now c.lines.rest.now c.lines.later_counts.now c.lines.later.now (all_lines-only c.lines.rest.now (rw c.in_default.is at c.memchr.ensures)) c.lines.invariant.left

pub overflow_add-left_out : goal.overflow_add-left_out
overflow_add-left_out c =
    let bytes = c.args.bytes.now in
    let rest = c.lines.rest.now in
    let only = all_lines-only rest (rw c.in_default.is at c.memchr.ensures) in
    let parts = rest_left bytes rest c.lines.later_counts.now c.lines.later.now c.first_count-count-2.result only c.lines.invariant.left c.first_count-count-2.ensures in
    let fated = c.in_ok-fate-2.ensures.fate ∙ fate_told bytes rest c.first_count-count-2.result c.lines.later.now parts.0 parts.1 in
    let one = c.one_if.ensures ∙ ap one_if c.is_beaten-2.ensures in
    omega (arith, one, last_within bytes rest c.lines.log.items c.lines.refused.items c.lines.faulty c.lines.beaten c.in_ok-fate-2.fate only fated c.lines.invariant.sofar)

pub returns-clause-log : goal.returns-clause-log
returns-clause-log c =
    let bytes = c.args.bytes.now in
    let rest = c.lines.rest.now in
    let none = rw c.in_default.is at c.memchr.ensures in
    let only = all_lines-only rest none in
    let f = c.in_ok-fate-2.fate in
    let parts = rest_left bytes rest c.lines.later_counts.now c.lines.later.now c.first_count-count-2.result only c.lines.invariant.left c.first_count-count-2.ensures in
    let fated = c.in_ok-fate-2.ensures.fate ∙ fate_told bytes rest c.first_count-count-2.result c.lines.later.now parts.0 parts.1 in
    c.in_ok-fate-2.ensures.log
    ∙ ap (λ (stay : List Op). c.lines.log.items ++ mended_as f rest stay) (stays_told bytes rest c.lines.later.now parts.1)
    ∙ (mends_rest bytes rest c.lines.log.items c.lines.refused.items c.lines.faulty c.lines.beaten f (no_lines rest none) (only_rest rest none) fated c.lines.invariant.sofar).0

pub returns-clause-refused : goal.returns-clause-refused
returns-clause-refused c =
    let bytes = c.args.bytes.now in
    let rest = c.lines.rest.now in
    let none = rw c.in_default.is at c.memchr.ensures in
    let only = all_lines-only rest none in
    let f = c.in_ok-fate-2.fate in
    let parts = rest_left bytes rest c.lines.later_counts.now c.lines.later.now c.first_count-count-2.result only c.lines.invariant.left c.first_count-count-2.ensures in
    let fated = c.in_ok-fate-2.ensures.fate ∙ fate_told bytes rest c.first_count-count-2.result c.lines.later.now parts.0 parts.1 in
    c.in_ok-fate-2.ensures.refused
    ∙ (mends_rest bytes rest c.lines.log.items c.lines.refused.items c.lines.faulty c.lines.beaten f (no_lines rest none) (only_rest rest none) fated c.lines.invariant.sofar).1

pub returns-clause-left_out : goal.returns-clause-left_out
returns-clause-left_out c =
    let bytes = c.args.bytes.now in
    let rest = c.lines.rest.now in
    let none = rw c.in_default.is at c.memchr.ensures in
    let only = all_lines-only rest none in
    let f = c.in_ok-fate-2.fate in
    let parts = rest_left bytes rest c.lines.later_counts.now c.lines.later.now c.first_count-count-2.result only c.lines.invariant.left c.first_count-count-2.ensures in
    let fated = c.in_ok-fate-2.ensures.fate ∙ fate_told bytes rest c.first_count-count-2.result c.lines.later.now parts.0 parts.1 in
    let numbers = left_out_is bytes rest c.lines.log.items c.lines.refused.items c.lines.faulty c.lines.beaten f (no_lines rest none) (only_rest rest none) fated c.lines.invariant.sofar in
    let one = c.one_if.ensures ∙ ap one_if c.is_beaten-2.ensures in
    let beaten = ap (λ (k : ℕ). c.lines.beaten + k) one ∙ last_beaten bytes rest c.lines.log.items c.lines.refused.items c.lines.faulty c.lines.beaten f only fated c.lines.invariant.sofar in
    let torn = c.is_torn.ensures ∙ numbers.1 in
    λ i. record { faulty = numbers.0 i; beaten = beaten i; torn = torn i; excess = 0 }
