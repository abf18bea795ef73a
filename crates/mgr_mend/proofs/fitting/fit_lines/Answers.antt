use Rattle.std.proofs.Common.{ℕ, ◌+◌, ◌++◌, List, ap, ◌∙◌, arith}
use Rattle.mgr_mend.specs.Fitting.{note_lines, with_excess}
use Rattle.mgr_mend.proofs.LinesLemmas.{FirstPart, first_part, no_lines, only_rest, shorter}
use Rattle.mgr_mend.proofs.FittingLemmas.{fits_step, fits_rest, all_within}
use Rattle.mgr_mend.proofs.fitting.fit_lines.Goals as goal

pub overflow_add-excess : goal.overflow_add-excess
overflow_add-excess c =
    let bytes = c.args.mended.now.log.items in
    let rest = c.lines.rest.now in
    let n = c.in-Some.end in
    let first : FirstPart rest n = first_part rest n c.in-Some.ensures in
    let step = fits_step (note_lines bytes) c.lines.note.content c.fit_line.new.note.content rest c.split_at.result.0.now c.split_at-in-Some.result.1.now c.lines.log.items c.lines.refused.items c.fit_line.new.log.items c.fit_line.new.refused.items c.lines.excess c.one_if.result n c.in_ok-fits.fits first c.split_at.ensures.front c.split_at-in-Some.ensures.back c.in_ok-fits.ensures.fits c.in_ok-fits.ensures.content c.in_ok-fits.ensures.log c.in_ok-fits.ensures.refused c.one_if.ensures c.lines.invariant.sofar in
    omega (arith, step.counted, all_within bytes, c.as_slice-rest.ensures.len)

pub lines-preserved : goal.lines-preserved
lines-preserved c =
    let bytes = c.args.mended.now.log.items in
    let rest = c.lines.rest.now in
    let n = c.in-Some.end in
    let first : FirstPart rest n = first_part rest n c.in-Some.ensures in
    record {
      sofar = fits_step (note_lines bytes) c.lines.note.content c.fit_line.new.note.content rest c.split_at.result.0.now c.split_at-in-Some.result.1.now c.lines.log.items c.lines.refused.items c.fit_line.new.log.items c.fit_line.new.refused.items c.lines.excess c.one_if.result n c.in_ok-fits.fits first c.split_at.ensures.front c.split_at-in-Some.ensures.back c.in_ok-fits.ensures.fits c.in_ok-fits.ensures.content c.in_ok-fits.ensures.log c.in_ok-fits.ensures.refused c.one_if.ensures c.lines.invariant.sofar;
      limit = c.fit_line.ensures.limit ∙ c.lines.invariant.limit;
      within = rw c.split_at-in-Some.ensures.back (omega (arith, shorter rest n first, c.lines.invariant.within));
    }

pub overflow_add-excess-2 : goal.overflow_add-excess-2
overflow_add-excess-2 c =
    let bytes = c.args.mended.now.log.items in
    let rest = c.lines.rest.now in
    let none = rw c.in_default.is at c.memchr.ensures in
    let all = fits_rest (note_lines bytes) c.lines.note.content rest c.lines.log.items c.lines.refused.items c.lines.excess (no_lines rest none) (only_rest rest none) c.lines.invariant.sofar in
    omega (arith, all.2, all_within bytes, c.in_ok-excess.ensures.count, c.as_slice-rest.ensures.len)

pub returns-clause-log : goal.returns-clause-log
returns-clause-log c =
    let rest = c.lines.rest.now in
    let none = rw c.in_default.is at c.memchr.ensures in
    c.in_ok-excess.ensures.log
    ∙ (fits_rest (note_lines c.args.mended.now.log.items) c.lines.note.content rest c.lines.log.items c.lines.refused.items c.lines.excess (no_lines rest none) (only_rest rest none) c.lines.invariant.sofar).0

pub returns-clause-refused : goal.returns-clause-refused
returns-clause-refused c =
    let rest = c.lines.rest.now in
    let none = rw c.in_default.is at c.memchr.ensures in
    let all = fits_rest (note_lines c.args.mended.now.log.items) c.lines.note.content rest c.lines.log.items c.lines.refused.items c.lines.excess (no_lines rest none) (only_rest rest none) c.lines.invariant.sofar in
    c.in_ok-extend_from_slice.ensures.items
    ∙ ap (λ (back : List ℕ). c.fit_rest.new.refused.items ++ back) c.deref.ensures.value
    ∙ ap (λ (front : List ℕ). front ++ c.args.mended.now.refused.items) (c.in_ok-excess.ensures.refused ∙ all.1)

pub returns-clause-left_out : goal.returns-clause-left_out
returns-clause-left_out c =
    let rest = c.lines.rest.now in
    let none = rw c.in_default.is at c.memchr.ensures in
    let all = fits_rest (note_lines c.args.mended.now.log.items) c.lines.note.content rest c.lines.log.items c.lines.refused.items c.lines.excess (no_lines rest none) (only_rest rest none) c.lines.invariant.sofar in
    c.with_excess-left_out.ensures ∙ ap (λ (n : ℕ). with_excess n c.args.mended.now.left_out) (ap (λ (n : ℕ). c.lines.excess + n) c.in_ok-excess.ensures.count ∙ all.2)
