use Rattle.std.proofs.Common.{Ok, Err, refl, sym}
use Rattle.std.proofs.lemmas.Result.{err_from_is_err_and}
use Rattle.rga_lines.proofs.ReadingLemmas.{said_alone}
use Rattle.rga_lines.proofs.reading.read_line.Goals as goal

pub returns-in_err-line-clause-exact : goal.returns-in_err-line-clause-exact
returns-in_err-line-clause-exact c =
    let p = err_from_is_err_and c.from_residual.result c.from_residual.ensures.1 in
    let e = c.in_err-line.field-0.0 in
    rw (p.1, p.2) (said_alone c.args.bytes.now (Err e) (Err e) c.in_err-line.ensures.exact refl)

pub returns-clause-exact : goal.returns-clause-exact
returns-clause-exact c = said_alone c.args.bytes.now (Ok c.in_ok-line.line) c.alone.result c.in_ok-line.ensures.exact (sym c.alone.ensures)
